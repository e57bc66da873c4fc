-- A look at the box that a history left: it gives the pair over the whole history, which for every recogniser but 12 is the pair over the
-- history up to the judged bar. Assumes nothing.
use Rattle.std.specs.Prelude.{Ok}
use Prim.Native.Nat.{ℕ, ◌≤◌}
use mathlib.Core.Path.{◌≡◌}
use mathlib.Core.Bool.{true}
use mathlib.Core.List.{List}
use native.Mathlib.Omega.{arith}
use borrow.Author.Tests.{ne_eqb, lt-leb, le-ltb}
use lib.ListN.{length, take}
use lib.Seq.{take-length}
use Rattle.measures.specs.Bar.{Bar}
use Rattle.measures.specs.Window.{up_to, window_of}
use Rattle.measures.proofs.WindowLaws.{up_to-one}
use Rattle.recognisers.specs.Threshold.{Thresholds, valid_of}
use Rattle.recognisers.specs.Number.{recognisers, gated, reach_bars, most_bars, farthest_look}
use Rattle.recognisers.specs.Table.{pair_at}
use Rattle.recognisers.specs.Refusal.{first_true, look_verdict}
use Rattle.recognisers.proofs.Reach as reach
use Rattle.recognisers.proofs.TableLaws.{judge-gateless}
use Rattle.box_record.specs.declared.boxes.BarBox.{BarBox}
use Rattle.bar_box.specs.Box.{taken_in, look_of, look_answer_of}
use Rattle.bar_box.specs.History.{InLimits, NoBars}
use Rattle.bar_box.proofs.FeedSteps.{count-after, kept-after}

-- a look of which none of refusals 1, 2, 3, 5 and 7 is true
look-accepted : (k di : ℕ) (t : Thresholds) (n : ℕ) → valid_of t ≡ true → n ≤ most_bars → InLimits di k → look_verdict k di t n ≡ Ok tt
unfolding look_verdict first_true
look-accepted k di t n valid few (one, near, known) =
    simp (lt-leb recognisers k known, ne_eqb di 0 (λ e. omega arith), valid, le-ltb most_bars n few, le-ltb farthest_look di near)

-- within its limits it gives the pair over the whole history, of 12 too, and the number of bars up to the judged one as its ordinal
pub look-ordinal : (b : BarBox) → NoBars b → (h : List Bar) (k di : ℕ) → valid_of b.thresholds ≡ true → length h ≤ most_bars → InLimits di k
    → look_answer_of (taken_in b h) k di ≡ Ok (record { pair = (pair_at k b.thresholds (length h) h di); ordinal = (up_to (length h) di) })
unfolding look_answer_of look_of
look-ordinal b start h k di valid few limits =
    let t = b.thresholds in
    rw (kept-after b start h, count-after b start h, look-accepted k di t (length h) valid few limits, reach.kept k t (length h) h di limits.1)

-- the p bars up to the judged one are a history in which it is the newest
module _ (h : List Bar) (di p : ℕ) (here : up_to (length h) di ≡ p) where
  -- they have the same windows
  window-up-to : (n : ℕ) → window_of h di n ≡ window_of (take p h) 1 n
  unfolding window_of
  window-up-to n = rw (here, up_to-one, take-length)

  -- and the same pair, for a recogniser that does not read len
  pub pair-up-to : (k : ℕ) (t : Thresholds) → (k ≡ gated → ⊥) → pair_at k t (length h) h di ≡ pair_at k t p (take p h) 1
  pair-up-to k t other = rw (reach.pair-near k t (length h) h di, reach.pair-near k t p (take p h) 1, window-up-to reach_bars, here, up_to-one) (judge-gateless k t _ _ _ _ _ _ other)
