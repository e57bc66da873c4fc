-- A list of feeds to a box without bars, against the same list to the plain history: the verdicts, the box and the joined rows;
-- and one feed of a whole history to a box without bars. Assumes nothing.
use Rattle.std.specs.Prelude.{Err, Ok}
use Rattle.answers.specs.Refusal.{Verdict}
use Prim.Native.Nat.{ℕ, ◌*◌, ◌≤◌}
use mathlib.Core.Path.{◌≡◌, refl, ap, sym, ◌∙◌}
use mathlib.Core.Logic.{◌⊎◌, inl, inr}
use mathlib.Core.Bool.{true}
use mathlib.Core.List.{List, [], ◌∷◌, ◌++◌, flatten, append-nil}
use native.Mathlib.Omega.{arith}
use native.Mathlib.Nat.{zero-add}
use lib.ListN.{length, length-append}
use Rattle.measures.specs.Bar.{Bar, bars_of, prices_of}
use Rattle.measures.proofs.RunLaws.{length-bars}
use Rattle.recognisers.specs.Threshold.{Thresholds, valid_of}
use Rattle.recognisers.specs.Number.{row_bytes, most_bars}
use Rattle.box_record.specs.declared.boxes.BarBox.{BarBox}
use Rattle.bar_box.specs.Sheet.{rows_of}
use Rattle.bar_box.specs.Box.{taken_in}
use Rattle.recognisers.specs.Refusal.{leaves}
use Rattle.bar_box.specs.History.{Feed, verdict_on, appended, history_after, verdicts_on, fed, box_left, box_after, verdicts_of, rows_in, joined_rows, one_feed, NoBars}
use Rattle.bar_box.proofs.SheetLaws.{rows_append}
use Rattle.bar_box.proofs.BoxLaws.{taken_none}
use Rattle.bar_box.proofs.CallLists.{kept, built, after-follows, each-follows}
use Rattle.measures.proofs.PriceLaws.{length-prices, bars-prices}
use Rattle.bar_box.proofs.FeedSteps.{fits, accepts, verdict-step, box-step, rows_step}

-- ---- what the refusals see to

-- a history has no more than 1,000,000 bars, and if it has one, the thresholds are inside their limits
pub record Sound (t : Thresholds) (h : List Bar) : Type 0 where
  pub few : length h ≤ most_bars
  pub valid : 1 ≤ length h → valid_of t ≡ true

-- the empty one
pub sound_empty : (t : Thresholds) → Sound t []
sound_empty t = record { few = omega arith; valid = λ some. absurd (let z : ⊥ = omega arith in z) }

-- after one feed, by its verdict
sound-by : (t : Thresholds) (h : List Bar) (f : Feed) (v : Verdict) → verdict_on t h f ≡ v → Sound t h → Sound t (leaves v h (h ++ bars_of f.prices))
sound-by t h f (Ok tt) e s =
    let met = fits t (length h) (length f.prices) (length f.sheet) e in
    record { few = rw (length-append, length-bars) met.few; valid = λ some. met.valid }
sound-by t h f (Err r) e s = s

-- after a list of feeds
pub sound-after : (t : Thresholds) (h : List Bar) (fs : List Feed) → Sound t h → Sound t (history_after t h fs)
sound-after t h fs s = kept (appended t) (Sound t) (λ h f. sound-by t h f (verdict_on t h f) refl) h fs s

-- ---- every list of feeds

-- the rows of a history, and then those that a feed gives, by its verdict, are the rows of the history after the feed
rows-by : (t : Thresholds) (v : Verdict) (h bars : List Bar) → rows_of t 0 [] h ++ leaves v [] (rows_of t (length h) h bars) ≡ rows_of t 0 [] (leaves v h (h ++ bars))
rows-by t (Ok tt) h bars = sym (rows_append t 0 [] h bars ∙ rw zero-add)
rows-by t (Err r) h bars = append-nil (rows_of t 0 [] h)

module _ (b : BarBox) (start : NoBars b) where
  abbrev t : Thresholds
  t = b.thresholds

  -- the box follows the history if it is the one that the history leaves
  abbrev pub Follows : BarBox → List Bar → Type 0
  Follows x h = x ≡ taken_in b h

  pub box_follows : (x : BarBox) (h : List Bar) (f : Feed) → Follows x h → Follows (box_left x f) (appended t h f)
  box_follows x h f e = rw e (box-step b start h f)

  -- as the box without bars follows the empty one
  pub at-start : Follows b []
  at-start = sym (taken_none b start.all-places)

  -- each feed is refused as the history says
  pub verdicts-after : (fs : List Feed) → verdicts_of b fs ≡ verdicts_on t [] fs
  verdicts-after fs = each-follows box_left (appended t) Follows box_follows (λ x f. (fed x f).verdict) (verdict_on t) (λ x h f e. rw e (verdict-step b start h f)) b [] fs at-start

  -- the box is the one that the joined history leaves
  pub box-after : (fs : List Feed) → box_after b fs ≡ taken_in b (history_after t [] fs)
  box-after fs = after-follows box_left (appended t) Follows box_follows b [] fs at-start

  -- the joined rows are those of the joined history
  abbrev rows_on : List Bar → Feed → List ℕ
  rows_on h f = leaves (verdict_on t h f) [] (rows_of t (length h) h (bars_of f.prices))

  pub rows-after : (fs : List Feed) → joined_rows b fs ≡ rows_of t 0 [] (history_after t [] fs)
  unfolding rows_of
  rows-after fs =
      ap flatten (each-follows box_left (appended t) Follows box_follows rows_in rows_on (λ x h f e. rw e (rows_step b start h f)) b [] fs at-start)
      ∙ built (appended t) (rows_of t 0 []) rows_on (λ h f. rows-by t (verdict_on t h f) h (bars_of f.prices)) [] fs

-- ---- one feed of a whole history

-- what holds if there is a bar holds, or there is none
bar-or-none : {P : Type 0} (h : List Bar) → (1 ≤ length h → P) → P ⊎ (h ≡ [])
bar-or-none [] p = inr refl
bar-or-none (x ∷ h) p = inl (p (omega arith))

-- the whole history is there after it, whatever one reads of it, if it is accepted or has no bar
all_there : {A : Type 0} (F : List Bar → A) (v : Verdict) (h : List Bar) → (v ≡ Ok tt) ⊎ (h ≡ []) → leaves v (F []) (F h) ≡ F h
all_there F v h (inl e) = rw e
all_there F (Ok tt) h (inr e) = refl
all_there F (Err r) h (inr e) = rw e

module _ (b : BarBox) (start : NoBars b) (h : List Bar) (sheet : List ℕ) (s : Sound b.thresholds h) (room : row_bytes * length h ≤ length sheet) where
  abbrev one : Feed
  one = one_feed h sheet

  abbrev verdict : Verdict
  verdict = verdict_on b.thresholds [] one

  -- on a sheet that is long enough it is accepted, if the thresholds are inside their limits
  one-verdict : valid_of b.thresholds ≡ true → verdict ≡ Ok tt
  one-verdict valid =
      let four = length-prices h in
      let few = s.few in
      accepts b.thresholds 0 (length (prices_of h)) (length sheet) (record { valid = valid; whole = omega arith; few = omega arith; room = omega arith })

  pub one-accepted : valid_of b.thresholds ≡ true → (fed b one).verdict ≡ Ok tt
  one-accepted valid = ap (λ x. (fed x one).verdict) (at-start b start) ∙ verdict-step b start [] one ∙ one-verdict valid

  -- where they are not, the history has no bar
  accepted-or-none : (verdict ≡ Ok tt) ⊎ (h ≡ [])
  accepted-or-none = bar-or-none h (λ some. one-verdict (s.valid some))

  -- it leaves the box that the history leaves
  pub one-box : (fed b one).after ≡ taken_in b h
  one-box =
      ap (λ x. (fed x one).after) (at-start b start)
      ∙ box-step b start [] one
      ∙ rw (bars-prices h) (ap (taken_in b) (all_there (λ x. x) verdict h accepted-or-none))

  -- it gives the rows of the history
  pub one-rows : rows_in b one ≡ rows_of b.thresholds 0 [] h
  unfolding rows_of
  one-rows =
      ap (λ x. rows_in x one) (at-start b start)
      ∙ rows_step b start [] one
      ∙ rw (bars-prices h) (all_there (rows_of b.thresholds 0 []) verdict h accepted-or-none)
