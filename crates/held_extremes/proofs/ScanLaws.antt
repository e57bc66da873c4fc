-- The scan from the newest bar back: candidates that stand before twenty zeros, one comparison a price. Once for both orders. Assumes nothing.
use Prim.Native.Nat.{ℕ, suc, ◌+◌, ◌-◌, ◌<◌, ◌≤◌}
use mathlib.Core.Path.{◌≡◌, refl, sym, ap, subst, ◌∙◌}
use mathlib.Core.Bool.{Bool, true, false, cond, not, ◌&&◌}
use mathlib.Core.List.{List, [], ◌∷◌, ◌++◌, map}
use native.Mathlib.Omega.{arith}
use lib.ListN.{length, get_or, take, drop, replicate, length-map, drop_of_length-le, get_or-map}
use lib.Seq.{drop-cons}
use lib.Ieee.{Float, is_nan}
use Rattle.measures.specs.Bar.{Bar, no_bar}
use Rattle.measures.specs.declared.folds.Column.{Column}
use Rattle.measures.specs.Fold.{every_of, price_of, column_of}
use Rattle.measures.proofs.Order.{is-nan, both_ways}
use Rattle.rule_types.specs.Number.{quarter_bars}
use Rattle.held_extremes.specs.Candidate.{candidates, placed}
use Rattle.held_extremes.proofs.CandidateLaws.{Way, SideLaws, Tells, tells-new, tells-old, length-candidates}
use Rattle.held_extremes.proofs.HeldLaws.{length-column}
use Rattle.held_extremes.proofs.PartLaws.{placed-part}

-- ---- the scan

-- what the scan has of prices that follow n others: a value that tells of them, and their candidates before twenty zeros
pub record Scanned (beyond : Float → Float → Bool) (c : List ℕ) (at : ℕ) (top : Float) (n : ℕ) (xs : List Float) : Type 0 where
  pub known : is_nan top ≡ false
  pub told : Tells beyond top xs
  pub stand : drop at c ≡ candidates beyond n xs ++ replicate quarter_bars 0

module _ (beyond : Float → Float → Bool) (o : Way beyond) where
  top-known : (x top : Float) → is_nan top ≡ false → is_nan (cond (beyond top x) x top) ≡ false
  top-known x top known = go (beyond top x) refl (is_nan x) refl
    where
      go : (t : Bool) → beyond top x ≡ t → (u : Bool) → is_nan x ≡ u → is_nan (cond t x top) ≡ false
      go true e true f = both_ways e (rw (is-nan x f) (o.nan_right top))
      go true e false f = f
      go false e u f = known

  top-told : (x top : Float) (xs : List Float) → is_nan top ≡ false → Tells beyond top xs → Tells beyond (cond (beyond top x) x top) (x ∷ xs)
  top-told x top xs known told = go (beyond top x) refl (is_nan x) refl
    where
      go : (t : Bool) → beyond top x ≡ t → (u : Bool) → is_nan x ≡ u → Tells beyond (cond t x top) (x ∷ xs)
      go true e true f = both_ways e (rw (is-nan x f) (o.nan_right top))
      go true e false f = tells-new beyond o x top xs f (o.asym top x e) told
      go false e u f = tells-old beyond o x top xs known e told

  -- an older price
  pub scan-next : (c d : List ℕ) (at to : ℕ) (top next x : Float) (n m : ℕ) (xs : List Float) (reaches : Bool)
      → Scanned beyond c at top m xs
      → m ≡ n + 1
      → reaches ≡ (not (is_nan x) && not (beyond x top))
      → next ≡ cond (beyond top x) x top
      → drop to d ≡ cond reaches (m ∷ drop at c) (drop at c)
      → Scanned beyond d to next n (x ∷ xs)
  unfolding candidates
  scan-next c d at to top next x n m xs reaches was one is new stand =
      record {
        known = rw new (top-known x top was.known);
        told = subst (λ (z : Float). Tells beyond z (x ∷ xs)) (sym new) (top-told x top xs was.known was.told);
        stand = stand ∙ rw (was.stand, is, was.told x, one) (go (not (is_nan x) && not (beyond x top)));
      }
    where
      go : (t : Bool)
          → cond t ((n + 1) ∷ candidates beyond (n + 1) xs ++ replicate quarter_bars 0) (candidates beyond (n + 1) xs ++ replicate quarter_bars 0)
          ≡ cond t ((n + 1) ∷ candidates beyond (n + 1) xs) (candidates beyond (n + 1) xs) ++ replicate quarter_bars 0
      go true = refl
      go false = refl

-- a column from its i-th price on, one more
pub column-from : (c : Column) (bars : List Bar) (i : ℕ) → 1 ≤ i → i ≤ length bars
    → drop (i - 1) (column_of c bars) ≡ price_of c (get_or bars (i - 1) no_bar) ∷ drop i (column_of c bars)
unfolding column_of
column-from c bars i one within =
    let e : suc (i - 1) ≡ i = omega arith in
    let there : i - 1 < length (map (price_of c) bars) = rw length-map (omega arith) in
    drop-cons (map (price_of c) bars) (i - 1) (price_of c no_bar) there ∙ rw (e, get_or-map (price_of c) bars (i - 1) no_bar)

-- before the newest bar nothing is scanned
no-price : (c : Column) (bars : List Bar) (i : ℕ) → i ≡ length bars → drop i (column_of c bars) ≡ []
unfolding column_of
no-price c bars i e = let past : length (map (price_of c) bars) ≤ i = rw length-map (omega arith) in drop_of_length-le (map (price_of c) bars) past

pub scan-starts : (beyond : Float → Float → Bool) (start : Float) → SideLaws beyond start → (c : Column) (s : List ℕ) (at n i : ℕ) (bars : List Bar) → i ≡ length bars → drop at s ≡ replicate quarter_bars 0
    → Scanned beyond s at start n (drop i (column_of c bars))
unfolding candidates every_of
scan-starts beyond start x c s at n i bars l z =
    rw (no-price c bars i l) (record { known = x.known; told = λ y. sym (ap not (x.none y)); stand = z })

-- where the candidates begin
pub stays_within : (is : Bool) (r at i len : ℕ) → r ≡ cond is (at - 1) at → at ≤ quarter_bars → quarter_bars + i ≤ at + len → 1 ≤ i → i ≤ len → (r ≤ quarter_bars) × (quarter_bars + (i - 1) ≤ r + len)
stays_within true r at i len e h g one within = (omega arith, omega arith)
stays_within false r at i len e h g one within = (omega arith, omega arith)

-- twenty places from where the candidates begin
pub scanned-places : (beyond : Float → Float → Bool) (c : Column) (n : ℕ) (w : List Bar) (s : List ℕ) (at : ℕ) → length w ≤ quarter_bars
    → drop at s ≡ candidates beyond n (column_of c w) ++ replicate quarter_bars 0
    → take quarter_bars (drop at s) ≡ placed (candidates beyond n (column_of c w))
scanned-places beyond c n w s at small stand =
    rw stand (placed-part (candidates beyond n (column_of c w)) (omega (arith, length-candidates beyond n (column_of c w), length-column c w)))
