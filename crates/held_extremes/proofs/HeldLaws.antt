-- What is held: the first candidate's price is the fold, or the infinity without candidates; it reaches back 20 bars. Once for both columns.
-- Assumes nothing.
use Prim.Native.Nat.{ℕ, zero, suc, ◌+◌, ◌-◌, ◌<◌, ◌≤◌, min}
use mathlib.Core.Path.{◌≡◌, refl, sym, ap, ◌∙◌}
use mathlib.Core.Bool.{Bool, true, false}
use mathlib.Core.List.{List, [], ◌∷◌, ◌++◌, map}
use native.Mathlib.Omega.{arith}
use borrow.Author.Tests.{ne_eqb}
use lib.ListN.{length, get_or, drop, replicate, length-map, length-drop, get_or-map}
use lib.Seq.{get_or-drop, take-length}
use lib.Ieee.{Float, nan, inf}
use Rattle.measures.specs.Bar.{Bar, no_bar}
use Rattle.measures.specs.declared.folds.Column.{Column}
use Rattle.measures.specs.declared.folds.Column.TheVariants.{Open, Close, High, Low}
use Rattle.measures.specs.Fold.{price_of, column_of, extremes_of}
use Rattle.measures.specs.Window.{newest, window_of}
use Rattle.measures.proofs.WindowLaws.{up_to-one, newest-again}
use Rattle.rule_types.specs.Number.{quarter_bars}
use Rattle.held_extremes.specs.Candidate.{greater, smaller, candidates, placed, held_by, held_of, extremes_in}
use Rattle.held_extremes.specs.CandidateSteps.{bar_with, price_with, held_from}
use Rattle.held_extremes.proofs.CandidateLaws.{first_price, Among, among, first-is-highest, first-is-lowest}

-- ---- the newest bars

pub length-newest : (m : ℕ) (bars : List Bar) → length (newest m bars) ≡ min m (length bars)
unfolding newest
length-newest m bars = simp length-drop (omega arith)

pub newest-few : (m : ℕ) (bars : List Bar) → length bars ≤ m → newest m bars ≡ bars
unfolding newest
newest-few m bars few = let none : length bars - m ≡ 0 = omega arith in rw none

pub window-newest : (bars : List Bar) (n : ℕ) → window_of bars 1 n ≡ newest n bars
unfolding window_of
window-newest bars n = rw (up_to-one (length bars), take-length bars)

pub window-few : (bars w : List Bar) → w ≡ window_of bars 1 quarter_bars → length w ≤ quarter_bars
window-few bars w is = rw (is, window-newest bars quarter_bars) (omega (arith, length-newest quarter_bars bars))

-- what is held reaches back 20 bars
pub held-near : (n m : ℕ) (bars : List Bar) → quarter_bars ≤ m → held_of n (newest m bars) ≡ held_of n bars
unfolding held_of
held-near n m bars h = ap (held_by n) (newest-again quarter_bars m bars h)

-- its values are 01's extremes of them
pub held-extremes : (n : ℕ) (bars : List Bar) → extremes_in (held_of n bars) ≡ extremes_of (newest quarter_bars bars)
unfolding held_of extremes_of
held-extremes n bars = refl

-- ---- a column and the price of a bar with an ordinal

pub length-column : (c : Column) (w : List Bar) → length (column_of c w) ≡ length w
unfolding column_of
length-column c w = length-map w (price_of c)

no-price : (c : Column) → price_of c no_bar ≡ nan
no-price Open = refl
no-price Close = refl
no-price High = refl
no-price Low = refl

pub column-price : (c : Column) (w : List Bar) (i : ℕ) → price_of c (get_or w i no_bar) ≡ get_or (column_of c w) i nan
unfolding column_of
column-price c w i = sym (get_or-map (price_of c) w i no_bar) ∙ ap (λ (d : Float). get_or (map (price_of c) w) i d) (no-price c)

-- a bar of the newest ones has the same ordinal among all
pub bar-near : (n m : ℕ) (bars : List Bar) (o : ℕ) → length bars ≤ n → n - length (newest m bars) < o
    → bar_with (n - length bars) bars o ≡ bar_with (n - length (newest m bars)) (newest m bars) o
unfolding newest
bar-near n m bars o few after =
    let d = length bars - m in
    let size : length (drop d bars) ≡ length bars - d = length-drop d bars in
    let e : d + (o - (n - length (drop d bars) + 1)) ≡ o - (n - length bars + 1) = omega arith in
    sym (get_or-drop d bars (o - (n - length (drop d bars) + 1)) no_bar ∙ ap (λ (i : ℕ). get_or bars i no_bar) e)

-- ---- the first place

first-place : (os : List ℕ) (k : ℕ) → get_or (os ++ replicate k 0) 0 0 ≡ get_or os 0 0
first-place [] zero = refl
first-place [] (suc k) = refl
first-place (o ∷ os) k = refl

-- the price of the first candidate's bar, among all bars as among the newest
module _ (c : Column) (none : Float) (n m : ℕ) (bars : List Bar) where
  first_read : (last : ℕ) (os : List ℕ) → Among (n - length bars) last os → price_with c none (n - length bars) bars (get_or os 0 0) ≡ first_price none (n - length bars) (column_of c bars) os
  first_read last [] h = refl
  first_read last (o ∷ os) h = rw (ne_eqb o 0 (λ z. omega (arith, h.0))) (column-price c bars (o - (n - length bars + 1)))

  first-near : length bars ≤ n → (last : ℕ) (os : List ℕ) → Among (n - length (newest m bars)) last os
      → price_with c none (n - length bars) bars (get_or os 0 0) ≡ price_with c none (n - length (newest m bars)) (newest m bars) (get_or os 0 0)
  first-near few last [] h = refl
  first-near few last (o ∷ os) h = rw (bar-near n m bars o few h.0)

module _ (c : Column) (none : Float) (beyond : Float → Float → Bool) (n : ℕ) (w : List Bar) where
  abbrev os : List ℕ
  os = candidates beyond (n - length w) (column_of c w)

  os-among : Among (n - length w) (n - length w + length (column_of c w)) os
  os-among = among beyond (n - length w) (n - length w + length (column_of c w)) (column_of c w) (omega arith)

  placed-price : price_with c none (n - length w) w (get_or (placed os) 0 0) ≡ first_price none (n - length w) (column_of c w) os
  placed-price = rw (first-place os (quarter_bars - length os)) (first_read c none n 0 w (n - length w + length (column_of c w)) os os-among)

  placed-near : (bars : List Bar) → length bars ≤ n → newest quarter_bars bars ≡ w → price_with c none (n - length bars) bars (get_or (placed os) 0 0) ≡ price_with c none (n - length w) w (get_or (placed os) 0 0)
  placed-near bars few is = rw (first-place os (quarter_bars - length os)) (rw is at (first-near c none n quarter_bars bars few (n - length w + length (column_of c w)) os (rw is os-among)))

-- so the first place gives the value: the price of its bar, or the infinity if it is empty
pub window-first : (n : ℕ) (w : List Bar) → held_from (n - length w) w (held_by n w).highs (held_by n w).lows ≡ held_by n w
window-first n w =
    λ i. record {
      highest = (placed-price High (inf true) greater n w ∙ first-is-highest (n - length w) (column_of High w)) i;
      lowest = (placed-price Low (inf false) smaller n w ∙ first-is-lowest (n - length w) (column_of Low w)) i;
      highs = (held_by n w).highs;
      lows = (held_by n w).lows;
    }

pub held_first : (n : ℕ) (bars : List Bar) → length bars ≤ n → held_from (n - length bars) bars (held_of n bars).highs (held_of n bars).lows ≡ held_of n bars
unfolding held_of
held_first n bars few =
    let w = newest quarter_bars bars in
    let near : held_from (n - length bars) bars (held_by n w).highs (held_by n w).lows ≡ held_from (n - length w) w (held_by n w).highs (held_by n w).lows = λ i. record {
      highest = placed-near High (inf true) greater n w bars few refl i;
      lowest = placed-near Low (inf false) smaller n w bars few refl i;
      highs = (held_by n w).highs;
      lows = (held_by n w).lows;
    } in
    near ∙ window-first n w
