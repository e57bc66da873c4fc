-- What the two sides keep: the laws of what is beyond, and of what stands for none.
use Rattle.std.specs.Prelude.{◌≡◌, refl, Bool, true, false, Float}
use mathlib.Core.Bool.{and-false}
use lib.Ieee.{nan, inf, fin, lt, is_nan}
use Rattle.measures.proofs.Order.{lt-nan, lt-asym, lt-split, both_ways}
use Rattle.held_extremes.specs.Candidate.{greater, smaller}

pub record Way (beyond : Float → Float → Bool) : Type 0 where
  pub asym : (x y : Float) → beyond x y ≡ true → beyond y x ≡ false
  pub split : (x y z : Float) → is_nan y ≡ false → beyond x z ≡ true → beyond x y ≡ false → beyond y z ≡ true
  pub nan_right : (x : Float) → beyond x nan ≡ false

pub record SideLaws (beyond : Float → Float → Bool) (start : Float) : Type 0 where
  pub way : Way beyond
  pub known : is_nan start ≡ false
  pub none : (x : Float) → beyond x start ≡ false

back-split : (x y z : Float) → is_nan y ≡ false → lt z x ≡ true → lt y x ≡ false → lt z y ≡ true
back-split x y z k h g = go (lt z y) refl
  where
    go : (t : Bool) → lt z y ≡ t → t ≡ true
    go true e = refl
    go false e = both_ways (lt-split z y x k h e) g

none_above : (x : Float) → lt x (inf true) ≡ false
unfolding lt
none_above nan = refl
none_above (inf s) = and-false s
none_above (fin s m e) = refl

none_below : (x : Float) → lt (inf false) x ≡ false
unfolding lt
none_below nan = refl
none_below (inf s) = refl
none_below (fin s m e) = refl

pub rising : SideLaws greater (inf true)
unfolding is_nan
rising = record { way = record { asym = lt-asym; split = lt-split; nan_right = lt-nan }; known = refl; none = none_above }

pub falling : SideLaws smaller (inf false)
unfolding lt is_nan
falling =
    record { way = record { asym = λ x y h. lt-asym y x h; split = back-split; nan_right = λ x. refl }; known = refl; none = none_below }
