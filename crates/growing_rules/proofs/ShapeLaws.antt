-- What is left of each shape's rule once the ends and the middle's extremes are tested: of 4 the closes, of 17 the bodies and the variance; and
-- that only one side is left where the newest bar rises or does not. Assumes nothing.
use mathlib.Core.Path.{◌≡◌, refl, sym, ◌∙◌}
use mathlib.Core.Bool.{Bool, true, false, cond, ◌&&◌, ◌||◌, true≢false, and-false, and-true, and_assoc, or-false}
use mathlib.Core.List.{List, [], ◌∷◌}
use lib.Ieee.{Float, lt, is_nan, div, of_int, of_bits}
use Rattle.measures.specs.Bar.{Bar}
use Rattle.measures.specs.declared.folds.Column.{Column, TheVariants.Close, TheVariants.High, TheVariants.Low}
use Rattle.measures.specs.Price.{max_of, min_of}
use Rattle.measures.specs.Fold.{column_of, highest_of, lowest_of, sum_of, size_of, variance_of, every_of, extremes_of}
use Rattle.measures.proofs.Order.{lt-asym, known-left, known-right, max-both, min-both}
use Rattle.measures.proofs.FoldLaws.{every-above, every-below}
use Rattle.rule_types.specs.declared.label.Label.{Label}
use Rattle.rule_types.specs.declared.label.Label.TheVariants.{Other, RisingThreeMethods, FallingThreeMethods, Bottom, Top}
use Rattle.rule_types.specs.Number.{a_half}
use Rattle.middles.specs.declared.Middle.{Middle}
use Rattle.growing_rules.specs.GrowingRule.{first_of, last_of, inner_of, rises_of, falls_of, three_methods, ends_lead, top_of, bottom_of, tower}
use Rattle.middles.specs.MiddleSteps.{middle_of}
use Rattle.growing_rules.specs.SearchSteps.{may_rise, may_fall, may_be_top, may_be_bottom, may_be_methods, may_be_tower, beyond}

pub neither : (a b : Bool) → (a || b) ≡ false → (a ≡ false) × (b ≡ false)
neither false b h = (refl, h)
neither true b h = absurd (true≢false h)

-- ---- the newest bar's side

module _ (first last : Bar) (m : Middle) where
  abbrev rising : Bool
  rising = lt last.«open» last.close

  not-falling : rising ≡ true → lt last.close last.«open» ≡ false
  not-falling = lt-asym last.«open» last.close

  pub no-fall-up : rising ≡ true → may_fall first last m ≡ false
  unfolding may_fall
  no-fall-up up = simp (not-falling up)

  pub no-top-up : rising ≡ true → may_be_top first last m ≡ false
  unfolding may_be_top
  no-top-up up = simp (not-falling up, and-false)

  pub no-rise-down : rising ≡ false → may_rise first last m ≡ false
  unfolding may_rise
  no-rise-down down = simp down

  pub no-bottom-down : rising ≡ false → may_be_bottom first last m ≡ false
  unfolding may_be_bottom
  no-bottom-down down = simp (down, and-false)

-- ---- 17: the bodies and the variance are left

-- of no bar the variance is NaN
no-variance : (c : Column) → lt (variance_of (column_of c [])) a_half ≡ false
unfolding variance_of column_of sum_of size_of lt div of_int of_bits
no-variance c = refl

-- so what two tests of a middle's bars say alike where there is one, they say alike beside its variance
beside-variance : (c : Column) (P Q : List Bar → Bool) → ((x : Bar) (mid : List Bar) → P (x ∷ mid) ≡ Q (x ∷ mid))
    → (mid : List Bar) → (lt (variance_of (column_of c mid)) a_half && P mid) ≡ (lt (variance_of (column_of c mid)) a_half && Q mid)
beside-variance c P Q same [] = simp (no-variance c)
beside-variance c P Q same (x ∷ mid) = rw (same x mid)

-- every low above the larger of two known bounds: no low is NaN, and the lowest is above both; and the mirror of it
module _ (a b : Float) (ka : is_nan a ≡ false) (kb : is_nan b ≡ false) where
  lows-above : (x : Bar) (mid : List Bar)
      → every_of (λ y. lt (max_of a b) y) (column_of Low (x ∷ mid)) ≡ ((middle_of (x ∷ mid)).lows && (lt a (middle_of (x ∷ mid)).lowest && lt b (middle_of (x ∷ mid)).lowest))
  unfolding middle_of extremes_of column_of
  lows-above x mid = every-above (max_of a b) x.low (column_of Low mid) ∙ rw (max-both a b (lowest_of (column_of Low (x ∷ mid))) ka kb)

  highs-below : (x : Bar) (mid : List Bar)
      → every_of (λ y. lt y (min_of a b)) (column_of High (x ∷ mid)) ≡ ((middle_of (x ∷ mid)).highs && (lt (middle_of (x ∷ mid)).highest a && lt (middle_of (x ∷ mid)).highest b))
  unfolding middle_of extremes_of column_of
  highs-below x mid = every-below (min_of a b) x.high (column_of High mid) ∙ rw (min-both a b (highest_of (column_of High (x ∷ mid))) ka kb)

-- the ends' test, in the order in which the code asks: the ends and the extremes, the bodies, the variance
reordered : (lead v k p q : Bool) → (lead && (v && (k && (p && q)))) ≡ (k && p && q && (lead && v))
reordered false v k p q = sym (and-false (k && p && q))
reordered true false k p q = sym (and-false (k && p && q))
reordered true true k p q = sym (and_assoc k p q) ∙ sym (and-true (k && p && q))

in_order : (lead a b v every k p q : Bool) → (a ≡ true → b ≡ true → (v && every) ≡ (v && (k && (p && q))))
    → (lead && (a && b && v && every)) ≡ (a && b && k && p && q && (lead && v))
in_order lead false b v every k p q same = and-false lead
in_order lead true false v every k p q same = and-false lead
in_order lead true true v every k p q same = rw (same refl refl) (reordered lead v k p q)

-- ---- each rule by what is tested first and what is left

module _ (s : List Bar) where
  abbrev f : Bar
  f = first_of s

  abbrev l : Bar
  l = last_of s

  abbrev mid : List Bar
  mid = inner_of s

  rises_by : rises_of s ≡ (may_rise f l (middle_of mid) && lt (highest_of (column_of Close mid)) f.close)
  unfolding rises_of may_rise middle_of extremes_of
  rises_by = simp and_assoc

  falls-by : falls_of s ≡ (may_fall f l (middle_of mid) && lt f.close (lowest_of (column_of Close mid)))
  unfolding falls_of may_fall middle_of extremes_of
  falls-by = simp and_assoc

  top-by : top_of s ≡ (may_be_top f l (middle_of mid) && (ends_lead s && lt (variance_of (column_of High mid)) a_half))
  unfolding top_of may_be_top
  top-by =
      in_order (ends_lead s) _ _ (lt (variance_of (column_of High mid)) a_half) (every_of (λ x. lt (max_of f.«open» l.close) x) (column_of Low mid)) _ _ _
      (λ up down. beside-variance High (λ s. every_of (λ x. lt (max_of f.«open» l.close) x) (column_of Low s)) (λ s. (middle_of s).lows && (lt f.«open» (middle_of s).lowest && lt l.close (middle_of s).lowest))
      (lows-above f.«open» l.close (known-left f.«open» f.close up) (known-left l.close l.«open» down)) mid)

  bottom-by : bottom_of s ≡ (may_be_bottom f l (middle_of mid) && (ends_lead s && lt (variance_of (column_of Low mid)) a_half))
  unfolding bottom_of may_be_bottom
  bottom-by =
      in_order (ends_lead s) _ _ (lt (variance_of (column_of Low mid)) a_half) (every_of (λ x. lt x (min_of f.«open» l.close)) (column_of High mid)) _ _ _
      (λ down up. beside-variance Low (λ s. every_of (λ x. lt x (min_of f.«open» l.close)) (column_of High s)) (λ s. (middle_of s).highs && (lt (middle_of s).highest f.«open» && lt (middle_of s).highest l.close))
      (highs-below f.«open» l.close (known-right f.close f.«open» down) (known-right l.«open» l.close up)) mid)

  -- where the test fails, the window has no label
  no-methods-label : may_be_methods f l (middle_of mid) ≡ false → three_methods s ≡ Other
  unfolding three_methods
  no-methods-label unfit =
      let e = neither (may_rise f l (middle_of mid)) (may_fall f l (middle_of mid)) unfit in
      simp (rises_by, falls-by, e.0, e.1)

  no-tower-label : may_be_tower f l (middle_of mid) ≡ false → tower s ≡ Other
  unfolding tower
  no-tower-label unfit =
      let e = neither (may_be_top f l (middle_of mid)) (may_be_bottom f l (middle_of mid)) unfit in
      simp (top-by, bottom-by, e.0, e.1)

  -- nor does one whose ends do not lead
  pub no-tower : ends_lead s ≡ false → tower s ≡ Other
  unfolding tower top_of bottom_of
  no-tower unled = simp unled

  -- where it passes, the newest bar's side says which label is left
  module _ (up : lt l.«open» l.close ≡ true) where
    pub methods-up : may_be_methods f l (middle_of mid) ≡ true → three_methods s ≡ cond (lt (highest_of (column_of Close mid)) f.close) RisingThreeMethods Other
    unfolding three_methods
    methods-up fit =
        let rise : may_rise f l (middle_of mid) ≡ true = simp (no-fall-up f l (middle_of mid) up, or-false) at fit in
        simp (rises_by, falls-by, rise, no-fall-up f l (middle_of mid) up)

    pub tower-up : may_be_tower f l (middle_of mid) ≡ true → tower s ≡ cond (ends_lead s && lt (variance_of (column_of Low mid)) a_half) Bottom Other
    unfolding tower
    tower-up fit =
        let bottom : may_be_bottom f l (middle_of mid) ≡ true = simp (no-top-up f l (middle_of mid) up) at fit in
        simp (top-by, bottom-by, bottom, no-top-up f l (middle_of mid) up)

  module _ (down : lt l.«open» l.close ≡ false) where
    pub methods-down : may_be_methods f l (middle_of mid) ≡ true → three_methods s ≡ cond (lt f.close (lowest_of (column_of Close mid))) FallingThreeMethods Other
    unfolding three_methods
    methods-down fit =
        let fall : may_fall f l (middle_of mid) ≡ true = simp (no-rise-down f l (middle_of mid) down) at fit in
        simp (rises_by, falls-by, fall, no-rise-down f l (middle_of mid) down)

    pub tower-down : may_be_tower f l (middle_of mid) ≡ true → tower s ≡ cond (ends_lead s && lt (variance_of (column_of High mid)) a_half) Top Other
    unfolding tower
    tower-down fit =
        let top : may_be_top f l (middle_of mid) ≡ true = simp (no-bottom-down f l (middle_of mid) down, or-false) at fit in
        simp (top-by, bottom-by, top, no-bottom-down f l (middle_of mid) down)

-- with a conjunction that fails fails whatever needs both of its parts
lacking : (a b : Bool) {t : Bool} → (a && b) ≡ false → (a ≡ false → t ≡ false) → (b ≡ false → t ≡ false) → t ≡ false
lacking false b h f g = f refl
lacking true b h f g = g h

-- ---- a window needs a close beyond its middle

module _ (first last : Bar) (m : Middle) (within : beyond last m ≡ false) where
  abbrev o : Float
  o = last.«open»

  abbrev c : Float
  c = last.close

  pub sides : ((lt o c && lt m.highest c) ≡ false) × ((lt c o && lt c m.lowest) ≡ false)
  unfolding beyond
  sides = neither (lt o c && lt m.highest c) (lt c o && lt c m.lowest) within

  no-rise : may_rise first last m ≡ false
  unfolding may_rise
  no-rise = lacking (lt o c) (lt m.highest c) sides.0 (λ e. simp e) (λ e. simp (e, and-false))

  no-fall : may_fall first last m ≡ false
  unfolding may_fall
  no-fall = lacking (lt c o) (lt c m.lowest) sides.1 (λ e. simp e) (λ e. simp (e, and-false))

  no_top : may_be_top first last m ≡ false
  unfolding may_be_top
  no_top = lacking (lt c o) (lt c m.lowest) sides.1 (λ e. simp (e, and-false)) (λ e. simp (e, and-false))

  no-bottom : may_be_bottom first last m ≡ false
  unfolding may_be_bottom
  no-bottom = lacking (lt o c) (lt m.highest c) sides.0 (λ e. simp (e, and-false)) (λ e. simp (e, and-false))

  pub no-methods : may_be_methods first last m ≡ false
  no-methods = simp (no-rise, no-fall)

  pub no-tower-shape : may_be_tower first last m ≡ false
  no-tower-shape = simp (no_top, no-bottom)

-- ---- what a test of the ends and the extremes tells of the label: where it fails there is none, and it fails where the close is not beyond

pub record IsTest (may_be : Bar → Bar → Middle → Bool) (label_of : List Bar → Label) : Type 0 where
  pub no_label : (s : List Bar) → may_be (first_of s) (last_of s) (middle_of (inner_of s)) ≡ false → label_of s ≡ Other
  pub fails_within : (first last : Bar) (m : Middle) → beyond last m ≡ false → may_be first last m ≡ false

pub methods_test : IsTest may_be_methods three_methods
methods_test = record { no_label = no-methods-label; fails_within = no-methods }

pub tower_test : IsTest may_be_tower tower
tower_test = record { no_label = no-tower-label; fails_within = no-tower-shape }
