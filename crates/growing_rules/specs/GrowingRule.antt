-- "The eighteen": the rules that try growing windows, 4 and 17. A window is a list of bars, oldest first.
use Rattle.std.specs.Prelude.{ℕ, zero, suc, ◌+◌, ◌-◌, ◌≡◌, Bool, true, false, cond, not, ◌&&◌, eqb, get_or, Float}
use mathlib.Core.List.{List, [], ◌∷◌, map, reverse, Perm}
use Rattle.std.specs.Float.{nan}
use Rattle.std.specs.Float.Ieee.{lt, le, is_nan}
use Rattle.measures.specs.Bar.{Bar, body_of}
use Rattle.measures.specs.declared.folds.Column.TheVariants.{Close, High, Low}
use Rattle.measures.specs.Price.{max_of, min_of}
use Rattle.measures.specs.Window.{window_of}
use Rattle.measures.specs.Fold.{column_of, highest_of, lowest_of, variance_of, every_of}
use Rattle.rule_types.specs.declared.label.{Label.Label, Pair.Pair}
use Rattle.rule_types.specs.declared.label.Label.TheVariants.{Other, RisingThreeMethods, FallingThreeMethods, Bars5, Bars6, Bars7, Bars8, Bars9, Bottom, Top}
use Rattle.growing_rules.specs.declared.Both.{Both}
use Rattle.rule_types.specs.Label.{code_of, pair_of, pair_a}
use Rattle.rule_types.specs.Number.{a_half}
unfoldable pub use Rattle.middles.specs.Part.{first_of, last_of, inner_of}

-- ---- windows that grow

-- the label of a window of n bars
unfoldable pub sizes : List Label
sizes = Bars5 ∷ Bars6 ∷ Bars7 ∷ Bars8 ∷ Bars9 ∷ []

unfoldable pub size_label : ℕ → Label
size_label n = get_or sizes (n - 5) Other

-- windows of n, n + 1, .. bars are tried, k of them; the first match gives the label
unfoldable pub first_match : (List Bar → Label) → ℕ → ℕ → List Bar → Pair
first_match check zero n w = pair_a
first_match check (suc k) n w =
    let t = check (window_of w 1 n) in
    cond (eqb (code_of t) 0) (first_match check k (n + 1) w) (pair_of t (size_label n))

-- ---- 4: san_fa_v20221118

-- both ends rise and the last closes above the first's high; the highest high of the bars between lies between these two, their lowest
-- low above the first's open, their highest close below its close
unfoldable pub rises_of : List Bar → Bool
rises_of s =
    let first = first_of s in
    let last = last_of s in
    let hhv = highest_of (column_of High (inner_of s)) in
    (lt last.«open» last.close && lt first.«open» first.close && lt first.high last.close)
    && (lt hhv last.close && lt first.high hhv && lt first.«open» (lowest_of (column_of Low (inner_of s))) && lt (highest_of (column_of Close (inner_of s))) first.close)

unfoldable pub falls_of : List Bar → Bool
falls_of s =
    let first = first_of s in
    let last = last_of s in
    let llv = lowest_of (column_of Low (inner_of s)) in
    (lt last.close last.«open» && lt first.close first.«open» && lt last.close first.low)
    && (lt llv first.low && lt last.close llv && lt (highest_of (column_of High (inner_of s))) first.«open» && lt first.close (lowest_of (column_of Close (inner_of s))))

unfoldable pub three_methods : List Bar → Label
three_methods s = cond (rises_of s) RisingThreeMethods (cond (falls_of s) FallingThreeMethods Other)

-- windows of 5 to 8 bars
unfoldable pub san_fa_v20221118 : List Bar → Pair
san_fa_v20221118 w = first_match three_methods 4 5 w

-- ---- 17: ta_xing

-- the bodies in non-falling order: each put into its place in non-rising order, and these from the last to the first
unfoldable pub insert_of : Float → List Float → List Float
insert_of x [] = x ∷ []
insert_of x (a ∷ rest) = cond (lt x a) (a ∷ insert_of x rest) (x ∷ a ∷ rest)

unfoldable pub bodies_down : List Bar → List Float
bodies_down [] = []
bodies_down (b ∷ s) = insert_of (body_of b) (bodies_down s)

unfoldable pub bodies_up : List Bar → List Float
bodies_up s = reverse (bodies_down s)

-- none is above its neighbour behind it
abbrev pub NonFalling : List Float → Type 0
NonFalling [] = Unit {0}
NonFalling (a ∷ []) = Unit {0}
NonFalling (a ∷ b ∷ rest) = (lt b a ≡ false) × NonFalling (b ∷ rest)

-- what 17 reads is that of every window: its bodies, no more and no fewer, and in this order; proofs/BodyOrder shows it
pub record BodyOrder : Type 0 where
  pub non-falling : (s : List Bar) → NonFalling (bodies_up s)
  pub the_bodies : (s : List Bar) → Perm (bodies_up s) (map body_of s)

-- the last but one of a list, NaN where there is none
unfoldable pub last_but_one : List Float → Float
last_but_one [] = nan
last_but_one (a ∷ []) = nan
last_but_one (a ∷ b ∷ []) = a
last_but_one (a ∷ b ∷ c ∷ rest) = last_but_one (b ∷ c ∷ rest)

-- no body is NaN
unfoldable pub bodies_known : List Bar → Bool
bodies_known [] = true
bodies_known (b ∷ s) = not (is_nan (body_of b)) && bodies_known s

-- min(body of first, body of last) ≥ the last but one of the bodies in non-falling order; a window with a NaN body never matches
unfoldable pub ends_lead : List Bar → Bool
ends_lead s = bodies_known s && le (last_but_one (bodies_up s)) (min_of (body_of (first_of s)) (body_of (last_of s)))

-- the first rises and the last falls; the highs between vary little; every low between is above the first's open and the last's close
unfoldable pub top_of : List Bar → Bool
top_of s =
    let first = first_of s in
    let last = last_of s in
    ends_lead s && ((lt first.«open» first.close && lt last.close last.«open»)
    && lt (variance_of (column_of High (inner_of s))) a_half
    && every_of (λ x. lt (max_of first.«open» last.close) x) (column_of Low (inner_of s)))

unfoldable pub bottom_of : List Bar → Bool
bottom_of s =
    let first = first_of s in
    let last = last_of s in
    ends_lead s && ((lt first.close first.«open» && lt last.«open» last.close)
    && lt (variance_of (column_of Low (inner_of s))) a_half
    && every_of (λ x. lt x (min_of first.«open» last.close)) (column_of High (inner_of s)))

unfoldable pub tower : List Bar → Label
tower s = cond (top_of s) Top (cond (bottom_of s) Bottom Other)

-- windows of 5 to 9 bars
unfoldable pub ta_xing : List Bar → Pair
ta_xing w = first_match tower 5 5 w

-- ---- both at once, as a row of all recognisers has them
abbrev pub growing_of : List Bar → Both Pair
growing_of w = record { methods = san_fa_v20221118 w; tower = ta_xing w }
