-- "Why a call is refused": the refusals' numbers, when each is true, and which of them each call tries.
use Rattle.std.specs.Prelude.{ℕ, ◌+◌, ◌*◌, ◌/◌, ◌%◌, Bool, cond, not, ◌&&◌, ◌||◌, List, [], ◌∷◌, ◌++◌, ltb, leb, eqb, Result, Ok, Err}
use Rattle.thresholds.specs.declared.Thresholds.{Thresholds}
use Rattle.answers.specs.declared.refusals.Refusal.{Refusal}
use Rattle.answers.specs.declared.refusals.Refusal.TheVariants.{UnknownRecogniser, ZeroOffset, BadThreshold, BrokenBars, TooManyBars, ShortSheet, FarLook, BadShape, BadPrice, LateStamp, OutsideHours, BadLayer}
use Rattle.thresholds.specs.Threshold.{valid_of}
use Rattle.rule_types.specs.Number.{recognisers, row_bytes, most_bars, farthest_look, longest_line}

-- whether a call is refused
abbrev pub Verdict : Type 0
Verdict = Result (Unit {0}) Refusal

-- ---- the numbers

abbrev pub refusal_number : Refusal → ℕ
refusal_number UnknownRecogniser = 1
refusal_number ZeroOffset = 2
refusal_number BadThreshold = 3
refusal_number BrokenBars = 4
refusal_number TooManyBars = 5
refusal_number ShortSheet = 6
refusal_number FarLook = 7
refusal_number BadShape = 8
refusal_number BadPrice = 9
refusal_number LateStamp = 10
refusal_number OutsideHours = 11
refusal_number BadLayer = 12

-- ---- when each is true

-- a refusal with the test that makes it true
pub record Tried : Type 0 where
  pub met : Bool
  pub why : Refusal

abbrev pub tried : Bool → Refusal → Tried
tried b r = record { met = b; why = r }

-- 1. The recogniser is above 17: the numbers are those below 18.
abbrev pub unknown_recogniser : ℕ → Tried
unknown_recogniser k = tried (leb recognisers k) UnknownRecogniser

-- 2. The offset is 0.
abbrev pub zero_offset : ℕ → Tried
zero_offset di = tried (eqb di 0) ZeroOffset

-- 3. A threshold is outside its limits or NaN.
abbrev pub bad_threshold : Thresholds → Tried
bad_threshold t = tried (not (valid_of t)) BadThreshold

-- 4. The prices or bytes don't make whole bars.
abbrev pub broken_bars : Bool → Tried
broken_bars whole = tried (not whole) BrokenBars

-- 5. The history, N, or N with the feed, passes 1,000,000 bars.
abbrev pub too_many_bars : ℕ → Tried
too_many_bars count = tried (ltb most_bars count) TooManyBars

-- 6. The sheet has fewer than 36 bytes for each bar.
abbrev pub short_sheet : ℕ → ℕ → Tried
short_sheet bytes bars = tried (ltb bytes (row_bytes * bars)) ShortSheet

-- 7. A look has an offset above 43.
abbrev pub far_look : ℕ → Tried
far_look di = tried (ltb farthest_look di) FarLook

-- 8. A text line is longer than 80 bytes or has another number of fields than four.
abbrev pub bad_shape : ℕ → ℕ → Tried
bad_shape bytes fields = tried (ltb longest_line bytes || not (eqb fields 4)) BadShape

-- 9. A text line of at most 80 bytes has four fields of which at least one is no price.
abbrev pub bad_price : ℕ → ℕ → Bool → Tried
bad_price bytes fields all_prices = tried (leb bytes longest_line && eqb fields 4 && not all_prices) BadPrice

-- 10. A stamp is not above the one before it, in this call or an earlier one.
abbrev pub late_stamp : Bool → Tried
late_stamp above = tried (not above) LateStamp

-- 11. A stamp lies outside all windows.
abbrev pub outside_hours : Bool → Tried
outside_hours inside = tried (not inside) OutsideHours

-- 12. Of a layer, the hours, the term length or a kept stamp break the rules, or an open term bar has no stamp.
abbrev pub bad_layer : Bool → Tried
bad_layer valid = tried (not valid) BadLayer

-- each call tries those that concern it, in this order, gives the first that is true and none otherwise: a plain call 1 to 5, box-making 3, a feed
-- 3 to 6, a look 1 to 3, 5 and 7, a text line 8 and 9, the making of a layer 3 and 12, a run 3, 12, 4 to 6, and 10 and 11 bar by bar, a close 3, 12,
-- 5 and 6
unfoldable pub first_true : List Tried → Verdict
first_true [] = Ok tt
first_true (x ∷ xs) = cond x.met (Err x.why) (first_true xs)

-- its number, 0 for none
abbrev pub verdict_number : Verdict → ℕ
verdict_number (Ok _) = 0
verdict_number (Err r) = refusal_number r

-- what a call that may be refused leaves: a refusal leaves what was there
abbrev pub leaves : {A : Type 0} → Verdict → A → A → A
leaves (Ok _) was now = now
leaves (Err r) was now = was

-- tests with others next after those of a refusal: "next after 3", or "5 also covers" for others of the same
unfoldable pub next_after : Refusal → List Tried → List Tried → List Tried
next_after r more [] = more
next_after r more (x ∷ xs) = x ∷ cond (eqb (refusal_number r) (refusal_number x.why)) (more ++ xs) (next_after r more xs)

-- ---- what calls try

-- a plain call 1 to 5. whole: what the history was lent in makes whole bars
unfoldable pub plain_verdict : ℕ → ℕ → Thresholds → Bool → ℕ → Verdict
plain_verdict k di t whole count =
    first_true (unknown_recogniser k ∷ zero_offset di ∷ bad_threshold t ∷ broken_bars whole ∷ too_many_bars count ∷ [])

-- a feed tries 3 to 6, with the thresholds and the count N of the box, and the numbers of prices and of sheet bytes that it is lent
unfoldable pub feed_tried : Thresholds → ℕ → ℕ → ℕ → List Tried
feed_tried t n prices sheet = bad_threshold t ∷ broken_bars (eqb (prices % 4) 0) ∷ too_many_bars (n + prices / 4) ∷ short_sheet sheet (prices / 4) ∷ []

unfoldable pub feed_verdict : Thresholds → ℕ → ℕ → ℕ → Verdict
feed_verdict t n prices sheet = first_true (feed_tried t n prices sheet)

-- other calls that are "checked as a feed" try more: 12 next after 3, 4 and 5 also for what they say. As the code has it, which knows of these
-- whether they are right
unfoldable pub checked_tried : Thresholds → Bool → ℕ → ℕ → Bool → Bool → ℕ → List Tried
checked_tried t layer n prices whole right sheet =
    next_after BadThreshold (bad_layer layer ∷ [])
    (next_after BrokenBars (broken_bars whole ∷ [])
    (next_after TooManyBars (tried (not right) TooManyBars ∷ [])
    (feed_tried t n prices sheet)))

-- a look tries 1, 2, 3, 5 and 7
unfoldable pub look_verdict : ℕ → ℕ → Thresholds → ℕ → Verdict
look_verdict k di t n = first_true (unknown_recogniser k ∷ zero_offset di ∷ bad_threshold t ∷ too_many_bars n ∷ far_look di ∷ [])
