-- The term rule, for any term length m from 1 and all valid hours. Assumes nothing.
use Prim.Native.Nat.{ℕ, zero, suc, ◌+◌, ◌-◌, ◌*◌, ◌/◌, ◌≤◌, ◌<◌}
use mathlib.Core.Path.{◌≡◌, refl, sym, ◌∙◌}
use mathlib.Core.Logic.{◌⊎◌, inl, inr}
use mathlib.Core.Bool.{Bool, true, false, cond, ◌&&◌, and-false}
use mathlib.Core.List.{List, [], ◌∷◌}
use native.Mathlib.Omega.{arith}
use native.Mathlib.Decide.{dec_le, dec_lt}
use native.Mathlib.Nat.{div-mul-le_self, lt-div-mul-add, div-eq_of_lt-le, le-div_iff_mul-le, add-mul, one-mul}
use lib.Dec.{ltb, leb, eqb}
use lib.ListN.{length, get_or}
use borrow.Author.Tests.{leb-true, ltb-true, le-leb, lt-ltb, le-ltb, eqb-true, eq-eqb}
use Rattle.trading_hours.specs.declared.hours.DayWindow.{DayWindow}
use Rattle.trading_hours.specs.declared.hours.Hours.{Hours}
use Rattle.trading_hours.specs.Hours.{Term, day_minutes, day_of, minute_of, windows_of, window_at, no_window, has, follows, rising_from, valid_hours, in_hours, place_of, term_with, term_of, same_term}
use Rattle.trading_hours.specs.TermRule.{LiesIn, Together, run_begin, run_end, Before, TermRule, TermRules}
use Rattle.trading_hours.proofs.HourLaws.{both, any_place}

-- ---- windows

-- what a window tells of a minute
pub record Has (w : DayWindow) (x : ℕ) : Type 0 where
  pub from_on : w.from ≤ x
  pub below : x < w.to

pub has-means : (w : DayWindow) (x : ℕ) → has w x ≡ true → Has w x
has-means w x e =
    let b = both (leb w.from x) (ltb x w.to) e in
    record { from_on = leb-true w.from x b.0; below = ltb-true x w.to b.1 }

means-has : (w : DayWindow) (x : ℕ) → w.from ≤ x → x < w.to → has w x ≡ true
means-has w x f t = simp (le-leb w.from x f, lt-ltb x w.to t)

-- what windows that rise from a minute tell of the first and of the rest
pub record Rises (at : ℕ) (w : DayWindow) (ws : List DayWindow) : Type 0 where
  pub later : at ≤ w.from
  pub some : w.from < w.to
  pub in-day : w.to ≤ day_minutes
  pub rest : rising_from w.to ws ≡ true

rises : (at : ℕ) (w : DayWindow) (ws : List DayWindow) → rising_from at (w ∷ ws) ≡ true → Rises at w ws
unfolding rising_from
rises at w ws e =
    let outer = both (follows at w) (rising_from w.to ws) e in
    let two = both (leb at w.from && ltb w.from w.to) (leb w.to day_minutes) outer.0 in
    let one = both (leb at w.from) (ltb w.from w.to) two.0 in
    record { later = leb-true _ _ one.0; some = ltb-true w.from w.to one.1; in-day = leb-true _ _ two.1; rest = outer.1 }

-- each window begins from there on, and ends within the day
pub from-later : (at : ℕ) (ws : List DayWindow) (p : ℕ) → rising_from at ws ≡ true → p < length ws → (at ≤ (get_or ws p no_window).from) × ((get_or ws p no_window).to ≤ day_minutes)
from-later at [] p e k = absurd (let z : ⊥ = omega arith in z)
from-later at (w ∷ ws) zero e k = let r = rises at w ws e in (r.later, r.in-day)
from-later at (w ∷ ws) (suc p) e k =
    let r = rises at w ws e in
    let next = from-later w.to ws p r.rest (omega arith) in
    (omega arith, next.1)

-- a window ends before a later one begins
pub apart : (at : ℕ) (ws : List DayWindow) (p q : ℕ) → rising_from at ws ≡ true → p < q → q < length ws → (get_or ws p no_window).to ≤ (get_or ws q no_window).from
apart at [] p q e lt k = absurd (let z : ⊥ = omega arith in z)
apart at (w ∷ ws) p zero e lt k = absurd (let z : ⊥ = omega arith in z)
apart at (w ∷ ws) zero (suc q) e lt k = (from-later w.to ws q (rises at w ws e).rest (omega arith)).0
apart at (w ∷ ws) (suc p) (suc q) e lt k = apart w.to ws p q (rises at w ws e).rest (omega arith) (omega arith)

-- the window at the place of a minute has it
pub place-has : (ws : List DayWindow) (x : ℕ) → place_of ws x < length ws → has (get_or ws (place_of ws x) no_window) x ≡ true
unfolding place_of
place-has [] x k = absurd (let z : ⊥ = omega arith in z)
place-has (w ∷ ws) x k = go (has w x) refl (λ (le : place_of ws x < length ws). place-has ws x le) k
  where
    go : (t : Bool) → has w x ≡ t → (place_of ws x < length ws → has (get_or ws (place_of ws x) no_window) x ≡ true) → cond t 0 (suc (place_of ws x)) < suc (length ws)
        → has (get_or (w ∷ ws) (cond t 0 (suc (place_of ws x))) no_window) x ≡ true
    go true e later k = e
    go false e later k = later (omega arith)

-- and no other has it
pub place-only : (at : ℕ) (ws : List DayWindow) (p x : ℕ) → rising_from at ws ≡ true → p < length ws → has (get_or ws p no_window) x ≡ true → place_of ws x ≡ p
unfolding place_of
place-only at [] p x e k in_p = absurd (let z : ⊥ = omega arith in z)
place-only at (w ∷ ws) zero x e k in_p = simp in_p
place-only at (w ∷ ws) (suc p) x e k in_p =
    let r = rises at w ws e in
    let near : p < length ws = omega arith in
    let after = (from-later w.to ws p r.rest near).0 in
    let means = has-means (get_or ws p no_window) x in_p in
    let past : ltb x w.to ≡ false = le-ltb x w.to (omega arith) in
    let out : has w x ≡ false = rw past (and-false (leb w.from x)) in
    simp (out, place-only w.to ws p x r.rest near in_p)

-- ---- terms

pub same-eq : (x y : Term) → same_term x y ≡ true → x ≡ y
unfolding same_term
same-eq x y e =
    let outer = both (eqb x.day y.day && eqb x.window y.window) (eqb x.number y.number) e in
    let inner = both (eqb x.day y.day) (eqb x.window y.window) outer.0 in
    let whole : term_with x.day x.window x.number ≡ term_with y.day y.window y.number =
    rw (eqb-true x.day y.day inner.0, eqb-true x.window y.window inner.1, eqb-true x.number y.number outer.1) in
    whole

pub same_self : (x y : Term) → x ≡ y → same_term x y ≡ true
unfolding same_term
same_self x y e = rw e (simp (eq-eqb y.day y.day refl, eq-eqb y.window y.window refl, eq-eqb y.number y.number refl))

-- valid hours rise
pub rising-of : (h : Hours) → valid_hours h ≡ true → rising_from 0 (windows_of h) ≡ true
unfolding valid_hours
rising-of h valid = (both (leb 1 h.count && leb h.count 4) (rising_from 0 (windows_of h)) valid).1

module _ (h : Hours) (m : ℕ) (some : 1 ≤ m) (valid : valid_hours h ≡ true) where
  abbrev ws : List DayWindow
  ws = windows_of h

  rising : rising_from 0 ws ≡ true
  rising = rising-of h valid

  known-place : (s : ℕ) → in_hours h s ≡ true → place_of ws (minute_of s) < length ws
  unfolding in_hours
  known-place s e = ltb-true (place_of ws (minute_of s)) (length ws) (sym (any_place ws (minute_of s)) ∙ e)

  -- a stamp in the hours lies in its term
  lies_in : (s : ℕ) → in_hours h s ≡ true → let x = term_of h m s in LiesIn h m x.day x.window x.number s
  unfolding term_of
  lies_in s e =
      let x = minute_of s in
      let known = known-place s e in
      let there = place-has ws x known in
      let w = window_at h (place_of ws x) in
      let means = has-means w x there in
      let q = x - w.from in
      let low = div-mul-le_self q m in
      let high = lt-div-mul-add {a = q} {b = m} some in
      record { day-is = refl; known = known; in_window = there; in-run = record { begun = omega arith; goes_on = omega arith } }

  -- and in no other
  lies-only : (s day place number : ℕ) → LiesIn h m day place number s → term_of h m s ≡ term_with day place number
  unfolding term_of
  lies-only s day place number l =
      let x = minute_of s in
      let w = window_at h place in
      let there = place-only 0 ws place x rising l.known l.in_window in
      let means = has-means w x l.in_window in
      let run = l.in-run in
      let next : (number + 1) * m ≡ number * m + m = rw (add-mul number 1 m, one-mul m) in
      let count : (x - w.from) / m ≡ number = div-eq_of_lt-le {k = number} m {m = x - w.from} (omega arith) (rw next (omega arith)) in
      rw (there, count, l.day-is)

  -- stamps of one term lie together
  lie-together : (a b : ℕ) → in_hours h a ≡ true → in_hours h b ≡ true → term_of h m a ≡ term_of h m b → Together h m a b
  lie-together a b ea eb e =
      let x = term_of h m a in
      record { day = x.day; place = x.window; number = x.number; first = lies_in a ea; second = rw (← e) at (lies_in b eb) }

  -- a term is a span of stamps
  span-in : (s day place number : ℕ) → place < length ws → run_begin h m day place number ≤ s → s < run_end h m day place number → LiesIn h m day place number s
  span-in s day place number known low high =
      let w = window_at h place in
      let in-day = (from-later 0 ws place rising known).1 in
      let day-is : day_of s ≡ day = omega arith in
      let minute : minute_of s + day * day_minutes ≡ s = omega arith in
      record { day-is = day-is; known = known; in_window = means-has w (minute_of s) (omega arith) (omega arith); in-run = record { begun = omega arith; goes_on = omega arith } }

  lies-span : (s day place number : ℕ) → LiesIn h m day place number s → (run_begin h m day place number ≤ s) × (s < run_end h m day place number)
  lies-span s day place number l =
      let run = l.in-run in
      let day-is = l.day-is in
      let means = has-means (window_at h place) (minute_of s) l.in_window in
      (omega arith, omega arith)

  -- the place of a later minute is no earlier one
  place-rises : (x y : ℕ) → place_of ws x < length ws → place_of ws y < length ws → x ≤ y → place_of ws x ≤ place_of ws y
  place-rises x y kx ky le =
      elim (dec_le (place_of ws x) (place_of ws y)) [
        | yes p ↦ p
        | no q ↦ (let mx = has-means _ x (place-has ws x kx) in
            let my = has-means _ y (place-has ws y ky) in
            let far = apart 0 ws (place_of ws y) (place_of ws x) rising (omega arith) kx in
            absurd (let z : ⊥ = omega arith in z))
      ]

  -- the number of a later minute is no lower one
  number-rises : (p q : ℕ) → p ≤ q → p / m ≤ q / m
  number-rises p q le = let low = div-mul-le_self p m in (le-div_iff_mul-le {k = m} {x = p / m} {y = q} some).1 (omega arith)

  rises-with : (a b : ℕ) → in_hours h a ≡ true → in_hours h b ≡ true → a ≤ b → (term_of h m a ≡ term_of h m b) ⊎ Before (term_of h m a) (term_of h m b)
  unfolding term_of
  rises-with a b ea eb le =
      let x = minute_of a in
      let y = minute_of b in
      let ka = known-place a ea in
      let kb = known-place b eb in
      elim (dec_lt (day_of a) (day_of b)) [
        | yes d ↦ inr (inl d)
        | no d ↦ (let day : day_of a ≡ day_of b = omega arith in
            let order : x ≤ y = omega arith in
            let place = place-rises x y ka kb order in
            elim (dec_lt (place_of ws x) (place_of ws y)) [
              | yes p ↦ inr (inr (day, inl p))
              | no p ↦ (let here : place_of ws x ≡ place_of ws y = omega arith in
                  let w = window_at h (place_of ws y) in
                  let number = number-rises (x - w.from) (y - w.from) (omega arith) in
                  elim (dec_lt ((x - w.from) / m) ((y - w.from) / m)) [
                    | yes n ↦ inr (inr (day, inr (here, rw here n)))
                    | no n ↦ (let count : (x - w.from) / m ≡ (y - w.from) / m = omega arith in inl (rw (here, count, day)))
                  ])
            ])
      ]

  pub term-rule : TermRule h m
  term-rule =
      record {
        lies = lies_in;
        only = lies-only;
        same = λ a b t. lies-only a t.day t.place t.number t.first ∙ sym (lies-only b t.day t.place t.number t.second);
        together = lie-together;
        test-same = λ a b e. same-eq (term_of h m a) (term_of h m b) e;
        test-other = λ a b e. same_self (term_of h m a) (term_of h m b) e;
        span = span-in;
        in_span = lies-span;
        at_most = λ day place number. omega arith;
        rise = rises-with;
      }

-- ---- said of every term length and all valid hours at once

pub term-rules : TermRules
term-rules = record { rule = term-rule }
