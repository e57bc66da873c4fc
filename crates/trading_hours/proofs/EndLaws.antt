-- A later stamp lies in the hours and in the same term exactly if it lies before the term's end. Assumes nothing.
use Prim.Native.Nat.{ℕ, ◌+◌, ◌-◌, ◌*◌, ◌/◌, ◌%◌, ◌≤◌, ◌<◌, min}
use mathlib.Core.Path.{◌≡◌, refl, sym, ◌∙◌}
use mathlib.Core.Bool.{Bool, true, false}
use mathlib.Core.List.{List}
use native.Mathlib.Omega.{arith}
use native.Mathlib.Decide.{dec_lt}
use native.Mathlib.Nat.{div-add-mod'}
use lib.Dec.{ltb}
use lib.ListN.{length, get_or, get_or-eq_default}
use borrow.Author.Tests.{ltb-true, lt-ltb, ltb-false}
use Rattle.trading_hours.specs.declared.hours.DayWindow.{DayWindow}
use Rattle.trading_hours.specs.declared.hours.Hours.{Hours}
use Rattle.trading_hours.specs.Hours.{day_minutes, minute_of, windows_of, no_window, valid_hours, in_hours, place_of, term_of, same_term}
use Rattle.trading_hours.specs.TermRule.{LiesIn, TermRule, end_of, EndRule}
use Rattle.trading_hours.proofs.HourLaws.{any_place}
use Rattle.trading_hours.proofs.TermLaws.{has-means, place-has, place-only, rising-of, term-rule}

module _ (h : Hours) (m : ℕ) (some : 1 ≤ m) (valid : valid_hours h ≡ true) where
  abbrev rule : TermRule h m
  rule = term-rule h m some valid

  -- a stamp that lies in a window lies in the hours
  lies-open : (s day place number : ℕ) → LiesIn h m day place number s → in_hours h s ≡ true
  unfolding in_hours
  lies-open s day place number l =
      let there = place-only 0 (windows_of h) place (minute_of s) (rising-of h valid) l.known l.in_window in
      any_place (windows_of h) (minute_of s) ∙ lt-ltb (place_of (windows_of h) (minute_of s)) (length (windows_of h)) (rw there l.known)

  before : (a b : ℕ) → in_hours h a ≡ true → a ≤ b → b < end_of h m a → (in_hours h b ≡ true) × (term_of h m b ≡ term_of h m a)
  unfolding end_of
  before a b ea le lt =
      let x = term_of h m a in
      let la = rule.lies a ea in
      let begun = rule.in_span a x.day x.window x.number la in
      let lb = rule.span b x.day x.window x.number la.known (omega arith) lt in
      (lies-open b x.day x.window x.number lb, rule.only b x.day x.window x.number lb)

  -- a stamp of the same term lies before its end
  inside : (a b : ℕ) → in_hours h a ≡ true → in_hours h b ≡ true → term_of h m a ≡ term_of h m b → b < end_of h m a
  unfolding end_of
  inside a b ea eb e =
      let x = term_of h m a in
      let lb : LiesIn h m x.day x.window x.number b = rw (← e) at (rule.lies b eb) in
      (rule.in_span b x.day x.window x.number lb).1

  same_by : (t : Bool) (a b : ℕ) → in_hours h a ≡ true → in_hours h b ≡ true → a ≤ b → ltb b (end_of h m a) ≡ t → same_term (term_of h m a) (term_of h m b) ≡ t
  same_by true a b ea eb le e = rule.test-other a b (sym (before a b ea le (ltb-true b (end_of h m a) e)).1)
  same_by false a b ea eb le e = go (same_term (term_of h m a) (term_of h m b)) refl
    where
      go : (u : Bool) → same_term (term_of h m a) (term_of h m b) ≡ u → u ≡ false
      go true f =
          let lt = inside a b ea eb (rule.test-same a b f) in
          let ge = ltb-false b (end_of h m a) e in
          absurd (let z : ⊥ = omega arith in z)
      go false f = refl

  pub end-rule : EndRule h m
  unfolding end_of
  end-rule =
      record {
        before-end = before;
        same-before = λ a b ea eb le. same_by (ltb b (end_of h m a)) a b ea eb le refl;
        same_end = λ a b e. rw e;
      }

-- ---- where a term ends, as the code finds it

-- the opening of the window that has a minute is no later than the minute, and 0 where none has it
opening-below : (ws : List DayWindow) (x : ℕ) → (get_or ws (place_of ws x) no_window).from ≤ x
opening-below ws x =
    elim (dec_lt (place_of ws x) (length ws)) [
      | yes k ↦ (has-means (get_or ws (place_of ws x) no_window) x (place-has ws x k)).from_on
      | no k ↦ (let none : get_or ws (place_of ws x) no_window ≡ no_window = get_or-eq_default ws no_window {n = place_of ws x} (omega arith) in rw none (omega arith))
    ]

-- the begin of a run of m minutes, from a minute in it
run-begin : (x from m : ℕ) → from ≤ x → x - (x - from) % m ≡ from + (x - from) / m * m
run-begin x from m le = let whole = div-add-mod' (x - from) m in omega arith

pub end-found : (h : Hours) (m s : ℕ)
    → let x = minute_of s in
    let w = get_or (windows_of h) (place_of (windows_of h) x) no_window in
    s / day_minutes * day_minutes + min (x - (x - w.from) % m + m) w.to ≡ end_of h m s
unfolding end_of term_of
end-found h m s = let x = minute_of s in rw (run-begin x (get_or (windows_of h) (place_of (windows_of h) x) no_window).from m (opening-below (windows_of h) x))
