-- 02, P6, "Terms of the trading day": opening hours, and the term of a stamp for any term length m from 1.
use Rattle.std.specs.Prelude.{ℕ, suc, ◌-◌, ◌/◌, ◌%◌, Bool, true, false, cond, ◌&&◌, ◌||◌, List, [], ◌∷◌, ◌++◌, ltb, leb, eqb, get_or, take, replicate}
use Rattle.trading_hours.specs.declared.hours.{DayWindow.DayWindow, Hours.Hours}

-- ---- numbers

-- a stamp counts minutes from a fixed midnight; a day has 1,440
abbrev pub day_minutes : ℕ
day_minutes = 1440

abbrev pub day_of : ℕ → ℕ
day_of stamp = stamp / day_minutes

abbrev pub minute_of : ℕ → ℕ
minute_of stamp = stamp % day_minutes

-- "one to four windows of the day"
abbrev pub most_windows : ℕ
most_windows = 4

-- ---- hours

abbrev pub window_from : ℕ → ℕ → DayWindow
window_from from to = record { from = from; to = to }

-- what an unused place holds
abbrev pub no_window : DayWindow
no_window = window_from 0 0

abbrev pub hours_with : List DayWindow → ℕ → Hours
hours_with windows count = record { windows = windows; count = count }

-- the windows in use; the places past them are not read
abbrev pub windows_of : Hours → List DayWindow
windows_of h = take h.count h.windows

-- the same hours with zeros in the unused places
unfoldable pub with_zeros : Hours → Hours
with_zeros h = hours_with (windows_of h ++ replicate (most_windows - h.count) no_window) h.count

-- a window that begins no earlier than a minute: "from below to, to at most 1,440"
abbrev pub follows : ℕ → DayWindow → Bool
follows at w = leb at w.from && ltb w.from w.to && leb w.to day_minutes

-- "rising and disjoint": each begins no earlier than the one before it ends
unfoldable pub rising_from : ℕ → List DayWindow → Bool
rising_from at [] = true
rising_from at (w ∷ ws) = follows at w && rising_from w.to ws

unfoldable pub valid_hours : Hours → Bool
valid_hours h = leb 1 h.count && leb h.count most_windows && rising_from 0 (windows_of h)

-- "minute from inclusive and minute to exclusive": whether a window has a minute of the day
abbrev pub has : DayWindow → ℕ → Bool
has w minute = leb w.from minute && ltb minute w.to

-- whether one of them has it
unfoldable pub any_has : List DayWindow → ℕ → Bool
any_has [] minute = false
any_has (w ∷ ws) minute = has w minute || any_has ws minute

-- a stamp lies in the hours
unfoldable pub in_hours : Hours → ℕ → Bool
in_hours h stamp = any_has (windows_of h) (minute_of stamp)

-- ---- terms

-- the place of the window that has a minute, from 0; past the last if none has it
unfoldable pub place_of : List DayWindow → ℕ → ℕ
place_of [] minute = 0
place_of (w ∷ ws) minute = cond (has w minute) 0 (suc (place_of ws minute))

-- the window in use at a place
abbrev pub window_at : Hours → ℕ → DayWindow
window_at h place = get_or (windows_of h) place no_window

-- a term: the day, the place of the window, and the number of the term in it
pub record Term : Type 0 where
  pub day : ℕ
  pub window : ℕ
  pub number : ℕ

abbrev pub term_with : ℕ → ℕ → ℕ → Term
term_with day window number = record { day = day; window = window; number = number }

-- "A term of m minutes counts from its window's opening": the day, the window, and the number of the run of m minutes in it, from 0
unfoldable pub term_of : Hours → ℕ → ℕ → Term
term_of h m stamp =
    let place = place_of (windows_of h) (minute_of stamp) in
    term_with (day_of stamp) place ((minute_of stamp - (window_at h place).from) / m)

unfoldable pub same_term : Term → Term → Bool
same_term a b = eqb a.day b.day && eqb a.window b.window && eqb a.number b.number

-- the term lengths that a layer takes: "m minutes (5, 15, 60)"
unfoldable pub term_length : ℕ → Bool
term_length m = eqb m 5 || eqb m 15 || eqb m 60
