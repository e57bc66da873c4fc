-- What the term rule says, for any term length m from 1 and all valid hours; and where a term ends.
use Rattle.std.specs.Prelude.{ℕ, ◌+◌, ◌*◌, ◌≤◌, ◌<◌, min, ◌≡◌, ◌⊎◌, true, ltb, length}
use Rattle.trading_hours.specs.declared.hours.Hours.{Hours}
use Rattle.trading_hours.specs.Hours.{Term, day_minutes, day_of, minute_of, windows_of, window_at, has, valid_hours, in_hours, term_with, term_of, same_term}

-- a minute lies in a run of m minutes, by its number from 0, counted from a window's opening
pub record InRun (opening m number minute : ℕ) : Type 0 where
  pub begun : opening + number * m ≤ minute
  pub goes_on : minute < opening + number * m + m

-- a stamp lies on a day, in a window and in a run of m minutes counted from its opening
pub record LiesIn (h : Hours) (m day place number stamp : ℕ) : Type 0 where
  pub day-is : day_of stamp ≡ day
  pub known : place < length (windows_of h)
  pub in_window : has (window_at h place) (minute_of stamp) ≡ true
  pub in-run : InRun (window_at h place).from m number (minute_of stamp)

-- two stamps lie on the same day, in the same window and in the same run of m minutes counted from its opening
pub record Together (h : Hours) (m a b : ℕ) : Type 0 where
  pub day : ℕ
  pub place : ℕ
  pub number : ℕ
  pub first : LiesIn h m day place number a
  pub second : LiesIn h m day place number b

-- the first stamp of the number-th run of m minutes in a window, and the first past it: the window's end, if that comes first
abbrev pub run_begin : Hours → ℕ → ℕ → ℕ → ℕ → ℕ
run_begin h m day place number = day * day_minutes + ((window_at h place).from + number * m)

abbrev pub run_end : Hours → ℕ → ℕ → ℕ → ℕ → ℕ
run_end h m day place number = day * day_minutes + min ((window_at h place).from + number * m + m) (window_at h place).to

-- one term comes before another: by day, window and number
abbrev pub Before : Term → Term → Type 0
Before a b = (a.day < b.day) ⊎ ((a.day ≡ b.day) × ((a.window < b.window) ⊎ ((a.window ≡ b.window) × (a.number < b.number))))

pub record TermRule (h : Hours) (m : ℕ) : Type 0 where
  -- a stamp in the hours lies on its term's day, in its window and its run of m minutes
  pub lies : (s : ℕ) → in_hours h s ≡ true → let x = term_of h m s in LiesIn h m x.day x.window x.number s
  -- and in no other
  pub only : (s day place number : ℕ) → LiesIn h m day place number s → term_of h m s ≡ term_with day place number
  -- so two stamps have the same term exactly if they lie on the same day, in the same window and in the same run
  pub same : (a b : ℕ) → Together h m a b → term_of h m a ≡ term_of h m b
  pub together : (a b : ℕ) → in_hours h a ≡ true → in_hours h b ≡ true → term_of h m a ≡ term_of h m b → Together h m a b
  -- the test of the definition is that
  pub test-same : (a b : ℕ) → same_term (term_of h m a) (term_of h m b) ≡ true → term_of h m a ≡ term_of h m b
  pub test-other : (a b : ℕ) → term_of h m a ≡ term_of h m b → same_term (term_of h m a) (term_of h m b) ≡ true
  -- a term is the stamps from its begin to its end, which is the window's end if that comes first: a window's last term may be shorter
  pub span : (s day place number : ℕ) → place < length (windows_of h) → run_begin h m day place number ≤ s → s < run_end h m day place number → LiesIn h m day place number s
  pub in_span : (s day place number : ℕ) → LiesIn h m day place number s → (run_begin h m day place number ≤ s) × (s < run_end h m day place number)
  -- every term has at most m minutes
  pub at_most : (day place number : ℕ) → run_end h m day place number ≤ run_begin h m day place number + m
  -- terms rise with stamps: of a later stamp the term is the same or comes after it
  pub rise : (a b : ℕ) → in_hours h a ≡ true → in_hours h b ≡ true → a ≤ b → (term_of h m a ≡ term_of h m b) ⊎ Before (term_of h m a) (term_of h m b)

-- for every term length from 1 and all valid hours
pub record TermRules : Type 0 where
  pub rule : (h : Hours) (m : ℕ) → 1 ≤ m → valid_hours h ≡ true → TermRule h m

-- ---- where a term ends

-- the first stamp past the term of a stamp
unfoldable pub end_of : Hours → ℕ → ℕ → ℕ
end_of h m stamp = let x = term_of h m stamp in run_end h m x.day x.window x.number

-- what a program may test instead of comparing terms: a stamp after another lies in the hours and in its term exactly if it lies before its end
pub record EndRule (h : Hours) (m : ℕ) : Type 0 where
  pub before-end : (a b : ℕ) → in_hours h a ≡ true → a ≤ b → b < end_of h m a → (in_hours h b ≡ true) × (term_of h m b ≡ term_of h m a)
  pub same-before : (a b : ℕ) → in_hours h a ≡ true → in_hours h b ≡ true → a ≤ b → same_term (term_of h m a) (term_of h m b) ≡ ltb b (end_of h m a)
  pub same_end : (a b : ℕ) → term_of h m a ≡ term_of h m b → end_of h m a ≡ end_of h m b
