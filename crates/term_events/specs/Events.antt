-- 02, P6: term bars from a list of events, each a bar with its stamp or a close, as a plain definition on lists.
use Rattle.std.specs.Prelude.{Option, Some, None, ℕ, ◌≡◌, Bool, true, false, cond}
use mathlib.Core.List.{List, [], ◌∷◌, ◌++◌, foldl, map, Memᴰ}
use Rattle.measures.specs.Bar.{Bar, bar_of, no_bar}
use Rattle.measures.specs.Price.{max_of, min_of}
use Rattle.measures.specs.declared.folds.Column.TheVariants.{Close as CloseOf, High, Low}
use Rattle.measures.specs.Fold.{column_of}
use Rattle.trading_hours.specs.declared.hours.Hours.{Hours}
use Rattle.trading_hours.specs.Hours.{term_of, same_term}
use Rattle.term_events.specs.declared.events.{Carried.Carried, Step.Step}

pub data Event : Type 0 where
  Minute : ℕ → Bar → Event
  Close : Event

-- ---- what is carried from one event to the next: the stamp of the last bar, and the open term bar

abbrev pub carried_with : Option ℕ → Option Bar → Carried
carried_with last pending = record { last = last; pending = pending }

-- nothing came yet
abbrev pub nothing_yet : Carried
nothing_yet = carried_with None None

-- whether a stamp lies in the term of the last one; accepted stamps rise, so another term is a later one
unfoldable pub in_term_of : Hours → ℕ → Option ℕ → ℕ → Bool
in_term_of h m None stamp = false
in_term_of h m (Some last) stamp = same_term (term_of h m last) (term_of h m stamp)

-- ---- one event

-- "first open, last close, and highest and lowest by 01's max and min, begun with its first bar's": a term's bar with the term's next bar
unfoldable pub joined_bar : Bar → Bar → Bar
joined_bar a b = bar_of a.«open» b.close (max_of a.high b.high) (min_of a.low b.low)

-- the open term bar after a bar came, by whether the bar is of its term
abbrev pub opened : Option Bar → Bool → Bar → Option Bar
opened None same b = Some b
opened (Some a) true b = Some (joined_bar a b)
opened (Some a) false b = Some b

-- the term bar that the bar ended: "A term ends when a bar of a later one arrives"
abbrev pub ended_by : Option Bar → Bool → Option Bar
ended_by None same = None
ended_by (Some a) true = None
ended_by (Some a) false = Some a

-- one bar, by whether it is of the term of the last one
abbrev pub step_by : Bool → Carried → ℕ → Bar → Step
step_by same c stamp b = record { ended = ended_by c.pending same; carried = carried_with (Some stamp) (opened c.pending same b) }

unfoldable pub minute_step : Hours → ℕ → Carried → ℕ → Bar → Step
minute_step h m c stamp b = step_by (in_term_of h m c.last stamp) c stamp b

-- one bar or none: "Terms without a bar give none"
abbrev pub open_bars : Option Bar → List Bar
open_bars None = []
open_bars (Some b) = b ∷ []

-- what an event ends, and what is carried on after it: "or the caller closes the day". A close keeps the stamp and leaves nothing open, so that
-- "a bar that comes after a close within its own term begins a term bar of its own"
abbrev pub ended_at : Hours → ℕ → Carried → Event → List Bar
ended_at h m c (Minute stamp b) = open_bars (minute_step h m c stamp b).ended
ended_at h m c Close = open_bars c.pending

abbrev pub carried_at : Hours → ℕ → Carried → Event → Carried
carried_at h m c (Minute stamp b) = (minute_step h m c stamp b).carried
carried_at h m c Close = carried_with c.last None

-- ---- a list of events: the term bars that end in it, and what is left

unfoldable pub ended_of : Hours → ℕ → Carried → List Event → List Bar
ended_of h m c [] = []
ended_of h m c (e ∷ es) = ended_at h m c e ++ ended_of h m (carried_at h m c e) es

unfoldable pub carried_of : Hours → ℕ → Carried → List Event → Carried
carried_of h m c [] = c
carried_of h m c (e ∷ es) = carried_of h m (carried_at h m c e) es

-- the stamp of the last bar in a list of events after a last stamp; a close leaves it
unfoldable pub stamp_after : Option ℕ → List Event → Option ℕ
stamp_after last [] = last
stamp_after last (Minute stamp b ∷ es) = stamp_after (Some stamp) es
stamp_after last (Close ∷ es) = stamp_after last es

-- the stamps of its bars
unfoldable pub stamps_in : List Event → List ℕ
stamps_in [] = []
stamps_in (Minute stamp b ∷ es) = stamp ∷ stamps_in es
stamps_in (Close ∷ es) = stamps_in es

-- the events of a run: one stamp a bar
unfoldable pub minutes_of : List ℕ → List Bar → List Event
minutes_of [] bars = []
minutes_of (s ∷ ss) [] = []
minutes_of (s ∷ ss) (b ∷ bars) = Minute s b ∷ minutes_of ss bars

-- ---- the same by the bars of each term, kept as lists with their stamps: what the bar of a term is made of

-- the bar of a term's bars, oldest first: the first open, the last close, and 01's folds of the highs and lows, begun with the first bar's own
unfoldable pub term_bar : List (ℕ × Bar) → Bar
term_bar [] = no_bar
term_bar (x ∷ xs) =
    let b = x.1 in
    let bars = map (λ y. y.1) xs in
    bar_of b.«open» (foldl (λ p q. q) b.close (column_of CloseOf bars)) (foldl max_of b.high (column_of High bars)) (foldl min_of b.low (column_of Low bars))

-- the bars of a term, unless there is none
abbrev pub term_in : List (ℕ × Bar) → List (List (ℕ × Bar))
term_in [] = []
term_in (x ∷ xs) = (x ∷ xs) ∷ []

-- the bars of each term that ends in a list of events, after a last stamp and the bars of an open term
unfoldable pub ended_terms : Hours → ℕ → Option ℕ → List (ℕ × Bar) → List Event → List (List (ℕ × Bar))
ended_terms h m last bars [] = []
ended_terms h m last bars (Minute s b ∷ es) =
    cond (in_term_of h m last s) (ended_terms h m (Some s) (bars ++ ((s, b) ∷ [])) es) (term_in bars ++ ended_terms h m (Some s) ((s, b) ∷ []) es)
ended_terms h m last bars (Close ∷ es) = term_in bars ++ ended_terms h m last [] es

-- and the bars of the term that is left open
unfoldable pub open_term : Hours → ℕ → Option ℕ → List (ℕ × Bar) → List Event → List (ℕ × Bar)
open_term h m last bars [] = bars
open_term h m last bars (Minute s b ∷ es) = open_term h m (Some s) (cond (in_term_of h m last s) (bars ++ ((s, b) ∷ [])) ((s, b) ∷ [])) es
open_term h m last bars (Close ∷ es) = open_term h m last [] es

abbrev pub open_of : List (ℕ × Bar) → Option Bar
open_of [] = None
open_of (x ∷ xs) = Some (term_bar (x ∷ xs))

-- any two of some bars lie in one and the same term, by their stamps (List.Memᴰ: is one of)
abbrev pub OneTerm : Hours → ℕ → List (ℕ × Bar) → Type 0
OneTerm h m bars = (x y : ℕ × Bar) → Memᴰ x bars → Memᴰ y bars → term_of h m x.0 ≡ term_of h m y.0

-- for every list of events: each ended term bar and the open one is the bar of its term's bars, which lie in one term; a close can cut a term in two
pub record TermBars : Type 0 where
  pub ended : (h : Hours) (m : ℕ) (es : List Event) → ended_of h m nothing_yet es ≡ map term_bar (ended_terms h m None [] es)
  pub left : (h : Hours) (m : ℕ) (es : List Event) → (carried_of h m nothing_yet es).pending ≡ open_of (open_term h m None [] es)
  pub one-term : (h : Hours) (m : ℕ) (es : List Event) (bars : List (ℕ × Bar)) → Memᴰ bars (open_term h m None [] es ∷ ended_terms h m None [] es) → OneTerm h m bars
