-- Lists of events: one after the other, how many term bars end in them, and the events of a run. Assumes nothing.
use Rattle.std.specs.Prelude.{Option, Some, None}
use Prim.Native.Nat.{ℕ, ◌+◌, ◌≤◌}
use mathlib.Core.Path.{◌≡◌, refl, sym}
use mathlib.Core.List.{List, [], ◌∷◌, ◌++◌, append_assoc, append-nil}
use native.Mathlib.Omega.{arith}
use lib.ListN.{length, take, drop, length-append}
use lib.Seq.{take-add}
use Rattle.measures.specs.Bar.{Bar}
use Rattle.trading_hours.specs.declared.hours.Hours.{Hours}
use Rattle.term_events.specs.declared.events.Carried.{Carried}
use Rattle.term_events.specs.Events.{Event, Minute, Close, open_bars, ended_at, carried_at, ended_of, carried_of, stamp_after, minutes_of, minute_step}

pub few-in : (p : Option Bar) → length (open_bars p) ≤ 1
few-in None = omega arith
few-in (Some b) = omega arith

module _ (h : Hours) (m : ℕ) where
  -- ---- one list after the other

  pub carried-append : (c : Carried) (xs ys : List Event) → carried_of h m c (xs ++ ys) ≡ carried_of h m (carried_of h m c xs) ys
  unfolding carried_of
  carried-append c [] ys = refl
  carried-append c (x ∷ xs) ys = carried-append (carried_at h m c x) xs ys

  pub ended-append : (c : Carried) (xs ys : List Event) → ended_of h m c (xs ++ ys) ≡ ended_of h m c xs ++ ended_of h m (carried_of h m c xs) ys
  unfolding ended_of carried_of
  ended-append c [] ys = refl
  ended-append c (x ∷ xs) ys = rw (ended-append (carried_at h m c x) xs ys) (sym (append_assoc (ended_at h m c x) (ended_of h m (carried_at h m c x) xs) (ended_of h m (carried_of h m (carried_at h m c x) xs) ys)))

  -- one event
  pub ended-one : (c : Carried) (e : Event) → ended_of h m c (e ∷ []) ≡ ended_at h m c e
  unfolding ended_of
  ended-one c e = append-nil (ended_at h m c e)

  pub carried-one : (c : Carried) (e : Event) → carried_of h m c (e ∷ []) ≡ carried_at h m c e
  unfolding carried_of
  carried-one c e = refl

  -- the stamp that is kept is that of the last bar
  pub carried-last : (c : Carried) (es : List Event) → (carried_of h m c es).last ≡ stamp_after c.last es
  unfolding carried_of stamp_after minute_step
  carried-last c [] = refl
  carried-last c (Minute s b ∷ es) = carried-last (carried_at h m c (Minute s b)) es
  carried-last c (Close ∷ es) = carried-last (carried_at h m c Close) es

  -- ---- how many end

  few-at : (c : Carried) (e : Event) → length (ended_at h m c e) ≤ 1
  few-at c (Minute s b) = few-in (minute_step h m c s b).ended
  few-at c Close = few-in c.pending

  -- no more than there are events
  pub ended-few : (c : Carried) (es : List Event) → length (ended_of h m c es) ≤ length es
  unfolding ended_of
  ended-few c [] = omega arith
  ended-few c (e ∷ es) =
      let here = few-at c e in
      let later = ended-few (carried_at h m c e) es in
      rw length-append (omega arith)

-- ---- the events of a run

pub length-minutes : (ss : List ℕ) (bars : List Bar) → length ss ≡ length bars → length (minutes_of ss bars) ≡ length ss
unfolding minutes_of
length-minutes [] bars e = refl
length-minutes (s ∷ ss) [] e = absurd (let z : ⊥ = omega arith in z)
length-minutes (s ∷ ss) (b ∷ bars) e = let less : length ss ≡ length bars = omega arith in rw (length-minutes ss bars less)

-- ---- passing some bars more

module _ (h : Hours) (m : ℕ) (c : Carried) (es : List Event) (done passed : ℕ) where
  pub ended-more : ended_of h m c (take (done + passed) es) ≡ ended_of h m c (take done es) ++ ended_of h m (carried_of h m c (take done es)) (take passed (drop done es))
  ended-more = rw (take-add done passed es) (ended-append h m c (take done es) (take passed (drop done es)))

  pub carried-more : carried_of h m c (take (done + passed) es) ≡ carried_of h m (carried_of h m c (take done es)) (take passed (drop done es))
  carried-more = rw (take-add done passed es) (carried-append h m c (take done es) (take passed (drop done es)))
