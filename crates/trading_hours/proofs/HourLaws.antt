-- Hours, window by window: the place of the window that has a minute, and windows that rise. Assumes nothing.
use Prim.Native.Nat.{ℕ, zero, suc, ◌+◌, ◌-◌, ◌≤◌, ◌<◌}
use mathlib.Core.Path.{◌≡◌, refl, sym, ◌∙◌}
use mathlib.Core.Bool.{Bool, true, false, cond, ◌||◌}
use mathlib.Core.List.{List, [], ◌∷◌, append-nil}
use native.Mathlib.Omega.{arith}
use native.Mathlib.Decide.{dec_le}
use native.Mathlib.Numerals.{add-one}
use lib.Dec.{ltb, leb-suc-suc}
use lib.ListN.{length, get_or, take, drop, replicate, drop_of_length-le}
use lib.Seq.{drop-cons, take_at, take_all, length-take-le}
use borrow.Author.Tests.{lt-ltb}
use Rattle.std.specs.List.{list_any, find}
use Rattle.std.specs.Prelude.{Some}
use Rattle.std.specs.Option.{UnwrapsOrElse}
use Rattle.trading_hours.specs.declared.hours.DayWindow.{DayWindow}
use Rattle.trading_hours.specs.declared.hours.Hours.{Hours}
use Rattle.trading_hours.specs.Hours.{has, any_has, place_of, no_window, rising_from, follows, most_windows, windows_of, with_zeros, term_length}
pub use Rattle.rule_types.proofs.ListLaws.{both}

-- ---- the windows that have a minute, as the library looks for them

pub any-list : (ws : List DayWindow) (x : ℕ) → any_has ws x ≡ list_any (λ w. has w x) ws
unfolding any_has
any-list [] x = refl
any-list (w ∷ ws) x = rw (any-list ws x)

-- the first that has it, or else a window of which P holds, stands at its place
pub found-place : (P : DayWindow → Type 0) → ((d : DayWindow) → P d → d ≡ no_window) → (ws : List DayWindow) (x : ℕ) (r : DayWindow)
    → UnwrapsOrElse (find (λ w. has w x) ws) P r → r ≡ get_or ws (place_of ws x) no_window
unfolding place_of
found-place P none [] x r u = none r u
found-place P none (w ∷ ws) x r u = go (has w x) u (found-place P none ws x r)
  where
    go : (t : Bool) → UnwrapsOrElse (cond t (Some w) (find (λ w. has w x) ws)) P r
        → (UnwrapsOrElse (find (λ w. has w x) ws) P r → r ≡ get_or ws (place_of ws x) no_window) → r ≡ get_or (w ∷ ws) (cond t 0 (suc (place_of ws x))) no_window
    go true v rest = v
    go false v rest = rest v

-- a window has the minute exactly if its place is one of them
pub any_place : (ws : List DayWindow) (x : ℕ) → any_has ws x ≡ ltb (place_of ws x) (length ws)
unfolding any_has place_of
any_place [] x = refl
any_place (w ∷ ws) x = go (has w x) (any_place ws x)
  where
    go : (t : Bool) → any_has ws x ≡ ltb (place_of ws x) (length ws) → (t || any_has ws x) ≡ ltb (cond t 0 (suc (place_of ws x))) (suc (length ws))
    go true e = sym (lt-ltb 0 (suc (length ws)) (omega arith))
    go false e = e ∙ sym (leb-suc-suc (suc (place_of ws x)) (length ws))

-- ---- windows that rise

module _ (at : ℕ) (ws : List DayWindow) (i : ℕ) (h : i < length ws) where
  pub rising-next : follows at (get_or ws i no_window) ≡ true → rising_from at (drop i ws) ≡ rising_from (get_or ws i no_window).to (drop (i + 1) ws)
  unfolding rising_from
  rising-next e = rw (add-one i, drop-cons ws i no_window h) (simp e)

  pub rising-not : follows at (get_or ws i no_window) ≡ false → rising_from at (drop i ws) ≡ false
  unfolding rising_from
  rising-not e = rw (drop-cons ws i no_window h) (simp e)

pub rising-past : (at : ℕ) (ws : List DayWindow) (i : ℕ) → length ws ≤ i → rising_from at (drop i ws) ≡ true
unfolding rising_from
rising-past at ws i h = rw (drop_of_length-le ws h)

-- ---- the term lengths

pub term-some : (m : ℕ) → term_length m ≡ true → 1 ≤ m
unfolding term_length
term-some zero e = let z : ◌≡◌ {A = Bool} false true = e in absurd (let w : ◌≡◌ {A = ℕ} 0 1 = cc in let z' : ⊥ = omega arith in z')
term-some (suc m) e = omega arith

-- ---- zeros in the unused places

-- the windows in use stay
pub zeros-windows : (h : Hours) → length h.windows ≡ most_windows → windows_of (with_zeros h) ≡ windows_of h
unfolding with_zeros
zeros-windows h full =
    let n = h.count in
    let used = take n h.windows in
    elim (dec_le n most_windows) [
      | yes k ↦ take_at used (replicate (most_windows - n) no_window) n (length-take-le n h.windows (omega arith))
      | no k ↦ (let none : most_windows - n ≡ 0 = omega arith in
          let all : used ≡ h.windows = take_all n h.windows (omega arith) in
          rw (none, append-nil used, all) all)
    ]
