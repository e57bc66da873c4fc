-- Laws of what a line does to a session. Assumes nothing.
use Rattle.std.proofs.Common.{◌≡◌, ℕ, ◌+◌, ◌<◌, ◌≤◌, true, false, Option, Result, Ok, Err, List, ◌++◌, length, nat_lt, refl, sym, arith, le-leb, le-ltb}
use mathlib.Core.Bool.{false≢true}
use borrow.Author.Tests.{lt-leb}
use Rattle.std.specs.Result.{is_ok, IsOk, OnOk, OnErr, result_or}
use Rattle.arrayvec.specs.ArrayVec.{ArrayVec}
use Rattle.test_replay.specs.Buffer.{capacity}
use Rattle.recognisers.specs.Export.{bar_bytes}
use Rattle.test_replay.specs.Command.{command_of}
use Rattle.test_replay.specs.Session.{with_bar, history_after, thresholds_after, is_refused, Executes}
use Rattle.test_replay.specs.declared.session.Session.{Session}
use Rattle.test_replay.specs.declared.session.Stop.{Stop, TheVariants.BadLine}
use Rattle.test_replay.specs.declared.command.Command.{Command}

-- a bar is appended where there is room, and only there
pub bar-kept : {E : Type 0} (history bar new : List ℕ) (r : Result (Unit {0}) E) → length bar ≡ bar_bytes → is_ok r ≡ true
    → (IsOk r → length history + length bar ≤ capacity) → OnOk r (new ≡ history ++ bar)
    → (new ≡ with_bar history bar) × (nat_lt capacity (length history + bar_bytes) ≡ false)
unfolding with_bar
bar-kept history bar new (Ok x) size ok room same =
    let fits : length history + bar_bytes ≤ capacity = omega (arith, room ok) in
    (rw (le-leb _ _ fits) same, le-ltb _ _ fits)
bar-kept history bar new (Err e) size ok room same = absurd (false≢true ok)

pub bar-refused : {E : Type 0} (old bar : List ℕ) (history new : ArrayVec ℕ) (r : Result (Unit {0}) E) → old ≡ history.items
    → length bar ≡ bar_bytes → is_ok r ≡ false → (length old + length bar ≤ capacity → IsOk r) → OnErr r (new ≡ history)
    → new.items ≡ with_bar old bar
unfolding with_bar
bar-refused old bar history new (Ok x) e size ok room same = absurd (false≢true (sym ok))
bar-refused old bar history new (Err y) e size ok room same =
    let full : length old + length bar ≤ capacity → ⊥ = λ fits. false≢true (room fits) in
    let less : capacity < length old + bar_bytes = omega arith in
    rw (same, lt-leb _ _ less) (sym e)

-- what `or` gives, where it gives an error in place of any other
pub or-ok : {E : Type 0} (r : Result (Unit {0}) E) (x : Unit {0}) (stop : Stop) → Ok x ≡ result_or r (Err stop) → is_ok r ≡ true
or-ok (Ok y) x stop e = refl
or-ok (Err y) x stop e = cc

pub or-err : {E : Type 0} (r : Result (Unit {0}) E) (made stop : Stop) → Err made ≡ result_or r (Err stop) → (is_ok r ≡ false) × (made ≡ stop)
or-err (Ok y) made stop e = absurd (cc)
or-err (Err y) made stop e = (refl, cc)

-- a line of which it is known what it asks for
pub executes : (before after : Session) (line : List ℕ) (result : Result (Unit {0}) Stop) (k : Option Command) → k ≡ command_of line
    → after.history.items ≡ history_after k before.history.items
    → after.thresholds ≡ thresholds_after k before.thresholds
    → (is_refused k before.history.items ≡ true → result ≡ Err (BadLine after.ended))
    → Executes before line result after
executes before after line result k e h t stops =
    let e' = sym e in record { history = rw e' h; thresholds = rw e' t; stops = rw e' stops }
