-- What a line does to a session.
use Rattle.std.specs.Prelude.{◌≡◌, ℕ, ◌+◌, Bool, true, false, cond, Option, Some, None, Result, Err, List, [], ◌++◌, length, nat_le, nat_lt}
use Rattle.test_replay.specs.Buffer.{capacity}
use Rattle.recognisers.specs.Export.{bar_bytes}
use Rattle.test_replay.specs.Command.{command_of}
use Rattle.test_replay.specs.declared.command.Command.{Command, TheVariants.New, TheVariants.Bar, TheVariants.Thresholds, TheVariants.Call}
use Rattle.test_replay.specs.declared.session.Session.{Session}
use Rattle.test_replay.specs.declared.session.Stop.{Stop, TheVariants.BadLine}
use Rattle.thresholds.specs.declared.Thresholds as declared

-- one bar more, where there is room
unfoldable pub with_bar : List ℕ → List ℕ → List ℕ
with_bar history bar = cond (nat_le (length history + bar_bytes) capacity) (history ++ bar) history

-- the history after a line that asks for this
unfoldable pub history_after : Option Command → List ℕ → List ℕ
history_after (Some New) history = []
history_after (Some (Bar bar)) history = with_bar history bar
history_after (Some (Thresholds t)) history = history
history_after (Some (Call recogniser offset)) history = history
history_after None history = history

-- the thresholds after it
unfoldable pub thresholds_after : Option Command → declared.Thresholds → declared.Thresholds
thresholds_after (Some New) before = before
thresholds_after (Some (Bar bar)) before = before
thresholds_after (Some (Thresholds t)) before = t
thresholds_after (Some (Call recogniser offset)) before = before
thresholds_after None before = before

-- a line is refused that asks for nothing, or for a bar for which the history has no room
unfoldable pub is_refused : Option Command → List ℕ → Bool
is_refused (Some New) history = false
is_refused (Some (Bar bar)) history = nat_lt capacity (length history + bar_bytes)
is_refused (Some (Thresholds t)) history = false
is_refused (Some (Call recogniser offset)) history = false
is_refused None history = true

-- a line's step: a line that is refused stops the replay, and is named
pub record Executes (before : Session) (line : List ℕ) (result : Result (Unit {0}) Stop) (after : Session) : Type 0 where
  pub history : after.history.items ≡ history_after (command_of line) before.history.items
  pub thresholds : after.thresholds ≡ thresholds_after (command_of line) before.thresholds
  pub stops : is_refused (command_of line) before.history.items ≡ true → result ≡ Err (BadLine after.ended)
