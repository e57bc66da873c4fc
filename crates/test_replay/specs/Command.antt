-- What a line asks for.
use Rattle.std.specs.Prelude.{ℕ, ◌+◌, ◌*◌, Bool, cond, ◌&&◌, Option, Some, None, List, length, ◌==◌, slice_index}
use Rattle.recognisers.specs.Export.{bar_bytes}
use Rattle.test_replay.specs.Hex.{payload_of}
use Rattle.test_replay.specs.Number.{u32_at}
use Rattle.test_replay.specs.Thresholds.{thresholds_of}
use Rattle.test_replay.specs.declared.command.Command.{Command, TheVariants.New, TheVariants.Bar, TheVariants.Thresholds, TheVariants.Call}

-- how many bytes the thresholds and a call are
abbrev pub thresholds_size : ℕ
thresholds_size = 60

abbrev pub call_size : ℕ
call_size = 8

-- the letter n, 110, alone
unfoldable pub is_new : List ℕ → Bool
is_new line = length line == 1 && slice_index line 0 == 110

-- a letter, a space, 32, and so many bytes in hexadecimal
unfoldable pub has_form : List ℕ → ℕ → ℕ → Bool
has_form line letter size =
    (length line == 2 + 2 * size) && (slice_index line 0 == letter && (slice_index line 1 == 32 && length (payload_of line) == size))

-- a call's bytes are the recogniser and the offset
unfoldable pub call_of : List ℕ → Command
call_of payload = Call (u32_at payload 0) (u32_at payload 4)

-- n: a new history; b, 98: a bar; t, 116: the thresholds; c, 99: a call; any other line is bad
unfoldable pub command_of : List ℕ → Option Command
command_of line =
    let payload = payload_of line in
    cond (is_new line) (Some New)
    (cond (has_form line 98 bar_bytes) (Some (Bar payload))
    (cond (has_form line 116 thresholds_size) (Some (Thresholds (thresholds_of payload)))
    (cond (has_form line 99 call_size) (Some (call_of payload)) None)))
