-- The labels program, byte by byte, as the code has it: what it holds between two reads, and what it prints for the bytes of one.
-- That this is what the input's lines print is proved in proofs/Whole.antt.
use Rattle.std.specs.Prelude.{ℕ, suc, ◌-◌, Bool, false, cond, ◌||◌, List, [], ◌∷◌, ◌++◌, ltb, eqb, length, take, drop}
use Rattle.recognisers.specs.Threshold.{standard_set}
use Rattle.box_record.specs.declared.boxes.BarBox.{BarBox}
use Rattle.bar_box.specs.Box.{fresh_box}
use Rattle.input_lines.specs.Lines.{line_feed, kept_line, content, partial_of}
use Rattle.label_lines.specs.declared.session.{Session.Session, Absorbed.Absorbed}
use Rattle.output_lines.specs.Output.{line_room}
use Rattle.label_lines.specs.Output.{line_step}

-- the line that has begun, of which the first bytes are kept, the box, and whether a line was refused
pub record State : Type 0 where
  pub line : List ℕ
  pub box : BarBox
  pub stopped : Bool

-- what a session holds, and the session that holds it
abbrev pub state_of : Session → State
state_of s = record { line = content s.line; box = s.held; stopped = s.stopped }

abbrev pub session_of : State → Session
session_of s = record { line = partial_of s.line; held = s.box; stopped = s.stopped }

abbrev pub fresh_state : State
fresh_state = record { line = []; box = fresh_box standard_set; stopped = false }

-- the line has ended
abbrev pub ended : State → State
ended s = record { line = []; box = (line_step s.box s.line).after; stopped = (line_step s.box s.line).stops }

-- the line has bytes more
abbrev pub grown : State → List ℕ → State
grown s bytes = record { line = kept_line (s.line ++ bytes); box = s.box; stopped = s.stopped }

-- what a byte leaves, and what it prints: nothing once a line was refused
unfoldable pub byte_leaves : State → ℕ → State
byte_leaves s b = cond s.stopped s (cond (eqb b line_feed) (ended s) (grown s (b ∷ [])))

unfoldable pub byte_prints : State → ℕ → List ℕ
byte_prints s b = cond s.stopped [] (cond (eqb b line_feed) (line_step s.box s.line).printed [])

-- the same of a run of bytes
unfoldable pub state_after : State → List ℕ → State
state_after s [] = s
state_after s (b ∷ bytes) = state_after (byte_leaves s b) bytes

unfoldable pub prints : State → List ℕ → List ℕ
prints s [] = []
prints s (b ∷ bytes) = byte_prints s b ++ prints (byte_leaves s b) bytes

-- how many of the bytes are taken in: each, as long as no line was refused and the room left is enough for what a line may print
unfoldable pub used_of : ℕ → State → List ℕ → ℕ
used_of room s [] = 0
used_of room s (b ∷ bytes) =
    cond (s.stopped || ltb room line_room) 0 (suc (used_of (room - length (byte_prints s b)) (byte_leaves s b) bytes))

abbrev pub taken_bytes : ℕ → State → List ℕ → List ℕ
taken_bytes room s bytes = take (used_of room s bytes) bytes

-- a session after the bytes that are taken in, into a buffer of this length
abbrev pub absorbed_of : Session → List ℕ → ℕ → Absorbed
absorbed_of st bytes room =
    record {
      session = session_of (state_after (state_of st) (taken_bytes room (state_of st) bytes));
      used = used_of room (state_of st) bytes;
      written = length (prints (state_of st) (taken_bytes room (state_of st) bytes));
    }

-- what the input's end prints: a line that has begun ends there
unfoldable pub end_prints : State → List ℕ
end_prints s = cond (s.stopped || eqb (length s.line) 0) [] (line_step s.box s.line).printed

-- what an input prints that comes in several reads
unfoldable pub reads_print : State → List (List ℕ) → List ℕ
reads_print s [] = end_prints s
reads_print s (bytes ∷ reads) = prints s bytes ++ reads_print (state_after s bytes) reads

-- the parts of an input that are taken in one after the other, into buffers of these lengths
unfoldable pub parts_of : State → List ℕ → List ℕ → List (List ℕ)
parts_of s [] input = []
parts_of s (room ∷ rooms) input =
    taken_bytes room s input ∷ parts_of (state_after s (taken_bytes room s input)) rooms (drop (used_of room s input) input)
