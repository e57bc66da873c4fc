-- The tally program, read by read: what it holds between two of them, what the bytes of one leave, and what the input's end prints.
-- That this is what the input's lines print is proved in proofs/Whole.antt.
use Rattle.std.specs.Prelude.{ℕ, ◌+◌, cond, List, [], ◌∷◌, ◌++◌, eqb, length, replicate, Ok, Err, Option, Some, None}
use Rattle.answers.specs.Refusal.{Verdict}
use Rattle.measures.specs.Bar.{Bar, prices_of}
use Rattle.recognisers.specs.Number.{row_bytes}
use Rattle.recognisers.specs.Threshold.{standard_set}
use Rattle.box_record.specs.declared.boxes.BarBox.{BarBox}
use Rattle.bar_box.specs.Box.{fresh_box}
use Rattle.recognisers.specs.Refusal.{leaves}
use Rattle.bar_box.specs.History.{Feed}
use Rattle.tallies.specs.declared.table.TallyRow.{TallyRow}
use Rattle.tallies.specs.Tally.{fresh_tally}
use Rattle.tallies.specs.Feed.{Tallied, lent, tallied_of}
use Rattle.text.specs.LineText.{Line, line_of}
use Rattle.input_lines.specs.Lines.{line_feed, kept_line, content, partial_of}
use Rattle.output_lines.specs.declared.output.Stop.{Stop, TheVariants.By}
use Rattle.output_lines.specs.Output.{goes_on, refusal_line}
use Rattle.label_lines.specs.Output.{stop_by as refused_by}
use Rattle.tally_lines.specs.declared.session.Session.{Session}
use Rattle.tally_lines.specs.Output.{lines_of_tally}

-- ---- bytes read as lines

-- the bars of the lines up to the first that is none, the line that has begun, of which the first bytes are kept, and whether one was refused
pub record Read : Type 0 where
  pub bars : List Bar
  pub line : List ℕ
  pub stop : Option Stop

-- a line's bar, and its refusal
abbrev pub line_bars : Line → List Bar
line_bars (Ok bar) = bar ∷ []
line_bars (Err e) = []

abbrev pub line_stop : Line → Option Stop
line_stop (Ok bar) = None
line_stop (Err why) = Some (refused_by why)

-- the end of a line behind these bars: its bar follows them, and reading goes on; a line that is no bar is refused, and it doesn't
abbrev pub after_line : Line → List Bar → (List Bar → Read) → Read
after_line l bars on = cond (goes_on (line_stop l)) (on (bars ++ line_bars l)) (record { bars = bars; line = []; stop = line_stop l })

-- bytes behind these bars and a line that has begun with the bytes cur
unfoldable pub read_from : List Bar → List ℕ → List ℕ → Read
read_from bars cur [] = record { bars = bars; line = kept_line cur; stop = None }
read_from bars cur (b ∷ bytes) =
    cond (eqb b line_feed) (after_line (line_of cur) bars (λ more. read_from more [] bytes)) (read_from bars (cur ++ (b ∷ [])) bytes)

-- ---- "A line is read as text first, then fed as one bar"

-- a bar is fed by itself, with the tally and a sheet for its row
abbrev pub bar_feed : Bar → Feed
bar_feed bar = lent (prices_of (bar ∷ [])) (replicate row_bytes 0)

-- bars one after the other, up to the first that is refused
unfoldable pub fed_all : BarBox → List TallyRow → List Bar → Tallied
fed_all b tally [] = record { verdict = Ok tt; after = b; tally = tally }
fed_all b tally (bar ∷ bars) = let o = tallied_of b tally (bar_feed bar) in leaves o.verdict o (fed_all o.after o.tally bars)

-- ---- what is held between two reads

-- the line that has begun, the box, the tally, and whether a line was refused
pub record State : Type 0 where
  pub line : List ℕ
  pub box : BarBox
  pub tally : List TallyRow
  pub stop : Option Stop

-- what a session holds, and the session that holds it
abbrev pub state_of : Session → State
state_of s = record { line = content s.line; box = s.held; tally = s.tally; stop = s.stop }

abbrev pub session_of : State → Session
session_of s = record { line = partial_of s.line; held = s.box; tally = s.tally; stop = s.stop }

abbrev pub fresh_state : State
fresh_state = record { line = []; box = fresh_box standard_set; tally = fresh_tally; stop = None }

-- a refused feed refuses its line
abbrev pub stop_by : Verdict → Option Stop → Option Stop
stop_by (Ok tt) stop = stop
stop_by (Err r) stop = Some (By r)

-- what a feed of the bars that were read leaves; behind a bar that is refused, no line has begun
abbrev pub settled_by : Tallied → Read → State
settled_by o read = record { line = leaves o.verdict [] read.line; box = o.after; tally = o.tally; stop = stop_by o.verdict read.stop }

abbrev pub settled : BarBox → List TallyRow → Read → State
settled b tally read = settled_by (fed_all b tally read.bars) read

-- what bytes leave: nothing changes once a line was refused
unfoldable pub state_after : State → List ℕ → State
state_after s bytes = cond (goes_on s.stop) (settled s.box s.tally (read_from [] s.line bytes)) s

-- what reads leave, one after the other
unfoldable pub reads_leave : State → List (List ℕ) → State
reads_leave s [] = s
reads_leave s (bytes ∷ reads) = reads_leave (state_after s bytes) reads

-- ---- what is printed

-- the tally, or the refusal and nothing else; the ordinal of a refused line is one more than the bars before
abbrev pub printed : State → List ℕ
printed s = cond (goes_on s.stop) (lines_of_tally 0 s.tally) (refusal_line (s.box.count + 1) s.stop)

-- at the input's end a line that has begun ends
unfoldable pub closed : State → State
closed s = cond (eqb (length s.line) 0) s (state_after s (line_feed ∷ []))

abbrev pub end_prints : State → List ℕ
end_prints s = printed (closed s)
