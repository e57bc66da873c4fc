-- What the functions behind a session promise of the bytes that they read and of the bars that they feed. Serves the code alone; no public
-- contract cites it.
use Rattle.std.specs.Prelude.{ℕ, ◌+◌, List, length, Result, Ok, Err}
use Rattle.answers.specs.declared.refusals.Refusal.{Refusal}
use Rattle.box_record.specs.declared.boxes.BarBox.{BarBox}
use Rattle.tallies.specs.declared.table.TallyRow.{TallyRow}
use Rattle.tallies.specs.Feed.{Tallied, verdict_in}
use Rattle.input_lines.specs.Lines.{partial_of}
use Rattle.tally_lines.specs.declared.reading.Gathered.{Gathered}
use Rattle.tally_lines.specs.Session.{Read}

-- what reading so many bytes gathers, behind n bars
abbrev pub gathered_of : ℕ → ℕ → Read → Gathered
gathered_of used n read = record { line = partial_of read.line; used = used; bars = n + length read.bars; stop = read.stop }

-- the tally that a feed's answer leaves, where this one was before: a refusal leaves it
abbrev pub tally_in : Result (List TallyRow) Refusal → List TallyRow → List TallyRow
tally_in (Ok tally) before = tally
tally_in (Err r) before = before

-- what a feed leaves that answers so, with this box after it and this tally before it
abbrev pub fed_by : Result (List TallyRow) Refusal → BarBox → List TallyRow → Tallied
fed_by answer b before = record { verdict = verdict_in answer; after = b; tally = tally_in answer before }
