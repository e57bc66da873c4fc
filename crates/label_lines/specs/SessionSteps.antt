-- What the functions behind a session promise of the end of a line. Serves the code alone; no public contract cites it.
use Rattle.std.specs.Prelude.{ℕ, ◌+◌, ◌≤◌, List, ◌≡◌}
use Rattle.box_record.specs.declared.boxes.BarBox.{BarBox}
use Rattle.output_lines.specs.Output.{line_room, Written}
use Rattle.label_lines.specs.declared.session.Stepped.{Stepped}
use Rattle.label_lines.specs.Output.{Step}

-- the step was taken: its box and whether it stops, and what it prints, written over s from a place on
abbrev pub Takes : Step → BarBox → Stepped → List ℕ → ℕ → List ℕ → Type 0
Takes step box r s at t =
    (box ≡ step.after) × (r.stops ≡ step.stops) × (r.at ≤ at + line_room) × Written s at step.printed t r.at
