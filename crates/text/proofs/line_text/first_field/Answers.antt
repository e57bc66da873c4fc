-- The piece before the first comma, if there is one. Assumes nothing.
use mathlib.Core.Path.{refl}
use Rattle.input_lines.specs.Lines.{comma}
use Rattle.input_lines.proofs.LineLaws.{pieces_whole, pieces-cut}
use Rattle.text.proofs.line_text.first_field.Goals as goal

pub returns-then-k-s : goal.returns-then-k-s
returns-then-k-s c = pieces-cut comma c.args.s.now _ c.piece_end-k.ensures.0 c.if-k-s.true

pub returns-else-k-s : goal.returns-else-k-s
returns-else-k-s c = (refl, pieces_whole comma c.args.s.now _ c.piece_end-k.ensures.0 c.if-k-s.false c.piece_end-k.ensures.1)
