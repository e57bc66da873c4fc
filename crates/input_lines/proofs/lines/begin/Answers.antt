-- The array is all zeros. Assumes nothing.
use mathlib.Core.List.{[]}
use mathlib.Core.Path.{refl}
use Rattle.input_lines.proofs.LineLaws.{partial-is}
use Rattle.input_lines.proofs.lines.begin.Goals as goal

pub returns : goal.returns
returns c = partial-is [] _ 0 refl refl
