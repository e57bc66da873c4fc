-- The refusal's line, for which there is room. Assumes nothing.
use mathlib.Core.Path.{refl}
use native.Mathlib.Omega.{arith}
use Rattle.output_lines.specs.Output.{longest_refusal}
use Rattle.output_lines.proofs.OutputLaws.{written}
use Rattle.label_lines.proofs.session.refuse.Goals as goal

pub returns : goal.returns
returns c =
    let args = c.args in
    let wrote = rw c.from-ordinal.ensures at c.print_refusal-at.ensures in
    (refl, refl, omega (arith, wrote.within), written longest_refusal _ args.out.now args.at _ _ (omega arith) wrote.printed)
