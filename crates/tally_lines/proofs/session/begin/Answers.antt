-- The box made has the standard set. Assumes nothing.
use mathlib.Core.Path.{◌≡◌}
use Rattle.recognisers.specs.Threshold.{standard_set}
use Rattle.bar_box.specs.Box.{fresh_box}
use Rattle.bar_box.proofs.PartLaws.{made-valid}
use Rattle.bar_box.proofs.Demand3.{standard-valid}
use Rattle.tally_lines.proofs.session.begin.Goals as goal

pub returns : goal.returns
returns c =
    let box : c.make-made.result.after ≡ fresh_box standard_set = rw (c.make-made.ensures.answer, c.standard.ensures) (made-valid standard_set standard-valid) in
    rw (c.begin.ensures, box, c.fresh.ensures)
