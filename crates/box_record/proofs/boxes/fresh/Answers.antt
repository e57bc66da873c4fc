-- The code is the definition. Assumes nothing.
use mathlib.Core.Path.{refl}
use Rattle.box_record.specs.Box.{empty_places}
use Rattle.box_record.proofs.boxes.fresh.Goals as goal

pub returns : goal.returns
unfolding empty_places
returns c = refl
