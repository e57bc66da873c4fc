-- From a window of two bars, which has no middle, those that there are enter; three enter from the oldest. Assumes nothing.
use mathlib.Core.Path.{sym, ◌∙◌}
use mathlib.Core.List.{[], ◌∷◌}
use native.Mathlib.Omega.{arith}
use Rattle.measures.specs.Bar.{bars_of}
use Rattle.middles.proofs.MiddleLaws.{at-two, at-end, at-grown, three-at}
use Rattle.middles.proofs.first_middle.Goals as goal

pub returns-then-count-lt5 : goal.returns-then-count-lt5
returns-then-count-lt5 c =
    let w = bars_of c.args.w.now in
    rw (c.grow.ensures, c.grow-one.ensures, c.no_middle-none.ensures, sym (at-two w), at-grown w 2 (omega arith), at-grown w 3 (omega arith)) (sym (at-end w 4 (omega arith)))

pub returns-else-count-lt5 : goal.returns-else-count-lt5
returns-else-count-lt5 c =
    let w = bars_of c.args.w.now in
    let oldest = c.back.result in
    let next = c.back-else-count-lt5.result in
    let one = c.enter_newer-one.ensures [] c.no_middle.ensures in
    let two = c.enter_newer-two.ensures (oldest ∷ []) one in
    c.enter_newer.ensures (oldest ∷ next ∷ []) two
    ∙ rw (c.back.ensures, c.back-else-count-lt5.ensures, c.back-else-count-lt5-2.ensures) (three-at w (omega arith))
