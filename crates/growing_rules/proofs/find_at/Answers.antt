-- What was found stands; where nothing was, the window of n bars decides. Assumes nothing.
use mathlib.Core.Path.{◌≡◌, sym, ap, ◌∙◌}
use Rattle.rule_types.specs.Label.{code_of}
use native.Mathlib.Omega.{arith}
use Rattle.measures.specs.Bar.{bars_of}
use Rattle.middles.specs.MiddleSteps.{middle_at}
use Rattle.growing_rules.proofs.GrowingLaws.{other-code, match-stays, match-hit, match-miss}
use Rattle.middles.proofs.MiddleLaws.{first-at, last-at}
use Rattle.growing_rules.proofs.find_at.Goals as goal

pub check-requires : goal.check-requires
unfolding middle_at
check-requires g c =
    let w = bars_of c.args.w.now in
    let n = c.args.n in
    rw (c.last_bars.ensures.bars, first-at w n, last-at w n (omega arith)) c.requires.3

pub returns-in-Other-check : goal.returns-in-Other-check
returns-in-Other-check g c =
    let args = c.args in
    let miss = rw (c.check.ensures, c.last_bars.ensures.bars) at (ap code_of c.in-Other-check.is) in
    c.requires.2 ∙ sym (match-miss g.S.Shape.label_of (bars_of args.w.now) args.n (omega arith) miss)

pub returns-in_default-check : goal.returns-in_default-check
returns-in_default-check g c =
    let args = c.args in
    let none = rw c.requires.2 at (ap code_of c.in-Other.is) in
    let hit : code_of c.check.result ≡ 0 → ⊥ = λ e. c.in_default-check.not-Other (other-code c.check.result e) in
    simp (c.size_label.ensures, c.check.ensures, c.last_bars.ensures.bars)
    (sym (match-hit g.S.Shape.label_of (bars_of args.w.now) args.n (omega arith) none (rw (c.check.ensures, c.last_bars.ensures.bars) at hit)))

pub returns-in_default : goal.returns-in_default
returns-in_default g c =
    let args = c.args in
    let some : code_of args.found.v1 ≡ 0 → ⊥ = λ e. c.in_default.not-Other (other-code args.found.v1 e) in
    c.requires.2 ∙ sym (match-stays g.S.Shape.label_of (bars_of args.w.now) args.n (omega arith) (rw c.requires.2 at some))
