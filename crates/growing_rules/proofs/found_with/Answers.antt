-- Before the end what was found is the search's; a window that is not tried, or fails, adds nothing. Assumes nothing.
use Prim.Native.Nat.{◌+◌}
use mathlib.Core.Path.{sym, ◌∙◌}
use mathlib.Core.Bool.{and-eq-true_iff}
use native.Mathlib.Omega.{arith}
use borrow.Author.Tests.{ltb-true}
use lib.Dec.{ltb}
use Rattle.measures.specs.Bar.{bars_of}
use Rattle.growing_rules.proofs.GrowingNeeds.{found_at, found-stays}
use Rattle.growing_rules.proofs.found_with.Goals as goal

pub find_at-requires : goal.find_at-requires
find_at-requires g c =
    let a = c.args in
    let fits = (and-eq-true_iff (ltb a.n a.end) a.may).0 c.if-n-end.true in
    let before = ltb-true a.n a.end fits.0 in
    (c.requires.0, c.requires.1, c.requires.2 ∙ found_at g.S.Shape.label_of a.end (bars_of a.w.now) a.n a.n (omega (arith, before)), sym c.requires.3 ∙ fits.1)

pub returns-then-n-end : goal.returns-then-n-end
returns-then-n-end g c =
    let a = c.args in
    let fits = (and-eq-true_iff (ltb a.n a.end) a.may).0 c.if-n-end.true in
    let before = ltb-true a.n a.end fits.0 in
    c.find_at.ensures ∙ sym (found_at g.S.Shape.label_of a.end (bars_of a.w.now) (a.n + 1) (a.n + 1) (omega (arith, before)))

pub returns-else-n-end : goal.returns-else-n-end
returns-else-n-end g c =
    let a = c.args in
    c.requires.2 ∙ sym (found-stays g.S.Shape.label_of a.end (bars_of a.w.now) a.n c.requires.0 a.may c.requires.4 c.if-n-end.false)
