-- Nothing, or one feed of all bars. Assumes nothing.
use Prim.Native.Nat.{◌≤◌}
use mathlib.Core.Path.{◌≡◌, sym, ◌∙◌}
use native.Mathlib.Omega.{arith}
use borrow.Author.Tests.{eqb-true, eqb-false}
use lib.ListN.{length}
use Rattle.measures.specs.Bar.{bars_of}
use Rattle.tallies.specs.Feed.{lent}
use Rattle.tally_lines.proofs.BatchLaws.{batch-fed, none-fed, fed-by, tallied-full}
use Rattle.tally_lines.proofs.session.feed_all.Goals as goal

pub returns-then-is_empty-clause-fed : goal.returns-then-is_empty-clause-fed
returns-then-is_empty-clause-fed c =
    let args = c.args in
    let none : length args.prices.now ≡ 0 = eqb-true _ _ (sym c.is_empty.ensures ∙ c.if-is_empty.true) in
    sym (none-fed args.held.now args.tally args.prices.now none)

pub returns : goal.returns
returns c =
    let fed = c.feed in
    let args = c.args in
    let b = args.held.now in
    let ps = args.prices.now in
    let size : length c.large_buffer-sheet.result ≡ 65536 = sym c.large_buffer-sheet.ensures in
    let any : length ps ≡ 0 → ⊥ = eqb-false _ _ (sym c.is_empty.ensures ∙ c.if-is_empty.false) in
    let some : 1 ≤ length (bars_of ps) = omega (arith, c.requires.1, any) in
    let is = batch-fed b c.requires.0 args.tally fed.ensures.shaped ps c.large_buffer-sheet.result c.requires.1 some c.requires.3 (omega (arith, c.requires.1, c.requires.2, size)) in
    let f = lent ps c.large_buffer-sheet.result in
    rw (fed.ensures.answer, fed.ensures.after) (record { fed = sym is ∙ fed-by b args.tally f; places = tallied-full b c.requires.0 args.tally f })
