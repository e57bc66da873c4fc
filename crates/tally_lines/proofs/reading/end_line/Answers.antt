-- Each answer of the reader: its bar behind the others, or its refusal. Assumes nothing.
use Prim.Native.Nat.{◌*◌}
use mathlib.Core.Path.{refl, sym, ◌∙◌}
use native.Mathlib.Omega.{arith}
use borrow.Author.Rules.{rules}
use Rattle.measures.specs.Bar.{prices_of}
use Rattle.measures.proofs.Overlay.{overlay-none}
use Rattle.measures.proofs.PriceLaws.{put-room}
use Rattle.tally_lines.proofs.reading.end_line.Goals as goal

pub returns-in-Ok : goal.returns-in-Ok
returns-in-Ok c =
    let args = c.args in
    let says = sym c.read_partial.ensures.answer ∙ c.in-Ok.is in
    rw says (c.begin.ensures, refl, refl, refl, c.put_bar.ensures ∙ put-room args.prices.now args.n c.in-Ok.bar c.requires)

pub returns-in-Err : goal.returns-in-Err
unfolding prices_of
returns-in-Err c =
    let args = c.args in
    let says = sym c.read_partial.ensures.answer ∙ c.in-Err.is in
    rw says (c.begin.ensures, refl, omega arith, search rules, sym (overlay-none args.prices.now (4 * args.n)))
