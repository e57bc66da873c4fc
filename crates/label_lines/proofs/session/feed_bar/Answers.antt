-- A refused feed leaves the box, and the line that is printed is its; an accepted one leaves the box after it. Assumes nothing.
use mathlib.Core.Path.{◌≡◌, refl, sym, ◌∙◌}
use native.Mathlib.Omega.{arith}
use Rattle.measures.specs.Bar.{prices_of, put_bar}
use Rattle.output_lines.specs.Output.{line_room}
use Rattle.output_lines.proofs.OutputLaws.{written}
use Rattle.label_lines.proofs.SessionLaws.{fed-refused, fed-left, fed-accepted}
use Rattle.label_lines.proofs.session.feed_bar.Goals as goal

pub returns-in-Err : goal.returns-in-Err
unfolding put_bar prices_of
returns-in-Err c =
    let b = c.args.held.now in
    let bar = c.args.bar in
    let is = rw c.put_bar.ensures at c.in-Err.ensures in
    let after = is.after in
    let law = fed-refused b bar _ refl _ (sym is.verdict) in
    let left : c.feed.new.b ≡ b = after ∙ fed-left b bar _ refl _ (sym is.verdict) in
    rw (law, ← left) c.refuse.ensures

pub returns-in-Ok : goal.returns-in-Ok
unfolding put_bar prices_of
returns-in-Ok c =
    let args = c.args in
    let is = rw c.put_bar.ensures at c.in-Ok.ensures in
    let law = fed-accepted args.held.now args.bar _ refl (sym is.verdict) in
    let wrote = rw c.from-ordinal.ensures at c.print_rows-at.ensures in
    rw (law, ← is.sheet) (is.after, refl, wrote.within, written line_room _ args.out.now args.at _ _ (omega arith) wrote.printed)
