-- The places are copied from where the scan left them. Assumes nothing.
use Prim.Native.Nat.{◌+◌, ◌-◌}
use mathlib.Core.Path.{◌≡◌, ◌∙◌}
use native.Mathlib.Omega.{arith}
use Rattle.measures.specs.Bar.{bars_of}
use Rattle.measures.specs.Fold.{column_of}
use Rattle.held_extremes.specs.Candidate.{candidates, placed}
use Rattle.held_extremes.proofs.ScanLaws.{scanned-places}
use Rattle.held_extremes.proofs.held_side.Goals as goal

pub returns : goal.returns
returns g c =
    let s = g.S.Side in
    let w = bars_of c.args.w.now in
    let at = c.scan-at.result in
    let twenty : at + 20 - at ≡ 20 = omega arith in
    let places : c.copy_from_slice.new.self ≡ placed (candidates s.beyond c.args.before (column_of s.column w)) = c.copy_from_slice.ensures.after ∙ rw twenty (scanned-places s.beyond s.column c.args.before w c.scan-at.new.places at c.requires.0 c.scan-at.ensures.1) in
    rw (c.price_with-foremost.ensures, places)
