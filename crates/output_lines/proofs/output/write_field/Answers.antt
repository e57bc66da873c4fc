-- The bytes, and then the one that ends them. Assumes nothing.
use Prim.Native.Nat.{◌+◌}
use mathlib.Core.List.{[], ◌∷◌}
use mathlib.Core.Path.{◌≡◌, refl}
use native.Mathlib.Omega.{arith}
use lib.ListN.{length, length-append}
use Rattle.measures.proofs.Overlay.{overlay-next, overlay-part}
use Rattle.output_lines.proofs.output.write_field.Goals as goal

pub returns : goal.returns
returns c =
    let args = c.args in
    let s = args.s.now in
    let same : c.copy_from_slice.new.self ≡ s = c.copy_from_slice.ensures.after in
    let back = overlay-part args.out.now args.at (args.at + length s) s refl in
    (rw (length-append s (args.end ∷ [])) (omega arith), rw (same, back) (overlay-next args.out.now args.at s args.end _ refl (omega arith)))
