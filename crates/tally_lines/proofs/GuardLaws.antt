-- The tests of loops over bytes. Assumes nothing.
use Rattle.std.specs.Prelude.{Option, Some, None, is_some, not}
use Prim.Native.Nat.{ℕ, ◌<◌}
use mathlib.Core.Bool.{Bool, true, false, ◌&&◌, true≢false}
use mathlib.Core.Path.{◌≡◌, refl, sym}
use borrow.Author.Tests.{ltb-true}
use lib.Dec.{ltb}
use Rattle.input_lines.proofs.RunLaws.{both}
use Rattle.output_lines.specs.declared.output.Stop.{Stop}
use Rattle.output_lines.specs.Output.{goes_on}

-- a test that no line was refused says whether reading goes on
pub none-goes_on : (stop : Option Stop) (t : Bool) → is_some stop ≡ not t → goes_on stop ≡ t
none-goes_on None true e = refl
none-goes_on None false e = absurd (true≢false (sym e))
none-goes_on (Some s) true e = absurd (true≢false e)
none-goes_on (Some s) false e = refl

-- each test of a turn that is taken
pub turn-goes_on : (used len bars most : ℕ) (going : Bool) → ((ltb used len && ltb bars most) && going) ≡ true → (used < len) × (bars < most) × (going ≡ true)
turn-goes_on used len bars most going e =
    let all = both (ltb used len && ltb bars most) going e in
    let two = both (ltb used len) (ltb bars most) all.0 in
    (ltb-true used len two.0, ltb-true bars most two.1, all.1)
