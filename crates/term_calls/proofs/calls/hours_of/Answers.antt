-- Window by window. Assumes nothing.
use Prim.Native.Nat.{◌+◌, ◌/◌}
use mathlib.Core.Path.{◌≡◌}
use native.Mathlib.Omega.{arith}
use lib.ListN.{length}
use Rattle.std.proofs.Common.{rules}
use Rattle.term_calls.specs.TermCalls.{window_in, hours_in}
use Rattle.term_calls.proofs.MadeLaws.{made-by}
use Rattle.term_calls.proofs.calls.hours_of.Goals as goal

pub returns : goal.returns
unfolding hours_in
returns c =
    let half : c.div_ceil.result ≡ (length c.args.numbers.now + 1) / 2 = omega (arith, c.div_ceil.ensures) in
    let made = made-by _ (window_in c.args.numbers.now) _ (λ i y q e. search rules) _ _ c.from_fn.ensures.items in
    rw (made, c.min.ensures, half)
