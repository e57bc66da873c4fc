-- The loop's invariant: the counts passed have gained their numbers. Assumes nothing.
use Prim.Native.Nat.{ℕ, ◌+◌, ◌*◌, ◌<◌}
use mathlib.Core.Path.{refl}
use native.Mathlib.Omega.{arith}
use lib.ListN.{length, get_or}
use Rattle.recognisers.specs.Number.{labels}
use Rattle.tallies.specs.Tally.{by_place}
use Rattle.tallies.proofs.PlaceLaws.{changed-at, changed-next}
use Rattle.tallies.proofs.counts.add_row.Goals as goal

pub loop-c-init : goal.loop-c-init
unfolding by_place
loop-c-init c = (c.well_formed.0.1.1.0.1.0.1, refl)

pub overflow_add-counts-in-loop-c : goal.overflow_add-counts-in-loop-c
overflow_add-counts-in-loop-c c =
    let numbers = c.args.numbers.now in
    let k = c.args.k in
    let had = changed-at (λ i count. count + get_or numbers (labels * k + i) 0) c.args.row.counts c.loop-c.c 0 (omega (arith, c.loop-c.invariant.0)) in
    let fits = c.requires.2 c.loop-c.c (omega arith) in
    rw (c.loop-c.invariant.1, had) (record { fits = fits })

pub loop-c-preserved : goal.loop-c-preserved
loop-c-preserved c =
    let numbers = c.args.numbers.now in
    let k = c.args.k in
    let counts = c.args.row.counts in
    let inside : c.loop-c.c < length counts = omega (arith, c.loop-c.invariant.0) in
    let change : ℕ → ℕ → ℕ = λ i count. count + get_or numbers (labels * k + i) 0 in
    (c.loop-c.invariant.0, rw (c.loop-c.invariant.1, changed-at change counts c.loop-c.c 0 inside) (changed-next change counts c.loop-c.c 0 inside))
