-- A part that begins and ends with a bar.
use native.Mathlib.Omega.{arith}
use Rattle.windows.proofs.RunLaws.{length-bars}
use Rattle.windows.proofs.part.Goals as goal

pub overflow_mul-a : goal.overflow_mul-a
overflow_mul-a c = omega (arith, length-bars c.args.prices.now)

pub overflow_mul-e : goal.overflow_mul-e
overflow_mul-e c = omega (arith, length-bars c.args.prices.now)

pub offset_bounds-prices-a : goal.offset_bounds-prices-a
offset_bounds-prices-a c = omega (arith, length-bars c.args.prices.now)

pub slice_bounds-result-end : goal.slice_bounds-result-end
slice_bounds-result-end c = omega (arith, length-bars c.args.prices.now)
