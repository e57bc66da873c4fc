-- The number of bars up to the judged one is no greater than N, so that 32 bits hold it. Assumes nothing.
use native.Mathlib.Omega.{arith}
use Rattle.measures.proofs.WindowLaws.{up_to-le}
use Rattle.box_record.proofs.looks.judged_ordinal.Goals as goal

pub overflow_cast-result : goal.overflow_cast-result
overflow_cast-result c = omega (arith, c.up_to.ensures, up_to-le c.args.n c.args.di)
