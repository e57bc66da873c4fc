use Rattle.measures.specs.Bar.{bars_of}
use Rattle.rule_table.proofs.TableLaws.{Passed}
use Rattle.rule_table.proofs.table.pairs.Given as goal

abbrev pub invariant-loop-k : goal.invariant-loop-k
invariant-loop-k l = Passed l.fn.t l.len l.p (bars_of l.w) (bars_of l.gate) l.pairs l.k
