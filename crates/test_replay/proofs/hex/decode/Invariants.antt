use Rattle.test_replay.proofs.Laws.Hex.{Decoding}
use Rattle.test_replay.proofs.hex.decode.Given as goal

abbrev pub invariant-loop-i : goal.invariant-loop-i
invariant-loop-i g l = Decoding g.row.N l.digits l.pairs l.bytes l.i
