-- `buffer::append` meets its contract. Assumes nothing.
use Rattle.std.proofs.Common.{arith}
use Rattle.std.proofs.lemmas.Grind.{common_steps}
use Rattle.test_replay.specs.Buffer.{capacity}
use Rattle.test_replay.proofs.Laws.Lists.{append_room}
use Rattle.test_replay.proofs.buffer.append.Goals as goal

pub returns : goal.returns
returns c =
    let a = c.args in
    let room = c.remaining_capacity in
    let all = append_room capacity room.result c.min-n.result a.buffer.now.items a.s.now room.ensures c.min-n.ensures in
    grind (arith, common_steps, all)
