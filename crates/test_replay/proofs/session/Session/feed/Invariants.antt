use Rattle.std.proofs.Common.{length}
use Rattle.test_replay.proofs.session.Session.feed.Given as goal

abbrev pub decreases-loop-rest : goal.decreases-loop-rest
decreases-loop-rest g l = length l.rest
