-- At ten times a threshold of 01's the dojis are 01's, and so are the pairs and calls of 13 and 14. Assumes nothing.
use Prim.Native.Nat.{ℕ, ◌*◌, ◌≤◌}
use mathlib.Core.Path.{ap}
use lib.Ieee.{Float}
use lib.ListN.{length}
use native.Mathlib.Omega.{arith}
use borrow.Author.Tests.{le-leb}
use Rattle.measures.specs.Bar.{doji_above, doji_of}
use Rattle.rule_types.specs.Number.{most_whole, most_tenths}
use Rattle.rule_table.proofs.SameDojis.{tenth, same-13, same-14}
use Rattle.recognisers.specs.Call.{plain_answer}
use Rattle.recognisers.specs.SameDojis.{SameDojis}

pub same-dojis : (k : ℕ) → k ≤ most_whole → SameDojis k
unfolding doji_of plain_answer
same-dojis k h =
    record {
      within = le-leb (10 * k) most_tenths (omega arith);
      doji = λ b. ap (λ (th : Float). doji_above th b) (tenth k h);
      pair-13 = same-13 k h;
      pair-14 = same-14 k h;
      call-13 = λ t whole history di e. rw (same-13 k h t (length history) history di e);
      call-14 = λ t whole history di e. rw (same-14 k h t (length history) history di e);
    }
