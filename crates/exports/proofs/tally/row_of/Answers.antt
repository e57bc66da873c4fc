-- Count by count. Assumes nothing.
use Prim.Native.Nat.{ℕ, ◌+◌, ◌*◌}
use mathlib.Core.Path.{◌∙◌}
use native.Mathlib.Nat.{zero-add}
use lib.ListN.{get_or}
use Rattle.std.proofs.Common.{rules}
use Rattle.recognisers.specs.Number.{labels}
use Rattle.term_calls.proofs.MadeLaws.{made-by}
use Rattle.exports.proofs.NumberLaws.{places-made}
use Rattle.exports.proofs.tally.row_of.Goals as goal

pub returns : goal.returns
returns c =
    let number : ℕ → ℕ = λ i. get_or c.args.numbers.now (labels * c.args.k + i) 0 in
    made-by _ number _ (λ i y q e. search rules) _ _ c.from_fn.ensures.items ∙ places-made (λ i count. count + number i) number 0 0 labels (λ i. zero-add (number i))
