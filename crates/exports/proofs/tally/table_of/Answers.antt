-- Row by row. Assumes nothing.
use Prim.Native.Nat.{ℕ, ◌+◌, ◌*◌}
use mathlib.Core.List.{List}
use mathlib.Core.Path.{◌≡◌, refl, ap, ◌∙◌}
use lib.ListN.{get_or, replicate}
use Rattle.std.proofs.Common.{rules}
use Rattle.recognisers.specs.Number.{recognisers, labels}
use Rattle.tallies.specs.declared.table.TallyRow.{TallyRow}
use Rattle.tallies.specs.Tally.{row_of_counts, fresh_tally, gain_row}
use Rattle.term_calls.proofs.MadeLaws.{made-by}
use Rattle.exports.specs.Tally.{tally_in}
use Rattle.exports.proofs.NumberLaws.{places-made}
use Rattle.exports.proofs.tally.table_of.Goals as goal

pub returns : goal.returns
unfolding tally_in fresh_tally
returns c =
    let gain : ℕ → List ℕ → List ℕ = λ k counts. gain_row (λ i. get_or c.args.numbers.now (labels * k + i) 0) counts in
    let row : ℕ → TallyRow = λ k. row_of_counts (gain k (replicate labels 0)) in
    made-by _ row _ (λ k y q e. let counts : y.counts ≡ gain k (replicate labels 0) = search rules in (search rules, ap row_of_counts counts)) _ _ c.from_fn.ensures.items
    ∙ places-made (λ k r. row_of_counts (gain k r.counts)) row (row_of_counts (replicate labels 0)) 0 recognisers (λ k. refl)
