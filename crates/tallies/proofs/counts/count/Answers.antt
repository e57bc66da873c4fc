-- No count passes 32 bits, since a row's counts add up to the bars. Assumes nothing.
use Prim.Native.Nat.{◌+◌, ◌*◌, ◌/◌, ◌<◌}
use mathlib.Core.Path.{◌∙◌}
use native.Mathlib.Omega.{arith}
use lib.Dec.{eqb}
use lib.ListN.{length, get_or}
use Rattle.recognisers.specs.Number.{recognisers, labels, row_bytes}
use Rattle.tallies.specs.Tally.{counts_of, v1_in, rows_with, counted}
use Rattle.tallies.proofs.TallyLaws.{cell-total, row-adds, gained-same}
use Rattle.tallies.proofs.CountLaws.{count_most}
use Rattle.tallies.proofs.counts.count.Goals as goal

pub add-requires : goal.add-requires
add-requires c =
    let sheet = c.args.sheet.now in
    let tally = c.args.tally in
    let pre = c.requires in
    let numbers = c.count_rows-numbers.ensures in (
      numbers.0,
      λ k known code label.
          let cell = cell-total (counts_of tally k) code in
          let sum = row-adds c.args.n tally pre.2 k (omega (arith, pre.1.0)) in
          let most = count_most (λ i. eqb (v1_in sheet i k) code) (length sheet / row_bytes) in
          rw (numbers.1 k code known label) (omega (arith, cell, sum, most, pre.3)),
    )

pub returns : goal.returns
unfolding counted rows_with
returns c =
    let sheet = c.args.sheet.now in
    let tally = c.args.tally in
    let shaped = c.requires.1 in
    let numbers = c.count_rows-numbers.ensures in
    c.add.ensures
    ∙ gained-same (λ k code. get_or c.count_rows-numbers.result (labels * k + code) 0) (rows_with sheet) tally (λ k code h w.
    let known : k < recognisers = omega (arith, shaped.0) in
    numbers.1 k code known (omega (arith, shaped.1 k known)))
