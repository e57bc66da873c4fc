-- The loop's invariant: the rows of the bars passed stand from the place on. Assumes nothing.
use Prim.Native.Nat.{◌≤◌}
use mathlib.Core.Path.{refl, sym, ◌∙◌}
use native.Mathlib.Omega.{arith}
use borrow.Author.Rules.{rules}
use lib.ListN.{length, drop, length-drop}
use lib.Seq.{take_all}
use Rattle.measures.specs.Bar.{bars_of}
use Rattle.bar_box.specs.Sheet.{row_of, rows_of}
use Rattle.measures.proofs.Overlay.{overlay-none}
use Rattle.bar_box.proofs.RowLaws.{overlay-row}
use Rattle.bar_box.proofs.sheets.label_run.Goals as goal

pub loop-j-init : goal.loop-j-init
unfolding rows_of
loop-j-init c = let args = c.args in (search rules, refl, sym (overlay-none args.sheet.now args.at))

pub loop-j-preserved : goal.loop-j-preserved
unfolding row_of
loop-j-preserved c =
    let args = c.args in
    let inv = c.loop-j.invariant in
    let bars = bars_of args.prices.now in
    let n = c.count.ensures in (
      search rules,
      c.write_row.auto.sheet ∙ inv.1,
      c.write_row.ensures ∙ rw (c.newest_pairs-pairs.ensures, c.first_bars-history.ensures.bars, inv.2) (overlay-row args.t args.len bars args.first c.loop-j.j args.sheet.now args.at (omega arith) (omega arith)),
    )

pub returns : goal.returns
returns c =
    let args = c.args in
    let new = drop args.first (bars_of args.prices.now) in
    let all : length new ≤ c.loop-j.j = rw length-drop (omega (arith, c.count.ensures)) in
    rw (take_all c.loop-j.j new all) at c.loop-j.invariant.2
