-- The bars passed are taken in and counted, if that is asked for, and their rows stand on the sheet.
use Prim.Native.Nat.{◌*◌, ◌≤◌}
use mathlib.Core.Path.{◌≡◌}
use lib.ListN.{length, take}
use Rattle.measures.specs.Bar.{bars_of, overlay}
use Rattle.recognisers.specs.Number.{row_bytes}
use Rattle.bar_box.specs.Box.{taken_in}
use Rattle.bar_box.proofs.PartLaws.{rows_from}
use Rattle.part_feeds.proofs.PartLaws.{brought}
use Rattle.part_feeds.proofs.parts.take_parts.Given as goal

abbrev pub invariant-loop-size : goal.invariant-loop-size
invariant-loop-size l = record {
  within : l.done ≤ l.total;
  lent : 4 * l.total ≤ length l.prices;
  whole : row_bytes * l.total ≤ length l.initial.sheet;
  room : length l.sheet ≡ length l.initial.sheet;
  box : l.b ≡ taken_in l.initial.b (take l.done (bars_of l.prices));
  table : l.table ≡ brought l.counts (rows_from l.initial.b (take l.done (bars_of l.prices))) l.initial.table;
  rows : l.sheet ≡ overlay l.initial.sheet 0 (rows_from l.initial.b (take l.done (bars_of l.prices)));
}
