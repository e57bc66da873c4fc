use Prim.Native.Nat.{◌-◌, ◌≤◌}
use mathlib.Core.Path.{◌≡◌}
use mathlib.Core.List.{◌++◌}
use lib.ListN.{length, take, drop}
use Rattle.measures.specs.Bar.{overlay}
use Rattle.term_calls.specs.Numbers.{written_to}
use Rattle.term_calls.specs.TermCalls.{answers_of, sheet_through}
use Rattle.term_calls.proofs.calls.make_calls.Given as goal

abbrev pub invariant-loop-i : goal.invariant-loop-i
invariant-loop-i l = record {
  prices_in : l.p ≤ length l.prices;
  stamps_in : l.s ≤ length l.stamps;
  rows_in : l.at ≤ length l.sheet;
  same_sheet : length l.sheet ≡ length l.initial.sheet;
  same_answers : length l.answers ≡ length l.initial.answers;
  sheet : sheet_through l.initial.l l.prices l.stamps l.initial.sheet l.sizes ≡ take l.at l.sheet ++ sheet_through l.l (drop l.p l.prices) (drop l.s l.stamps) (drop l.at l.sheet) (drop l.i l.sizes);
  answers : written_to l.initial.answers (answers_of l.initial.l l.prices l.stamps l.initial.sheet l.sizes)
      ≡ overlay l.answers l.i (take (length l.answers - l.i) (answers_of l.l (drop l.p l.prices) (drop l.s l.stamps) (drop l.at l.sheet) (drop l.i l.sizes)));
}
