-- The place of the first separator, or all. `search` takes what the last call of the chain promises, whichever call that is. Assumes nothing.
use Prim.Native.Nat.{ℕ}
use mathlib.Core.Path.{◌≡◌}
use borrow.Author.Rules.{rules}
use borrow.Author.Tests.{tests}
use lib.Dec.{eqb}
use Rattle.std.specs.List.{position}
use Rattle.std.proofs.lemmas.Iterator.{YieldsList-from_slice}
use Rattle.std.proofs.lemmas.Iterator.Search.{position_from_yields_List}
use Rattle.input_lines.proofs.RunLaws.{first-place}
use Rattle.input_lines.proofs.lines.piece_end.Goals as goal

pub returns : goal.returns
returns c =
    let sep = c.args.separator in
    let s = c.args.s.now in
    let found : c.position.result ≡ position (λ (b : ℕ). eqb b sep) s = position_from_yields_List (λ (b : ℕ). eqb b sep) _ _ _ c.position.ensures.ran (YieldsList-from_slice s cc) (λ x b q k. search (rules, tests)) in
    let most = first-place sep s in
    search (rules, found, most.0, most.1)
