-- The chain counts the digits before the first byte that is none. Assumes nothing.
use mathlib.Core.Path.{◌≡◌}
use native.Mathlib.Omega.{arith}
use borrow.Author.Rules.{rules}
use borrow.Author.Tests.{tests}
use lib.ListN.{length, take}
use Rattle.std.specs.List.{prefix_len}
use Rattle.std.proofs.lemmas.Iterator.{YieldsList-from_slice}
use Rattle.std.proofs.lemmas.Iterator.Consumers.{YieldsList-at, count_from_yields_List}
use Rattle.std.proofs.lemmas.Iterator.Search.{YieldsList-from_take_while}
use Rattle.std.proofs.lemmas.List.Folds.{length-prefix_len}
use Rattle.price_texts.specs.PriceText.{is_digit, digits_in}
use Rattle.input_lines.proofs.RunLaws.{run-prefix, run-most}
use Rattle.price_texts.proofs.price_text.digits_in.Goals as goal

pub returns : goal.returns
returns c =
    let s = c.args.s.now in
    let begun = YieldsList-at c.take_while.ensures.source (YieldsList-from_slice s cc) in
    let counted : c.count.result ≡ length (take (prefix_len is_digit s) s) = count_from_yields_List _ _ c.count.ensures.ran (YieldsList-from_take_while _ is_digit begun c.take_while.ensures.closure c.take_while.ensures.done (λ x b q k. search (rules, tests))) in
    let all : c.count.result ≡ digits_in s = rw (counted, length-prefix_len is_digit s, run-prefix is_digit s) in
    (all, omega (arith, run-most is_digit s))
