-- Four prices, read from left to right: the first that is none is named. Assumes nothing.
use borrow.Author.Rules.{rules}
use mathlib.Core.Path.{◌≡◌, sym, ◌∙◌}
use Rattle.std.specs.Prelude.{Err}
use Rattle.recognisers.specs.Refusal.{first_true}
use Rattle.text.specs.declared.line_text.LineError.TheVariants.{BadPrice}
use Rattle.text.specs.LineText.{Line, all_prices, prices_before, line_verdict, said_of, fields_line}
use Rattle.text.proofs.LineTextLaws.{refused_is, priced_is}
use Rattle.text.proofs.line_text.prices.Goals as goal

pub returns-in_err-price_at : goal.returns-in_err-price_at
unfolding all_prices prices_before fields_line said_of line_verdict first_true
returns-in_err-price_at c =
    let none = refused_is _ 1 _ (sym c.price_at.ensures ∙ c.in_err-price_at.was) in
    let said : ◌≡◌ {A = Line} c.from_residual.result (Err (BadPrice 1)) = search (rules, none.1) in
    rw (said, none.0)

pub returns-in_err-price_at-2 : goal.returns-in_err-price_at-2
unfolding all_prices prices_before fields_line said_of line_verdict first_true
returns-in_err-price_at-2 c =
    let open-is = priced_is _ 1 _ (sym c.price_at.ensures ∙ c.in_ok-price_at.was) in
    let none = refused_is _ 2 _ (sym c.price_at-2.ensures ∙ c.in_err-price_at-2.was) in
    let said : ◌≡◌ {A = Line} c.from_residual-in_err-price_at-2.result (Err (BadPrice 2)) = search (rules, none.1) in
    rw (said, open-is, none.0)

pub returns-in_err-price_at-3 : goal.returns-in_err-price_at-3
unfolding all_prices prices_before fields_line said_of line_verdict first_true
returns-in_err-price_at-3 c =
    let open-is = priced_is _ 1 _ (sym c.price_at.ensures ∙ c.in_ok-price_at.was) in
    let close-is = priced_is _ 2 _ (sym c.price_at-2.ensures ∙ c.in_ok-price_at-2.was) in
    let none = refused_is _ 3 _ (sym c.price_at-3.ensures ∙ c.in_err-price_at-3.was) in
    let said : ◌≡◌ {A = Line} c.from_residual-in_err-price_at-3.result (Err (BadPrice 3)) = search (rules, none.1) in
    rw (said, open-is, close-is, none.0)

pub returns-in_err-price_at-4 : goal.returns-in_err-price_at-4
unfolding all_prices prices_before fields_line said_of line_verdict first_true
returns-in_err-price_at-4 c =
    let open-is = priced_is _ 1 _ (sym c.price_at.ensures ∙ c.in_ok-price_at.was) in
    let close-is = priced_is _ 2 _ (sym c.price_at-2.ensures ∙ c.in_ok-price_at-2.was) in
    let high-is = priced_is _ 3 _ (sym c.price_at-3.ensures ∙ c.in_ok-price_at-3.was) in
    let none = refused_is _ 4 _ (sym c.price_at-4.ensures ∙ c.in_err-price_at-4.was) in
    let said : ◌≡◌ {A = Line} c.from_residual-in_err-price_at-4.result (Err (BadPrice 4)) = search (rules, none.1) in
    rw (said, open-is, close-is, high-is, none.0)

pub returns : goal.returns
unfolding all_prices fields_line said_of line_verdict first_true
returns c =
    let open-is = priced_is _ 1 _ (sym c.price_at.ensures ∙ c.in_ok-price_at.was) in
    let close-is = priced_is _ 2 _ (sym c.price_at-2.ensures ∙ c.in_ok-price_at-2.was) in
    let high-is = priced_is _ 3 _ (sym c.price_at-3.ensures ∙ c.in_ok-price_at-3.was) in
    let low-is = priced_is _ 4 _ (sym c.price_at-4.ensures ∙ c.in_ok-price_at-4.was) in
    rw (open-is, close-is, high-is, low-is)
