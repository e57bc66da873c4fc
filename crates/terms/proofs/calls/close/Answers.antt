-- A refused close leaves layer and sheet; of an accepted one the open bar is fed, if there is one. Assumes nothing.
use mathlib.Core.Path.{sym, ◌∙◌}
use Rattle.std.proofs.lemmas.Result.{err_from_is_err_and}
use Rattle.measures.specs.Bar.{prices_of, put_bar}
use Rattle.bar_box.specs.Box.{fed_of}
use Rattle.terms.proofs.TakeLaws.{shut-refused, shut-none, shut-accepted, shut-one}
use Rattle.terms.proofs.calls.close.Goals as goal

pub returns-in_err-close_verdict : goal.returns-in_err-close_verdict
returns-in_err-close_verdict c =
    let p = err_from_is_err_and c.from_residual.result c.from_residual.ensures.1 in
    let v = sym c.in_err-close_verdict.ensures in
    let left = shut-refused c.args.l.now c.args.sheet.now _ v in
    record { answer = rw (p.1, p.2, left.0); after = rw left.0; sheet = rw left.1; number = rw (p.1, p.2, v) }

pub returns-in-None : goal.returns-in-None
returns-in-None c =
    let v = sym c.in_ok-close_verdict.ensures in
    let none = sym c.take.ensures.value ∙ c.in-None.is in
    let left = shut-none c.args.l.now c.args.sheet.now v c.if-prove.false none in
    record { answer = rw left.0; after = rw (left.0, c.take.ensures.after, ← none); sheet = rw left.1; number = rw v }

pub unwrap-requires : goal.unwrap-requires
unfolding fed_of prices_of put_bar
unwrap-requires c =
    let v = sym c.in_ok-close_verdict.ensures in
    rw (rw c.put_bar.ensures at c.feed.ensures.verdict, shut-accepted c.args.l.now c.args.sheet.now v c.in-Some.bar (sym c.take.ensures.value ∙ c.in-Some.is))

pub returns-in-Some : goal.returns-in-Some
unfolding prices_of put_bar
returns-in-Some c =
    let v = sym c.in_ok-close_verdict.ensures in
    let left = shut-one c.args.l.now c.args.sheet.now v c.in-Some.bar (sym c.take.ensures.value ∙ c.in-Some.is) in
    let fed = rw c.put_bar.ensures at c.feed.ensures in
    record { answer = rw left.0; after = rw (left.0, c.take.ensures.after, fed.after); sheet = rw left.1 fed.sheet; number = rw v }
