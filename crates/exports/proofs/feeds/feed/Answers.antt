-- The fresh tally adds up, so that feeds that bring it along are those without one. Assumes nothing.
use Rattle.std.specs.Prelude.{Err, Ok}
use Prim.Native.Nat.{ℕ}
use mathlib.Core.Path.{◌≡◌, refl, ap, ◌∙◌}
use mathlib.Core.List.{List}
use lib.Ieee.{Float}
use lib.ListN.{length}
use Rattle.std.proofs.lemmas.Result.{err_from_is_err_and}
use Rattle.answers.specs.Refusal.{Verdict}
use Rattle.measures.specs.Bar.{bars_of, overlay}
use Rattle.recognisers.specs.Refusal.{leaves, feed_verdict}
use Rattle.box_record.specs.declared.boxes.BarBox.{BarBox}
use Rattle.bar_box.specs.Box.{taken_in, fed_of, sheet_of}
use Rattle.bar_box.proofs.PartLaws.{rows_from}
use Rattle.tallies.specs.Tally.{fresh_tally}
use Rattle.tallies.specs.Feed.{lent, tallied_of, tallied_sheet, verdict_in}
use Rattle.tallies.proofs.FeedLaws.{plain-verdict, verdict-answered}
use Rattle.tallies.proofs.RowLaws.{fresh-adds}
use Rattle.exports.proofs.feeds.feed.Goals as goal

twice : {A : Type 0} (v : Verdict) (x y : A) → leaves v x (leaves v x y) ≡ leaves v x y
twice (Ok tt) x y = refl
twice (Err r) x y = refl

fresh-fed : (b : BarBox) → b.count ≡ 0 → (ps : List Float) (sheet : List ℕ) → let f = lent ps sheet in let one = tallied_of b fresh_tally f in let fed = fed_of b ps (length sheet) in
    (one.verdict ≡ fed.verdict) × (one.after ≡ fed.after) × (tallied_sheet b fresh_tally f ≡ sheet_of b ps sheet)
unfolding tallied_of tallied_sheet fed_of sheet_of
fresh-fed b none ps sheet =
    let v = feed_verdict b.thresholds b.count (length ps) (length sheet) in
    let same = plain-verdict b.thresholds b.count fresh_tally (length ps) (length sheet) (rw none fresh-adds) in
    (same, rw same (twice v b (taken_in b (bars_of ps))), rw same (twice v sheet (overlay sheet 0 (rows_from b (bars_of ps)))))

pub returns-in_err-feed_parts : goal.returns-in_err-feed_parts
returns-in_err-feed_parts c =
    let args = c.args in
    let fed = rw c.fresh.ensures at c.in_err-feed_parts.ensures in
    let plain = fresh-fed args.b.now c.requires args.prices.now args.sheet.now in
    let p = err_from_is_err_and c.from_residual.result c.from_residual.ensures.1 in
    rw (p.1, p.2) (record { verdict = ap verdict_in fed.0 ∙ verdict-answered _ _ ∙ plain.0; after = fed.1 ∙ plain.1; sheet = fed.2 ∙ plain.2 })

pub returns : goal.returns
returns c =
    let args = c.args in
    let fed = rw c.fresh.ensures at c.in_ok-feed_parts.ensures in
    let plain = fresh-fed args.b.now c.requires args.prices.now args.sheet.now in
    record { verdict = ap verdict_in fed.0 ∙ verdict-answered _ _ ∙ plain.0; after = fed.1 ∙ plain.1; sheet = fed.2 ∙ plain.2 }
