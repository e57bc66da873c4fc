-- A refusal leaves box and sheet; otherwise the box takes the bars in, and the rows that it wrote are counted. Assumes nothing.
use Prim.Native.Nat.{◌*◌, ◌≤◌}
use mathlib.Core.Path.{◌≡◌, sym, ◌∙◌}
use native.Mathlib.Omega.{arith}
use lib.ListN.{length, take}
use lib.Seq.{length-take-le}
use Rattle.std.proofs.lemmas.Result.{err_from_is_err_and}
use Rattle.recognisers.specs.Number.{row_bytes}
use Rattle.measures.specs.Bar.{bars_of}
use Rattle.measures.proofs.RunLaws.{length-bars}
use Rattle.bar_box.specs.Sheet.{rows_of}
use Rattle.bar_box.specs.Box.{kept, fed_of}
use Rattle.bar_box.proofs.FeedSteps.{fits}
use Rattle.bar_box.proofs.SheetLaws.{length-rows}
use Rattle.tallies.specs.Tally.{counted}
use Rattle.tallies.specs.Feed.{lent, tallied_of, tallied_sheet}
use Rattle.tallies.proofs.RowLaws.{rows-known}
use Rattle.tallies.proofs.FeedLaws.{accepted-adds, accepted-plain, fed-after, rows_written, tallied-accepted}
use Rattle.tallies.proofs.feeds.feed.Goals as goal

pub returns-in_err-tally_verdict : goal.returns-in_err-tally_verdict
unfolding tallied_of tallied_sheet
returns-in_err-tally_verdict c =
    let denied = sym c.in_err-tally_verdict.ensures.0 in
    let p = err_from_is_err_and c.from_residual.result c.from_residual.ensures.1 in
    rw (p.1, p.2) (record { answer = simp denied; after = simp denied; sheet = simp denied; shaped = c.in_err-tally_verdict.ensures.1; number = simp denied })

-- the box refuses no more than the verdict
pub returns-in_err-feed : goal.returns-in_err-feed
unfolding fed_of
returns-in_err-feed c =
    let args = c.args in
    let never = c.in_err-feed.ensures.verdict ∙ accepted-plain args.b.now args.tally (lent args.prices.now args.sheet.now) (sym c.in_ok-tally_verdict.ensures.0) in
    absurd (let z : ⊥ = cc in z)

pub overflow_mul-bytes : goal.overflow_mul-bytes
overflow_mul-bytes c =
    let args = c.args in
    let met = fits _ _ _ _ (accepted-plain args.b.now args.tally (lent args.prices.now args.sheet.now) (sym c.in_ok-tally_verdict.ensures.0)) in
    omega (arith, c.count-bytes.ensures, length-bars args.prices.now, met.few)

pub slice_bounds-count-end : goal.slice_bounds-count-end
slice_bounds-count-end c =
    let args = c.args in
    let met = fits _ _ _ _ (accepted-plain args.b.now args.tally (lent args.prices.now args.sheet.now) (sym c.in_ok-tally_verdict.ensures.0)) in
    omega (arith, c.count-bytes.ensures, length-bars args.prices.now, met.room, c.feed.auto.sheet)

pub slice_bounds-count-end-2 : goal.slice_bounds-count-end-2
slice_bounds-count-end-2 c =
    let args = c.args in
    let met = fits _ _ _ _ (accepted-plain args.b.now args.tally (lent args.prices.now args.sheet.now) (sym c.in_ok-tally_verdict.ensures.0)) in
    let within : row_bytes * c.count-bytes.result ≤ length c.feed.new.sheet = omega (arith, c.count-bytes.ensures, length-bars args.prices.now, met.room, c.feed.auto.sheet) in
    sym (length-take-le (row_bytes * c.count-bytes.result) c.feed.new.sheet within)

pub count-requires : goal.count-requires
count-requires c =
    let args = c.args in
    let b = args.b.now in
    let f = lent args.prices.now args.sheet.now in
    let accepted = sym c.in_ok-tally_verdict.ensures.0 in
    let met = fits _ _ _ _ (accepted-plain b args.tally f accepted) in
    let bars = bars_of args.prices.now in
    let rows = rows_of b.thresholds b.count (kept b) bars in
    let written : take (row_bytes * c.count-bytes.result) c.feed.new.sheet ≡ rows = rw (c.count-bytes.ensures, c.feed.ensures.sheet) (rows_written b args.tally f accepted) in
    let size = length-rows b.thresholds b.count (kept b) bars in (
      rw written (rows-known b.thresholds b.count (kept b) bars),
      c.in_ok-tally_verdict.ensures.1,
      accepted-adds b.thresholds b.count args.tally (length args.prices.now) (length args.sheet.now) accepted,
      rw written (omega (arith, size, length-bars args.prices.now, met.few)),
    )

pub returns : goal.returns
unfolding tallied_sheet
returns c =
    let args = c.args in
    let b = args.b.now in
    let f = lent args.prices.now args.sheet.now in
    let accepted = sym c.in_ok-tally_verdict.ensures.0 in
    let bars = bars_of args.prices.now in
    let rows = rows_of b.thresholds b.count (kept b) bars in
    let written : take (row_bytes * c.count-bytes.result) c.feed.new.sheet ≡ rows = rw (c.count-bytes.ensures, c.feed.ensures.sheet) (rows_written b args.tally f accepted) in
    let tally : c.count.result ≡ counted rows args.tally = c.count.ensures ∙ rw written in
    record {
      answer = rw (tallied-accepted b args.tally f accepted, tally);
      after = rw (tallied-accepted b args.tally f accepted) (c.feed.ensures.after ∙ fed-after b args.tally f accepted);
      sheet = rw accepted c.feed.ensures.sheet;
      shaped = c.in_ok-tally_verdict.ensures.1;
      number = rw accepted;
    }
