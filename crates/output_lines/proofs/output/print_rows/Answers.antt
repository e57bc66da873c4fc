-- The loop's invariant: with the lines that remain written from the place on, all lines are written. Assumes nothing.
use Prim.Native.Nat.{◌+◌, ◌*◌}
use mathlib.Core.Path.{◌≡◌, refl, sym, ◌∙◌}
use native.Mathlib.Omega.{arith}
use lib.ListN.{length, get_or, drop, length-append}
use Rattle.measures.proofs.Overlay.{overlay-none}
use Rattle.recognisers.specs.Number.{recognisers, row_bytes}
use Rattle.output_lines.specs.Output.{pair_line, row_lines, line_room}
use Rattle.output_lines.proofs.OutputLaws.{pair-at, written_on, pair-most, rows-most, rows_end, rows_next, printed, unprinted}
use Rattle.output_lines.proofs.output.print_rows.Goals as goal

pub returns-then-left-lt-ROOM : goal.returns-then-left-lt-ROOM
returns-then-left-lt-ROOM c =
    let args = c.args in
    record { printed = unprinted line_room (row_lines args.ordinal 0 args.sheet) args.out.now args.at (omega arith); within = omega arith }

pub loop-k-init : goal.loop-k-init
loop-k-init c =
    let size : length c.args.sheet ≡ row_bytes = c.well_formed.1.0.1.0.1 in
    (omega (arith, size, c.as_chunks.ensures.front_len), refl, omega arith, (refl, refl))

pub loop-k-preserved : goal.loop-k-preserved
loop-k-preserved c =
    let inv = c.loop-k.invariant in
    let args = c.args in
    let ordinal = args.ordinal in
    let sheet = args.sheet in
    let size : length sheet ≡ row_bytes = c.well_formed.1.0.1.0.1 in
    let out = c.loop-k.out in
    let k = c.loop-k.k in
    let place = c.loop-k.place in
    let pairs = c.as_chunks.ensures in
    let pair = pair-at recognisers k sheet (omega (arith, size, pairs.front_len)) size in
    let wrote = rw (pairs.front, size, pair) at c.write_pair-place.ensures in
    let line = pair_line ordinal k (get_or sheet (2 * k) 0) (get_or sheet (2 * k + 1) 0) in
    let rest = row_lines ordinal (k + 1) (drop (2 * (k + 1)) sheet) in
    let whole = rw (rows_next ordinal k sheet (omega (arith, size))) at inv.3 in
    let both = length-append line rest in
    let most = rows-most ordinal 0 sheet in
    let on = written_on out place line _ _ rest _ _ (omega (arith, size, both, most, whole.0, wrote.0)) wrote (refl, refl) in (
      inv.0,
      c.write_pair-place.auto.out ∙ inv.1,
      omega (arith, pair-most ordinal k (get_or sheet (2 * k) 0) (get_or sheet (2 * k + 1) 0)),
      (on.0 ∙ whole.0, on.1 ∙ whole.1),
    )

pub returns : goal.returns
returns c =
    let args = c.args in
    let size : length args.sheet ≡ row_bytes = c.well_formed.1.0.1.0.1 in
    let whole = rw (rows_end args.ordinal c.loop-k.k args.sheet (omega (arith, size))) at c.loop-k.invariant.3 in
    record { printed = printed line_room _ args.out.now _ _ _ (omega arith) (omega (arith, whole.0), sym (overlay-none c.loop-k.out c.loop-k.place) ∙ whole.1); within = omega arith }
