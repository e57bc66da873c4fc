-- The window ends with the judged bar. Assumes nothing.
use Rattle.std.proofs.Common.{◌≡◌, ◌-◌, ◌≤◌, length, min, sym, arith, length-take, length-take-le}
use Rattle.measures.specs.Window.{newest, up_to}
use Rattle.measures.proofs.WindowLaws.{up_to-le, drop-take}
use Rattle.recognisers.proofs.history.window_of.Goals as goal

pub offset_bounds-bars-p : goal.offset_bounds-bars-p
offset_bounds-bars-p g c = omega (arith, c.up_to-p.ensures, up_to-le (length c.args.bars.now) c.args.di)

pub slice_bounds-result-end : goal.slice_bounds-result-end
slice_bounds-result-end g c = omega (arith, c.up_to-p.ensures, up_to-le (length c.args.bars.now) c.args.di)

pub returns : goal.returns
unfolding newest
returns g c =
    let bars = c.args.bars.now in
    let n = c.args.n in
    let p = up_to (length bars) c.args.di in
    let within : p ≤ length bars = up_to-le (length bars) c.args.di in
    let from : p - n ≡ p - min n p = omega arith in
    let size : p - (p - min n p) ≡ min n p = omega arith in
    record {
      bars = simp (c.up_to-p.ensures, c.min.ensures, length-take-le p bars within, from) (sym (drop-take (p - min n p) p bars (omega arith) within));
      few = simp (c.up_to-p.ensures, c.min.ensures, size, length-take) (omega arith);
    }
