-- `number::f64_at` meets its contract. Assumes nothing.
use Rattle.std.proofs.Common.{drop, take, ap, sym, arith, ◌∙◌}
use Rattle.std.proofs.lemmas.List.{take-take}
use lib.Ieee.{binary64, of_bits}
use Rattle.recognisers.specs.Export.{little_endian}
use Rattle.recognisers.proofs.ByteLaws.{eight}
use Rattle.test_replay.specs.Number.{u64_at, f64_at}
use Rattle.test_replay.proofs.number.f64_at.Goals as goal

pub returns : goal.returns
unfolding u64_at f64_at
returns c =
    let s = drop c.args.at c.args.s.now in
    c.of_bits.ensures ∙ ap (of_bits binary64) (rw c.array_at.ensures at c.from_le_bytes.ensures ∙ sym (eight (take 8 s)) ∙ ap little_endian (take-take 8 8 s (omega arith)))
