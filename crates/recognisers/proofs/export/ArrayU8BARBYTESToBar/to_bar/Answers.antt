-- Each price is that of its eight bytes. Assumes nothing.
use Rattle.std.proofs.Common.{◌≡◌, length, arith, rules}
use Rattle.recognisers.proofs.ByteLaws.{price-cut}
use Rattle.recognisers.proofs.export.ArrayU8BARBYTESToBar.to_bar.Goals as goal

pub returns : goal.returns
returns c =
    let s = c.args.self.now in
    let size : length s ≡ 32 = search rules in
    rw (c.price_of.ensures, c.price_of-2.ensures, c.price_of-3.ensures, c.price_of-4.ensures, c.as_chunks.ensures.front, size, price-cut s 4 0 (omega arith), price-cut s 4 1 (omega arith), price-cut s 4 2 (omega arith), price-cut s 4 3 (omega arith))
