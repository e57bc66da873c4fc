-- The library's number of eight bytes is theirs. Assumes nothing.
use mathlib.Core.Path.{ap, sym, ◌∙◌}
use lib.Ieee.{binary64, of_bits}
use Rattle.recognisers.specs.Export.{price_at}
use Rattle.recognisers.proofs.ByteLaws.{eight}
use Rattle.recognisers.proofs.export.price_of.Goals as goal

pub returns : goal.returns
unfolding price_at
returns c = c.of_bits.ensures ∙ ap (of_bits binary64) (c.from_le_bytes.ensures ∙ sym (eight c.args.bytes))
