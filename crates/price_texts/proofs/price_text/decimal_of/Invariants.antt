use mathlib.Core.Path.{◌≡◌}
use lib.ListN.{length, drop}
use Rattle.price_texts.specs.PriceText.{digits_in, decimal}
use Rattle.price_texts.proofs.price_text.decimal_of.Given as goal

abbrev pub invariant-loop-b : goal.invariant-loop-b
invariant-loop-b l = (decimal l.sum (drop l.b-index l.s) ≡ decimal l.n l.s) × (digits_in (drop l.b-index l.s) ≡ length (drop l.b-index l.s))
