-- Equals are no NaN, so that they have bits. Assumes nothing.
use mathlib.Core.Path.{◌≡◌, ◌∙◌, sym}
use lib.Dec.{eqb}
use lib.Ieee.{binary64, to_bits}
use Rattle.held_extremes.specs.Candidate.{same_price}
use Rattle.held_extremes.proofs.SameLaws.{price-is}
use Rattle.held_extremes.proofs.PartLaws.{second-known}
use Rattle.held_extremes.proofs.same_price.Goals as goal

pub float_to_bits-result-then-x-y : goal.float_to_bits-result-then-x-y
float_to_bits-result-then-x-y c = second-known c.args.x c.args.y c.if-x-y.true

pub returns-then-x-y : goal.returns-then-x-y
returns-then-x-y c =
    let x = c.args.x in
    let y = c.args.y in
    let e : eqb (to_bits binary64 x) (to_bits binary64 y) ≡ same_price x y = simp c.if-x-y.true in
    (e, λ same. price-is x y c.well_formed.0.1 c.well_formed.1.0.1 (sym e ∙ same))
