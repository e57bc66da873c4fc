-- Each case of a price with no sign, in the definition's order. Assumes nothing.
use Prim.Native.Nat.{◌<◌, ◌≤◌, ◌+◌, ◌-◌}
use mathlib.Core.Path.{◌≡◌}
use mathlib.Core.Logic.{◌≢◌}
use native.Mathlib.Nat.{add-zero}
use native.Mathlib.Omega.{arith}
use lib.ListN.{length, take, drop, get_or, length-take, length-drop}
use Rattle.std.proofs.lemmas.List.{get_or-drop, drop-drop}
use Rattle.std.proofs.lemmas.Bool.Decides.{nat_tests}
use Rattle.price_texts.specs.PriceText.{is_digit, fraction_of, unsigned_of}
use Rattle.input_lines.proofs.RunLaws.{run-taken}
use Rattle.input_lines.proofs.PartLaws.{to_end}
use Rattle.price_texts.proofs.DigitLaws.{whole-small}
use Rattle.price_texts.proofs.price_text.unsigned.Goals as goal
use Rattle.price_texts.proofs.price_text.unsigned.Goals.{then-k-lt1-via-then-k-lt1, then-k-lt1-via-else-k-lt1+then-k-gt9}

pub returns-then-k-lt1 : goal.returns-then-k-lt1
unfolding unsigned_of
returns-then-k-lt1 c =
    elim c.then-k-lt1.branch [
      | then-k-lt1-via-then-k-lt1 w ↦ grind (arith, nat_tests)
      | then-k-lt1-via-else-k-lt1+then-k-gt9 w ↦ grind (arith, nat_tests)
    ]

pub decimal_of-whole-requires : goal.decimal_of-whole-requires
decimal_of-whole-requires c = (rw c.digits_in-k.ensures.0 (run-taken is_digit c.args.s.now), simp length-take (omega arith), omega arith)

pub quotient-requires : goal.quotient-requires
quotient-requires c = omega (arith, whole-small c.args.s.now _ _ c.digits_in-k.ensures.0 c.if-k-gt9.false c.decimal_of-whole.ensures)

pub fraction-requires : goal.fraction-requires
fraction-requires c = whole-small c.args.s.now _ _ c.digits_in-k.ensures.0 c.if-k-gt9.false c.decimal_of-whole.ensures

pub returns-in-empty : goal.returns-in-empty
unfolding unsigned_of
returns-in-empty c =
    let left = simp (length-take, length-drop) at c.in-empty.len_below in
    let all : c.digits_in-k.result ≡ length c.args.s.now = omega (arith, c.digits_in-k.ensures.1) in
    grind (arith, nat_tests)

pub returns-in-46 : goal.returns-in-46
unfolding unsigned_of
returns-in-46 c =
    let s = c.args.s.now in
    let k = c.digits_in-k.result in
    let rest = to_end s k in
    let left : 1 ≤ length (drop k s) = rw rest at c.in-46.len_at_least in
    let more : k < length s = omega (arith, length-drop k s) in
    let first : get_or (take (length s - k) (drop k s)) 0 0 ≡ 46 = omega arith in
    let here : get_or s k 0 ≡ 46 = rw (rest, get_or-drop, add-zero) at first in
    let read : c.fraction.result ≡ fraction_of c.decimal_of-whole.result (drop (k + 1) s) = rw (rest, to_end (drop k s) 1, drop-drop) at c.fraction.ensures in
    grind (arith, nat_tests)

pub returns-in_default : goal.returns-in_default
unfolding unsigned_of
returns-in_default c =
    let s = c.args.s.now in
    let k = c.digits_in-k.result in
    let rest = to_end s k in
    let left : 1 ≤ length (drop k s) = rw rest at c.in_default.len_at_least in
    let more : k < length s = omega (arith, length-drop k s) in
    let first : get_or (take (length s - k) (drop k s)) 0 0 ≢ 46 = λ h. omega arith in
    let here : get_or s k 0 ≢ 46 = rw (rest, get_or-drop, add-zero) at first in
    grind (arith, nat_tests)
