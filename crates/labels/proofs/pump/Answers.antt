-- Each turn uses some bytes, since the session has not stopped and the buffer has room. Assumes nothing.
use Prim.Native.Nat.{ℕ, ◌+◌, ◌-◌, ◌≤◌, ◌<◌}
use mathlib.Core.List.{List}
use mathlib.Core.Path.{◌≡◌, ap, ◌∙◌}
use native.Mathlib.Omega.{arith}
use borrow.Author.Rules.{rules}
use borrow.Author.Tests.{ltb-true, not-true}
use lib.ListN.{length, take, drop, length-drop}
use Rattle.input_lines.proofs.PartLaws.{to_end}
use Rattle.input_lines.proofs.RunLaws.{both}
use Rattle.label_lines.specs.declared.session.Absorbed.{Absorbed}
use Rattle.label_lines.specs.Session.{State, used_of}
use Rattle.label_lines.proofs.SessionLaws.{used-some, used-most}
use Rattle.labels.proofs.pump.Goals as goal

-- the bytes of the rest: some, and those used are among them
module _ (chunk : List ℕ) (at : ℕ) where
  rest : length (take (length chunk - at) (drop at chunk)) ≡ length chunk - at
  rest = rw (to_end chunk at, length-drop)

  rest_some : at < length chunk → 1 ≤ length (take (length chunk - at) (drop at chunk))
  rest_some inside = rw rest (omega (arith, inside))

  within : (n : ℕ) → at ≤ length chunk → (room : ℕ) (s : State) → n ≡ used_of room s (take (length chunk - at) (drop at chunk)) → at + n ≤ length chunk
  within n inside room s e = omega (arith, used-most room s (take (length chunk - at) (drop at chunk)), rest)

pub overflow_add-at : goal.overflow_add-at
overflow_add-at g c =
    let loop = c.loop-at in
    let inv = loop.invariant in
    let chunk = c.args.chunk.now in
    let call = c.absorb-taken in
    let most = within chunk loop.at call.result.used inv.0 _ _ (ap (λ (a : Absorbed). a.used) call.ensures.answer) in
    search rules

pub loop-at-smaller : goal.loop-at-smaller
loop-at-smaller g c =
    let loop = c.loop-at in
    let inv = loop.invariant in
    let chunk = c.args.chunk.now in
    let call = c.absorb-taken in
    let most = within chunk loop.at call.result.used inv.0 _ _ (ap (λ (a : Absorbed). a.used) call.ensures.answer) in
    let test = both _ _ c.loop-at-test.true in
    let inside = ltb-true loop.at (length chunk) test.0 in
    let used = ap (λ (a : Absorbed). a.used) call.ensures.answer in
    let some : 1 ≤ call.result.used = rw used (used-some _ _ _ (not-true _ test.1) (rest_some chunk loop.at inside) (omega (arith, inv.1))) in
    omega (arith, some, most, inside)

pub loop-at-preserved : goal.loop-at-preserved
loop-at-preserved g c =
    let loop = c.loop-at in
    let inv = loop.invariant in
    let chunk = c.args.chunk.now in
    let call = c.absorb-taken in
    let most = within chunk loop.at call.result.used inv.0 _ _ (ap (λ (a : Absorbed). a.used) call.ensures.answer) in
    (most, call.auto.out ∙ inv.1)
