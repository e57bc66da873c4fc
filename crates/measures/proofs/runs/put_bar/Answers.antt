-- Four prices are copied, or none.
use Rattle.std.proofs.Common.{◌*◌, [], ◌∷◌, refl, arith, le-ltb, lt-ltb}
use Rattle.std.proofs.lemmas.Slice.{put_mid-paste}
use Rattle.prices.specs.Bar.{prices_of, put_bar}
use Rattle.measures.proofs.runs.put_bar.Goals as goal

pub returns-then-i-out : goal.returns-then-i-out
unfolding put_bar prices_of
returns-then-i-out c =
    let args = c.args in
    rw (lt-ltb _ _ c.if-i-out.true) (put_mid-paste (4 * args.i) _ args.out.now _ (prices_of (args.bar ∷ [])) 4 c.copy_from_slice.ensures.after (omega arith) refl)

pub returns-else-i-out : goal.returns-else-i-out
unfolding put_bar
returns-else-i-out c = simp (le-ltb _ _ c.if-i-out.false)
