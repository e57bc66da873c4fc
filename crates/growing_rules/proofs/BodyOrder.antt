-- What 17 reads as "the bodies in non-falling order" is that (GrowingRule.BodyOrder). Assumes nothing.
use mathlib.Core.Path.{◌≡◌, refl}
use mathlib.Core.Bool.{Bool, true, false, cond}
use mathlib.Core.List.Perm
use mathlib.Core.List.{List, [], ◌∷◌, map, reverse, reverse_aux, reverse_perm, Perm}
use lib.Ieee.{Float, lt}
use Rattle.measures.specs.Bar.{Bar, body_of}
use Rattle.measures.proofs.Order.{lt-asym}
use Rattle.growing_rules.specs.GrowingRule.{insert_of, bodies_down, bodies_up, NonFalling, BodyOrder}

-- ---- the insertion gives them in non-rising order: none is below its neighbour behind it

abbrev NonRising : List Float → Type 0
NonRising [] = Unit {0}
NonRising (a ∷ []) = Unit {0}
NonRising (a ∷ b ∷ rest) = (lt a b ≡ false) × NonRising (b ∷ rest)

insert-non-rising : (x : Float) (l : List Float) → NonRising l → NonRising (insert_of x l)
unfolding insert_of
insert-non-rising x [] h = tt
insert-non-rising x (a ∷ []) h = go (lt x a) refl
  where
    go : (t : Bool) → lt x a ≡ t → NonRising (cond t (a ∷ x ∷ []) (x ∷ a ∷ []))
    go true e = (lt-asym x a e, tt)
    go false e = (e, tt)
insert-non-rising x (a ∷ b ∷ rest) h = go (lt x a) refl (lt x b) refl (insert-non-rising x (b ∷ rest) h.1)
  where
    go : (t : Bool) → lt x a ≡ t → (u : Bool) → lt x b ≡ u → NonRising (cond u (b ∷ insert_of x rest) (x ∷ b ∷ rest)) → NonRising (cond t (a ∷ cond u (b ∷ insert_of x rest) (x ∷ b ∷ rest)) (x ∷ a ∷ b ∷ rest))
    go true e true f r = (h.0, r)
    go true e false f r = (lt-asym x a e, r)
    go false e u f r = (e, h)

insert-perm : (x : Float) (l : List Float) → Perm (insert_of x l) (x ∷ l)
unfolding insert_of
insert-perm x [] = Perm.refl (x ∷ [])
insert-perm x (a ∷ l) = go (insert-perm x l) (lt x a)
  where
    go : Perm (insert_of x l) (x ∷ l) → (t : Bool) → Perm (cond t (a ∷ insert_of x l) (x ∷ a ∷ l)) (x ∷ a ∷ l)
    go r true = Perm.trans (Perm.cons a r) (Perm.swap x a l)
    go r false = Perm.refl (x ∷ a ∷ l)

down-non-rising : (s : List Bar) → NonRising (bodies_down s)
unfolding bodies_down
down-non-rising [] = tt
down-non-rising (b ∷ s) = insert-non-rising (body_of b) (bodies_down s) (down-non-rising s)

down-perm : (s : List Bar) → Perm (bodies_down s) (map body_of s)
unfolding bodies_down
down-perm [] = Perm.refl []
down-perm (b ∷ s) = Perm.trans (insert-perm (body_of b) (bodies_down s)) (Perm.cons (body_of b) (down-perm s))

-- ---- from the last to the first they are in non-falling order

turned : (l : List Float) (b : Float) (r : List Float) → NonRising (b ∷ l) → NonFalling (b ∷ r) → NonFalling (reverse_aux l (b ∷ r))
turned [] b r h g = g
turned (a ∷ l) b r h g = turned l a (b ∷ r) h.1 (h.0, g)

reverse-non-falling : (l : List Float) → NonRising l → NonFalling (reverse l)
reverse-non-falling [] h = tt
reverse-non-falling (b ∷ l) h = turned l b [] h tt

pub body-order : BodyOrder
unfolding bodies_up
body-order =
    record {
      non-falling = λ s. reverse-non-falling (bodies_down s) (down-non-rising s);
      the_bodies = λ s. Perm.trans (reverse_perm (bodies_down s)) (down-perm s);
    }
