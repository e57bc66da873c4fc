-- The order of floats in Booleans, and the laws of max and min that follow: both keep the first of the greatest (smallest) values that are
-- no NaN. Assumes nothing.
use mathlib.Core.Path.{◌≡◌, refl, sym, ap, subst, ◌∙◌}
use mathlib.Core.Bool.{Bool, true, false, cond, not, ◌&&◌, ◌||◌, true≢false, false≢true}
use lib.Dec.{T}
use lib.Ieee.{Float, nan, inf, fin, lt, le, is_nan}
use Rattle.std.proofs.lemmas.Float.{lt_irrefl, lt_trans, le_of_lt, le_left, le_right, le_of_not-lt, lt_of_lt_of_le, lt_of_le_of_lt, T_from_true, T_from_false}
use Rattle.prices.specs.Price.{max_of, min_of}

-- ---- floats

pub holds : (t : Bool) → T t → t ≡ true
holds true h = refl
holds false h = absurd h

fails : (t : Bool) → ¬ T t → t ≡ false
fails true h = absurd (h tt)
fails false h = refl

no_nan : (x : Float) → T (not (is_nan x)) → is_nan x ≡ false
no_nan x = go (is_nan x)
  where
    go : (t : Bool) → T (not t) → t ≡ false
    go true h = absurd h
    go false h = refl

pub lt-nan : (x : Float) → lt x nan ≡ false
unfolding lt
lt-nan nan = refl
lt-nan (inf s) = refl
lt-nan (fin s m e) = refl

pub lt-asym : (x y : Float) → lt x y ≡ true → lt y x ≡ false
lt-asym x y h = fails (lt y x) (λ g. lt_irrefl x (lt_trans x y x (T_from_true (lt x y) h) g))

-- of x below z and a y that is no NaN: x is below y, or y below z
pub lt-split : (x y z : Float) → is_nan y ≡ false → lt x z ≡ true → lt x y ≡ false → lt y z ≡ true
lt-split x y z k h g =
    let below : T (lt x z) = T_from_true (lt x z) h in
    let reached = le_of_not-lt x y (le_left x z (le_of_lt x z below)) (T_from_false (is_nan y) k) (T_from_false (lt x y) g) in
    holds (lt y z) (lt_of_le_of_lt y x z reached below)

-- a value that is below or above another is no NaN
pub known-left : (x y : Float) → lt x y ≡ true → is_nan x ≡ false
known-left x y h = no_nan x (le_left x y (le_of_lt x y (T_from_true (lt x y) h)))

pub known-right : (x y : Float) → lt x y ≡ true → is_nan y ≡ false
known-right x y h = no_nan y (le_right x y (le_of_lt x y (T_from_true (lt x y) h)))

-- a price reaches a known one if it is no NaN and the known one is not beyond it, so that one comparison tells
pub reaches-up : (r x : Float) → is_nan r ≡ false → le r x ≡ (not (is_nan x) && not (lt x r))
reaches-up r x k = go (is_nan x) refl (lt x r) refl
  where
    go : (t : Bool) → is_nan x ≡ t → (u : Bool) → lt x r ≡ u → le r x ≡ (not t && not u)
    go true h u g = fails (le r x) (λ e. true≢false (sym h ∙ no_nan x (le_right r x e)))
    go false h true g = fails (le r x) (λ e. lt_irrefl x (lt_of_lt_of_le x r x (T_from_true (lt x r) g) e))
    go false h false g = holds (le r x) (le_of_not-lt x r (T_from_false (is_nan x) h) (T_from_false (is_nan r) k) (T_from_false (lt x r) g))

pub reaches-down : (r x : Float) → is_nan r ≡ false → le x r ≡ (not (is_nan x) && not (lt r x))
reaches-down r x k = go (is_nan x) refl (lt r x) refl
  where
    go : (t : Bool) → is_nan x ≡ t → (u : Bool) → lt r x ≡ u → le x r ≡ (not t && not u)
    go true h u g = fails (le x r) (λ e. true≢false (sym h ∙ no_nan x (le_left x r e)))
    go false h true g = fails (le x r) (λ e. lt_irrefl x (lt_of_le_of_lt x r x e (T_from_true (lt r x) g)))
    go false h false g = holds (le x r) (le_of_not-lt r x (T_from_false (is_nan r) k) (T_from_false (is_nan x) h) (T_from_false (lt r x) g))

no-two : (t : Bool) → t ≡ true → t ≡ false → ⊥
no-two t h g = true≢false (sym h ∙ g)

-- there is one NaN
pub is-nan : (x : Float) → is_nan x ≡ true → x ≡ nan
unfolding is_nan
is-nan nan h = refl
is-nan (inf s) h = absurd (false≢true h)
is-nan (fin s m e) h = absurd (false≢true h)

-- ---- max and min, once for both: less is the order for max, and the order turned round for min

abbrev foremost : (Float → Float → Bool) → Float → Float → Float
foremost less a b = cond (is_nan a && not (is_nan b) || less a b) b a

record Order (less : Float → Float → Bool) : Type 0 where
  asym : (x y : Float) → less x y ≡ true → less y x ≡ false
  split : (x y z : Float) → is_nan y ≡ false → less x z ≡ true → less x y ≡ false → less y z ≡ true
  nan_left : (x : Float) → less nan x ≡ false
  nan_right : (x : Float) → less x nan ≡ false

module _ (less : Float → Float → Bool) (o : Order less) where
  of_nan : (b : Float) → foremost less nan b ≡ b
  unfolding is_nan
  of_nan nan = simp (o.nan_left nan)
  of_nan (inf s) = refl
  of_nan (fin s m e) = refl

  with-nan : (a : Float) → foremost less a nan ≡ a
  unfolding is_nan
  with-nan nan = simp (o.nan_left nan)
  with-nan (inf s) = simp (o.nan_right (inf s))
  with-nan (fin s m e) = simp (o.nan_right (fin s m e))

  less-known : (x y : Float) → less x y ≡ true → is_nan y ≡ false
  less-known x y e = go (is_nan y) refl
    where
      go : (t : Bool) → is_nan y ≡ t → t ≡ false
      go true h = absurd (no-two (less x y) e (rw (is-nan y h) (o.nan_right x)))
      go false h = refl

  takes : (a b : Float) → less a b ≡ true → is_nan a ≡ false → foremost less a b ≡ b
  takes a b h k = simp (k, h)

  stays : (a b : Float) → less a b ≡ false → is_nan a ≡ false → foremost less a b ≡ a
  stays a b h k = simp (k, h)

  trans : (a b c : Float) → is_nan c ≡ false → less a b ≡ true → less b c ≡ true → less a c ≡ true
  trans a b c k h g = go (less a c) refl
    where
      go : (t : Bool) → less a c ≡ t → t ≡ true
      go true e = refl
      go false e = absurd (no-two (less c b) (o.split a c b k h e) (o.asym b c g))

  known-assoc : (a b c : Float) → is_nan a ≡ false → is_nan b ≡ false → is_nan c ≡ false → foremost less (foremost less a b) c ≡ foremost less a (foremost less b c)
  known-assoc a b c ka kb kc = go (less a b) refl (less b c) refl
    where
      last : (t : Bool) → less a b ≡ false → less b c ≡ false → less a c ≡ t → less a c ≡ false
      last true h g e = absurd (no-two (less b c) (o.split a b c kb e h) g)
      last false h g e = e

      go : (t : Bool) → less a b ≡ t → (u : Bool) → less b c ≡ u → foremost less (foremost less a b) c ≡ foremost less a (foremost less b c)
      go true h true g = rw (takes a b h ka, takes b c g kb) (sym (takes a c (trans a b c kc h g) ka))
      go true h false g = rw (takes a b h ka, stays b c g kb) (sym (takes a b h ka))
      go false h true g = rw (stays a b h ka, takes b c g kb)
      go false h false g = rw (stays a b h ka, stays b c g kb) (stays a c (last (less a c) h g refl) ka ∙ sym (stays a b h ka))

  assoc : (a b c : Float) → foremost less (foremost less a b) c ≡ foremost less a (foremost less b c)
  assoc a b c = go (is_nan a) refl (is_nan b) refl (is_nan c) refl
    where
      go : (t : Bool) → is_nan a ≡ t → (u : Bool) → is_nan b ≡ u → (v : Bool) → is_nan c ≡ v → foremost less (foremost less a b) c ≡ foremost less a (foremost less b c)
      go true h u g v f = rw (is-nan a h, of_nan b) (sym (of_nan (foremost less b c)))
      go false h true g v f = rw (is-nan b g, with-nan a) (ap (λ (x : Float). foremost less a x) (sym (of_nan c)))
      go false h false g true f = rw (is-nan c f, with-nan b) (with-nan (foremost less a b))
      go false h false g false f = known-assoc a b c h g f

  -- what the foremost of two is less than, a known second is less than
  second : (a b z : Float) → is_nan b ≡ false → less (foremost less a b) z ≡ true → less b z ≡ true
  second a b z k = go (is_nan a) refl (less a b) refl
    where
      go : (t : Bool) → is_nan a ≡ t → (u : Bool) → less a b ≡ u → less (foremost less a b) z ≡ true → less b z ≡ true
      go true h u g e = rw (is-nan a h, of_nan b) at e
      go false h true g e = rw (takes a b g h) at e
      go false h false g e = o.split a b z k (rw (stays a b g h) at e) g

  first : (a b z : Float) → is_nan a ≡ false → is_nan z ≡ false → less (foremost less a b) z ≡ true → less a z ≡ true
  first a b z k l = go (less a b) refl
    where
      go : (u : Bool) → less a b ≡ u → less (foremost less a b) z ≡ true → less a z ≡ true
      go true g e = trans a b z l g (rw (takes a b g k) at e)
      go false g e = rw (stays a b g k) at e

  -- and the other way round: what both of two known values are less than, the foremost of them is less than
  both : (a b z : Float) → is_nan a ≡ false → is_nan b ≡ false → less (foremost less a b) z ≡ (less a z && less b z)
  both a b z ka kb = go (less a b) refl (less a z) refl (less b z) refl
    where
      go : (t : Bool) → less a b ≡ t → (u : Bool) → less a z ≡ u → (v : Bool) → less b z ≡ v → less (foremost less a b) z ≡ (less a z && less b z)
      go true h true g v f = rw (takes a b h ka) (simp g)
      go true h false g true f = absurd (no-two (less a z) (trans a b z (less-known b z f) h f) g)
      go true h false g false f = rw (takes a b h ka) (simp (g, f))
      go false h true g true f = rw (stays a b h ka) (simp (g, f))
      go false h true g false f = absurd (no-two (less b z) (o.split a b z kb g h) f)
      go false h false g v f = rw (stays a b h ka) (simp g)

  -- the foremost of a known value and another is the first, or the other that is foremost of both
  either : (P : Float → Type 0) (a b : Float) → is_nan a ≡ false → P a → (less a b ≡ true → P b) → P (foremost less a b)
  either P a b k p f = go (less a b) refl
    where
      go : (t : Bool) → less a b ≡ t → P (foremost less a b)
      go true e = subst P (sym (takes a b e k)) (f e)
      go false e = subst P (sym (stays a b e k)) p

  known : (a b : Float) → is_nan b ≡ false → is_nan (foremost less a b) ≡ false
  known a b k = go (is_nan a) refl
    where
      go : (t : Bool) → is_nan a ≡ t → is_nan (foremost less a b) ≡ false
      go true h = rw (is-nan a h, of_nan b) k
      go false h = either (λ (z : Float). is_nan z ≡ false) a b h h (λ e. k)

  stays-known : (a b : Float) → is_nan a ≡ false → is_nan (foremost less a b) ≡ false
  stays-known a b k = either (λ (z : Float). is_nan z ≡ false) a b k k (λ e. less-known a b e)

  -- a price that comes before a known one, and reaches it
  reached : (r x : Float) → is_nan r ≡ false → cond (not (is_nan x) && not (less x r)) x r ≡ foremost less x r
  reached r x k = rw k (go (is_nan x) (less x r))
    where
      go : (t u : Bool) → cond (not t && not u) x r ≡ cond ((t && true) || u) r x
      go true u = refl
      go false true = refl
      go false false = refl

back-split : (x y z : Float) → is_nan y ≡ false → lt z x ≡ true → lt y x ≡ false → lt z y ≡ true
back-split x y z k h g = go (lt z y) refl
  where
    go : (t : Bool) → lt z y ≡ t → t ≡ true
    go true e = refl
    go false e = absurd (no-two (lt y x) (lt-split z y x k h e) g)

rising : Order lt
unfolding lt
rising = record { asym = lt-asym; split = lt-split; nan_left = λ x. refl; nan_right = lt-nan }

falling : Order (λ x y. lt y x)
unfolding lt
falling = record {
  asym = λ x y h. lt-asym y x h;
  split = back-split;
  nan_left = lt-nan;
  nan_right = λ x. refl;
}

pub max_assoc : (a b c : Float) → max_of (max_of a b) c ≡ max_of a (max_of b c)
unfolding max_of
max_assoc = assoc lt rising

pub min_assoc : (a b c : Float) → min_of (min_of a b) c ≡ min_of a (min_of b c)
unfolding min_of
min_assoc = assoc (λ x y. lt y x) falling

-- what is above the larger of two is above a known second; what is below the smaller is below it
pub max-second : (a b z : Float) → is_nan b ≡ false → lt (max_of a b) z ≡ true → lt b z ≡ true
unfolding max_of
max-second = second lt rising

pub min-second : (a b z : Float) → is_nan b ≡ false → lt z (min_of a b) ≡ true → lt z b ≡ true
unfolding min_of
min-second = second (λ x y. lt y x) falling

-- the larger of two known values is below z if both are; the smaller is above z if both are
pub max-both : (a b z : Float) → is_nan a ≡ false → is_nan b ≡ false → lt (max_of a b) z ≡ (lt a z && lt b z)
unfolding max_of
max-both = both lt rising

pub min-both : (a b z : Float) → is_nan a ≡ false → is_nan b ≡ false → lt z (min_of a b) ≡ (lt z a && lt z b)
unfolding min_of
min-both = both (λ x y. lt y x) falling

pub max-known : (a b : Float) → is_nan b ≡ false → is_nan (max_of a b) ≡ false
unfolding max_of
max-known = known lt rising

pub min-known : (a b : Float) → is_nan b ≡ false → is_nan (min_of a b) ≡ false
unfolding min_of
min-known = known (λ x y. lt y x) falling

pub max-stays-known : (a b : Float) → is_nan a ≡ false → is_nan (max_of a b) ≡ false
unfolding max_of
max-stays-known = stays-known lt rising

pub min-stays-known : (a b : Float) → is_nan a ≡ false → is_nan (min_of a b) ≡ false
unfolding min_of
min-stays-known = stays-known (λ x y. lt y x) falling

-- before a value that is no NaN one comparison is enough
pub max-reached : (r x : Float) → is_nan r ≡ false → cond (le r x) x r ≡ max_of x r
unfolding max_of
max-reached r x k = rw (reaches-up r x k) (reached lt rising r x k)

pub min-reached : (r x : Float) → is_nan r ≡ false → cond (le x r) x r ≡ min_of x r
unfolding min_of
min-reached r x k = rw (reaches-down r x k) (reached (λ x y. lt y x) falling r x k)

pub both_ways : {A : Type 0} {t : Bool} → t ≡ true → t ≡ false → A
both_ways {A} {t} h g = absurd (no-two t h g)

-- where the first is NaN, the second is the answer whatever it is: there is one NaN
pub max-by-choice : (a b : Float) → cond (is_nan a) b (cond (lt a b) b a) ≡ max_of a b
unfolding max_of
max-by-choice a b = go (is_nan a) refl
  where
    go : (t : Bool) → is_nan a ≡ t → cond t b (cond (lt a b) b a) ≡ max_of a b
    go true h = rw (is-nan a h) (sym (of_nan lt rising b))
    go false h = simp h

pub min-by-choice : (a b : Float) → cond (is_nan a) b (cond (lt b a) b a) ≡ min_of a b
unfolding min_of
min-by-choice a b = go (is_nan a) refl
  where
    go : (t : Bool) → is_nan a ≡ t → cond t b (cond (lt b a) b a) ≡ min_of a b
    go true h = rw (is-nan a h) (sym (of_nan (λ x y. lt y x) falling b))
    go false h = simp h
