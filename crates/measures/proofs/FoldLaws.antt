-- Folds over a column: of a chain, of one bar more; an extreme that runs along, of runs that meet, and what it says of every price. Assumes nothing.
use Rattle.std.proofs.Common.{◌≡◌, ℕ, ◌+◌, ◌<◌, Bool, true, false, cond, not, ◌&&◌, List, [], ◌∷◌, ◌++◌, length, get_or, take, sym, refl, ap, ◌∙◌, true≢false}
use mathlib.Core.Bool.{and-true, and-false}
use mathlib.Core.List.{foldl, foldr, map, map-append, foldl-append}
use Rattle.std.specs.List.{fold}
use Rattle.std.proofs.lemmas.List.{take_more}
use lib.Ieee.{Float, nan, inf, fin, lt, is_nan}
use Rattle.prices.specs.declared.bars.Bar.{Bar}
use Rattle.measures.specs.declared.folds.Column.{Column}
use Rattle.measures.specs.declared.folds.Column.TheVariants.{High, Low}
use Rattle.measures.specs.declared.folds.Extremes.{Extremes}
use Rattle.prices.specs.Price.{max_of, min_of}
use Rattle.measures.specs.Bar.{bar_of_four}
use Rattle.measures.specs.Fold.{price_of, column_of, highest_of, lowest_of, every_of, extremes_of}
use Rattle.prices.proofs.Order.{lt-nan, is-nan, max_assoc, min_assoc, max-known, min-known, max-both, min-both}

-- a fold over the column of a run that is cut into bars, in std's word
pub fold-bars : (f : Float → Float → Float) (c : Column) (start : Float) (fours : List (List Float))
    → fold f start (map (λ four. price_of c (bar_of_four four)) fours) ≡ foldl f start (column_of c (map bar_of_four fours))
unfolding column_of
fold-bars f c start [] = refl
fold-bars f c start (four ∷ fours) = fold-bars f c (f start (price_of c (bar_of_four four))) fours

-- one bar more
module _ (f : Float → Float → Float) (c : Column) (start : Float) where
  pub fold-later : (bars : List Bar) (b : Bar) → foldl f start (column_of c (bars ++ (b ∷ []))) ≡ f (foldl f start (column_of c bars)) (price_of c b)
  unfolding column_of
  fold-later bars b = rw (map-append (price_of c) bars (b ∷ []), foldl-append f start (map (price_of c) bars) (price_of c b ∷ [])) refl

-- from a value that is no NaN one comparison is enough
pub max-of-known : (a b : Float) → is_nan a ≡ false → cond (lt a b) b a ≡ max_of a b
unfolding max_of
max-of-known a b e = simp e

pub min-of-known : (a b : Float) → is_nan a ≡ false → cond (lt b a) b a ≡ min_of a b
unfolding min_of
min-of-known a b e = simp e

-- ---- 02, P2: an extreme that runs along. Each price that enters is older than those before it, and is the first argument: so the extreme
-- is 01's fold from the oldest price, NaN and signs of zero too. One law for max and min, and for any length.

-- what max from minus infinity and min from plus infinity have in common; what is foremost is less than what both are less than
record Extreme (less : Float → Float → Bool) (f : Float → Float → Float) (start : Float) : Type 0 where
  assoc : (a b c : Float) → f (f a b) c ≡ f a (f b c)
  begins : (x : Float) → f start x ≡ f x start
  alone : (x : Float) → is_nan x ≡ false → f x start ≡ x
  known_start : is_nan start ≡ false
  known-second : (a b : Float) → is_nan b ≡ false → is_nan (f a b) ≡ false
  both : (a b z : Float) → is_nan a ≡ false → is_nan b ≡ false → less (f a b) z ≡ (less a z && less b z)
  nan_left : (z : Float) → less nan z ≡ false

exchange : (a b c : Bool) → (a && (b && c)) ≡ (b && (a && c))
exchange true b c = refl
exchange false b c = sym (and-false b)

module _ (less : Float → Float → Bool) (f : Float → Float → Float) (start : Float) (e : Extreme less f start) where
  from_first : (a b : Float) (xs : List Float) → foldl f (f a b) xs ≡ f a (foldl f b xs)
  from_first a b [] = refl
  from_first a b (x ∷ xs) = rw (e.assoc a b x) (from_first a (f b x) xs)

  -- an older price enters
  grows : (x : Float) (xs : List Float) → foldl f start (x ∷ xs) ≡ f x (foldl f start xs)
  grows x xs = rw (e.begins x) (from_first x start xs)

  -- so at each size: what entered from the newest to the oldest price is the fold from the oldest
  runs-along : (xs : List Float) → foldr f start xs ≡ foldl f start xs
  runs-along [] = refl
  runs-along (x ∷ xs) = rw (runs-along xs) (sym (grows x xs))

  -- an extreme is never NaN: it begins at an infinity
  known-fold : (xs : List Float) → is_nan (foldl f start xs) ≡ false
  known-fold [] = e.known_start
  known-fold (x ∷ xs) = rw (grows x xs) (e.known-second x (foldl f start xs) (known-fold xs))

  -- later prices enter together: two runs meet
  joins : (xs ys : List Float) → foldl f start (xs ++ ys) ≡ f (foldl f start xs) (foldl f start ys)
  joins xs ys =
      let r = foldl f start xs in
      foldl-append f start xs ys ∙ ap (λ (z : Float). foldl f z ys) (sym (e.alone r (known-fold xs))) ∙ from_first r start ys

  -- where there is a price, every one is less than z exactly if none is NaN and the extreme is less than z
  module _ (z : Float) where
    abbrev every-less : List Float → Bool
    every-less xs = every_of (λ x. less x z) xs

    abbrev every-known : List Float → Bool
    every-known xs = every_of (λ x. not (is_nan x)) xs

    abbrev Told : List Float → Type 0
    Told xs = every-less xs ≡ (every-known xs && less (foldl f start xs) z)

    of_nan : (x : Float) (xs : List Float) → is_nan x ≡ true → Told (x ∷ xs)
    unfolding every_of
    of_nan x xs h = let none : less x z ≡ false = rw (is-nan x h) (e.nan_left z) in simp (h, none)

    of_one : (x : Float) → is_nan x ≡ false → Told (x ∷ [])
    unfolding every_of
    of_one x h = simp (h, e.begins x, e.alone x h, and-true)

    of-more : (x : Float) (xs : List Float) → is_nan x ≡ false → Told xs → Told (x ∷ xs)
    unfolding every_of
    of-more x xs h rest =
        rw (h, grows x xs, e.both x (foldl f start xs) z h (known-fold xs), rest)
        (exchange (less x z) (every-known xs) (less (foldl f start xs) z))

    first-told : (x : Float) (t : Bool) → is_nan x ≡ t → Told (x ∷ [])
    first-told x true h = of_nan x [] h
    first-told x false h = of_one x h

    next-told : (x : Float) (xs : List Float) (t : Bool) → is_nan x ≡ t → Told xs → Told (x ∷ xs)
    next-told x xs true h rest = of_nan x xs h
    next-told x xs false h rest = of-more x xs h rest

    told : (x : Float) (xs : List Float) → Told (x ∷ xs)
    told x [] = first-told x (is_nan x) refl
    told x (y ∷ ys) = next-told x (y ∷ ys) (is_nan x) refl (told y ys)

-- max and min are such; their starts stand on either side
max-start : (x : Float) → max_of (inf true) x ≡ max_of x (inf true)
unfolding max_of is_nan lt
max-start nan = refl
max-start (inf true) = refl
max-start (inf false) = refl
max-start (fin s m e) = refl

min-start : (x : Float) → min_of (inf false) x ≡ min_of x (inf false)
unfolding min_of is_nan lt
min-start nan = refl
min-start (inf true) = refl
min-start (inf false) = refl
min-start (fin s m e) = refl

max-alone : (x : Float) → is_nan x ≡ false → max_of x (inf true) ≡ x
unfolding max_of is_nan lt
max-alone nan h = absurd (true≢false h)
max-alone (inf true) h = refl
max-alone (inf false) h = refl
max-alone (fin s m e) h = refl

min-alone : (x : Float) → is_nan x ≡ false → min_of x (inf false) ≡ x
unfolding min_of is_nan lt
min-alone nan h = absurd (true≢false h)
min-alone (inf true) h = refl
min-alone (inf false) h = refl
min-alone (fin s m e) h = refl

highest-extreme : Extreme lt max_of (inf true)
unfolding is_nan lt
highest-extreme = record {
  assoc = max_assoc;
  begins = max-start;
  alone = max-alone;
  known_start = refl;
  known-second = max-known;
  both = max-both;
  nan_left = λ z. refl;
}

lowest-extreme : Extreme (λ x y. lt y x) min_of (inf false)
unfolding is_nan
lowest-extreme = record {
  assoc = min_assoc;
  begins = min-start;
  alone = min-alone;
  known_start = refl;
  known-second = min-known;
  both = min-both;
  nan_left = lt-nan;
}

pub highest-grows : (x : Float) (xs : List Float) → highest_of (x ∷ xs) ≡ max_of x (highest_of xs)
unfolding highest_of
highest-grows = grows lt max_of (inf true) highest-extreme

pub lowest-grows : (x : Float) (xs : List Float) → lowest_of (x ∷ xs) ≡ min_of x (lowest_of xs)
unfolding lowest_of
lowest-grows = grows (λ x y. lt y x) min_of (inf false) lowest-extreme

pub highest-runs-along : (xs : List Float) → foldr max_of (inf true) xs ≡ highest_of xs
unfolding highest_of
highest-runs-along = runs-along lt max_of (inf true) highest-extreme

pub lowest-runs-along : (xs : List Float) → foldr min_of (inf false) xs ≡ lowest_of xs
unfolding lowest_of
lowest-runs-along = runs-along (λ x y. lt y x) min_of (inf false) lowest-extreme

pub known-highest : (xs : List Float) → is_nan (highest_of xs) ≡ false
unfolding highest_of
known-highest = known-fold lt max_of (inf true) highest-extreme

pub known-lowest : (xs : List Float) → is_nan (lowest_of xs) ≡ false
unfolding lowest_of
known-lowest = known-fold (λ x y. lt y x) min_of (inf false) lowest-extreme

pub highest-joins : (xs ys : List Float) → highest_of (xs ++ ys) ≡ max_of (highest_of xs) (highest_of ys)
unfolding highest_of
highest-joins = joins lt max_of (inf true) highest-extreme

pub lowest-joins : (xs ys : List Float) → lowest_of (xs ++ ys) ≡ min_of (lowest_of xs) (lowest_of ys)
unfolding lowest_of
lowest-joins = joins (λ x y. lt y x) min_of (inf false) lowest-extreme

pub every-below : (z x : Float) (xs : List Float) → every_of (λ y. lt y z) (x ∷ xs) ≡ (every_of (λ y. not (is_nan y)) (x ∷ xs) && lt (highest_of (x ∷ xs)) z)
unfolding highest_of
every-below = told lt max_of (inf true) highest-extreme

pub every-above : (z x : Float) (xs : List Float) → every_of (λ y. lt z y) (x ∷ xs) ≡ (every_of (λ y. not (is_nan y)) (x ∷ xs) && lt z (lowest_of (x ∷ xs)))
unfolding lowest_of
every-above = told (λ x y. lt y x) min_of (inf false) lowest-extreme

-- ---- the extremes of a run as bars are read

pub extremes-none : record { highest = inf true; lowest = inf false } ≡ extremes_of []
unfolding extremes_of highest_of lowest_of column_of
extremes-none = refl

-- one bar more enters by one comparison a price
pub extremes-newer : (bars : List Bar) (b : Bar)
    → (let e = extremes_of bars in record { highest = cond (lt e.highest b.high) b.high e.highest; lowest = cond (lt b.low e.lowest) b.low e.lowest }) ≡ extremes_of (bars ++ (b ∷ []))
unfolding extremes_of highest_of lowest_of
extremes-newer bars b =
    rw (fold-later max_of High (inf true) bars b, fold-later min_of Low (inf false) bars b)
    (rw (max-of-known _ b.high (known-highest (column_of High bars)), min-of-known _ b.low (known-lowest (column_of Low bars))) refl)

-- the i-th bar of a run that is cut into bars
pub extremes-later : (fours : List (List Float)) (i : ℕ) (e : Extremes) → i < length fours → e ≡ extremes_of (map bar_of_four (take i fours))
    → (let b = bar_of_four (get_or fours i []) in record { highest = cond (lt e.highest b.high) b.high e.highest; lowest = cond (lt b.low e.lowest) b.low e.lowest }) ≡ extremes_of (map bar_of_four (take (i + 1) fours))
extremes-later fours i e h so_far =
    let last = get_or fours i [] in
    rw (so_far, take_more fours i [] h, map-append bar_of_four (take i fours) (last ∷ [])) (extremes-newer (map bar_of_four (take i fours)) (bar_of_four last))
