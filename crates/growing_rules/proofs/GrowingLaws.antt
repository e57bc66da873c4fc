-- The search over growing windows, a size more, where nothing more matches, and within the newest nine bars; and the two greatest bodies when an older bar comes in front.
-- Assumes nothing.
use Prim.Native.Nat.{ℕ, zero, suc, ◌+◌, ◌-◌, ◌≤◌}
use mathlib.Core.Path.{◌≡◌, refl, sym, ◌∙◌}
use mathlib.Core.Bool.{Bool, true, false, cond, not, and-false}
use mathlib.Core.List.{List, [], ◌∷◌, reverse, reverse_aux}
use native.Mathlib.Omega.{arith}
use borrow.Author.Tests.{eqb-true, eqb-false, eq-eqb, ne_eqb}
use lib.Dec.{eqb}
use Rattle.std.proofs.Common.{Some, None}
use Rattle.growing_rules.specs.declared.Leaders.{Leaders}
use lib.ListN.{length, get_or, drop}
use lib.Ieee.{Float, nan, lt, is_nan}
use Rattle.measures.specs.Bar.{Bar, body_of}
use Rattle.measures.specs.Window.{newest, window_of}
use Rattle.measures.proofs.WindowLaws.{window-reach}
use Rattle.measures.proofs.Order.{lt-nan}
use Rattle.rule_types.specs.declared.label.Label.{Label, TheVariants.Other}
use Rattle.rule_types.specs.declared.label.Pair.{Pair}
use Rattle.rule_types.specs.Label.{code_of, pair_of, pair_a}
use Rattle.growing_rules.specs.GrowingRule.{size_label, first_match, three_methods, san_fa_v20221118, tower, ta_xing, insert_of, bodies_down, bodies_up, last_but_one, bodies_known}
use Rattle.growing_rules.specs.SearchSteps.{two_of, leaders_of, body_joined}

-- only one label has the code 0
pub other-code : (l : Label) → code_of l ≡ 0 → l ≡ Other
other-code Other h = refl
other-code l h = grind arith

-- ---- the search, a size more: what was found stands; where nothing was, the window of that size decides

module _ (check : List Bar → Label) (w : List Bar) where
  abbrev label : ℕ → Label
  label n = check (window_of w 1 n)

  abbrev match_at : ℕ → Pair
  match_at n = cond (eqb (code_of (label n)) 0) pair_a (pair_of (label n) (size_label n))

  abbrev or_at : ℕ → Pair → Pair
  or_at n found = cond (eqb (code_of found.v1) 0) (match_at n) found

  match-more : (k n : ℕ) → first_match check (suc k) n w ≡ or_at (n + k) (first_match check k n w)
  unfolding first_match
  match-more zero n = let e : n + 0 ≡ n = omega arith in rw e
  match-more (suc k) n = go (eqb (code_of (label n)) 0) refl (match-more k (n + 1))
    where
      go : (t : Bool) → eqb (code_of (label n)) 0 ≡ t → first_match check (suc k) (n + 1) w ≡ or_at (n + 1 + k) (first_match check k (n + 1) w)
          → cond t (first_match check (suc k) (n + 1) w) (pair_of (label n) (size_label n)) ≡ or_at (n + suc k) (cond t (first_match check k (n + 1) w) (pair_of (label n) (size_label n)))
      go true e more = let f : n + suc k ≡ n + 1 + k = omega arith in rw f more
      go false e more = simp e

  -- a search that found nothing gives the pair A
  match_none : (k n : ℕ) → code_of (first_match check k n w).v1 ≡ 0 → first_match check k n w ≡ pair_a
  unfolding first_match
  match_none zero n none = refl
  match_none (suc k) n none = go (eqb (code_of (label n)) 0) refl (match_none k (n + 1)) none
    where
      go : (t : Bool) → eqb (code_of (label n)) 0 ≡ t → (code_of (first_match check k (n + 1) w).v1 ≡ 0 → first_match check k (n + 1) w ≡ pair_a)
          → code_of (cond t (first_match check k (n + 1) w) (pair_of (label n) (size_label n))).v1 ≡ 0
          → cond t (first_match check k (n + 1) w) (pair_of (label n) (size_label n)) ≡ pair_a
      go true e rest h = rest h
      go false e rest h = absurd (eqb-false (code_of (label n)) 0 e h)

  -- what is found in the windows of 5 bars to those of fewer than n, and of n too
  module _ (n : ℕ) (many : 5 ≤ n) where
    abbrev found : Pair
    found = first_match check (n - 5) 5 w

    abbrev next : Pair
    next = first_match check (n + 1 - 5) 5 w

    next-is : next ≡ or_at n found
    next-is =
        let e : n + 1 - 5 ≡ suc (n - 5) = omega arith in
        let f : 5 + (n - 5) ≡ n = omega arith in
        rw e (rw f at (match-more (n - 5) 5))

    pub match-stays : (code_of found.v1 ≡ 0 → ⊥) → next ≡ found
    match-stays some = rw (next-is, ne_eqb (code_of found.v1) 0 some)

    pub match-hit : code_of found.v1 ≡ 0 → (code_of (label n) ≡ 0 → ⊥) → next ≡ pair_of (label n) (size_label n)
    match-hit none hit = rw (next-is, eq-eqb (code_of found.v1) 0 none, ne_eqb (code_of (label n)) 0 hit)

    pub match-miss : code_of (label n) ≡ 0 → next ≡ found
    match-miss miss = go (eqb (code_of found.v1) 0) refl
      where
        go : (t : Bool) → eqb (code_of found.v1) 0 ≡ t → next ≡ found
        go true e = rw (next-is, e, eq-eqb (code_of (label n)) 0 miss) (sym (match_none (n - 5) 5 (eqb-true (code_of found.v1) 0 e)))
        go false e = rw (next-is, e)

  -- where no window from n bars on matches, nothing more is found
  pub match-ends : (n : ℕ) → 5 ≤ n → ((i : ℕ) → label (n + i) ≡ Other) → (d : ℕ) → first_match check (n + d - 5) 5 w ≡ first_match check (n - 5) 5 w
  match-ends n many none zero = let e : n + 0 ≡ n = omega arith in rw e
  match-ends n many none (suc d) =
      let e : n + suc d ≡ n + d + 1 = omega arith in
      rw e (match-miss (n + d) (omega arith) (rw (none d)) ∙ match-ends n many none d)

-- windows of at most nine bars are the same within the newest nine
match-near : (check : List Bar → Label) (w : List Bar) (k n : ℕ) → 1 ≤ n → n + k ≤ 10 → first_match check k n (newest 9 w) ≡ first_match check k n w
unfolding first_match
match-near check w zero n some few = refl
match-near check w (suc k) n some few = simp (window-reach 9 w 1 n (omega arith) (omega arith), match-near check w k (n + 1) (omega arith) (omega arith))

pub san-fa-near : (w : List Bar) → san_fa_v20221118 (newest 9 w) ≡ san_fa_v20221118 w
unfolding san_fa_v20221118
san-fa-near w = match-near three_methods w 4 5 (omega arith) (omega arith)

pub ta-xing-near : (w : List Bar) → ta_xing (newest 9 w) ≡ ta_xing w
unfolding ta_xing
ta-xing-near w = match-near tower w 5 5 (omega arith) (omega arith)

-- ---- the two greatest bodies: the first two of a list that a value is inserted into depend on that value and the first two

insert-first : (x : Float) (l : List Float) → get_or (insert_of x l) 0 nan ≡ cond (lt x (get_or l 0 nan)) (get_or l 0 nan) x
unfolding insert_of
insert-first x [] = simp (lt-nan x)
insert-first x (a ∷ l) = go (lt x a)
  where
    go : (t : Bool) → get_or (cond t (a ∷ insert_of x l) (x ∷ a ∷ l)) 0 nan ≡ cond t a x
    go true = refl
    go false = refl

insert-second : (x : Float) (l : List Float) → get_or (insert_of x l) 1 nan ≡ cond (lt x (get_or l 0 nan)) (cond (lt x (get_or l 1 nan)) (get_or l 1 nan) x) (get_or l 0 nan)
unfolding insert_of
insert-second x [] = simp (lt-nan x)
insert-second x (a ∷ l) = go (lt x a)
  where
    go : (t : Bool) → get_or (cond t (a ∷ insert_of x l) (x ∷ a ∷ l)) 1 nan ≡ cond t (cond (lt x (get_or l 0 nan)) (get_or l 0 nan) x) a
    go true = insert-first x l
    go false = refl

pub two-grow : (b : Bar) (s : List Bar) → two_of (b ∷ s) ≡ body_joined (body_of b) (two_of s)
unfolding two_of body_joined bodies_down
two-grow b s = simp (insert-first (body_of b) (bodies_down s), insert-second (body_of b) (bodies_down s))

-- a body that is NaN is one of every longer window
known-drop : (k : ℕ) (s : List Bar) → bodies_known (drop k s) ≡ false → bodies_known s ≡ false
unfolding bodies_known
known-drop zero s h = h
known-drop (suc k) [] h = h
known-drop (suc k) (b ∷ s) h = rw (known-drop k s h) (and-false (not (is_nan (body_of b))))

pub known-newest : (n : ℕ) (s : List Bar) → bodies_known (newest n s) ≡ false → bodies_known s ≡ false
unfolding newest
known-newest n s h = known-drop (length s - n) s h

pub leads-some : (s : List Bar) (l : Leaders) → leaders_of s ≡ Some l → (bodies_known s ≡ true) × (l ≡ two_of s)
unfolding leaders_of
leads-some s l h = go (bodies_known s) refl h
  where
    go : (t : Bool) → bodies_known s ≡ t → cond t (Some (two_of s)) None ≡ Some l → (bodies_known s ≡ true) × (l ≡ two_of s)
    go true e h = (e, grind arith)
    go false e h = absurd (grind arith)

pub leads-none : (s : List Bar) → leaders_of s ≡ None → bodies_known s ≡ false
unfolding leaders_of
leads-none s h = go (bodies_known s) refl h
  where
    go : (t : Bool) → bodies_known s ≡ t → cond t (Some (two_of s)) None ≡ None → bodies_known s ≡ false
    go true e h = grind arith
    go false e h = e

-- the last but one in non-falling order is the second in non-rising order, which the scan carries
last-but-one-turned : (l : List Float) (x y : Float) (r : List Float) → last_but_one (reverse_aux l (x ∷ y ∷ r)) ≡ last_but_one (x ∷ y ∷ r)
unfolding last_but_one
last-but-one-turned [] x y r = refl
last-but-one-turned (a ∷ l) x y r = last-but-one-turned l a x (y ∷ r)

last-but-one-reversed : (l : List Float) → last_but_one (reverse l) ≡ get_or l 1 nan
unfolding last_but_one
last-but-one-reversed [] = refl
last-but-one-reversed (a ∷ []) = refl
last-but-one-reversed (a ∷ b ∷ l) = last-but-one-turned l b a []

pub last-but-one : (s : List Bar) → last_but_one (bodies_up s) ≡ (two_of s).second
unfolding bodies_up two_of
last-but-one s = last-but-one-reversed (bodies_down s)
