-- Each term bar is the bar of its term's bars, for every list of events. Assumes nothing.
use Rattle.std.specs.Prelude.{Option, Some, None}
use Prim.Native.Nat.{ℕ}
use mathlib.Core.Path.{◌≡◌, refl, ap, sym, ◌∙◌}
use mathlib.Core.Logic.{⊎_elim}
use mathlib.Core.Bool.{Bool, true, false, cond}
use mathlib.Core.List.Memᴰ
use mathlib.Core.List.{List, [], ◌∷◌, ◌++◌, map, map-append, foldl-append, Memᴰ}
use native.Mathlib.Omega.{arith}
use Rattle.measures.specs.Bar.{Bar}
use Rattle.measures.specs.Fold.{column_of}
use Rattle.trading_hours.specs.declared.hours.Hours.{Hours}
use Rattle.trading_hours.specs.Hours.{term_of}
use Rattle.trading_hours.proofs.TermLaws.{same-eq, same_self}
use Rattle.term_events.specs.Events.{Event, Minute, Close, carried_with, in_term_of, joined_bar, opened, ended_by, open_bars, minute_step, ended_of, carried_of, term_bar, term_in, ended_terms, open_term, open_of, OneTerm, TermBars}

-- one bar more of a term is joined to the term's bar
more-bar : (x : ℕ × Bar) (xs : List (ℕ × Bar)) (y : ℕ × Bar) → joined_bar (term_bar (x ∷ xs)) y.1 ≡ term_bar (x ∷ (xs ++ (y ∷ [])))
unfolding joined_bar term_bar column_of
more-bar x xs y = simp (map-append, foldl-append)

open_more : (bars : List (ℕ × Bar)) (y : ℕ × Bar) → opened (open_of bars) true y.1 ≡ open_of (bars ++ (y ∷ []))
unfolding term_bar column_of
open_more [] y = refl
open_more (x ∷ bars) y = rw (more-bar x bars y)

open-other : (bars : List (ℕ × Bar)) (y : ℕ × Bar) → opened (open_of bars) false y.1 ≡ open_of (y ∷ [])
unfolding term_bar column_of
open-other [] y = refl
open-other (x ∷ bars) y = refl

none-ended : (bars : List (ℕ × Bar)) → open_bars (ended_by (open_of bars) true) ≡ []
none-ended [] = refl
none-ended (b ∷ bars) = refl

bar-ended : (bars : List (ℕ × Bar)) → open_bars (ended_by (open_of bars) false) ≡ map term_bar (term_in bars)
bar-ended [] = refl
bar-ended (b ∷ bars) = refl

close-ended : (bars : List (ℕ × Bar)) → open_bars (open_of bars) ≡ map term_bar (term_in bars)
close-ended [] = refl
close-ended (b ∷ bars) = refl

module _ (h : Hours) (m : ℕ) where
  ended-terms : (last : Option ℕ) (bars : List (ℕ × Bar)) (es : List Event) → ended_of h m (carried_with last (open_of bars)) es ≡ map term_bar (ended_terms h m last bars es)
  unfolding ended_of ended_terms minute_step
  ended-terms last bars [] = refl
  ended-terms last bars (Minute s b ∷ es) = go (in_term_of h m last s) (ended-terms (Some s) (bars ++ ((s, b) ∷ [])) es) (ended-terms (Some s) ((s, b) ∷ []) es)
    where
      go : (same : Bool) → ended_of h m (carried_with (Some s) (open_of (bars ++ ((s, b) ∷ [])))) es ≡ map term_bar (ended_terms h m (Some s) (bars ++ ((s, b) ∷ [])) es)
          → ended_of h m (carried_with (Some s) (open_of ((s, b) ∷ []))) es ≡ map term_bar (ended_terms h m (Some s) ((s, b) ∷ []) es)
          → open_bars (ended_by (open_of bars) same) ++ ended_of h m (carried_with (Some s) (opened (open_of bars) same b)) es
          ≡ map term_bar (cond same (ended_terms h m (Some s) (bars ++ ((s, b) ∷ [])) es) (term_in bars ++ ended_terms h m (Some s) ((s, b) ∷ []) es))
      go true on other = rw (none-ended bars, open_more bars (s, b)) on
      go false on other = rw (bar-ended bars, open-other bars (s, b), map-append, other)
  ended-terms last bars (Close ∷ es) = rw (close-ended bars, map-append, ended-terms last [] es)

  open-term : (last : Option ℕ) (bars : List (ℕ × Bar)) (es : List Event) → (carried_of h m (carried_with last (open_of bars)) es).pending ≡ open_of (open_term h m last bars es)
  unfolding carried_of open_term minute_step
  open-term last bars [] = refl
  open-term last bars (Minute s b ∷ es) = go (in_term_of h m last s) (open-term (Some s) (bars ++ ((s, b) ∷ [])) es) (open-term (Some s) ((s, b) ∷ []) es)
    where
      go : (same : Bool) → (carried_of h m (carried_with (Some s) (open_of (bars ++ ((s, b) ∷ [])))) es).pending ≡ open_of (open_term h m (Some s) (bars ++ ((s, b) ∷ [])) es)
          → (carried_of h m (carried_with (Some s) (open_of ((s, b) ∷ []))) es).pending ≡ open_of (open_term h m (Some s) ((s, b) ∷ []) es)
          → (carried_of h m (carried_with (Some s) (opened (open_of bars) same b)) es).pending ≡ open_of (open_term h m (Some s) (cond same (bars ++ ((s, b) ∷ [])) ((s, b) ∷ [])) es)
      go true on other = rw (open_more bars (s, b)) on
      go false on other = rw (open-other bars (s, b)) other
  open-term last bars (Close ∷ es) = open-term last [] es

  -- ---- the bars that are kept lie in the term of the last stamp

  Near : Option ℕ → List (ℕ × Bar) → Type 0
  Near last bars = (x : ℕ × Bar) → Memᴰ x bars → in_term_of h m last x.0 ≡ true

  near_none : (last : Option ℕ) → Near last []
  unfolding Near
  near_none last x here = absurd (Memᴰ.not-nil here)

  near_first : (s : ℕ) (b : Bar) → Near (Some s) ((s, b) ∷ [])
  unfolding Near in_term_of
  near_first s b x here = same_self _ _ (ap (λ (y : ℕ × Bar). term_of h m y.0) (sym (Memᴰ.eq_of_singleton here)))

  near-more : (last : Option ℕ) (bars : List (ℕ × Bar)) (s : ℕ) (b : Bar) → in_term_of h m last s ≡ true → Near last bars → Near (Some s) (bars ++ ((s, b) ∷ []))
  unfolding Near in_term_of
  near-more (Some a) bars s b e near x here =
      ⊎_elim (λ old. same_self _ _ (sym (same-eq _ _ e) ∙ same-eq _ _ (near x old))) (λ new. near_first s b x new) (Memᴰ.append_cases bars here)
  near-more None bars s b e near x here = absurd (let z : ◌≡◌ {A = ℕ} 0 1 = cc in let w : ⊥ = omega arith in w)

  near-one : (last : Option ℕ) (bars : List (ℕ × Bar)) → Near last bars → OneTerm h m bars
  unfolding Near in_term_of
  near-one (Some a) bars near x y p q = sym (same-eq _ _ (near x p)) ∙ same-eq _ _ (near y q)
  near-one None bars near x y p q = absurd (let e = near x p in let z : ◌≡◌ {A = ℕ} 0 1 = cc in let w : ⊥ = omega arith in w)

  -- the open term's bars and those of each ended one
  abbrev Ones : List (ℕ × Bar) → List (List (ℕ × Bar)) → Type 0
  Ones rest ended = (g : List (ℕ × Bar)) → Memᴰ g (rest ∷ ended) → OneTerm h m g

  one_more : (bars rest : List (ℕ × Bar)) (ended : List (List (ℕ × Bar))) → OneTerm h m bars → Ones rest ended → Ones rest (term_in bars ++ ended)
  one_more [] rest ended one others g here = others g here
  one_more (x ∷ xs) rest ended one others g here =
      ⊎_elim
      (λ e. others g (Memᴰ.head e))
      (λ later. ⊎_elim (λ e. rw e one) (λ there. others g (Memᴰ.tail there)) (Memᴰ.cases_cons later))
      (Memᴰ.cases_cons here)

  one-term : (last : Option ℕ) (bars : List (ℕ × Bar)) (es : List Event) → Near last bars → Ones (open_term h m last bars es) (ended_terms h m last bars es)
  unfolding ended_terms open_term
  one-term last bars [] near = λ g here. rw (Memᴰ.eq_of_singleton here) (near-one last bars near)
  one-term last bars (Minute s b ∷ es) near =
      let other : List (ℕ × Bar) = (s, b) ∷ [] in
      let more = bars ++ other in
      go (in_term_of h m last s) more other (λ e. one-term (Some s) more es (near-more last bars s b e near)) (one_more bars _ _ (near-one last bars near) (one-term (Some s) other es (near_first s b)))
    where
      go : (same : Bool) (more other : List (ℕ × Bar)) {x y : List (List (ℕ × Bar))} → (same ≡ true → Ones (open_term h m (Some s) more es) x) → Ones (open_term h m (Some s) other es) y
          → Ones (open_term h m (Some s) (cond same more other) es) (cond same x y)
      go true more other on off = on refl
      go false more other on off = off
  one-term last bars (Close ∷ es) near = one_more bars _ _ (near-one last bars near) (one-term last [] es (near_none last))

-- ---- said of every list of events at once

pub term-bars : TermBars
term-bars = record { ended = λ h m es. ended-terms h m None [] es; left = λ h m es. open-term h m None [] es; one-term = λ h m es. one-term h m None [] es (near_none h m None) }
