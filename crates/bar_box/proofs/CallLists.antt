-- Lists of calls that hand a state on. Assumes nothing.
use mathlib.Core.Path.{◌≡◌, refl, sym, ◌∙◌}
use mathlib.Core.List.{List, [], ◌∷◌, ◌++◌, flatten, append_assoc, append-nil}
use Rattle.bar_box.specs.Calls.{after, each, joined}

module _ {S C : Type 0} (left : S → C → S) where
  -- a list in two parts: the second goes on from what the first left
  pub after-append : (s : S) (cs ds : List C) → after left s (cs ++ ds) ≡ after left (after left s cs) ds
  unfolding after
  after-append s [] ds = refl
  after-append s (c ∷ cs) ds = after-append (left s c) cs ds

  pub each_append : {A : Type 0} (gives : S → C → A) (s : S) (cs ds : List C) → each left gives s (cs ++ ds) ≡ each left gives s cs ++ each left gives (after left s cs) ds
  unfolding after each
  each_append gives s [] ds = refl
  each_append gives s (c ∷ cs) ds = rw (each_append gives (left s c) cs ds)

  -- what every call keeps, the list keeps
  pub kept : (P : S → Type 0) → ((s : S) (c : C) → P s → P (left s c)) → (s : S) (cs : List C) → P s → P (after left s cs)
  unfolding after
  kept P keeps s [] p = p
  kept P keeps s (c ∷ cs) p = kept P keeps (left s c) cs (keeps s c p)

  -- where each call appends what it gives to a list of the state, the calls append all that they give
  pub built : {A : Type 0} (F : S → List A) (gives : S → C → List A) → ((s : S) (c : C) → F s ++ gives s c ≡ F (left s c)) → (s : S) (cs : List C) → F s ++ joined left gives s cs ≡ F (after left s cs)
  unfolding after each flatten
  built F gives grows s [] = append-nil (F s)
  built F gives grows s (c ∷ cs) = sym (append_assoc (F s) (gives s c) (joined left gives (left s c) cs)) ∙ rw (grows s c) (built F gives grows (left s c) cs)

-- two states that each call leaves related are so after a list of calls, and give the same
module _ {S T C : Type 0} (left : S → C → S) (next : T → C → T) (R : S → T → Type 0) (step : (s : S) (t : T) (c : C) → R s t → R (left s c) (next t c)) where
  pub after-follows : (s : S) (t : T) (cs : List C) → R s t → R (after left s cs) (after next t cs)
  unfolding after
  after-follows s t [] r = r
  after-follows s t (c ∷ cs) r = after-follows (left s c) (next t c) cs (step s t c r)

  pub each-follows : {A : Type 0} (gives : S → C → A) (says : T → C → A) → ((s : S) (t : T) (c : C) → R s t → gives s c ≡ says t c)
      → (s : S) (t : T) (cs : List C) → R s t → each left gives s cs ≡ each next says t cs
  unfolding each
  each-follows gives says agree s t [] r = refl
  each-follows gives says agree s t (c ∷ cs) r = rw (agree s t c r, each-follows gives says agree (left s c) (next t c) cs (step s t c r))
