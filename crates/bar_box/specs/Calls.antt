-- Calls that hand a state on: the first is handed a state, each later one the state that the call before it left, refused or not.
use mathlib.Core.List.{List, [], ◌∷◌, flatten}

-- the state after a list of calls, by what each leaves
unfoldable pub after : {S C : Type 0} → (S → C → S) → S → List C → S
after left s [] = s
after left s (c ∷ cs) = after left (left s c) cs

-- what each of them gives
unfoldable pub each : {S C A : Type 0} → (S → C → S) → (S → C → A) → S → List C → List A
each left gives s [] = []
each left gives s (c ∷ cs) = gives s c ∷ each left gives (left s c) cs

-- all that they give, in one list
abbrev pub joined : {S C A : Type 0} → (S → C → S) → (S → C → List A) → S → List C → List A
joined left gives s cs = flatten (each left gives s cs)
