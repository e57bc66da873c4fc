-- An element of the table. Assumes nothing.
use Prim.Native.Nat.{ℕ, zero, suc}
use denote.Ref.{Bor}
use mathlib.Core.List.{List, [], ◌∷◌, map}
use mathlib.Core.Path.{◌≡◌, refl, ap}
use lib.ListN.{get_or}
use Rattle.label_texts.specs.LabelText.{bytes_of}
use Rattle.label_texts.proofs.label_text.label.Goals as goal

-- what an element of a table points to
pointed : (table : List (Bor (List ℕ))) (k : ℕ) (d : Bor (List ℕ)) → (get_or table k d).now ≡ get_or (map (λ (s : Bor (List ℕ)). s.now) table) k d.now
pointed [] k d = refl
pointed (s ∷ table) zero d = refl
pointed (s ∷ table) (suc k) d = pointed table k d

pub returns : goal.returns
returns c = rw pointed (ap bytes_of c.from.ensures)
