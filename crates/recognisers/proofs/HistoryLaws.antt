-- The window of bars in any form is the window of the bars made from them. Assumes nothing.
use Rattle.std.proofs.Common.{ℕ, List, map, length, take, ◌≡◌}
use Rattle.std.proofs.lemmas.List.{length-map, take-map, drop-map}
use Rattle.measures.specs.Bar.{Bar}
use Rattle.measures.specs.Window.{up_to, newest, window_of}

pub window-map : {X : Type 0} (f : X → Bar) (xs : List X) (di n : ℕ) → map f (newest n (take (up_to (length xs) di) xs)) ≡ window_of (map f xs) di n
unfolding newest window_of
window-map f xs di n =
    let p = up_to (length xs) di in
    let e = length-map xs f in
    let g = length-map (take p xs) f in
    rw (e, take-map f p xs, g, drop-map f _ (take p xs))
