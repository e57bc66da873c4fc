-- "The eighteen", 4 and 17: the parts of a window, which is a list of bars, oldest first.
use Rattle.std.specs.Prelude.{◌-◌, List, length}
use Rattle.measures.specs.Bar.{Bar}
use Rattle.measures.specs.Window.{window_of, back_of}

-- the first and the last bar of a window, and those between them
unfoldable pub first_of : List Bar → Bar
first_of s = back_of s (length s)

unfoldable pub last_of : List Bar → Bar
last_of s = back_of s 1

unfoldable pub inner_of : List Bar → List Bar
inner_of s = window_of s 2 (length s - 2)
