-- Every input prints what it printed while refusal 8 was for bad prices too, but for the line of a bad price. Assumes nothing.
use Rattle.std.specs.Prelude.{Ok, Err}
use Prim.Native.Nat.{ℕ, ◌+◌}
use mathlib.Core.Bool.{Bool, true, false, cond}
use mathlib.Core.List.{List, [], ◌∷◌, ◌++◌, map, append_assoc}
use mathlib.Core.Logic.{inl, inr}
use mathlib.Core.Path.{refl, ap}
use lib.Dec.{ltb}
use lib.ListN.{length}
use Rattle.measures.specs.Bar.{Bar}
use Rattle.recognisers.specs.Number.{most_bars}
use Rattle.text.specs.declared.line_text.LineError.TheVariants.{BadShape, BadPrice}
use Rattle.text.specs.LineText.{Line, line_of}
use Rattle.input_lines.specs.Lines.{lines_of}
use Rattle.label_lines.specs.History.{newest_lines, lines_print, history_prints}
use Rattle.label_lines.specs.SameRows.{by8, Same, SameRows}
use Rattle.label_lines.proofs.HistoryRows.{history-output}

-- behind the same bytes
behind : (xs now then : List ℕ) → Same now then → Same (xs ++ now) (xs ++ then)
behind xs now then (inl e) = inl (ap (λ (l : List ℕ). xs ++ l) e)
behind xs now then (inr (rows, ordinal, place, a, b)) = inr (xs ++ rows, ordinal, place, rw (a, append_assoc), rw (b, append_assoc))

same-prints : (h : List Bar) (lines : List Line) → Same (history_prints h lines) (history_prints h (map by8 lines))
unfolding lines_print
same-prints h [] = inl refl
same-prints h (Err BadShape ∷ lines) = inl refl
same-prints h (Err (BadPrice place) ∷ lines) = inr ([], length h + 1, place, refl, refl)
same-prints h (Ok bar ∷ lines) = go (ltb (length h) most_bars) _ (same-prints (h ++ (bar ∷ [])) lines)
  where
    go : (t : Bool) (end : List ℕ) → let more = h ++ (bar ∷ []) in
        Same (history_prints more lines) (history_prints more (map by8 lines))
        → Same (cond t (newest_lines more ++ history_prints more lines) end) (cond t (newest_lines more ++ history_prints more (map by8 lines)) end)
    go true end rest = behind (newest_lines (h ++ (bar ∷ []))) _ _ rest
    go false end rest = inl refl

pub same_rows : (input : List ℕ) → SameRows input
same_rows input = rw (history-output input) (same-prints [] (map line_of (lines_of input)))
