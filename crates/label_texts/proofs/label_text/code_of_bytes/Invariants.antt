use Prim.Native.Nat.{◌+◌}
use mathlib.Core.Path.{◌≡◌}
use lib.ListN.{drop}
use Rattle.label_texts.specs.LabelText.{texts_of_labels, place_in, code_of_bytes}
use Rattle.label_texts.proofs.label_text.code_of_bytes.Given as goal

abbrev pub invariant-loop-code : goal.invariant-loop-code
invariant-loop-code l = code_of_bytes l.s ≡ l.code + place_in (drop l.code texts_of_labels) l.s
