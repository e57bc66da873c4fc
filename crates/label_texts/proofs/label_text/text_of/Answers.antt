-- The label's bytes over zeros. Assumes nothing.
use Prim.Native.Nat.{ℕ}
use native.Mathlib.Omega.{arith}
use lib.ListN.{length, length-take}
use Rattle.label_texts.specs.LabelText.{bytes_of, text_of, most_bytes}
use Rattle.label_texts.proofs.LabelLaws.{short}
use Rattle.std.proofs.lemmas.List.{drop-replicate}
use Rattle.label_texts.proofs.label_text.text_of.Goals as goal

pub slice_bounds-bytes-end : goal.slice_bounds-bytes-end
slice_bounds-bytes-end c = rw (c.as_bytes-label.ensures.value, c.label_of.ensures) (short c.args.code)

pub slice_bounds-copy_from_slice-end : goal.slice_bounds-copy_from_slice-end
slice_bounds-copy_from_slice-end c = simp (c.as_bytes-label.ensures.value, c.label_of.ensures, length-take) (omega (arith, short c.args.code))

pub copy_from_slice-requires : goal.copy_from_slice-requires
copy_from_slice-requires c = simp (c.as_bytes-label.ensures.value, c.label_of.ensures, length-take) (omega (arith, short c.args.code))

pub returns : goal.returns
unfolding text_of
returns c = rw (c.copy_from_slice.ensures.after, c.as_bytes-label.ensures.value, c.label_of.ensures, drop-replicate {X = ℕ} (length (bytes_of c.args.code)) most_bytes 0)
