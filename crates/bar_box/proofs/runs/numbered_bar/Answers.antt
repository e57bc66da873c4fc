-- The bar that is lent there, and its ordinal. Assumes nothing.
use Rattle.bar_box.proofs.runs.numbered_bar.Goals as goal

pub returns : goal.returns
returns c = simp c.bar_or_none.ensures
