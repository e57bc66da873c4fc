-- Where the newest close is not beyond the first middle, the search would find nothing. Assumes nothing.
use mathlib.Core.Path.{◌∙◌}
use Rattle.measures.specs.Bar.{bars_of}
use Rattle.growing_rules.proofs.GrowingNeeds.{no-growing}
use Rattle.growing_rules.proofs.found_in.Goals as goal

pub returns-else-is_beyond : goal.returns-else-is_beyond
returns-else-is_beyond c =
    let within = rw (c.is_beyond.ensures, c.back.ensures, c.first_middle-m.ensures) at c.if-is_beyond.false in
    c.no_match.ensures ∙ no-growing c.args.ends (bars_of c.args.w.now) within
