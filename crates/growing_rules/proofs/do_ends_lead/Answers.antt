-- The scan gives the last but one of the bodies in non-falling order, or none where a body is NaN. Assumes nothing.
use Rattle.measures.specs.Bar.{bars_of}
use Rattle.growing_rules.specs.GrowingRule.{ends_lead}
use Rattle.growing_rules.proofs.GrowingLaws.{last-but-one, leads-some, leads-none}
use Rattle.growing_rules.proofs.do_ends_lead.Goals as goal

pub returns-in-Some : goal.returns-in-Some
unfolding ends_lead
returns-in-Some c =
    let bars = bars_of c.args.s.now in
    let leads = leads-some bars c.in-Some.l (rw c.leaders_of.ensures at c.in-Some.is) in
    simp (c.min.ensures, c.body-last.ensures, c.last_bar.ensures, c.body-first.ensures, c.first_bar.ensures, leads.0, leads.1, last-but-one)

pub returns-in-None : goal.returns-in-None
unfolding ends_lead
returns-in-None c =
    let unknown = leads-none (bars_of c.args.s.now) (rw c.leaders_of.ensures at c.in-None.is) in
    simp unknown
