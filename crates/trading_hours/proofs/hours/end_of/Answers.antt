-- The begin of the run of m minutes is found from the minute itself. Assumes nothing.
use Rattle.trading_hours.proofs.EndLaws.{end-found}
use Rattle.trading_hours.proofs.hours.end_of.Goals as goal

pub returns : goal.returns
returns c =
    rw (c.min.ensures, c.rest-passed.ensures, c.saturating_sub.ensures, c.window_with-w.ensures, c.in_use.ensures) (end-found c.args.h c.args.m c.args.stamp)
