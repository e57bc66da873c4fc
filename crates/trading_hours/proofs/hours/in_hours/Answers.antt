-- Whether any window in use has the minute. Assumes nothing.
use borrow.Author.Tests.{tests}
use Rattle.std.proofs.Common.{rules, ◌∙◌, sym}
use Rattle.std.proofs.lemmas.Iterator.{YieldsList-from_slice}
use Rattle.std.proofs.lemmas.Iterator.Search.{any_from_yields_List}
use Rattle.trading_hours.specs.Hours.{in_hours, has, windows_of, minute_of}
use Rattle.trading_hours.proofs.HourLaws.{any-list}
use Rattle.trading_hours.proofs.hours.in_hours.Goals as goal

pub returns : goal.returns
unfolding in_hours
returns c =
    let minute = minute_of c.args.stamp in
    any_from_yields_List (λ w. has w minute) _ _ _ c.any.ensures.ran (YieldsList-from_slice (windows_of c.args.h) cc) (λ x b q k. search (rules, tests))
    ∙ sym (any-list (windows_of c.args.h) minute)
