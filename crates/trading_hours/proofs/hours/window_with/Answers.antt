-- The first window that has the minute stands at its place. Assumes nothing.
use borrow.Author.Tests.{tests}
use Rattle.std.proofs.Common.{rules}
use Rattle.std.proofs.lemmas.Iterator.{YieldsList-from_slice}
use Rattle.std.proofs.lemmas.Iterator.Search.{find_from_yields_List}
use Rattle.trading_hours.specs.Hours.{has}
use Rattle.trading_hours.proofs.HourLaws.{found-place}
use Rattle.trading_hours.proofs.hours.window_with.Goals as goal

pub returns : goal.returns
returns c =
    let ws = c.args.windows.now in
    let minute = c.args.minute in
    let found = find_from_yields_List (λ w. has w minute) _ _ c.find-found.result c.find-found.ensures.ran (YieldsList-from_slice ws cc) (λ x b q k. search (rules, tests)) in
    found-place _ (λ d p. search rules) ws minute _ (rw (c.copied.ensures, found) at c.unwrap_or_default.ensures)
