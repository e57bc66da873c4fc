-- One more bar, fed to the box and the tally that a history left. Assumes nothing.
use Rattle.std.specs.Prelude.{Err, Ok}
use Prim.Native.Nat.{◌+◌, ◌≤◌}
use mathlib.Core.List.{List, [], ◌∷◌, ◌++◌}
use mathlib.Core.Path.{◌≡◌, sym, ◌∙◌}
use lib.ListN.{length}
use Rattle.measures.specs.Bar.{Bar, bars_of, prices_of}
use Rattle.answers.specs.declared.refusals.Refusal.TheVariants as refusal
use Rattle.recognisers.specs.Number.{most_bars}
use Rattle.recognisers.specs.Threshold.{standard_set}
use Rattle.bar_box.proofs.FeedSteps.{count-after, verdict-step}
use Rattle.bar_box.proofs.FeedLists.{at-start}
use Rattle.tallies.specs.Tally.{fresh_tally}
use Rattle.tallies.specs.Feed.{tallied_of}
use Rattle.tallies.proofs.Tallies.{tally_of, tallied-step, tally-bars, tally-none}
use Rattle.label_lines.proofs.HistoryRows.{fresh, start, box_of, accepted, past}
use Rattle.tally_lines.specs.Session.{bar_feed}
use Rattle.tally_lines.specs.History.{history_tally}

-- the count of the box that a history leaves
pub box-count : (h : List Bar) → (box_of h).count ≡ length h
box-count h = count-after fresh start h

-- the tally is that of its rows
tally-is : (h : List Bar) → history_tally h ≡ tally_of standard_set h
unfolding history_tally
tally-is h = sym (tally-bars standard_set h)

-- before the first bar
pub box-none : fresh ≡ box_of []
box-none = at-start fresh start

pub tally-fresh : history_tally [] ≡ fresh_tally
tally-fresh = tally-is [] ∙ tally-none standard_set

module _ (h : List Bar) (bar : Bar) where
  -- up to the most bars it is accepted
  pub fed-more : length h + 1 ≤ most_bars
      → tallied_of (box_of h) (history_tally h) (bar_feed bar) ≡ record { verdict = Ok tt; after = box_of (h ++ (bar ∷ [])); tally = history_tally (h ++ (bar ∷ [])) }
  unfolding bars_of prices_of
  fed-more few =
      rw (tally-is h, tally-is (h ++ (bar ∷ []))) (tallied-step fresh start h (bar_feed bar) ∙ rw (verdict-step fresh start h (bar_feed bar), accepted h bar few))

  -- past them it is refused
  pub fed-past : length h ≡ most_bars
      → tallied_of (box_of h) (history_tally h) (bar_feed bar) ≡ record { verdict = Err refusal.TooManyBars; after = box_of h; tally = history_tally h }
  fed-past most = rw (tally-is h) (tallied-step fresh start h (bar_feed bar) ∙ rw (verdict-step fresh start h (bar_feed bar), past h bar most))
