-- What a call leaves whose feed is not refused. Assumes nothing.
use Rattle.std.specs.Prelude.{Ok}
use Prim.Native.Nat.{ℕ}
use mathlib.Core.Path.{◌≡◌, ◌∙◌}
use mathlib.Core.List.{List}
use lib.ListN.{length}
use Rattle.measures.specs.Bar.{overlay, prices_of}
use Rattle.measures.proofs.PriceLaws.{bars-prices}
use Rattle.bar_box.specs.Sheet.{rows_of}
use Rattle.recognisers.specs.Refusal.{feed_verdict}
use Rattle.bar_box.specs.Box.{kept, taken_in, fed_of, sheet_of}
use Rattle.bar_box.proofs.PartLaws.{fed-box, fed-sheet}
use Rattle.term_events.specs.Events.{Event, carried_of}
use Rattle.terms.specs.declared.layers.Layer.{Layer}
use Rattle.terms.specs.Layer.{ended_in, layer_with, taken, taken_of}

module _ (l : Layer) (es : List Event) (sheet : List ℕ) (e : feed_verdict l.inner.thresholds l.inner.count (length (prices_of (ended_in l es))) (length sheet) ≡ Ok tt) where
  pub box-is : (fed_of l.inner (prices_of (ended_in l es)) (length sheet)).after ≡ taken_in l.inner (ended_in l es)
  box-is = fed-box l.inner (prices_of (ended_in l es)) sheet e ∙ rw (bars-prices (ended_in l es))

  pub sheet-is : sheet_of l.inner (prices_of (ended_in l es)) sheet ≡ overlay sheet 0 (rows_of l.inner.thresholds l.inner.count (kept l.inner) (ended_in l es))
  sheet-is = fed-sheet l.inner (prices_of (ended_in l es)) sheet e ∙ rw (bars-prices (ended_in l es))

  -- what the code builds of it
  pub taken_is : taken (Ok tt) (length (ended_in l es)) (layer_with l.hours l.minutes (carried_of l.hours l.minutes l.carried es) (taken_in l.inner (ended_in l es)))
      ≡ taken_of (Ok tt) l es (length sheet)
  taken_is = rw box-is
