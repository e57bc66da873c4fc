-- The code is the definition. Assumes nothing.
use mathlib.Core.Path.{◌≡◌, sym, ◌∙◌}
use mathlib.Core.Bool.{◌&&◌}
use Rattle.trading_hours.specs.Hours.{valid_hours, term_length}
use Rattle.term_events.specs.Verdicts.{valid_layer}
use Rattle.term_events.proofs.verdicts.layer_valid.Goals as goal
use Rattle.term_events.proofs.verdicts.layer_valid.Goals.{then-hours_valid, else-hours_valid}

pub returns-then-term_length : goal.returns-then-term_length
unfolding valid_layer
returns-then-term_length c =
    let two : c.if-hours_valid.value ≡ (valid_hours c.args.h && term_length c.args.m) =
    elim c.if-hours_valid.branch [
      | then-hours_valid w ↦ w.value-is ∙ rw (sym c.hours_valid.ensures ∙ w.if-hours_valid.true) w.term_length.ensures
      | else-hours_valid w ↦ w.value-is ∙ rw (sym c.hours_valid.ensures ∙ w.if-hours_valid.false) w.if-hours_valid.false
    ] in
    rw (sym two ∙ c.if-term_length.true) c.sound.ensures

pub returns-else-term_length : goal.returns-else-term_length
unfolding valid_layer
returns-else-term_length c =
    let two : c.if-hours_valid.value ≡ (valid_hours c.args.h && term_length c.args.m) =
    elim c.if-hours_valid.branch [
      | then-hours_valid w ↦ w.value-is ∙ rw (sym c.hours_valid.ensures ∙ w.if-hours_valid.true) w.term_length.ensures
      | else-hours_valid w ↦ w.value-is ∙ rw (sym c.hours_valid.ensures ∙ w.if-hours_valid.false) w.if-hours_valid.false
    ] in
    rw (sym two ∙ c.if-term_length.false) c.if-term_length.false
