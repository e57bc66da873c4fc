-- A refused making leaves sheet and answers; otherwise the calls are made. Assumes nothing.
use mathlib.Core.Path.{ap, sym, ◌∙◌}
use Rattle.recognisers.specs.Refusal.{verdict_number}
use Rattle.recognisers.specs.Threshold.{thresholds_of}
use Rattle.terms.specs.Layer.{made_of}
use Rattle.term_calls.specs.TermCalls.{hours_in}
use Rattle.exports.proofs.MakingLaws.{making-refused, making-accepted}
use Rattle.exports.proofs.term_lists.jcc_terms.Goals as goal
use Rattle.exports.proofs.term_lists.jcc_terms.Goals.{in-Ok, in_default}

pub returns : goal.returns
returns c =
    let a = c.args in
    let one = made_of (thresholds_of a.th0 a.z2 a.th2 a.z3 a.th3 a.zdf5 a.th6 a.zdf7 a.th8 a.zf8 a.th10 a.th13 a.th14) (hours_in a.hours.now) a.minutes in
    let verdict = rw (c.new-t.ensures, c.hours_of.ensures) at c.make-made.ensures.verdict in
    let after = rw (c.new-t.ensures, c.hours_of.ensures) at c.make-made.ensures.after in
    let number = c.from.ensures ∙ c.verdict_number.ensures ∙ ap verdict_number verdict in
    elim c.match-verdict.branch [
      | in-Ok w ↦
          let left = making-accepted one a.prices.now a.stamps.now a.sizes.now a.sheet.now a.answers.now (sym verdict ∙ w.in-Ok.is) in
          (number, w.sheet-is ∙ w.make_calls.ensures.0 ∙ rw after left.0, w.answers-is ∙ w.make_calls.ensures.1 ∙ rw after left.1)
      | in_default w ↦
          let left = making-refused one a.prices.now a.stamps.now a.sizes.now a.sheet.now a.answers.now _ (sym verdict ∙ w.in_default.is) in
          (number, w.sheet-is ∙ left.0, w.answers-is ∙ left.1)
    ]
