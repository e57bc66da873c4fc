-- By the verdict. Assumes nothing.
use mathlib.Core.Path.{◌≡◌, ap, sym, ◌∙◌}
use Rattle.recognisers.specs.Threshold.{standard_set}
use Rattle.recognisers.specs.Refusal.{first_true, verdict_number}
use Rattle.bar_box.specs.Box.{made_of}
use Rattle.bar_box.proofs.Demand3.{standard-valid}
use Rattle.terms.proofs.TakeLaws.{made-good, made-bad}
use Rattle.terms.proofs.calls.make.Goals as goal

-- a box that is made with the standard set has it
standard-kept : (made_of standard_set).after.thresholds ≡ standard_set
unfolding made_of first_true
standard-kept = rw standard-valid

pub returns-in-Ok : goal.returns-in-Ok
returns-in-Ok c =
    let v = sym c.make_verdict-verdict.ensures ∙ c.in-Ok.is in
    rw (made-good c.args.t c.args.h c.args.m v) record { after = c.fresh-after.ensures ∙ rw c.with_zeros.ensures; verdict = c.in-Ok.is; number = ap verdict_number c.make_verdict-verdict.ensures }

pub returns-in-Err : goal.returns-in-Err
returns-in-Err c =
    let v = sym c.make_verdict-verdict.ensures ∙ c.in-Err.is in
    rw (made-bad c.args.t c.args.h c.args.m _ v) record { after = cc standard-kept; verdict = c.in-Err.is; number = ap verdict_number c.make_verdict-verdict.ensures }
