-- The bytes that are kept, which are all that there are. Assumes nothing.
use Prim.Native.Nat.{suc}
use mathlib.Core.Path.{◌≡◌, ap, ◌∙◌}
use lib.ListN.{length}
use Rattle.measures.proofs.RunLaws.{take-least}
use Rattle.recognisers.specs.Number.{longest_line}
use Rattle.input_lines.specs.Lines.{content}
use Rattle.text.specs.LineText.{line_of}
use Rattle.text.proofs.LineTextLaws.{answered}
use Rattle.text.proofs.line_text.read_partial.Goals as goal

pub returns : goal.returns
returns c =
    let p = c.args.line in
    -- the array has all its bytes: what owning the parameter tells
    let whole : length p.bytes ≡ suc longest_line = c.well_formed.0.1.1.0.1.0.1 in
    let kept = ap line_of (take-least p.len (suc longest_line) p.bytes whole) in
    let all = answered (content p) c.read_line.result (c.read_line.ensures.answer ∙ rw c.min-n.ensures kept) in
    record { answer = all.0; number = all.1.0; place = all.1.1 }
