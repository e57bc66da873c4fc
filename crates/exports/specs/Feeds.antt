-- A look after feeds.
use Rattle.answers.specs.Answer.{LookAnswer}
use Rattle.std.specs.Prelude.{ℕ}
use Rattle.measures.specs.Window.{up_to}
use Rattle.recognisers.specs.Refusal.{answer_to, with_ordinal}
use Rattle.box_record.specs.declared.boxes.Outcome.{Outcome}
use Rattle.bar_box.specs.Box.{look_of}

-- what a look at the box after a feed hands back, or the feed's refusal
unfoldable pub look_after : Outcome → ℕ → ℕ → LookAnswer
look_after o k di = with_ordinal (answer_to o.verdict (look_of o.after k di)) (up_to o.after.count di)
