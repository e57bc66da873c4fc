-- The number of the plain call's answer. Assumes nothing.
use Rattle.recognisers.specs.Export.{export_of}
use Rattle.recognisers.proofs.ByteLaws.{history-bars}
use Rattle.recognisers.proofs.export.jcc_label.Goals as goal

pub returns : goal.returns
unfolding export_of
returns c = simp (c.answer_number.ensures, c.recognise_history.ensures.answer, c.new-t.ensures, c.as_chunks.ensures.front, c.is_empty.ensures, c.as_chunks.ensures.back_len, history-bars)
