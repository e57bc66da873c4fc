-- No bytes beyond the table. Assumes nothing.
use Rattle.label_texts.proofs.LabelLaws.{no_bytes}
use Rattle.label_texts.proofs.label_text.label_of.Goals as goal

pub returns-else-code-lt-NO_LABEL : goal.returns-else-code-lt-NO_LABEL
returns-else-code-lt-NO_LABEL c = rw (no_bytes c.args.code c.if-code-lt-NO_LABEL.false)
