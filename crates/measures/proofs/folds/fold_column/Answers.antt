-- The chain gives the prices of the column, and `f` acts as h on each.
use Rattle.std.proofs.Common.{ap, ◌∙◌, rules}
use mathlib.Core.List.{foldl}
use Rattle.std.proofs.lemmas.Iterator.{YieldsList-from_slice, YieldsList-from_map}
use Rattle.std.proofs.lemmas.Iterator.Consumers.{fold_from_yields_List}
use Rattle.measures.specs.Bar.{bar_of_four}
use Rattle.measures.specs.Fold.{price_of, column_of}
use Rattle.measures.proofs.FoldLaws.{fold-bars}
use Rattle.measures.proofs.folds.fold_column.Goals as goal

pub returns : goal.returns
returns g c = λ h acts.
    fold_from_yields_List _ h c.args.start c.fold.result c.fold.ensures.ran (YieldsList-from_map _ (λ b. price_of c.args.c (bar_of_four b)) (YieldsList-from_slice c.bars_in.result.now cc) c.map.ensures.closure (λ x r q k. search rules)) acts
    ∙ fold-bars h c.args.c c.args.start c.bars_in.result.now
    ∙ ap (λ bars. foldl h c.args.start (column_of c.args.c bars)) c.bars_in.ensures
