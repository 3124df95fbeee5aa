use Rattle.std.proofs.Common.{◌∙◌, rules}
use Rattle.std.specs.Prelude.{◌&&◌}
use Rattle.std.proofs.lemmas.Iterator.{YieldsList-from_slice}
use Rattle.std.proofs.lemmas.Iterator.Consumers.{fold_from_yields_List}
use Rattle.dia_tokens.specs.Kinds.{is_allowed}
use Rattle.dia_tokens.proofs.ByteLaws.{folds-all}
use Rattle.dia_tokens.proofs.line.all_allowed.Goals as goal

pub returns : goal.returns
returns c =
    fold_from_yields_List _ (λ a b. a && is_allowed b) _ _ c.fold.ensures.ran (YieldsList-from_slice c.args.line.now cc) (λ a x b q k. search rules)
    ∙ folds-all is_allowed c.args.line.now
