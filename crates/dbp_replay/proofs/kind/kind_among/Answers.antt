use Rattle.std.proofs.Common.{◌∙◌, rules}
use Rattle.std.specs.Str.{bytes_eq}
use Rattle.std.proofs.lemmas.Iterator.{YieldsList-from_slice}
use Rattle.std.proofs.lemmas.Iterator.Search.{find_from_yields_List}
use Rattle.dbp_replay.specs.StepForms.{form_of}
use Rattle.dbp_replay.proofs.kind.kind_among.Goals as goal

pub returns : goal.returns
returns c =
    c.copied.ensures
    ∙ find_from_yields_List (λ k. bytes_eq (form_of k).0 c.args.text.now) _ _ _ c.find.ensures.ran (YieldsList-from_slice c.args.kinds.now cc) (λ x b q k. search rules)
