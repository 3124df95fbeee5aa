use Rattle.std.proofs.Common.{◌∙◌, rules}
use Rattle.std.specs.Str.{bytes_eq}
use Rattle.std.proofs.lemmas.Iterator.{YieldsList-from_slice}
use Rattle.std.proofs.lemmas.Iterator.Search.{find_from_yields_List}
use Rattle.dia_tokens.specs.Keywords.{keyword_text}
use Rattle.dia_tokens.proofs.reserved.keyword_among.Goals as goal

pub returns : goal.returns
returns c =
    c.copied.ensures
    ∙ find_from_yields_List (λ w. bytes_eq (keyword_text w) c.args.text.now) _ _ _ c.find.ensures.ran (YieldsList-from_slice c.args.keywords.now cc) (λ x b q k. search rules)
