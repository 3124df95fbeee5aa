use Rattle.std.proofs.Common.{◌≡◌, [], sym, ◌∙◌, ap, true, rules}
use Rattle.std.specs.List.{list_all}
use Rattle.dia_lines.proofs.TextLaws.{lines_of-nil}
use Rattle.dia_read.specs.Documents.{is_blank_text}
use Rattle.dia_tokens.specs.Blanks.{is_blank_line}
use Rattle.dia_read.proofs.OneMore.{nothing-left}
use Rattle.dia_read.proofs.refusal.is_blank_text.Goals as goal

pub returns : goal.returns
returns c =
    let none : is_blank_text [] ≡ true = ap (list_all is_blank_line) lines_of-nil in
    sym none ∙ ap is_blank_text (sym (nothing-left c.loop-rest.rest.now (search rules))) ∙ c.loop-rest.invariant
