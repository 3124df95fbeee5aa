-- The texts that commands write of a document's body.
use Rattle.std.proofs.Common.{◌≡◌, ℕ, List, ap, subst}
use Rattle.dia_read.specs.Canonical.{SpellsBody}
use Rattle.dia_read.specs.Documents.{Spells}
use Rattle.dia_read.specs.declared.document.Body.{Body}
use Rattle.dia_read.specs.declared.document.Doc.{Doc}
use Rattle.dbp_answers.specs.Answer.{Answers, Makes, made, of_body, of_generated, of_plan, of_seed, of_shape}
use Rattle.dbp_answers.specs.Commands.{at_nothing, at_text, looks}
use Rattle.dbp_answers.specs.declared.command.Command.{Command}
use Rattle.dbp_answers.specs.declared.status.Status.TheVariants.{Ok}
use Rattle.dbp_answers.proofs.AnswerLaws.{looks-at-plan, not-shape-and-text, not-text-and-plan, one-make}

-- the document of whose body the text is
pub record IsMadeOf (input text : List ℕ) (make : Body → List ℕ) : Type 0 where
  pub doc : Doc
  pub spelled : Spells input doc
  pub same : make doc.body ≡ text

made-of-body : (input text : List ℕ) (command : Command) (make : Body → List ℕ) → looks command ≡ at_text make → Makes input command text → IsMadeOf input text make
made-of-body input text command make looked (of_body c f d here spelled) = record { doc = d; spelled = spelled; same = ap (λ (g : Body → List ℕ). g d.body) (one-make c make f looked here) }
made-of-body input text command make looked (of_shape c a here is) = absurd (not-shape-and-text c make here looked)
made-of-body input text command make looked (of_plan c o p a x here makes) = absurd (not-text-and-plan c make looked (looks-at-plan c o here))
made-of-body input text command make looked (of_seed seed size) = absurd (let no : at_nothing ≡ at_text make = looked in cc)
made-of-body input text command make looked (of_generated seed size p a accepted is) = absurd (let no : at_nothing ≡ at_text make = looked in cc)

-- of an answer that a command wrote which looks at the text
pub written-of-body : (input text : List ℕ) (command : Command) (make : Body → List ℕ) → looks command ≡ at_text make → Answers input command Ok text → IsMadeOf input text make
written-of-body input text command make looked (made a makes) = made-of-body input a command make looked makes

-- a text that spells a body is the command's own, if that is what it makes of the body
pub written-again : (text : List ℕ) (body : Body) (command : Command) (make : Body → List ℕ) → looks command ≡ at_text make → SpellsBody text body → make body ≡ text → Answers text command Ok text
written-again text body command make looked spells same =
    made text (subst (λ (l : List ℕ). Makes text command l) same (of_body command make (record { body = body; lines = spells.lines }) looked spells.spelled))
