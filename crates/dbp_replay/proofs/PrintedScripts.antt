-- The lines of a printed script say the steps that were printed.
use Rattle.std.proofs.Common.{◌≡◌, All, List, [], ◌∷◌, ◌++◌, Some, Ok, sym, ap, ◌∙◌, subst, append_assoc}
use Rattle.std.proofs.lemmas.List.Elements.{All-head, All-tail}
use Rattle.dbp_rules.specs.declared.step.Step.{Step}
use Rattle.dbp_plan.specs.declared.diagram.Diagram.{Diagram}
use Rattle.dia_lines.specs.Text.{lines_of}
use Rattle.dia_lines.proofs.TextLaws.{lines_of-line, lines_of-nil}
use Rattle.dia_tokens.specs.Kinds.{is_allowed}
use Rattle.dia_read.specs.declared.document.Doc.{Doc}
use Rattle.dia_read.specs.Documents.{none, another}
use Rattle.dbp_replay.specs.Names.{HasNames, HasSlotNumber}
use Rattle.dbp_replay.specs.NamedItems.{IsThere}
use Rattle.dbp_replay.specs.Scripts.{IsScript, Name, Says}
use Rattle.dbp_replay.specs.Texts.{script_text, step_text}
use Rattle.dia_read.proofs.Following.{all-inside, allowed-inside}
use Rattle.dbp_replay.proofs.StepTokens.{says-step}

names-steps : (d : Diagram) (steps : List Step) → HasNames d → All (IsThere d) steps → All HasSlotNumber steps → Name d (lines_of (script_text d steps)) steps
names-steps d [] names there slots = subst (λ lines. Name d lines []) (sym lines_of-nil) none
names-steps d (e ∷ steps) names there slots =
    let line = step_text d e in
    let after = script_text d steps in
    let says : Says d line (Ok e) = says-step d e names (All-head (IsThere d) e steps there) (All-head HasSlotNumber e steps slots) in
    let rest : Name d (lines_of after) steps = names-steps d steps names (All-tail (IsThere d) e steps there) (All-tail HasSlotNumber e steps slots) in
    let text : script_text d (e ∷ steps) ≡ line ++ 10 ∷ after = append_assoc line (10 ∷ []) after in
    let lines : lines_of (script_text d (e ∷ steps)) ≡ line ∷ lines_of after = ap lines_of text ∙ lines_of-line line after (all-inside is_allowed allowed-inside line says.spelled.allowed) in
    subst (λ ls. Name d ls (e ∷ steps)) (sym lines) (another line e (lines_of after) steps says rest)

pub script-again : (d : Diagram) (doc : Doc) (steps : List Step) → HasNames d → All (IsThere d) steps → All HasSlotNumber steps → doc.body.script ≡ Some (script_text d steps) → IsScript d doc steps
script-again d doc steps names there slots section = record { text = script_text d steps; section = section; named = names-steps d steps names there slots }
