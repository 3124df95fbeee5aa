-- The lines of steps that are kept to be copied.
use Rattle.std.specs.Prelude.{◌≡◌, ◌∷◌, ◌++◌, [], Option, IfSome}
use Rattle.dbp_rules.specs.declared.step.Step.{Step}
use Rattle.dbp_plan.specs.declared.diagram.Diagram.{Diagram}
use Rattle.dbp_replay.specs.declared.kept_lines.Line.{Line}
use Rattle.dbp_replay.specs.declared.kept_lines.Parts.{Parts}
use Rattle.dbp_replay.specs.StepForms.{step_with}
use Rattle.dbp_replay.specs.Texts.{step_text}

-- the step that has the parts
abbrev pub step_of_parts : Parts → Step
step_of_parts p = step_with p.kind p.task p.number

-- a place is empty, or its text is the line of its step in the diagram
abbrev pub IsKept : Diagram → Option Line → Type 0
IsKept d kept = IfSome kept (λ line. line.text.items ≡ step_text d (step_of_parts line.parts) ++ 10 ∷ [])
