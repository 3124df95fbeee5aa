-- The text of steps, and of what they hear.
use Rattle.std.specs.Prelude.{ℕ, ◌==◌, if◌then◌else◌, codes, List, [], ◌∷◌, ◌++◌}
use Rattle.std.specs.Fmt.{decimal, signed_decimal}
use Rattle.std.specs.List.{flat_map}
use Rattle.dbp_rules.specs.StepKinds.{kind_of}
use Rattle.dbp_rules.specs.declared.step.Heard.{Heard}
use Rattle.dbp_rules.specs.declared.step.Heard.TheVariants as heard
use Rattle.dbp_rules.specs.declared.step.Step.{Step}
use Rattle.dbp_rules.specs.declared.step.Step.TheVariants as step
use Rattle.dbp_plan.specs.declared.diagram.Diagram.{Diagram}
use Rattle.dbp_plan.specs.Lookups.{link_at, task_at}
use Rattle.dbp_replay.specs.NamedItems.{port_name, read_name, task_of}
use Rattle.dbp_replay.specs.StepForms.{form_of}

-- each word after a space
abbrev pub spaced_words : List (List ℕ) → List ℕ
spaced_words [] = []
spaced_words (w ∷ ws) = 32 ∷ w ++ spaced_words ws

-- the number after `pre`: it is left out for the delay 1
abbrev pub delay_number : ℕ → List (List ℕ)
delay_number delay = if delay == 1 then [] else decimal delay ∷ []

-- the words before a writer: none for a direct link
abbrev pub delay_words : ℕ → List (List ℕ)
delay_words delay = if delay == 0 then [] else codes "pre" ∷ delay_number delay

-- the words after the task
abbrev pub operand_words : Diagram → Step → List (List ℕ)
operand_words d (step.Aim i slot) = decimal slot ∷ []
operand_words d (step.Claim k) = delay_words (link_at d.links k).delay ++ (task_at d (link_at d.links k).writer).name ∷ []
operand_words d (step.Look i r) = read_name d i r ∷ []
operand_words d (step.Take i r) = read_name d i r ∷ []
operand_words d (step.Put i p) = port_name d i p ∷ []
operand_words d _ = []

-- the words of a step, joined by one space
abbrev pub step_text : Diagram → Step → List ℕ
step_text d e = (form_of (kind_of e)).0 ++ spaced_words ((task_at d (task_of d e)).name ∷ operand_words d e)

-- a line for each step, ended by a line feed
abbrev pub script_text : Diagram → List Step → List ℕ
script_text d steps = flat_map (λ e. step_text d e ++ 10 ∷ []) steps

-- the words of what a step heard; a step that stores hears nothing
abbrev pub heard_words : Heard → List (List ℕ)
heard_words heard.Stored = []
heard_words (heard.Ended n) = codes "->" ∷ decimal n ∷ []
heard_words heard.Started = codes "->" ∷ codes "started" ∷ []
heard_words heard.Closed = codes "->" ∷ codes "closed" ∷ []
heard_words (heard.Order slot number) = codes "->" ∷ codes "slot" ∷ decimal slot ∷ codes "number" ∷ decimal number ∷ []
heard_words heard.Ready = codes "->" ∷ codes "ready" ∷ []
heard_words heard.NotYet = codes "->" ∷ codes "notyet" ∷ []
heard_words (heard.Word value) = codes "->" ∷ signed_decimal value ∷ []

-- a step and what it heard, ended by a line feed
abbrev pub heard_line : Diagram → Step → Heard → List ℕ
heard_line d e h = step_text d e ++ spaced_words (heard_words h) ++ 10 ∷ []
