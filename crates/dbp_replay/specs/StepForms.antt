-- The lines of a script: their forms, and the steps that they name in a diagram.
use Rattle.std.specs.Prelude.{ℕ, ℤ, pos, negsuc, ◌^◌, get_or, ◌==◌, ◌&&◌, Bool, nat_lt, if◌then◌else◌, codes, List, [], ◌∷◌, length, Option, Some, None, Result, Ok, Err}
use Rattle.std.specs.List.{filter, find, position_or_len}
use Rattle.std.specs.Str.{bytes_eq}
use Rattle.dbp_rules.specs.declared.step.Step.{Step}
use Rattle.dbp_rules.specs.declared.step.Step.TheVariants as step
use Rattle.dbp_plan.specs.declared.diagram.Diagram.{Diagram}
use Rattle.dbp_plan.specs.declared.diagram.Link.{Link}
use Rattle.dia_lines.specs.Delays.{delay_at}
use Rattle.dia_lines.specs.Limits.{delay_fits}
use Rattle.dia_tokens.specs.declared.token.Token.{Token}
use Rattle.dia_tokens.specs.declared.token.Token.TheVariants as token
use Rattle.dia_tokens.specs.Keywords.{keyword_text}
use Rattle.dbp_plan.specs.Lookups.{task_at}
use Rattle.dbp_replay.specs.declared.fail.ScriptCode.{ScriptCode}
use Rattle.dbp_replay.specs.declared.fail.ScriptCode.TheVariants.{BadStep, StepName}
use Rattle.dbp_replay.specs.declared.form.Form.{Form}
use Rattle.dbp_replay.specs.declared.form.Operand.{Operand}
use Rattle.dbp_replay.specs.declared.form.Operand.TheVariants as operand
use Rattle.dbp_rules.specs.declared.kind.StepKind.{StepKind}
use Rattle.dbp_rules.specs.declared.kind.StepKind.TheVariants.{Seen, Aim, Claim, OpenGate, Start, Hear, Look, Take, Shut, Put, Done, End}
use Rattle.dbp_replay.specs.declared.kind.Takes.{Takes}
use Rattle.dbp_replay.specs.declared.kind.Takes.TheVariants.{Nothing, Slot, Writer, Read, Port}

-- ---- the table of forms: the word that begins a line, and what stands after the task

abbrev pub form_of : StepKind → List ℕ × Takes
form_of Seen = (codes "seen", Nothing)
form_of Aim = (codes "aim", Slot)
form_of Claim = (codes "claim", Writer)
form_of OpenGate = (codes "open", Nothing)
form_of Start = (codes "start", Nothing)
form_of Hear = (codes "hear", Nothing)
form_of Look = (codes "look", Read)
form_of Take = (codes "take", Read)
form_of Shut = (codes "shut", Nothing)
form_of Put = (codes "put", Port)
form_of Done = (codes "done", Nothing)
form_of End = (codes "end", Nothing)

abbrev pub all_kinds : List StepKind
all_kinds = Seen ∷ Aim ∷ Claim ∷ OpenGate ∷ Start ∷ Hear ∷ Look ∷ Take ∷ Shut ∷ Put ∷ Done ∷ End ∷ []

-- the first of the kinds that has the word
abbrev pub kind_among : List StepKind → List ℕ → Option StepKind
kind_among kinds text = find (λ k. bytes_eq (form_of k).0 text) kinds

-- the kinds whose word begins with this byte
unfoldable pub kinds_from : ℕ → List StepKind
kinds_from first = filter (λ k. get_or (form_of k).0 0 0 == first) all_kinds

abbrev pub kind_with : List ℕ → Option StepKind
kind_with text = kind_among all_kinds text

-- ---- the form of tokens

-- the text of a name or a keyword
abbrev pub name_text : Token → List ℕ
name_text (token.Name n) = n
name_text (token.Keyword w) = keyword_text w
name_text _ = []

-- a slot's number is from 0 to 4294967295
abbrev pub slot_of : ℤ → Option Operand
slot_of (pos n) = if nat_lt n (2 ^ 32) then Some (operand.Slot n) else None
slot_of (negsuc n) = None

-- the number of a delay that is within its limits
abbrev pub small_delay : Option ℤ → ℕ
small_delay (Some (pos n)) = n
small_delay _ = 0

-- a link with the delay, if that is within its limits
abbrev pub link_of : Option ℤ → List ℕ → Option Operand
link_of delay writer = if delay_fits delay then Some (operand.Link (small_delay delay) writer) else None

-- a delay as documents have it, and then the writer
abbrev pub writer_of : Option ℤ × List Token → Option Operand
writer_of (delay, token.Name w ∷ []) = link_of delay w
writer_of _ = None

-- what the tokens after the task are
abbrev pub operand_of : Takes → List Token → Option Operand
operand_of Nothing [] = Some operand.Nothing
operand_of Slot (token.Number z ∷ []) = slot_of z
operand_of Writer ts = writer_of (delay_at ts)
operand_of Read (token.Name r ∷ []) = Some (operand.Read r)
operand_of Port (token.Name p ∷ []) = Some (operand.Port p)
operand_of _ _ = None

-- a line of the kind with this task
abbrev pub with_operand : StepKind → List ℕ → Option Operand → Option Form
with_operand kind task None = None
with_operand kind task (Some o) = Some (record { kind = kind; task = task; operand = o })

abbrev pub of_kind : Option StepKind → List ℕ → List Token → Option Form
of_kind None task rest = None
of_kind (Some kind) task rest = with_operand kind task (operand_of (form_of kind).1 rest)

-- the form of a line: a word, the name of a task, and what the word's kind takes
abbrev pub form_in : List Token → Option Form
form_in (first ∷ token.Name task ∷ rest) = of_kind (kind_with (name_text first)) task rest
form_in _ = None

-- ---- the step of a form in a diagram

-- the place in a list of this length, if it is one
abbrev pub within : ℕ → ℕ → Option ℕ
within len place = if nat_lt place len then Some place else None

-- the first task with the name
abbrev pub task_named : Diagram → List ℕ → Option ℕ
task_named d n = within (length d.tasks) (position_or_len (λ t. bytes_eq t.name n) d.tasks)

-- the first read of the task with the name, and the first out
abbrev pub read_named : Diagram → ℕ → List ℕ → Option ℕ
read_named d i n = within (length (task_at d i).reads) (position_or_len (λ r. bytes_eq r.name n) (task_at d i).reads)

abbrev pub port_named : Diagram → ℕ → List ℕ → Option ℕ
port_named d i n = within (length (task_at d i).outs) (position_or_len (λ o. bytes_eq o.name n) (task_at d i).outs)

abbrev pub is_link : ℕ → ℕ → ℕ → Link → Bool
is_link writer reader delay l = (l.writer == writer) && ((l.reader == reader) && (l.delay == delay))

-- the first link from the writer to the reader with the delay
abbrev pub link_between : Diagram → Option ℕ → ℕ → ℕ → Option ℕ
link_between d None reader delay = None
link_between d (Some writer) reader delay = within (length d.links) (position_or_len (is_link writer reader delay) d.links)

-- the number that an operand of the task's step is; if there is none it is 0
abbrev pub number_of : Diagram → ℕ → Operand → Option ℕ
number_of d i operand.Nothing = Some 0
number_of d i (operand.Slot n) = Some n
number_of d i (operand.Link delay writer) = link_between d (task_named d writer) i delay
number_of d i (operand.Read n) = read_named d i n
number_of d i (operand.Port n) = port_named d i n

-- the step of the kind: of this task, and with this number if it takes one
abbrev pub step_with : StepKind → ℕ → ℕ → Step
step_with Seen i n = step.Seen i
step_with Aim i n = step.Aim i n
step_with Claim i n = step.Claim n
step_with OpenGate i n = step.OpenGate i
step_with Start i n = step.Start i
step_with Hear i n = step.Hear i
step_with Look i n = step.Look i n
step_with Take i n = step.Take i n
step_with Shut i n = step.Shut i
step_with Put i n = step.Put i n
step_with Done i n = step.Done i
step_with End i n = step.End i

abbrev pub step_numbered : StepKind → ℕ → Option ℕ → Result Step ScriptCode
step_numbered kind i None = Err StepName
step_numbered kind i (Some n) = Ok (step_with kind i n)

abbrev pub of_task : Diagram → Form → Option ℕ → Result Step ScriptCode
of_task d f None = Err StepName
of_task d f (Some i) = step_numbered f.kind i (number_of d i f.operand)

abbrev pub named_step : Diagram → Option Form → Result Step ScriptCode
named_step d None = Err BadStep
named_step d (Some f) = of_task d f (task_named d f.task)

-- the step that the tokens of a line name; else `BadStep` if they have no form, and `StepName` if a name isn't there
abbrev pub step_of : Diagram → List Token → Result Step ScriptCode
step_of d ts = named_step d (form_in ts)
