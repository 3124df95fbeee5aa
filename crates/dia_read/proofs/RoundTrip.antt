-- The canonical text of a document spells the document.
use Rattle.std.proofs.Common.{◌≡◌, ℕ, pos, zero, suc, ◌+◌, ◌≤◌, Bool, true, false, cond, List, [], ◌∷◌, ◌++◌, codes, length, Option, Some, None, refl, sym, ap, subst, ◌∙◌, arith, append_assoc, length-append}
use Rattle.std.specs.Prelude.{◌&&◌, ◌==◌, count_by, sum_by}
use Rattle.std.specs.List.{AllByRecursion, list_all, flat_map}
use Rattle.std.specs.Option.{IfSome, option_map}
use Rattle.std.proofs.lemmas.Bool.{and_from}
use Rattle.std.proofs.lemmas.List.{append-nil}
use Rattle.std.proofs.lemmas.List.Elements.{recursion_from_All}
use Rattle.std.proofs.lemmas.List.Sums.{sum_by-append, sum_by-cons}
use Rattle.dbp_plan.specs.declared.diagram.Policy.{Policy}
use Rattle.dbp_plan.specs.declared.diagram.Policy.TheVariants.{Fp}
use Rattle.dbp_plan.specs.declared.limits.TheConstants.{MAX_TASKS, MAX_INPUTS, MAX_EVENTS, MAX_READS, MAX_READ_LINES, MAX_OUTS, MAX_BODY, MAX_TIME, MAX_PRIO, MAX_CPU}
use Rattle.dia_tokens.specs.declared.token.Token.TheVariants as token
use Rattle.dia_tokens.specs.declared.token.Keyword.TheVariants as keyword
use Rattle.dia_tokens.specs.Line.{Spells as SpellsTokens}
use Rattle.dia_tokens.specs.TokenText.{line_text, line_of}
use Rattle.dia_tokens.proofs.LineSpells.{line-spells}
use Rattle.dia_lines.specs.declared.item.Decl.{Decl}
use Rattle.dia_lines.specs.declared.item.Decl.TheVariants.{Input, Event}
use Rattle.dia_lines.specs.declared.item.Part.{Part}
use Rattle.dia_lines.specs.declared.item.Part.TheVariants as part
use Rattle.dia_lines.specs.declared.item.RawClock.{RawClock}
use Rattle.dia_lines.specs.declared.item.RawClock.TheVariants.{Every, On}
use Rattle.dia_lines.specs.declared.item.Line.TheVariants as line
use Rattle.dia_lines.specs.declared.item.TaskLine.{TaskLine}
use Rattle.dia_lines.specs.declared.place.Place.{Place}
use Rattle.dia_lines.specs.declared.place.Place.TheVariants.{Header, Policy as PolicyPlace, Until, Declarations, Body as BodyPlace, Trace, Script, Ended}
use Rattle.dia_lines.specs.Statements.{Statement, header, policy, until, trace, script, done}
use Rattle.dia_lines.specs.Places.{leads, is_of_version}
use Rattle.dia_lines.specs.Limits.{lies_within, option_lies_within, delay_fits, clock_fits, numbers_fit, passed_count}
use Rattle.dia_lines.specs.Lines.{says, row, step, keeps_lines, of_the_trace, of_the_script, SaysInTrace, trace_ends, script_begins, SaysInScript, script_ends, a_step}
use Rattle.dia_lines.specs.Held.{IsClock, cpu_of, IsKept}
use Rattle.dia_lines.specs.Sections.{IsAlone}
use Rattle.dia_lines.specs.Text.{is_inside}
use Rattle.dia_print.specs.ItemTokens.{named_cpu, header_tokens, policy_tokens, until_tokens, decl_tokens, task_tokens, part_tokens}
use Rattle.dia_print.proofs.ItemStatements.{decl_statement, clock_of, task_statement, part_statement}
use Rattle.dia_print.proofs.ItemLaws.{IsAfterHeader, header-line, policy-line, until-line, decl-line, task-line, part-line, trace-line, script-line, done-line}
use Rattle.dia_lines.proofs.DelayLaws.{given_delay, delay-given, short-given}
use Rattle.dia_lines.proofs.RangeLaws.{fits}
use Rattle.dia_lines.proofs.TraceLaws.{all_allowed}
use Rattle.dia_read.specs.declared.document.Body.{Body}
use Rattle.dia_read.specs.declared.document.Doc.{Doc}
use Rattle.dia_read.specs.declared.document.RawTask.{RawTask}
use Rattle.dia_read.specs.declared.draft.Draft.{Draft}
use Rattle.dia_read.specs.declared.draft.Section.{Section}
use Rattle.dia_read.specs.declared.draft.Tasks.{Tasks}
use Rattle.dia_read.specs.Canonical.{decl_text, part_text, task_text, section_lines, canonical_text, SpellsBody}
use Rattle.dia_read.specs.Documents.{first_line, Spells}
use Rattle.dia_read.specs.Drafts.{empty_draft, empty_section, finished}
use Rattle.dia_read.specs.Printable.{IsPrintableDecl, IsPrintableClock, IsPrintablePart, IsPrintableTaskLine, is_input_decl, is_event_decl, is_read_part, is_out_part, IsPrintableTask, IsPlainTask, ended_lines, KeepsItself, IsPrintable}
use Rattle.dia_read.proofs.DocumentLaws.{one-document}
use Rattle.dia_read.proofs.Ending as ending
use Rattle.dia_read.proofs.Following.{bare, At, at-start, at-same, next-line, token-line, indented-line, spelled-inside, trace-inside}
use Rattle.dia_read.proofs.Holding.{all_tasks}
use Rattle.dia_read.proofs.Printing.{Prints, reads_of, count-more}
use Rattle.dia_read.proofs.Rooms.{decl-room, task-room, part-room}

-- what lines have said
abbrev content : ℕ → Policy → ℕ → List Decl → Tasks → Section → Section → Draft
content v p end ds ts tr sc = record { version = v; policy = p; until = end; decls = ds; tasks = ts; trace = tr; script = sc; lines = empty_draft.lines }

-- ---- numbers

clock-fits : (c : RawClock) → IsPrintableClock c → clock_fits (clock_of c) ≡ true
clock-fits (Every p o) h = and_from (lies_within (pos p) 1 MAX_TIME) (lies_within (pos o) 0 MAX_TIME) (fits p 1 MAX_TIME h.0 h.1) (fits o 0 MAX_TIME (omega arith) h.2)
clock-fits (On n) h = refl

prio-fits : (o : Option ℕ) → IfSome o (λ p. p ≤ MAX_PRIO) → option_lies_within (option_map pos o) 0 MAX_PRIO ≡ true
prio-fits None h = refl
prio-fits (Some n) h = fits n 0 MAX_PRIO (omega arith) h

deadline-fits : (o : Option ℕ) → IfSome o (λ d. (1 ≤ d) × (d ≤ MAX_TIME)) → option_lies_within (option_map pos o) 1 MAX_TIME ≡ true
deadline-fits None h = refl
deadline-fits (Some n) h = fits n 1 MAX_TIME h.0 h.1

cpu-fits : (version cpu : ℕ) → cpu ≤ MAX_CPU → option_lies_within (option_map pos (named_cpu version cpu)) 0 MAX_CPU ≡ true
cpu-fits version cpu h = by_version (version == 2)
  where
    by_version : (b : Bool) → option_lies_within (option_map pos (cond b (Some cpu) None)) 0 MAX_CPU ≡ true
    by_version true = fits cpu 0 MAX_CPU (omega arith) h
    by_version false = refl

task-fits : (version : ℕ) (t : TaskLine) → IsPrintableTaskLine t → numbers_fit (task_statement version t) ≡ true
task-fits version t h =
    and_from (clock_fits (clock_of t.clock) && option_lies_within (option_map pos t.prio) 0 MAX_PRIO && option_lies_within (option_map pos t.deadline) 1 MAX_TIME && lies_within (pos t.cost) 1 MAX_TIME) (option_lies_within (option_map pos (named_cpu version t.cpu)) 0 MAX_CPU)
    (and_from (clock_fits (clock_of t.clock) && option_lies_within (option_map pos t.prio) 0 MAX_PRIO && option_lies_within (option_map pos t.deadline) 1 MAX_TIME) (lies_within (pos t.cost) 1 MAX_TIME)
    (and_from (clock_fits (clock_of t.clock) && option_lies_within (option_map pos t.prio) 0 MAX_PRIO) (option_lies_within (option_map pos t.deadline) 1 MAX_TIME)
    (and_from (clock_fits (clock_of t.clock)) (option_lies_within (option_map pos t.prio) 0 MAX_PRIO) (clock-fits t.clock h.clock) (prio-fits t.prio h.prio))
    (deadline-fits t.deadline h.deadline))
    (fits t.cost 1 MAX_TIME h.cost.0 h.cost.1))
    (cpu-fits version t.cpu h.cpu)

decl-fits : (d : Decl) → numbers_fit (decl_statement d) ≡ true
decl-fits (Input n v) = refl
decl-fits (Event n) = refl

part-fits : (p : Part) → IsPrintablePart p → numbers_fit (part_statement p) ≡ true
part-fits (part.State n v) h = refl
part-fits (part.Sense n i) h = refl
part-fits (part.Read n d w p a) h = and_from (delay_fits (given_delay d)) (lies_within (pos a) 0 MAX_TIME) (short-given d h.1) (fits a 0 MAX_TIME (omega arith) h.4)
part-fits (part.Let n e) h = refl
part-fits (part.Next n e) h = refl
part-fits (part.Out n v e) h = refl

-- ---- what is kept

decl-kept : (d : Decl) → IsKept (decl_statement d) (line.Decl d)
decl-kept (Input n v) = (refl, refl)
decl-kept (Event n) = refl

clock-kept : (c : RawClock) → IsClock (clock_of c) c
clock-kept (Every p o) = (refl, refl)
clock-kept (On n) = refl

cpu-kept : (version cpu : ℕ) → (1 ≤ version) × (version ≤ 2) → (version ≡ 1 → cpu ≡ 0) → cpu_of (option_map pos (named_cpu version cpu)) ≡ pos cpu
cpu-kept zero cpu named none = absurd (omega (arith, named.0))
cpu-kept (suc zero) cpu named none = ap (λ (n : ℕ). pos n) (sym (none refl))
cpu-kept (suc (suc zero)) cpu named none = refl
cpu-kept (suc (suc (suc more))) cpu named none = absurd (omega (arith, named.1))

task-kept : (version : ℕ) (t : RawTask) → (1 ≤ version) × (version ≤ 2) → (version ≡ 1 → IsPlainTask t) → IsKept (task_statement version (first_line t)) (line.Task (first_line t))
task-kept version t named plain = (refl, clock-kept t.clock, refl, refl, refl, refl, cpu-kept version t.cpu named (λ one. (plain one).1))

part-kept : (p : Part) → IsKept (part_statement p) (line.Part p)
part-kept (part.State n v) = (refl, refl)
part-kept (part.Sense n i) = (refl, refl)
part-kept (part.Read n d w p a) = (refl, delay-given d, refl, refl, refl)
part-kept (part.Let n e) = (refl, e.tree.1)
part-kept (part.Next n e) = (refl, e.tree.1)
part-kept (part.Out n v e) = (refl, refl, e.tree.1)

-- ---- places

policy-after : IsAfterHeader PolicyPlace
policy-after [] = refl
policy-after (t ∷ ts) = refl

until-after : IsAfterHeader Until
until-after [] = refl
until-after (t ∷ ts) = refl

declarations-after : IsAfterHeader Declarations
declarations-after [] = refl
declarations-after (t ∷ ts) = refl

body-after : IsAfterHeader BodyPlace
body-after [] = refl
body-after (t ∷ ts) = refl

-- where a task, a section or the end may stand
data IsOpen : Place → Type 0 where
  in_declarations : IsOpen Declarations
  in_body : IsOpen BodyPlace

open-after : (place : Place) → IsOpen place → IsAfterHeader place
open-after place in_declarations = declarations-after
open-after place in_body = body-after

open-diagram : (place : Place) → IsOpen place → keeps_lines place ≡ false
open-diagram place in_declarations = refl
open-diagram place in_body = refl

to-task : (place : Place) (version : ℕ) (t : TaskLine) → IsOpen place → leads place (task_statement version t) ≡ Some BodyPlace
to-task place version t in_declarations = refl
to-task place version t in_body = refl

to-trace : (place : Place) → IsOpen place → leads place trace ≡ Some Trace
to-trace place in_declarations = refl
to-trace place in_body = refl

to-script : (place : Place) → IsOpen place → leads place script ≡ Some Script
to-script place in_declarations = refl
to-script place in_body = refl

to-end : (place : Place) → IsOpen place → leads place done ≡ Some Ended
to-end place in_declarations = refl
to-end place in_body = refl

to-part : (p : Part) → leads BodyPlace (part_statement p) ≡ Some BodyPlace
to-part (part.State n v) = refl
to-part (part.Sense n i) = refl
to-part (part.Read n d w p a) = refl
to-part (part.Let n e) = refl
to-part (part.Next n e) = refl
to-part (part.Out n v e) = refl

to-decl : (d : Decl) → leads Declarations (decl_statement d) ≡ Some Declarations
to-decl (Input n v) = refl
to-decl (Event n) = refl

-- ---- versions

decl-of-each : (d : Decl) (version : ℕ) → is_of_version version (decl_statement d) ≡ true
decl-of-each (Input n v) version = refl
decl-of-each (Event n) version = refl

part-of-each : (p : Part) (version : ℕ) → is_of_version version (part_statement p) ≡ true
part-of-each (part.State n v) version = refl
part-of-each (part.Sense n i) version = refl
part-of-each (part.Read n d w p a) version = refl
part-of-each (part.Let n e) version = refl
part-of-each (part.Next n e) version = refl
part-of-each (part.Out n v e) version = refl

task-of-each : (version : ℕ) (t : RawTask) → (1 ≤ version) × (version ≤ 2) → (version ≡ 1 → IsPlainTask t) → is_of_version version (task_statement version (first_line t)) ≡ true
task-of-each zero t named plain = absurd (omega (arith, named.0))
task-of-each (suc zero) t named plain = rw (plain refl).0 refl
task-of-each (suc (suc zero)) t named plain = refl
task-of-each (suc (suc (suc more))) t named plain = absurd (omega (arith, named.1))

-- ---- counts

count-front : {A : Type 0} (p : A → Bool) (xs ys : List A) → count_by p xs ≤ count_by p (xs ++ ys)
count-front p xs ys = omega (arith, sum_by-append (λ y. cond (p y) 1 0) xs ys)

count-here : {A : Type 0} (p : A → Bool) (xs : List A) (x : A) (ys : List A) → p x ≡ true → count_by p xs + 1 ≤ count_by p (xs ++ x ∷ ys)
count-here p xs x ys e =
    let one : count_by p (x ∷ []) ≡ 1 = rw e refl in
    let same : (xs ++ x ∷ []) ++ ys ≡ xs ++ x ∷ ys = append_assoc xs (x ∷ []) ys in
    let more = count-front p (xs ++ x ∷ []) ys in
    omega (arith, count-more p xs x, one, ap (count_by p) same, more)

-- ---- declarations

decls-follow : (bytes rest : List ℕ) (v : ℕ) (p : Policy) (end : ℕ) (ts : Tasks) (tr sc : Section) (pre ds : List Decl) → AllByRecursion IsPrintableDecl ds
    → count_by is_input_decl (pre ++ ds) ≤ MAX_INPUTS → count_by is_event_decl (pre ++ ds) ≤ MAX_EVENTS
    → At bytes (flat_map decl_text ds ++ rest) Declarations (content v p end pre ts tr sc) → At bytes rest Declarations (content v p end (pre ++ ds) ts tr sc)
decls-follow bytes rest v p end ts tr sc pre [] h few_inputs few_events at = subst (λ ds. At bytes rest Declarations (content v p end ds ts tr sc)) (sym (append-nil pre)) at
decls-follow bytes rest v p end ts tr sc pre (d ∷ ds) h few_inputs few_events at =
    let same : (pre ++ d ∷ []) ++ ds ≡ pre ++ d ∷ ds = append_assoc pre (d ∷ []) ds in
    let inputs : count_by is_input_decl (pre ++ d ∷ []) ≤ MAX_INPUTS = omega (arith, few_inputs, count-front is_input_decl (pre ++ d ∷ []) ds, ap (count_by is_input_decl) same) in
    let events : count_by is_event_decl (pre ++ d ∷ []) ≤ MAX_EVENTS = omega (arith, few_events, count-front is_event_decl (pre ++ d ∷ []) ds, ap (count_by is_event_decl) same) in
    let room : (ss : List Statement) (e : Draft) → bare e ≡ content v p end pre ts tr sc → Prints ss e → passed_count ss (decl_statement d) ≡ None =
    λ ss e is prints.
    let decls : e.decls ≡ pre = ap (λ (k : Draft). k.decls) is in
    decl-room ss e d prints (rw decls inputs) (rw decls events) in
    let next = token-line bytes (flat_map decl_text ds ++ rest) Declarations Declarations (content v p end pre ts tr sc) (decl_tokens d) (decl_statement d) (line.Decl d) (decl-line Declarations declarations-after d h.0)
    refl (to-decl d) (decl-of-each d v) (decl-fits d) room (decl-kept d) (at-same bytes _ _ Declarations _ (append_assoc (decl_text d) (flat_map decl_text ds) rest) at) in
    subst (λ all. At bytes rest Declarations (content v p end all ts tr sc)) same
    (decls-follow bytes rest v p end ts tr sc (pre ++ d ∷ []) ds h.1 (rw same few_inputs) (rw same few_events) next)

-- ---- tasks

abbrev with_parts : RawTask → List Part → RawTask
with_parts t ps = record t { parts = ps }

parts-follow : (bytes rest : List ℕ) (v : ℕ) (p : Policy) (end : ℕ) (ds : List Decl) (tr sc : Section) (es : List RawTask) (t : RawTask) (pre ps : List Part) → AllByRecursion IsPrintablePart ps
    → length (pre ++ ps) ≤ MAX_BODY → count_by is_read_part (pre ++ ps) ≤ MAX_READS → count_by is_out_part (pre ++ ps) ≤ MAX_OUTS → sum_by reads_of es + count_by is_read_part (pre ++ ps) ≤ MAX_READ_LINES
    → At bytes (flat_map part_text ps ++ rest) BodyPlace (content v p end ds (record { earlier = es; latest = Some (with_parts t pre) }) tr sc)
    → At bytes rest BodyPlace (content v p end ds (record { earlier = es; latest = Some (with_parts t (pre ++ ps)) }) tr sc)
parts-follow bytes rest v p end ds tr sc es t pre [] h body reads outs links at =
    subst (λ all. At bytes rest BodyPlace (content v p end ds (record { earlier = es; latest = Some (with_parts t all) }) tr sc)) (sym (append-nil pre)) at
parts-follow bytes rest v p end ds tr sc es t pre (x ∷ ps) h body reads outs links at =
    let now : Draft = content v p end ds (record { earlier = es; latest = Some (with_parts t pre) }) tr sc in
    let same : (pre ++ x ∷ []) ++ ps ≡ pre ++ x ∷ ps = append_assoc pre (x ∷ []) ps in
    let all : sum_by reads_of (es ++ with_parts t pre ∷ []) ≡ sum_by reads_of es + count_by is_read_part pre = sum_by-append reads_of es (with_parts t pre ∷ []) ∙ omega arith in
    let room : (ss : List Statement) (e : Draft) → bare e ≡ now → Prints ss e → passed_count ss (part_statement x) ≡ None =
    λ ss e is prints.
    let tasks : e.tasks ≡ record { earlier = es; latest = Some (with_parts t pre) } = ap (λ (k : Draft). k.tasks) is in
    part-room ss e (with_parts t pre) x prints (ap (λ (k : Tasks). k.latest) tasks) (omega (arith, body, length-append pre (x ∷ ps)))
    (λ is_read. (omega (arith, reads, count-here is_read_part pre x ps is_read), omega (arith, links, count-here is_read_part pre x ps is_read, all, ap (λ (k : Tasks). sum_by reads_of (all_tasks k)) tasks)))
    (λ is_out. omega (arith, outs, count-here is_out_part pre x ps is_out)) in
    let next = indented-line bytes (flat_map part_text ps ++ rest) BodyPlace BodyPlace now (part_tokens x) (part_statement x) (line.Part x) (part-line BodyPlace body-after x h.0)
    refl (to-part x) (part-of-each x v) (part-fits x h.0) room (part-kept x) (at-same bytes _ _ BodyPlace _ (append_assoc (part_text x) (flat_map part_text ps) rest) at) in
    subst (λ qs. At bytes rest BodyPlace (content v p end ds (record { earlier = es; latest = Some (with_parts t qs) }) tr sc)) same
    (parts-follow bytes rest v p end ds tr sc es t (pre ++ x ∷ []) ps h.1 (rw same body) (rw same reads) (rw same outs) (rw same links) next)

task-follows : (bytes rest : List ℕ) (v : ℕ) (p : Policy) (end : ℕ) (ds : List Decl) (tr sc : Section) (ts : Tasks) (place : Place) (t : RawTask) → IsOpen place → (1 ≤ v) × (v ≤ 2) → (v ≡ 1 → IsPlainTask t) → IsPrintableTask t
    → length (all_tasks ts) + 1 ≤ MAX_TASKS → sum_by reads_of (all_tasks ts) + reads_of t ≤ MAX_READ_LINES
    → At bytes (task_text v t ++ rest) place (content v p end ds ts tr sc)
    → At bytes rest BodyPlace (content v p end ds (record { earlier = all_tasks ts; latest = Some t }) tr sc)
task-follows bytes rest v p end ds tr sc ts place t o named plain h few links at =
    let room : (ss : List Statement) (e : Draft) → bare e ≡ content v p end ds ts tr sc → Prints ss e → passed_count ss (task_statement v (first_line t)) ≡ None =
    λ ss e is prints.
    let tasks : e.tasks ≡ ts = ap (λ (k : Draft). k.tasks) is in
    task-room ss e v (first_line t) prints (rw tasks few) in
    let next = token-line bytes (flat_map part_text t.parts ++ rest) place BodyPlace (content v p end ds ts tr sc) (task_tokens v (first_line t)) (task_statement v (first_line t)) (line.Task (first_line t))
    (task-line place (open-after place o) v (first_line t) h.line) (open-diagram place o) (to-task place v (first_line t) o) (task-of-each v t named plain) (task-fits v (first_line t) h.line) room (task-kept v t named plain)
    (at-same bytes _ _ place _ (append_assoc (line_of (task_tokens v (first_line t))) (flat_map part_text t.parts) rest) at) in
    parts-follow bytes rest v p end ds tr sc (all_tasks ts) t [] t.parts (recursion_from_All IsPrintablePart t.parts h.parts) h.body h.reads h.outs links next

-- after tasks
record AfterTasks (bytes rest : List ℕ) (v : ℕ) (p : Policy) (end : ℕ) (ds : List Decl) (tr sc : Section) (all : List RawTask) : Type 0 where
  place : Place
  open_there : IsOpen place
  tasks : Tasks
  are : all_tasks tasks ≡ all
  at : At bytes rest place (content v p end ds tasks tr sc)

tasks-follow : (bytes rest : List ℕ) (v : ℕ) (p : Policy) (end : ℕ) (ds : List Decl) (tr sc : Section) (ts : Tasks) (place : Place) (us : List RawTask) → IsOpen place → (1 ≤ v) × (v ≤ 2) → (v ≡ 1 → AllByRecursion IsPlainTask us) → AllByRecursion IsPrintableTask us
    → length (all_tasks ts ++ us) ≤ MAX_TASKS → sum_by reads_of (all_tasks ts ++ us) ≤ MAX_READ_LINES
    → At bytes (flat_map (task_text v) us ++ rest) place (content v p end ds ts tr sc) → AfterTasks bytes rest v p end ds tr sc (all_tasks ts ++ us)
tasks-follow bytes rest v p end ds tr sc ts place [] o named plain h few links at = record { place = place; open_there = o; tasks = ts; are = sym (append-nil (all_tasks ts)); at = at }
tasks-follow bytes rest v p end ds tr sc ts place (u ∷ us) o named plain h few links at =
    let same : (all_tasks ts ++ u ∷ []) ++ us ≡ all_tasks ts ++ u ∷ us = append_assoc (all_tasks ts) (u ∷ []) us in
    let size = length-append (all_tasks ts) (u ∷ us) in
    let reads : sum_by reads_of (all_tasks ts ++ u ∷ us) ≡ sum_by reads_of (all_tasks ts) + (reads_of u + sum_by reads_of us) = sum_by-append reads_of (all_tasks ts) (u ∷ us) ∙ ap (λ (n : ℕ). sum_by reads_of (all_tasks ts) + n) (sum_by-cons reads_of u us) in
    let next = task-follows bytes (flat_map (task_text v) us ++ rest) v p end ds tr sc ts place u o named (λ one. (plain one).0) h.0 (omega (arith, few, size)) (omega (arith, links, reads)) (at-same bytes _ _ place _ (append_assoc (task_text v u) (flat_map (task_text v) us) rest) at) in
    let more = tasks-follow bytes rest v p end ds tr sc (record { earlier = all_tasks ts; latest = Some u }) BodyPlace us in_body named (λ one. (plain one).1) h.1 (rw same few) (rw same links) next in
    record { place = more.place; open_there = more.open_there; tasks = more.tasks; are = more.are ∙ same; at = more.at }

-- ---- sections

section_with : List ℕ → Section → Section
section_with text s = record s { text = s.text ++ text }

kept-line : (s : Section) (line : List ℕ) (lines : List (List ℕ)) → (s.text ++ line ++ 10 ∷ []) ++ ended_lines lines ≡ s.text ++ (line ++ 10 ∷ ended_lines lines)
kept-line s line lines = append_assoc (s.text ++ line) (10 ∷ []) (ended_lines lines) ∙ append_assoc s.text line (10 ∷ ended_lines lines)

rows-follow : (bytes rest : List ℕ) (v : ℕ) (p : Policy) (end : ℕ) (ds : List Decl) (ts : Tasks) (tr sc : Section) (lines : List (List ℕ)) → AllByRecursion (λ l. SaysInTrace l (row l)) lines
    → At bytes (ended_lines lines ++ rest) Trace (content v p end ds ts tr sc) → At bytes rest Trace (content v p end ds ts (record { begun = tr.begun; text = tr.text ++ ended_lines lines }) sc)
rows-follow bytes rest v p end ds ts tr sc [] h at =
    subst (λ text. At bytes rest Trace (content v p end ds ts (record { begun = tr.begun; text = text }) sc)) (sym (append-nil tr.text)) at
rows-follow bytes rest v p end ds ts tr sc (l ∷ lines) h at =
    let next = next-line bytes l (ended_lines lines ++ rest) Trace Trace (content v p end ds ts tr sc) (row l) line.Row (trace-inside l (all_allowed l (row l) h.0)) tt (λ before here. here)
    (λ before d here named holds prints. of_the_trace l (row l) here h.0) (at-same bytes _ _ Trace _ (append_assoc l (10 ∷ ended_lines lines) rest) at) in
    subst (λ text. At bytes rest Trace (content v p end ds ts (record { begun = tr.begun; text = text }) sc)) (kept-line tr l lines)
    (rows-follow bytes rest v p end ds ts (record { begun = tr.begun; text = tr.text ++ l ++ 10 ∷ [] }) sc lines h.1 next)

step-inside : (line kept : List ℕ) → SaysInScript line (step kept) → list_all is_inside line ≡ true
step-inside line kept (a_step l u ts s n m k) = spelled-inside line ts s

steps-follow : (bytes rest : List ℕ) (v : ℕ) (p : Policy) (end : ℕ) (ds : List Decl) (ts : Tasks) (tr sc : Section) (lines : List (List ℕ)) → AllByRecursion (λ l. SaysInScript l (step l)) lines
    → At bytes (ended_lines lines ++ rest) Script (content v p end ds ts tr sc) → At bytes rest Script (content v p end ds ts tr (record { begun = sc.begun; text = sc.text ++ ended_lines lines }))
steps-follow bytes rest v p end ds ts tr sc [] h at =
    subst (λ text. At bytes rest Script (content v p end ds ts tr (record { begun = sc.begun; text = text }))) (sym (append-nil sc.text)) at
steps-follow bytes rest v p end ds ts tr sc (l ∷ lines) h at =
    let next = next-line bytes l (ended_lines lines ++ rest) Script Script (content v p end ds ts tr sc) (step l) (line.Step l) (step-inside l l h.0) refl (λ before here. here)
    (λ before d here named holds prints. of_the_script l (step l) here h.0) (at-same bytes _ _ Script _ (append_assoc l (10 ∷ ended_lines lines) rest) at) in
    subst (λ text. At bytes rest Script (content v p end ds ts tr (record { begun = sc.begun; text = text }))) (kept-line sc l lines)
    (steps-follow bytes rest v p end ds ts tr (record { begun = sc.begun; text = sc.text ++ l ++ 10 ∷ [] }) lines h.1 next)

-- a section with its kept lines, or none
abbrev section_of : Option (List ℕ) → Section
section_of None = empty_section
section_of (Some text) = record { begun = true; text = text }

-- where the script or the end may stand
data IsBeforeScript : Place → Type 0 where
  no_trace : (place : Place) → IsOpen place → IsBeforeScript place
  in_trace : IsBeforeScript Trace

record AfterTrace (bytes rest : List ℕ) (v : ℕ) (p : Policy) (end : ℕ) (ds : List Decl) (ts : Tasks) (tr sc : Section) : Type 0 where
  place : Place
  before_script : IsBeforeScript place
  at : At bytes rest place (content v p end ds ts tr sc)

no-room : (ss : List Statement) (d : Draft) → Prints ss d → (s : Statement) → passed_count ss s ≡ None → passed_count ss s ≡ None
no-room ss d p s e = e

trace-follows : (bytes rest : List ℕ) (v : ℕ) (p : Policy) (end : ℕ) (ds : List Decl) (ts : Tasks) (sc : Section) (place : Place) (text : Option (List ℕ)) → IsOpen place → IfSome text (KeepsItself SaysInTrace row)
    → At bytes (section_lines keyword.Trace text ++ rest) place (content v p end ds ts empty_section sc) → AfterTrace bytes rest v p end ds ts (section_of text) sc
trace-follows bytes rest v p end ds ts sc place None o h at = record { place = place; before_script = no_trace place o; at = at }
trace-follows bytes rest v p end ds ts sc place (Some text) o h at =
    let lines = h.0 in
    let begun : Section = record { begun = true; text = [] } in
    let next = token-line bytes (text ++ rest) place Trace (content v p end ds ts empty_section sc) (token.Keyword keyword.Trace ∷ []) trace line.Trace (trace-line place (open-after place o))
    (open-diagram place o) (to-trace place o) refl refl (λ ss d is prints. refl) tt (at-same bytes _ _ place _ (append_assoc (line_of (token.Keyword keyword.Trace ∷ [])) text rest) at) in
    let rows = rows-follow bytes rest v p end ds ts begun sc lines (recursion_from_All (λ l. SaysInTrace l (row l)) lines h.2) (subst (λ t. At bytes (t ++ rest) Trace (content v p end ds ts begun sc)) h.1 next) in
    record { place = Trace; before_script = in_trace; at = subst (λ t. At bytes rest Trace (content v p end ds ts (record { begun = true; text = t }) sc)) (sym h.1) rows }

-- the keyword alone on its line
keyword-alone : (text : List ℕ) → IsAlone text text
keyword-alone text = ([], [], refl, refl, sym (append-nil text))

data IsBeforeEnd : Place → Type 0 where
  no_script : (place : Place) → IsBeforeScript place → IsBeforeEnd place
  in_script : IsBeforeEnd Script

record AfterScript (bytes rest : List ℕ) (v : ℕ) (p : Policy) (end : ℕ) (ds : List Decl) (ts : Tasks) (tr sc : Section) : Type 0 where
  place : Place
  before_end : IsBeforeEnd place
  at : At bytes rest place (content v p end ds ts tr sc)

script-begins : (bytes rest : List ℕ) (v : ℕ) (p : Policy) (end : ℕ) (ds : List Decl) (ts : Tasks) (tr : Section) (place : Place) → IsBeforeScript place
    → At bytes (line_of (token.Keyword keyword.Script ∷ []) ++ rest) place (content v p end ds ts tr empty_section) → At bytes rest Script (content v p end ds ts tr (record { begun = true; text = [] }))
script-begins bytes rest v p end ds ts tr place (no_trace q o) at =
    token-line bytes rest q Script (content v p end ds ts tr empty_section) (token.Keyword keyword.Script ∷ []) script line.Script (script-line q (open-after q o)) (open-diagram q o) (to-script q o) refl refl (λ ss d is prints. refl) tt at
script-begins bytes rest v p end ds ts tr place in_trace at =
    next-line bytes (codes "script") rest Trace Script (content v p end ds ts tr empty_section) (says script) line.Script refl tt (λ before here. rw here refl)
    (λ before d here named holds prints. of_the_trace (codes "script") (says script) here (script_begins (codes "script") (keyword-alone (codes "script")))) at

script-follows : (bytes rest : List ℕ) (v : ℕ) (p : Policy) (end : ℕ) (ds : List Decl) (ts : Tasks) (tr : Section) (place : Place) (text : Option (List ℕ)) → IsBeforeScript place → IfSome text (KeepsItself SaysInScript step)
    → At bytes (section_lines keyword.Script text ++ rest) place (content v p end ds ts tr empty_section) → AfterScript bytes rest v p end ds ts tr (section_of text)
script-follows bytes rest v p end ds ts tr place None b h at = record { place = place; before_end = no_script place b; at = at }
script-follows bytes rest v p end ds ts tr place (Some text) b h at =
    let lines = h.0 in
    let begun : Section = record { begun = true; text = [] } in
    let next = script-begins bytes (text ++ rest) v p end ds ts tr place b (at-same bytes _ _ place _ (append_assoc (line_of (token.Keyword keyword.Script ∷ [])) text rest) at) in
    let steps = steps-follow bytes rest v p end ds ts tr begun lines (recursion_from_All (λ l. SaysInScript l (step l)) lines h.2) (subst (λ t. At bytes (t ++ rest) Script (content v p end ds ts tr begun)) h.1 next) in
    record { place = Script; before_end = in_script; at = subst (λ t. At bytes rest Script (content v p end ds ts tr (record { begun = true; text = t }))) (sym h.1) steps }

-- ---- the end

done-spelled : SpellsTokens (line_text (token.Keyword keyword.Done ∷ [])) (token.Keyword keyword.Done ∷ [])
done-spelled = let is = done-line BodyPlace body-after in line-spells (token.Keyword keyword.Done ∷ []) is.printable is.signs

end-follows : (bytes : List ℕ) (v : ℕ) (p : Policy) (end : ℕ) (ds : List Decl) (ts : Tasks) (tr sc : Section) (place : Place) → IsBeforeEnd place
    → At bytes (line_of (token.Keyword keyword.Done ∷ []) ++ []) place (content v p end ds ts tr sc) → At bytes [] Ended (content v p end ds ts tr sc)
end-follows bytes v p end ds ts tr sc place (no_script q (no_trace r o)) at =
    token-line bytes [] r Ended (content v p end ds ts tr sc) (token.Keyword keyword.Done ∷ []) done line.Done (done-line r (open-after r o)) (open-diagram r o) (to-end r o) refl refl (λ ss d is prints. refl) tt at
end-follows bytes v p end ds ts tr sc place (no_script q in_trace) at =
    next-line bytes (codes "done") [] Trace Ended (content v p end ds ts tr sc) (says done) line.Done refl tt (λ before here. rw here refl)
    (λ before d here named holds prints. of_the_trace (codes "done") (says done) here (trace_ends (codes "done") (keyword-alone (codes "done")))) at
end-follows bytes v p end ds ts tr sc place in_script at =
    next-line bytes (codes "done") [] Script Ended (content v p end ds ts tr sc) (says done) line.Done refl tt (λ before here. rw here refl)
    (λ before d here named holds prints. of_the_script (codes "done") (says done) here (script_ends (codes "done") done-spelled)) at

-- ---- the whole text

abbrev body_of : Draft → Body
body_of d = (finished d).body

at-end : (bytes : List ℕ) (content : Draft) → At bytes [] Ended content → SpellsBody bytes (body_of content)
at-end bytes content at =
    let spelled : Spells bytes (finished at.draft) = ending.ended bytes at.number at.position at.draft at.reached at.here in
    record { lines = at.draft.lines; spelled = subst (λ (b : Body). Spells bytes (record { body = b; lines = at.draft.lines })) (ap body_of at.holds) spelled }

section-same : (text : Option (List ℕ)) → (let s = section_of text in cond s.begun (Some s.text) None) ≡ text
section-same None = refl
section-same (Some text) = refl

eight : (a b c d e f g h : List ℕ) → a ++ b ++ c ++ d ++ e ++ f ++ g ++ h ≡ a ++ (b ++ (c ++ (d ++ (e ++ (f ++ (g ++ (h ++ [])))))))
eight a b c d e f g h = simp (append_assoc, append-nil)

pub round-trip : (body : Body) → IsPrintable body → SpellsBody (canonical_text body) body
round-trip body h =
    let bytes = canonical_text body in
    let last : List ℕ = line_of (token.Keyword keyword.Done ∷ []) ++ [] in
    let script_and_last : List ℕ = section_lines keyword.Script body.script ++ last in
    let sections : List ℕ = section_lines keyword.Trace body.trace ++ script_and_last in
    let tasks : List ℕ = flat_map (task_text body.version) body.tasks ++ sections in
    let decls : List ℕ = flat_map decl_text body.decls ++ tasks in
    let none : Tasks = record { earlier = []; latest = None } in
    let empty = empty_section in
    let start = at-same bytes _ _ Header _ (eight (line_of (header_tokens body.version)) (line_of (policy_tokens body.policy)) (line_of (until_tokens body.until)) (flat_map decl_text body.decls) (flat_map (task_text body.version) body.tasks)
    (section_lines keyword.Trace body.trace) (section_lines keyword.Script body.script) (line_of (token.Keyword keyword.Done ∷ []))) (at-start bytes) in
    let one = token-line bytes (line_of (policy_tokens body.policy) ++ (line_of (until_tokens body.until) ++ decls)) Header PolicyPlace (content 1 Fp 0 [] none empty empty) (header_tokens body.version) (header body.version) (line.Header body.version) (header-line body.version h.version)
    refl refl refl refl (λ ss d is prints. refl) refl start in
    let two = token-line bytes (line_of (until_tokens body.until) ++ decls) PolicyPlace Until (content body.version Fp 0 [] none empty empty) (policy_tokens body.policy) (policy body.policy) (line.Policy body.policy)
    (policy-line PolicyPlace policy-after body.policy) refl refl refl refl (λ ss d is prints. refl) refl one in
    let three = token-line bytes decls Until Declarations (content body.version body.policy 0 [] none empty empty) (until_tokens body.until) (until (pos body.until)) (line.Until body.until)
    (until-line Until until-after body.until h.until) refl refl refl (fits body.until 0 MAX_TIME (omega arith) h.until) (λ ss d is prints. refl) refl two in
    let four = decls-follow bytes tasks body.version body.policy body.until none empty empty [] body.decls (recursion_from_All IsPrintableDecl body.decls h.decls) h.inputs h.events three in
    let five = tasks-follow bytes sections body.version body.policy body.until body.decls empty empty none Declarations body.tasks in_declarations h.version (λ one. recursion_from_All IsPlainTask body.tasks (h.plain one)) (recursion_from_All IsPrintableTask body.tasks h.tasks) h.few h.links four in
    let six = trace-follows bytes script_and_last body.version body.policy body.until body.decls five.tasks empty five.place body.trace five.open_there h.trace five.at in
    let seven = script-follows bytes last body.version body.policy body.until body.decls five.tasks (section_of body.trace) six.place body.script six.before_script h.script six.at in
    let eighth = end-follows bytes body.version body.policy body.until body.decls five.tasks (section_of body.trace) (section_of body.script) seven.place seven.before_end seven.at in
    subst (SpellsBody bytes) (same-body five.tasks five.are) (at-end bytes _ eighth)
  where
    same-body : (ts : Tasks) → all_tasks ts ≡ body.tasks → body_of (content body.version body.policy body.until body.decls ts (section_of body.trace) (section_of body.script)) ≡ body
    same-body ts e = λ i. record {
      version = body.version;
      policy = body.policy;
      until = body.until;
      decls = body.decls;
      tasks = e i;
      trace = section-same body.trace i;
      script = section-same body.script i;
    }

pub printed-again : (body : Body) (d : Doc) → IsPrintable body → Spells (canonical_text body) d → canonical_text d.body ≡ canonical_text body
printed-again body d h s =
    let r = round-trip body h in
    ap (λ (e : Doc). canonical_text e.body) (one-document (canonical_text body) d (record { body = body; lines = r.lines }) s r.spelled)
