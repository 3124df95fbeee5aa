-- A command has one status and one text at most for an input.
use Rattle.std.proofs.Common.{◌≡◌, ℕ, List, true, refl, sym, ap, subst, ◌∙◌}
use Rattle.std.specs.Prelude.{codes}
use Rattle.std.proofs.lemmas.Bool.{false≢true}
use Rattle.std.proofs.lemmas.Option.{none-some, same_Some}
use Rattle.dbp_rules.specs.declared.step.Step.{Step}
use Rattle.dbp_plan.specs.declared.plan.Plan.{Plan}
use Rattle.dbp_plan.specs.declared.table.Table.{Table}
use Rattle.dbp_plan.specs.Lookups.{declared_task}
use Rattle.dbp_load.specs.Texts.{generated_text}
use Rattle.rank_order.specs.Ends.{IsOverrun}
use Rattle.rank_order.specs.Instances.{Instance}
use Rattle.rank_order.proofs.Overruns.{one_overrun, one_time}
use Rattle.dbp_replay.specs.Texts.{script_text}
use Rattle.dbp_replay.proofs.OneReplay.{refused-once, text-not-refused, text-once}
use Rattle.dbp_replay.proofs.OneScript.{fault-once, script-no-fault, script-once}
use Rattle.dbp_replay.specs.Replays.{IsIllegal, IsReplay}
use Rattle.dia_check.proofs.ShapeLaws.{HaveOneShape}
use Rattle.dia_read.specs.Canonical.{canonical_text}
use Rattle.dia_read.specs.declared.document.Doc.{Doc}
use Rattle.dia_read.specs.declared.document.Body.{Body}
use Rattle.dia_read.proofs.DocumentLaws.{one-document}
use Rattle.dia_read.proofs.FaultLaws.{no-fault-of-a-document, one-first-fault}
use Rattle.rta_check.proofs.BoundLists.{only_bounds}
use Rattle.slot_need.specs.Bodies.{scenario_body}
use Rattle.sync_meaning.specs.Meaning.{IsMeaning}
use Rattle.trace_io.specs.declared.code.Code.{Code}
use Rattle.trace_io.specs.declared.code.Code.TheVariants.{Reading}
use Rattle.trace_io.specs.Lines.{lines_of}
use Rattle.trace_io.specs.Texts.{Accepts, Refuses, IsSameCode}
use Rattle.dbp_answers.specs.Answer.{Answers, IsOverrunLine, IsRefused, Makes, Overruns, PlanOverrun, PlanRefusal, PlanText, bounds_of_tasks, heard_steps, illegal, line_of, made, made_of_plan, no_plan, no_scenario, no_script, no_text, not_fixed, not_periodic, not_ranked, of_body, of_generated, of_plan, of_plan_overrun, of_plan_refused, of_seed, of_shape, overran, overrun, recorded_steps, refused, scenario_text, simulated_lines, table_lines}
use Rattle.dbp_answers.specs.BoundLines.{bound_lines}
use Rattle.dbp_answers.specs.Commands.{Output, at_nothing, at_plan, at_shape, at_text, is_at_plan, looks, needs_plan}
use Rattle.dbp_answers.specs.OverrunLines.{overrun_after, overrun_line}
use Rattle.dbp_answers.specs.Refusals.{refusal_line}
use Rattle.dbp_answers.specs.Simulations.{IsInTime, left_in}
use Rattle.dbp_answers.specs.Summaries.{IsSimulationLine, IsSummary, of_table, summary}
use Rattle.dbp_answers.specs.Summaries as sim
use Rattle.dbp_answers.specs.declared.command_code.CommandCode.{CommandCode}
use Rattle.dbp_answers.specs.declared.command_code.CommandCode.TheVariants.{NotPeriodic}
use Rattle.dbp_answers.specs.declared.command.Command.{Command}
use Rattle.dbp_answers.specs.declared.processors.Processors.{Processors}
use Rattle.dbp_answers.specs.declared.processors.Processors.TheVariants.{One}
use Rattle.dbp_answers.specs.declared.refusal.Refusal.{Refusal}
use Rattle.dbp_answers.specs.declared.refusal.Refusal.TheVariants.{Document, Script, Illegal, OfCommand}
use Rattle.dbp_answers.specs.declared.status.Status.{Status}
use Rattle.dbp_answers.proofs.RankedTexts.{HaveCanonicalTexts, HaveOneBareDiagram, no-rank-refusal, one-rank-refusal, one-ranked-text}
use Rattle.dbp_answers.proofs.RefusalLines.{same-line, same-text}
use Rattle.dbp_answers.proofs.ScenarioCodes.{faultless}
use Rattle.dbp_answers.proofs.Simulated.{one-record-in, record-in-time}

-- ---- what a command looks at

-- it looks at one thing, and prints one thing of it
pub one-make : (command : Command) (f g : Body → List ℕ) → looks command ≡ at_text f → looks command ≡ at_text g → f ≡ g
one-make command f g here there = let same : at_text f ≡ at_text g = sym here ∙ there in cc

pub one-output : (command : Command) (a b : Output) → looks command ≡ at_plan a → looks command ≡ at_plan b → a ≡ b
one-output command a b here there = let same : at_plan a ≡ at_plan b = sym here ∙ there in cc

pub not-text-and-plan : (command : Command) (make : Body → List ℕ) → looks command ≡ at_text make → needs_plan command ≡ true → ⊥
not-text-and-plan command make text plan = false≢true (ap is_at_plan (sym text) ∙ plan)

pub not-shape-and-plan : (command : Command) → looks command ≡ at_shape → needs_plan command ≡ true → ⊥
not-shape-and-plan command shape plan = false≢true (ap is_at_plan (sym shape) ∙ plan)

pub not-shape-and-text : (command : Command) (make : Body → List ℕ) → looks command ≡ at_shape → looks command ≡ at_text make → ⊥
not-shape-and-text command make shape text = let no : at_shape ≡ at_text make = sym shape ∙ text in cc

pub looks-at-plan : (command : Command) (output : Output) → looks command ≡ at_plan output → needs_plan command ≡ true
looks-at-plan command output looked = ap is_at_plan looked

-- ---- what is printed of a plan

-- a document and its plan have one text, or one refusal, and never both
one-plan-text : (one_meaning : (p : Plan) (y z : Table) → IsMeaning p.diagram p.samples p.batches y → IsMeaning p.diagram p.samples p.batches z → y ≡ z)
    (doc : Doc) (p : Plan) (output : Output) (text other : List ℕ) → PlanText doc p output text → PlanText doc p output other → text ≡ other
one-plan-text one doc p output text other (table_lines y here) (table_lines z there) = ap (λ (t : Table). lines_of p.diagram p.batches t) (one p y z here there)
one-plan-text one doc p output text other (simulated_lines c y in_time here) (simulated_lines c' z also there) = ap (λ (t : Table). lines_of p.diagram p.batches t) (one p y z here there)
one-plan-text one doc p output text other (recorded_steps c es is) (recorded_steps c' fs was) = ap (λ (gs : List Step). script_text p.diagram gs) (one-record-in p c' es fs is was)
one-plan-text one doc p output text other (made_of_plan make) (made_of_plan make') = refl
one-plan-text one doc p output text other (bounds_of_tasks a none are) (bounds_of_tasks b none' also) = ap (bound_lines p.diagram) (only_bounds p.diagram a b are also)
one-plan-text one doc p output text other (scenario_text name i at none) (scenario_text name' j there none') =
    let same : i ≡ j = cc (at, there) in
    ap (λ (task : ℕ). canonical_text (scenario_body doc.body p.diagram task)) same
one-plan-text one doc p output text other (heard_steps count es a script is) (heard_steps count' fs b also was) =
    let same : es ≡ fs = script-once p.diagram doc es fs script also in
    text-once p count' fs a b (subst (λ (gs : List Step). IsReplay p count' gs a) same is) was

no-plan-refusal : (doc : Doc) (p : Plan) (output : Output) (text : List ℕ) (r : Refusal) → PlanText doc p output text → PlanRefusal doc p output r → ⊥
no-plan-refusal doc p output text r (table_lines y here) refuses = elim refuses [ ]
no-plan-refusal doc p output text r (simulated_lines c y in_time here) refuses = elim refuses [ ]
no-plan-refusal doc p output text r (recorded_steps c es is) refuses = elim refuses [ ]
no-plan-refusal doc p output text r (made_of_plan make) refuses = elim refuses [ ]
no-plan-refusal doc p output text r (bounds_of_tasks bounds none are) (not_fixed fault) = absurd (cc (none, fault))
no-plan-refusal doc p output text r (bounds_of_tasks bounds none are) (not_periodic task fault) = absurd (cc (none, fault))
no-plan-refusal doc p output text r (scenario_text name i at none) (no_scenario name' code is) = none-some code (sym (faultless p.diagram name i at none) ∙ is)
no-plan-refusal doc p output text r (heard_steps count es a script is) (no_script count' l c fault) = script-no-fault p.diagram doc es l c script fault
no-plan-refusal doc p output text r (heard_steps count es a script is) (illegal count' fs k why also broken) =
    let same : es ≡ fs = script-once p.diagram doc es fs script also in
    text-not-refused p count' fs a k why (subst (λ (gs : List Step). IsReplay p count' gs a) same is) broken

one-plan-refusal : (doc : Doc) (p : Plan) (output : Output) (r s : Refusal) → PlanRefusal doc p output r → PlanRefusal doc p output s → r ≡ s
one-plan-refusal doc p output r s (no_script count l c fault) (no_script count' m d again) =
    let same = fault-once p.diagram doc l m c d fault again in
    λ i. Script (same.0 i) (same.1 i)
one-plan-refusal doc p output r s (no_script count l c fault) (illegal count' fs k why also broken) = absurd (script-no-fault p.diagram doc fs l c also fault)
one-plan-refusal doc p output r s (illegal count es k why script broken) (no_script count' m d again) = absurd (script-no-fault p.diagram doc es m d script again)
one-plan-refusal doc p output r s (illegal count es k why script broken) (illegal count' fs l other also again) =
    let same : es ≡ fs = script-once p.diagram doc es fs script also in
    let both = refused-once p count' fs k l why other (subst (λ (gs : List Step). IsIllegal p count' gs k why) same broken) again in
    λ i. Illegal (both.0 i) (both.1 i)
one-plan-refusal doc p output r s (not_fixed fault) (not_fixed again) = refl
one-plan-refusal doc p output r s (not_fixed fault) (not_periodic task again) = absurd (cc (fault, again))
one-plan-refusal doc p output r s (not_periodic task fault) (not_fixed again) = absurd (cc (fault, again))
one-plan-refusal doc p output r s (not_periodic i fault) (not_periodic j again) =
    let same : i ≡ j = cc (fault, again) in
    λ k. OfCommand (NotPeriodic (declared_task p (same k)).name)
one-plan-refusal doc p output r s (no_scenario name a is) (no_scenario name' b also) = ap (λ (code : CommandCode). OfCommand code) (same_Some a b (sym is ∙ also))

-- ---- overruns

-- a plan with an overrun has no text of its simulation, and no refusal
in-time : (p : Plan) (c : Processors) (t : ℕ) (x : Instance) → IsInTime p c → IsOverrun p (left_in p c) t x → ⊥
in-time p c t x none late = none.none t x late.late

no-plan-overrun : (doc : Doc) (p : Plan) (output : Output) (text : List ℕ) (x : Instance) (t : ℕ) → PlanText doc p output text → PlanOverrun p output x t → ⊥
no-plan-overrun doc p output text x t (table_lines y here) late = elim late [ ]
no-plan-overrun doc p output text x t (simulated_lines c y none here) (overrun c' record_it z u late) = in-time p c' t x none late
no-plan-overrun doc p output text x t (recorded_steps c es is) (overrun c' record_it z u late) = in-time p c' t x (record-in-time p c' es is) late
no-plan-overrun doc p output text x t (made_of_plan make) late = elim late [ ]
no-plan-overrun doc p output text x t (bounds_of_tasks bounds none are) late = elim late [ ]
no-plan-overrun doc p output text x t (scenario_text name i at none) late = elim late [ ]
no-plan-overrun doc p output text x t (heard_steps count es a script is) late = elim late [ ]

not-refused-overrun : (doc : Doc) (p : Plan) (output : Output) (r : Refusal) (x : Instance) (t : ℕ) → PlanRefusal doc p output r → PlanOverrun p output x t → ⊥
not-refused-overrun doc p output r x t (no_script count l c fault) late = elim late [ ]
not-refused-overrun doc p output r x t (illegal count es k why script broken) late = elim late [ ]
not-refused-overrun doc p output r x t (not_fixed fault) late = elim late [ ]
not-refused-overrun doc p output r x t (not_periodic task fault) late = elim late [ ]
not-refused-overrun doc p output r x t (no_scenario name code is) late = elim late [ ]

-- a plan's overrun stands in one line, after any words
one-overrun-after : (words : List ℕ) (p : Plan) (left : Instance → ℕ → ℕ) (x y : Instance) (t u : ℕ) → IsOverrun p left t x → IsOverrun p left u y
    → overrun_after words (declared_task p x.task).name x.number t ≡ overrun_after words (declared_task p y.task).name y.number u
one-overrun-after words p left x y t u late again =
    let times : t ≡ u = one_time p left t u x y late again in
    let same : x ≡ y = one_overrun p left t u x y late again in
    λ i. overrun_after words (declared_task p (same i).task).name (same i).number (times i)

one-simulation-line : (p : Plan) (a b : List ℕ) → IsSimulationLine p a → IsSimulationLine p b → a ≡ b
one-simulation-line p a b (sim.same none) (sim.same also) = refl
one-simulation-line p a b (sim.same none) (sim.overran x t late) = absurd (in-time p One t x none late)
one-simulation-line p a b (sim.overran x t late) (sim.same none) = absurd (in-time p One t x none late)
one-simulation-line p a b (sim.overran x t late) (sim.overran y u again) = one-overrun-after (codes "sim overrun ") p (left_in p One) x y t u late again

one-summary : ((p : Plan) (y z : Table) → IsMeaning p.diagram p.samples p.batches y → IsMeaning p.diagram p.samples p.batches z → y ≡ z)
    → (p : Plan) (a b : List ℕ) → IsSummary p a → IsSummary p b → a ≡ b
one-summary one p a b (of_table y l is line) (of_table z m was also) =
    let tables : y ≡ z = one p y z is was in
    let lines : l ≡ m = one-simulation-line p l m line also in
    λ i. summary p (tables i) (lines i)

-- ---- what a command makes of an input

module _
    (one_plan : (text : List ℕ) (p q : Plan) → Accepts text p → Accepts text q → p ≡ q)
    (no_fault : (text : List ℕ) (p : Plan) (line : ℕ) (code : Code) → Accepts text p → Refuses text line code → ⊥)
    (one_fault : (text : List ℕ) (line other : ℕ) (code another : Code) → Refuses text line code → Refuses text other another → (line ≡ other) × IsSameCode code another)
    (one_meaning : (p : Plan) (y z : Table) → IsMeaning p.diagram p.samples p.batches y → IsMeaning p.diagram p.samples p.batches z → y ≡ z)
    (one_shape : HaveOneShape)
    (bare : HaveOneBareDiagram)
    (spells_itself : HaveCanonicalTexts)
  where
    -- a command prints one thing of a plan, and a text's document and plan are those that it is accepted with
    same-accepted : (input : List ℕ) (command : Command) (o u : Output) (p q : Plan) (a : Accepts input p) (b : Accepts input q) → looks command ≡ at_plan o → looks command ≡ at_plan u
        → (P : Doc → Plan → Output → Type 0) → P a.doc p o → P b.doc q u
    same-accepted input command o u p q a b here there P holds =
        let doc : a.doc ≡ b.doc = one-document input a.doc b.doc a.spelled b.spelled in
        let output : o ≡ u = one-output command o u here there in
        subst (λ (d : Doc). P d q u) doc (subst (λ (r : Plan). P a.doc r u) (one_plan input p q a b) (subst (λ (x : Output). P a.doc p x) output holds))

    one-text : (input : List ℕ) (command : Command) (text other : List ℕ) → Makes input command text → Makes input command other → text ≡ other
    one-text input command text other (of_body c f d here spelled) (of_body c' g e there again) =
        let make : f ≡ g = one-make c f g here there in
        let doc : d ≡ e = one-document input d e spelled again in
        λ i. make i (doc i).body
    one-text input command text other (of_body c f d here spelled) (of_plan c' o q b y there makes) = absurd (not-text-and-plan c f here (looks-at-plan c o there))
    one-text input command text other (of_body c f d here spelled) (of_seed seed size) = absurd (let no : at_nothing ≡ at_text f = here in cc)
    one-text input command text other (of_body c f d here spelled) (of_generated seed size p a accepted is) = absurd (let no : at_nothing ≡ at_text f = here in cc)
    one-text input command text other (of_body c f d here spelled) (of_shape c' b shape is) = absurd (not-shape-and-text c f shape here)
    one-text input command text other (of_shape c a here is) (of_body c' g e there again) = absurd (not-shape-and-text c g here there)
    one-text input command text other (of_shape c a here is) (of_shape c' b there was) = one-ranked-text one_shape input a b is was
    one-text input command text other (of_shape c a here is) (of_plan c' u q b y there also) = absurd (not-shape-and-plan c here (looks-at-plan c u there))
    one-text input command text other (of_shape c a here is) (of_seed seed size) = absurd (let no : at_nothing ≡ at_shape = here in cc)
    one-text input command text other (of_shape c a here is) (of_generated seed size p b accepted was) = absurd (let no : at_nothing ≡ at_shape = here in cc)
    one-text input command text other (of_plan c o p a x here makes) (of_shape c' b there is) = absurd (not-shape-and-plan c there (looks-at-plan c o here))
    one-text input command text other (of_plan c o p a x here makes) (of_body c' g e there again) = absurd (not-text-and-plan c g there (looks-at-plan c o here))
    one-text input command text other (of_plan c o p a x here makes) (of_plan c' u q b y there also) =
        one-plan-text one_meaning y.doc q u a b (same-accepted input c o u p q x y here there (λ doc plan output. PlanText doc plan output a) makes) also
    one-text input command text other (of_plan c o p a x here makes) (of_seed seed size) = absurd (let no : at_nothing ≡ at_plan o = here in cc)
    one-text input command text other (of_plan c o p a x here makes) (of_generated seed size q b accepted is) = absurd (let no : at_nothing ≡ at_plan o = here in cc)
    one-text input command text other (of_seed seed size) (of_body c g e there again) = absurd (let no : at_nothing ≡ at_text g = there in cc)
    one-text input command text other (of_seed seed size) (of_shape c b there is) = absurd (let no : at_nothing ≡ at_shape = there in cc)
    one-text input command text other (of_seed seed size) (of_plan c u q b y there also) = absurd (let no : at_nothing ≡ at_plan u = there in cc)
    one-text input command text other (of_seed seed size) (of_seed seed' size') = refl
    one-text input command text other (of_generated seed size p a accepted is) (of_body c g e there again) = absurd (let no : at_nothing ≡ at_text g = there in cc)
    one-text input command text other (of_generated seed size p a accepted is) (of_shape c b there was) = absurd (let no : at_nothing ≡ at_shape = there in cc)
    one-text input command text other (of_generated seed size p a accepted is) (of_plan c u q b y there also) = absurd (let no : at_nothing ≡ at_plan u = there in cc)
    one-text input command text other (of_generated seed size p a accepted is) (of_generated seed' size' q b again was) =
        let plans : p ≡ q = one_plan (generated_text seed' size') p q accepted again in
        one-summary one_meaning q a b (subst (λ (r : Plan). IsSummary r a) plans is) was

    no-refusal : (input : List ℕ) (command : Command) (text : List ℕ) (r : Refusal) → Makes input command text → IsRefused input command r → ⊥
    no-refusal input command text r (of_body c f d here spelled) (no_text g l code there fault) = no-fault-of-a-document input d l code spelled fault
    no-refusal input command text r (of_body c f d here spelled) (no_plan l code checks fault) = not-text-and-plan c f here checks
    no-refusal input command text r (of_body c f d here spelled) (of_plan_refused o q s y there refuses) = not-text-and-plan c f here (looks-at-plan c o there)
    no-refusal input command text r (of_body c f d here spelled) (not_ranked s there refuses) = not-shape-and-text c f there here
    no-refusal input command text r (of_shape c a here is) (no_text g l code there fault) = not-shape-and-text c g here there
    no-refusal input command text r (of_shape c a here is) (not_ranked s there refuses) = no-rank-refusal bare spells_itself one_shape input a s is refuses
    no-refusal input command text r (of_shape c a here is) (no_plan l code checks fault) = not-shape-and-plan c here checks
    no-refusal input command text r (of_shape c a here is) (of_plan_refused o q s y there refuses) = not-shape-and-plan c here (looks-at-plan c o there)
    no-refusal input command text r (of_plan c o p a x here makes) (not_ranked s there refuses) = not-shape-and-plan c there (looks-at-plan c o here)
    no-refusal input command text r (of_plan c o p a x here makes) (no_text g l code there fault) = not-text-and-plan c g there (looks-at-plan c o here)
    no-refusal input command text r (of_plan c o p a x here makes) (no_plan l code checks fault) = no_fault input p l code x fault
    no-refusal input command text r (of_plan c o p a x here makes) (of_plan_refused u q s y there refuses) =
        no-plan-refusal y.doc q u a s (same-accepted input c o u p q x y here there (λ doc plan output. PlanText doc plan output a) makes) refuses
    no-refusal input command text r (of_seed seed size) (no_text g l code there fault) = absurd (let no : at_nothing ≡ at_text g = there in cc)
    no-refusal input command text r (of_seed seed size) (not_ranked s there refuses) = absurd (let no : at_nothing ≡ at_shape = there in cc)
    no-refusal input command text r (of_seed seed size) (no_plan l code checks fault) = false≢true checks
    no-refusal input command text r (of_seed seed size) (of_plan_refused u q s y there refuses) = absurd (let no : at_nothing ≡ at_plan u = there in cc)
    no-refusal input command text r (of_generated seed size p a accepted is) (no_text g l code there fault) = absurd (let no : at_nothing ≡ at_text g = there in cc)
    no-refusal input command text r (of_generated seed size p a accepted is) (not_ranked s there refuses) = absurd (let no : at_nothing ≡ at_shape = there in cc)
    no-refusal input command text r (of_generated seed size p a accepted is) (no_plan k code checks fault) = false≢true checks
    no-refusal input command text r (of_generated seed size p a accepted is) (of_plan_refused u q s y there refuses) = absurd (let no : at_nothing ≡ at_plan u = there in cc)

    one-refusal : (input : List ℕ) (command : Command) (r s : Refusal) → IsRefused input command r → IsRefused input command s → refusal_line r ≡ refusal_line s
    one-refusal input command r s (no_text f k c here fault) (no_text g l d there again) =
        let same = one-first-fault input k l c d fault again in
        λ i. refusal_line (Document (same.0 i) (Reading (same.1 i)))
    one-refusal input command r s (no_text f k c here fault) (no_plan l d checks again) = absurd (not-text-and-plan command f here checks)
    one-refusal input command r s (no_text f k c here fault) (of_plan_refused u q t y there refuses) = absurd (not-text-and-plan command f here (looks-at-plan command u there))
    one-refusal input command r s (no_text f k c here fault) (not_ranked t there refuses) = absurd (not-shape-and-text command f there here)
    one-refusal input command r s (not_ranked t here refuses) (no_text g l d there again) = absurd (not-shape-and-text command g here there)
    one-refusal input command r s (not_ranked t here refuses) (not_ranked w there also) = one-rank-refusal one_shape input t w refuses also
    one-refusal input command r s (not_ranked t here refuses) (no_plan l d checks again) = absurd (not-shape-and-plan command here checks)
    one-refusal input command r s (not_ranked t here refuses) (of_plan_refused u q w y there also) = absurd (not-shape-and-plan command here (looks-at-plan command u there))
    one-refusal input command r s (no_plan k c checks fault) (not_ranked t there refuses) = absurd (not-shape-and-plan command there checks)
    one-refusal input command r s (of_plan_refused o p t x here refuses) (not_ranked w there also) = absurd (not-shape-and-plan command there (looks-at-plan command o here))
    one-refusal input command r s (no_plan k c checks fault) (no_text g l d there again) = absurd (not-text-and-plan command g there checks)
    one-refusal input command r s (no_plan k c checks fault) (no_plan l d also again) =
        let same = one_fault input k l c d fault again in
        same-line k l c d same.0 (same-text c d same.1)
    one-refusal input command r s (no_plan k c checks fault) (of_plan_refused u q t y there refuses) = absurd (no_fault input q k c y fault)
    one-refusal input command r s (of_plan_refused o p t x here refuses) (no_text g l d there again) = absurd (not-text-and-plan command g there (looks-at-plan command o here))
    one-refusal input command r s (of_plan_refused o p t x here refuses) (no_plan l d checks again) = absurd (no_fault input p l d x again)
    one-refusal input command r s (of_plan_refused o p t x here refuses) (of_plan_refused u q w y there also) =
        ap (λ (z : Refusal). refusal_line z)
        (one-plan-refusal y.doc q u t w (same-accepted input command o u p q x y here there (λ doc plan output. PlanRefusal doc plan output t) refuses) also)

    one-overrun-line : (p : Plan) (output : Output) (x y : Instance) (t u : ℕ) → PlanOverrun p output x t → PlanOverrun p output y u
        → overrun_line (declared_task p x.task).name x.number t ≡ overrun_line (declared_task p y.task).name y.number u
    one-overrun-line p output x y t u (overrun c record_it a b late) (overrun c' record_it' d e again) = one-overrun-after (codes "overrun: ") p (left_in p c') x y t u late again

    -- the overrun of a plan is that of the other with the same text
    overrun-of : (input : List ℕ) (command : Command) (o u : Output) (p q : Plan) (x : Instance) (t : ℕ) → Accepts input p → Accepts input q → looks command ≡ at_plan o → looks command ≡ at_plan u
        → PlanOverrun p o x t → PlanOverrun q u x t
    overrun-of input command o u p q x t accepted also here there late =
        subst (λ (r : Plan). PlanOverrun r u x t) (one_plan input p q accepted also) (subst (λ (w : Output). PlanOverrun p w x t) (one-output command o u here there) late)

    one-overrun-of : (input : List ℕ) (command : Command) (a b : List ℕ) (m n t u : ℕ) → Overruns input command a m t → Overruns input command b n u → overrun_line a m t ≡ overrun_line b n u
    one-overrun-of input command a b m n t u (of_plan_overrun o p x v accepted here late) (of_plan_overrun e q y w also there again) =
        ap (λ (r : Plan). overrun_line (declared_task r x.task).name x.number v) (one_plan input p q accepted also)
        ∙ one-overrun-line q e x y v w (overrun-of input command o e p q x v accepted also here there late) again

    one-line : (input : List ℕ) (command : Command) (a b : List ℕ) → IsOverrunLine input command a → IsOverrunLine input command b → a ≡ b
    one-line input command a b (line_of c m t late) (line_of d n u again) = one-overrun-of input command c d m n t u late again

    text-or-overrun : (input : List ℕ) (command : Command) (text name : List ℕ) (n t : ℕ) → Makes input command text → Overruns input command name n t → ⊥
    text-or-overrun input command text name n t (of_body c f d here spelled) (of_plan_overrun u q y w also there again) = not-text-and-plan c f here (looks-at-plan c u there)
    text-or-overrun input command text name n t (of_shape c a here is) (of_plan_overrun u q y w also there again) = not-shape-and-plan c here (looks-at-plan c u there)
    text-or-overrun input command text name n t (of_seed seed size) (of_plan_overrun u q y w also there again) = absurd (let no : at_nothing ≡ at_plan u = there in cc)
    text-or-overrun input command text name n t (of_generated seed size p a accepted is) (of_plan_overrun u q y w also there again) = absurd (let no : at_nothing ≡ at_plan u = there in cc)
    text-or-overrun input command text name n t (of_plan c o p a accepted here makes) (of_plan_overrun u q y w also there again) =
        no-plan-overrun accepted.doc p o a y w makes (overrun-of input c u o q p y w also accepted there here again)

    refusal-or-overrun : (input : List ℕ) (command : Command) (r : Refusal) (name : List ℕ) (n t : ℕ) → IsRefused input command r → Overruns input command name n t → ⊥
    refusal-or-overrun input command r name n t (no_text f l c here fault) (of_plan_overrun u q y w also there again) = not-text-and-plan command f here (looks-at-plan command u there)
    refusal-or-overrun input command r name n t (not_ranked s here refuses) (of_plan_overrun u q y w also there again) = not-shape-and-plan command here (looks-at-plan command u there)
    refusal-or-overrun input command r name n t (no_plan l c checks fault) (of_plan_overrun u q y w also there again) = no_fault input q l c also fault
    refusal-or-overrun input command r name n t (of_plan_refused o p s accepted here refuses) (of_plan_overrun u q y w also there again) =
        not-refused-overrun accepted.doc p o s y w refuses (overrun-of input command u o q p y w also accepted there here again)

    pub one-answer : (input : List ℕ) (command : Command) (s t : Status) (text other : List ℕ) → Answers input command s text → Answers input command t other → (s ≡ t) × (text ≡ other)
    one-answer input command s t text other (made a makes) (made b again) = (refl, one-text input command a b makes again)
    one-answer input command s t text other (made a makes) (refused r is) = absurd (no-refusal input command a r makes is)
    one-answer input command s t text other (refused r is) (made a makes) = absurd (no-refusal input command a r makes is)
    one-answer input command s t text other (refused r is) (refused q was) = (refl, one-refusal input command r q is was)
    one-answer input command s t text other (made a makes) (overran l (line_of name n u late)) = absurd (text-or-overrun input command a name n u makes late)
    one-answer input command s t text other (overran l (line_of name n u late)) (made a makes) = absurd (text-or-overrun input command a name n u makes late)
    one-answer input command s t text other (refused r is) (overran l (line_of name n u late)) = absurd (refusal-or-overrun input command r name n u is late)
    one-answer input command s t text other (overran l (line_of name n u late)) (refused r is) = absurd (refusal-or-overrun input command r name n u is late)
    one-answer input command s t text other (overran l late) (overran m again) = (refl, one-line input command l m late again)
