-- Answers of the command that ranks tasks by their links.
use Rattle.std.proofs.Common.{◌≡◌, ℕ, List, [], ◌∷◌, length, Option, Some, None, refl, sym, ◌∙◌, ap, subst}
use Rattle.std.proofs.lemmas.Option.{none-some, same_Some}
use Rattle.dbp_plan.specs.declared.diagram.Diagram.{Diagram}
use Rattle.dbp_plan.specs.declared.plan.Plan.{Plan}
use Rattle.dbp_plan.specs.declared.schedule.Batch.{Batch}
use Rattle.dbp_plan.specs.declared.schedule.Sample.{Sample}
use Rattle.dbp_plan.specs.BareDiagrams.{bare_diagram}
use Rattle.dbp_plan.specs.Closed.{IsClosed}
use Rattle.dbp_plan.specs.Cycles.{IsCycle}
use Rattle.dbp_plan.specs.FirstFault.{first_fault}
use Rattle.dbp_plan.specs.Ranking.{IsByRank}
use Rattle.dbp_plan.proofs.FirstFaults.{append-none, cons-none}
use Rattle.dia_read.specs.Canonical.{SpellsBody, canonical_text}
use Rattle.dia_read.specs.Documents.{Spells}
use Rattle.dia_read.specs.Printable.{HasItemLines, IsPrintable}
use Rattle.dia_read.specs.declared.document.Body.{Body}
use Rattle.dia_read.specs.declared.document.Doc.{Doc}
use Rattle.dia_read.proofs.DocumentLaws.{one-document}
use Rattle.dia_read.proofs.FaultLaws.{no-fault-of-a-document, one-first-fault}
use Rattle.dia_read.proofs.SpelledDocuments.{item-lines, printable-document}
use Rattle.dia_check.specs.BareBodies.{HaveSameBareBody, bare_body}
use Rattle.dia_check.specs.Checks.{IsCheckedOf, of_ranks, of_shape}
use Rattle.dia_check.specs.Faults.{HasNoShapeFault, IsShapeFault}
use Rattle.dia_check.specs.RankFaults.{HasNoRankFault, ranked_diagram}
use Rattle.dia_check.specs.Shapes.{IsShapeOf}
use Rattle.dia_check.specs.declared.fail.CheckCode.{CheckCode}
use Rattle.dia_check.specs.declared.shaped.Shaped.{Shaped}
use Rattle.dia_check.proofs.Closedness.{closed}
use Rattle.dia_check.proofs.SameTasks.{checked-again, checked-end, with_end}
use Rattle.dia_check.proofs.ShapeLaws.{HaveOneShape, no-fault-of-a-shape, one-shape-fault}
use Rattle.rank_find.specs.Bodies.{ranked_body, ranked_doc}
use Rattle.rank_find.specs.Finds.{AreNamesOfFirstCycle}
use Rattle.rank_find.specs.FirstCycles.{names_of}
use Rattle.rank_find.specs.Links.{WritesTo}
use Rattle.rank_find.specs.Orders.{HoldsEachOnce, IsOrder}
use Rattle.rank_find.proofs.Cycles.{no-order, one-first_cycle}
use Rattle.rank_find.proofs.OrderFronts.{one-order, order_once}
use Rattle.rank_find.proofs.RankedBodies.{still_printable}
use Rattle.rank_find.proofs.RankedShapes.{by-rank, no-rank-fault, same-bare-body, some-shape, still-faultless, still-items}
use Rattle.rank_find.proofs.SomeOrder.{some_order}
use Rattle.sync_meaning.specs.Meaning.{IsMeaning}
use Rattle.sync_meaning.specs.SomeMeaning.{meaning_of, meaning_of-is}
use Rattle.sync_meaning.proofs.BareMeaning.{same-meaning}
use Rattle.sync_meaning.proofs.OneMeaning.{one_meaning}
use Rattle.trace_io.specs.Batches.{AreBatches}
use Rattle.trace_io.specs.declared.code.Code.TheVariants.{Reading, Checking, Tracing}
use Rattle.trace_io.specs.Texts.{Accepts}
use Rattle.trace_io.specs.Traces.{IsPlanOf, IsTraceFault, TraceCode, events_of, given_samples, occurrence_fault, section_faults, trace_faults}
use Rattle.trace_io.proofs.OneSchedule.{one-schedule}
use Rattle.trace_io.proofs.OtherLines.{planned-again}
use Rattle.trace_io.proofs.WrittenTraces.{faultless-plan}
use Rattle.dbp_answers.specs.Answer.{Answers, made, of_shape as of_a_shape}
use Rattle.dbp_answers.specs.Rankings.{HasNoCheckFault, HasOrder, IsRankedText, RankRefusal, no_order, no_shape, no_trace, not_read}
use Rattle.dbp_answers.specs.Refusals.{refusal_line}
use Rattle.dbp_answers.specs.declared.command.Command.TheVariants.{Rank}
use Rattle.dbp_answers.specs.declared.command_code.CommandCode.TheVariants.{Cycle}
use Rattle.dbp_answers.specs.declared.refusal.Refusal.{Refusal}
use Rattle.dbp_answers.specs.declared.refusal.Refusal.TheVariants.{Document, OfCommand}
use Rattle.dbp_answers.specs.declared.status.Status.TheVariants.{Ok}
use Rattle.dbp_answers.proofs.BareTraces.{few-enough, same-batches, same-trace-faults}
use Rattle.dbp_answers.proofs.RefusalLines.{same-line, same-text}

-- documents with the same bare body have the same bare diagram
abbrev pub HaveOneBareDiagram : Type 0
HaveOneBareDiagram = (a b : Doc) (s t : Shaped) → HaveSameBareBody a b → IsShapeOf a s → IsShapeOf b t → bare_diagram s.diagram ≡ bare_diagram t.diagram

-- the canonical text of a body that can be printed spells it
abbrev pub HaveCanonicalTexts : Type 0
HaveCanonicalTexts = (body : Body) → IsPrintable body → SpellsBody (canonical_text body) body

-- the shape of a spelled document is closed
closed-shape : (input : List ℕ) (doc : Doc) (s : Shaped) → Spells input doc → IsShapeOf doc s → IsClosed s.diagram
closed-shape input doc s spelled shape = closed doc s.diagram (printable-document input doc spelled) (item-lines input doc spelled) shape.faultless shape.diagram

pub each-once : (doc : Doc) (order : List ℕ) → HasOrder doc order → HoldsEachOnce (length doc.body.tasks) order
each-once doc order ordered = subst (λ (n : ℕ). HoldsEachOnce n order) ordered.shape.diagram.count (order_once ordered.shaped.diagram order ordered.is)

-- a document with a shape has no fault of it
shape-or-fault : (input : List ℕ) (doc other : Doc) (s : Shaped) (line : ℕ) (code : CheckCode) → Spells input doc → Spells input other → IsShapeOf doc s → IsShapeFault other line code → ⊥
shape-or-fault input doc other s line code spelled again shape fault =
    no-fault-of-a-shape other line code (subst (λ (d : Doc). HasNoShapeFault d) (one-document input doc other spelled again) shape.faultless) fault

-- ---- one text, or one refusal

module _ (one_shape : HaveOneShape) where
  same-shape : (input : List ℕ) (a b : Doc) (s t : Shaped) → Spells input a → Spells input b → IsShapeOf a s → IsShapeOf b t → s ≡ t
  same-shape input a b s t spelled again one other = one_shape b s t (subst (λ (d : Doc). IsShapeOf d s) (one-document input a b spelled again) one) other

  pub one-ranked-text : (input a b : List ℕ) → IsRankedText input a → IsRankedText input b → a ≡ b
  one-ranked-text input a b one other =
      let doc : one.doc ≡ other.doc = one-document input one.doc other.doc one.spelled other.spelled in
      let shape : one.ordered.shaped ≡ other.ordered.shaped = same-shape input one.doc other.doc one.ordered.shaped other.ordered.shaped one.spelled other.spelled one.ordered.shape other.ordered.shape in
      let order : one.order ≡ other.order = one-order other.ordered.shaped.diagram one.order other.order (subst (λ (s : Shaped). IsOrder s.diagram one.order) shape one.ordered.is) other.ordered.is in
      one.written ∙ (λ i. canonical_text (ranked_body (doc i).body (order i))) ∙ sym other.written

  -- a shape with an order has no cycle
  no-cycle : (input : List ℕ) (doc other : Doc) (order : List ℕ) (s : Shaped) (names : List (List ℕ)) → Spells input doc → Spells input other → HasOrder doc order → IsShapeOf other s
      → AreNamesOfFirstCycle s.diagram names → ⊥
  no-cycle input doc other order s names spelled again ordered shape are =
      let same : ordered.shaped ≡ s = same-shape input doc other ordered.shaped s spelled again ordered.shape shape in
      let is : IsOrder s.diagram order = subst (λ (t : Shaped). IsOrder t.diagram order) same ordered.is in
      no-order s.diagram order are.cycle (closed-shape input other s again shape) (order_once s.diagram order is) is are.is.from.is.is

  pub one-rank-refusal : (input : List ℕ) (r s : Refusal) → RankRefusal input r → RankRefusal input s → refusal_line r ≡ refusal_line s
  one-rank-refusal input r s (not_read k c fault) (not_read l d again) =
      let same = one-first-fault input k l c d fault again in
      λ i. refusal_line (Document (same.0 i) (Reading (same.1 i)))
  one-rank-refusal input r s (not_read k c fault) (no_shape doc l d spelled again) = absurd (no-fault-of-a-document input doc k c spelled fault)
  one-rank-refusal input r s (not_read k c fault) (no_order doc shaped names spelled shape are) = absurd (no-fault-of-a-document input doc k c spelled fault)
  one-rank-refusal input r s (not_read k c fault) (no_trace doc order ordered l d spelled again) = absurd (no-fault-of-a-document input doc k c spelled fault)
  one-rank-refusal input r s (no_shape doc k c spelled fault) (not_read l d again) = absurd (no-fault-of-a-document input doc l d spelled again)
  one-rank-refusal input r s (no_shape doc k c spelled fault) (no_shape other l d again also) =
      let same = one-shape-fault other k l c d (subst (λ (x : Doc). IsShapeFault x k c) (one-document input doc other spelled again) fault) also in
      same-line k l (Checking c) (Checking d) same.0 (same-text (Checking c) (Checking d) same.1)
  one-rank-refusal input r s (no_shape doc k c spelled fault) (no_order other shaped names again shape are) = absurd (shape-or-fault input other doc shaped k c again spelled shape fault)
  one-rank-refusal input r s (no_shape doc k c spelled fault) (no_trace other order ordered l d again also) = absurd (shape-or-fault input other doc ordered.shaped k c again spelled ordered.shape fault)
  one-rank-refusal input r s (no_order doc shaped names spelled shape are) (not_read l d again) = absurd (no-fault-of-a-document input doc l d spelled again)
  one-rank-refusal input r s (no_order doc shaped names spelled shape are) (no_shape other l d again also) = absurd (shape-or-fault input doc other shaped l d spelled again shape also)
  one-rank-refusal input r s (no_order doc shaped names spelled shape are) (no_order other t others again also were) =
      let same : shaped ≡ t = same-shape input doc other shaped t spelled again shape also in
      let moved : AreNamesOfFirstCycle t.diagram names = subst (λ (u : Shaped). AreNamesOfFirstCycle u.diagram names) same are in
      let cycles = one-first_cycle (WritesTo t.diagram) moved.start were.start moved.cycle were.cycle moved.is were.is in
      ap (λ (ns : List (List ℕ)). refusal_line (OfCommand (Cycle ns))) (moved.named ∙ ap (names_of t.diagram) cycles.1 ∙ sym were.named)
  one-rank-refusal input r s (no_order doc shaped names spelled shape are) (no_trace other order ordered l d again also) = absurd (no-cycle input other doc order shaped names again spelled ordered shape are)
  one-rank-refusal input r s (no_trace doc order ordered k c spelled fault) (not_read l d again) = absurd (no-fault-of-a-document input doc l d spelled again)
  one-rank-refusal input r s (no_trace doc order ordered k c spelled fault) (no_shape other l d again also) = absurd (shape-or-fault input doc other ordered.shaped l d spelled again ordered.shape also)
  one-rank-refusal input r s (no_trace doc order ordered k c spelled fault) (no_order other shaped names again shape are) = absurd (no-cycle input doc other order shaped names spelled again ordered shape are)
  one-rank-refusal input r s (no_trace doc order ordered k c spelled fault) (no_trace other order' ordered' l d again also) =
      let same_doc : doc ≡ other = one-document input doc other spelled again in
      let shape : ordered.shaped ≡ ordered'.shaped = same-shape input doc other ordered.shaped ordered'.shaped spelled again ordered.shape ordered'.shape in
      let faults : first_fault (trace_faults doc ordered.shaped.diagram) ≡ first_fault (trace_faults other ordered'.shaped.diagram) = λ i. first_fault (trace_faults (same_doc i) (shape i).diagram) in
      let pair : (k, c) ≡ (l, d) = same_Some (k, c) (l, d) (sym fault ∙ faults ∙ also) in
      ap (λ (p : ℕ × TraceCode). refusal_line (Document p.0 (Tracing p.1))) pair

-- ---- documents with the body that is ranked

module _ (bare : HaveOneBareDiagram) where
  -- the second check refuses nothing
  pub no-check-fault : (doc : Doc) (order : List ℕ) → IsPrintable doc.body → HasItemLines doc → HasOrder doc order → HasNoCheckFault (ranked_doc doc order)
  no-check-fault doc order printable items ordered line code (of_shape l c fault) = no-fault-of-a-shape (ranked_doc doc order) line code (still-faultless doc order ordered.shape.faultless) fault
  no-check-fault doc order printable items ordered line code (of_ranks t l c shape (f, at, is)) =
      let same = bare doc (ranked_doc doc order) ordered.shaped t (same-bare-body doc.body order) ordered.shape shape in
      none-some (line, f) (sym (no-rank-fault doc order ordered.shaped t ordered.shape shape ordered.is same printable items) ∙ at)

  module _ (doc : Doc) (order : List ℕ) (s : Shaped) (shape : IsShapeOf doc s) (other : Doc) (body : other.body ≡ ranked_body doc.body order) (d : Diagram) (checked : IsCheckedOf other d) where
    -- the diagrams differ in ranks alone
    pub same-but-ranks : bare_diagram s.diagram ≡ bare_diagram d
    same-but-ranks = bare doc other s checked.shaped (same-bare-body doc.body order ∙ ap bare_body (sym body)) shape checked.shape ∙ ap bare_diagram (sym checked.is)

    pub same-end : s.diagram.until ≡ d.until
    same-end = shape.diagram.until ∙ ap (λ (b : Body). b.until) (sym body) ∙ sym (checked-end other d checked)

    pub same-faults : trace_faults doc s.diagram ≡ trace_faults doc d
    same-faults = same-trace-faults doc s.diagram d same-end same-but-ranks

  -- of an accepted input and of the text the plans mean the same
  same-table : (doc : Doc) (d e : Diagram) (p q : Plan) → d.until ≡ e.until → bare_diagram d ≡ bare_diagram e → IsPlanOf doc d p → IsPlanOf doc e q → meaning_of p ≡ meaning_of q
  same-table doc d e p q end alike one other =
      let samples : given_samples doc d ≡ given_samples doc e = ap (λ (f : Diagram). given_samples doc f) alike in
      let events : events_of doc d ≡ events_of doc e = ap (λ (f : Diagram). events_of doc f) alike in
      let are : AreBatches e (given_samples doc d) (events_of doc d) p.batches = same-batches d e (given_samples doc d) (events_of doc d) p.batches end alike one.batches in
      let moved : AreBatches e (given_samples doc e) (events_of doc e) p.batches =
      subst (λ (es : List (List ℕ)). AreBatches e (given_samples doc e) es p.batches) events (subst (λ (ss : List Sample). AreBatches e ss (events_of doc d) p.batches) samples are) in
      let batches : p.batches ≡ q.batches = one-schedule e (given_samples doc e) (events_of doc e) p.batches q.batches moved other.batches in
      let given : p.samples ≡ q.samples = one.samples ∙ samples ∙ sym other.samples in
      let diagrams : bare_diagram p.diagram ≡ bare_diagram q.diagram = ap bare_diagram one.diagram ∙ alike ∙ sym (ap bare_diagram other.diagram) in
      let means : IsMeaning q.diagram p.samples p.batches (meaning_of p) = same-meaning p.diagram q.diagram p.samples p.batches (meaning_of p) diagrams (meaning_of-is p) in
      let also : IsMeaning q.diagram q.samples q.batches (meaning_of p) =
      subst (λ (bs : List Batch). IsMeaning q.diagram q.samples bs (meaning_of p)) batches (subst (λ (ss : List Sample). IsMeaning q.diagram ss p.batches (meaning_of p)) given means) in
      one_meaning q (meaning_of p) (meaning_of q) also (meaning_of-is q)

module _ (bare : HaveOneBareDiagram) (spells_itself : HaveCanonicalTexts) where
  module _ (input : List ℕ) (doc : Doc) (order : List ℕ) (spelled : Spells input doc) (ordered : HasOrder doc order) where
    abbrev body : Body
    body = ranked_body doc.body order

    abbrev text : List ℕ
    text = canonical_text body

    printable : IsPrintable body
    printable = still_printable doc.body order (each-once doc order ordered) (printable-document input doc spelled)

    items : HasItemLines (ranked_doc doc order)
    items = still-items doc order (item-lines input doc spelled)

    spells : SpellsBody text body
    spells = spells_itself body printable

    abbrev written_doc : Doc
    written_doc = record { body = body; lines = spells.lines }

    accepted-text : (d : Diagram) (p : Plan) → IsCheckedOf (ranked_doc doc order) d → IsPlanOf (ranked_doc doc order) d p → Accepts text p
    accepted-text d p checked planned = record {
      doc = written_doc;
      diagram = d;
      spelled = spells.spelled;
      checked = subst (λ (until : ℕ). IsCheckedOf written_doc (with_end until d)) (sym (checked-end (ranked_doc doc order) d checked))
          (checked-again (ranked_doc doc order) written_doc d (record { policy = refl; decls = refl; tasks = refl }) items (item-lines text written_doc spells.spelled) checked);
      planned = planned-again (ranked_doc doc order) written_doc d p refl printable.trace items planned;
    }

    kept-meaning : (d : Diagram) (p : Plan) → IsCheckedOf (ranked_doc doc order) d → IsPlanOf (ranked_doc doc order) d p → (before : Plan) → Accepts input before → meaning_of before ≡ meaning_of p
    kept-meaning d p checked planned before also =
        let same : also.doc ≡ doc = one-document input also.doc doc also.spelled spelled in
        let was : IsCheckedOf doc also.diagram = subst (λ (x : Doc). IsCheckedOf x also.diagram) same also.checked in
        let first : IsPlanOf doc also.diagram before = subst (λ (x : Doc). IsPlanOf x also.diagram before) same also.planned in
        let s = was.shaped in
        let alike : bare_diagram also.diagram ≡ bare_diagram d = ap bare_diagram was.is ∙ same-but-ranks bare doc order s was.shape (ranked_doc doc order) refl d checked in
        let end : also.diagram.until ≡ d.until = ap (λ (x : Diagram). x.until) was.is ∙ same-end bare doc order s was.shape (ranked_doc doc order) refl d checked in
        same-table bare doc also.diagram d before p end alike first (record { faultless = planned.faultless; diagram = planned.diagram; samples = planned.samples; batches = planned.batches })

    by-order : (d : Diagram) (p : Plan) → IsCheckedOf (ranked_doc doc order) d → IsPlanOf (ranked_doc doc order) d p → IsByRank p.diagram.ranks order
    by-order d p checked planned =
        let t = checked.shaped in
        let same = bare doc (ranked_doc doc order) ordered.shaped t (same-bare-body doc.body order) ordered.shape checked.shape in
        subst (λ (e : Diagram). IsByRank e.ranks order) (sym (planned.diagram ∙ checked.is)) (by-rank doc order ordered.shaped t ordered.shape checked.shape ordered.is same (closed-shape input doc ordered.shaped spelled ordered.shape))

    -- a plan of the ranked document makes its text the one that is wanted
    pub ranked-text : (d : Diagram) (p : Plan) → IsCheckedOf (ranked_doc doc order) d → IsPlanOf (ranked_doc doc order) d p → IsRankedText input text
    ranked-text d p checked planned = record {
      doc = doc;
      order = order;
      plan = p;
      spelled = spelled;
      ordered = ordered;
      written = refl;
      accepted = accepted-text d p checked planned;
      by_order = by-order d p checked planned;
      same = kept-meaning d p checked planned;
    }

  -- ---- no text and refusal

  -- if there is a text the trace has no fault
  faultless-trace : (input text : List ℕ) (is : IsRankedText input text) → first_fault (trace_faults is.doc is.ordered.shaped.diagram) ≡ None
  faultless-trace input text is =
      let a = is.accepted in
      let spells = spells input is.doc is.order is.spelled is.ordered in
      let again : Spells (canonical_text (ranked_body is.doc.body is.order)) a.doc = subst (λ (l : List ℕ). Spells l a.doc) is.written a.spelled in
      let same : a.doc.body ≡ ranked_body is.doc.body is.order = ap (λ (x : Doc). x.body) (one-document (canonical_text (ranked_body is.doc.body is.order)) a.doc (record { body = ranked_body is.doc.body is.order; lines = spells.lines }) again spells.spelled) in
      let planned : IsPlanOf (ranked_doc is.doc is.order) a.diagram is.plan =
      planned-again a.doc (ranked_doc is.doc is.order) a.diagram is.plan (ap (λ (b : Body). b.trace) (sym same)) (printable-document text a.doc a.spelled).trace (item-lines text a.doc a.spelled) a.planned in
      ap (λ fs. first_fault fs) (same-faults bare is.doc is.order is.ordered.shaped is.ordered.shape a.doc same a.diagram a.checked) ∙ planned.faultless

  pub no-rank-refusal : HaveOneShape → (input text : List ℕ) (r : Refusal) → IsRankedText input text → RankRefusal input r → ⊥
  no-rank-refusal one_shape input text r is (not_read l c fault) = no-fault-of-a-document input is.doc l c is.spelled fault
  no-rank-refusal one_shape input text r is (no_shape doc l c spelled fault) = shape-or-fault input is.doc doc is.ordered.shaped l c is.spelled spelled is.ordered.shape fault
  no-rank-refusal one_shape input text r is (no_order doc s names spelled shape are) = no-cycle one_shape input is.doc doc is.order s names is.spelled spelled is.ordered shape are
  no-rank-refusal one_shape input text r is (no_trace doc order ordered l c spelled fault) =
      let same : is.doc ≡ doc = one-document input is.doc doc is.spelled spelled in
      let shape : is.ordered.shaped ≡ ordered.shaped = same-shape one_shape input is.doc doc is.ordered.shaped ordered.shaped is.spelled spelled is.ordered.shape ordered.shape in
      let faults : first_fault (trace_faults is.doc is.ordered.shaped.diagram) ≡ first_fault (trace_faults doc ordered.shaped.diagram) = λ i. first_fault (trace_faults (same i) (shape i).diagram) in
      none-some (l, c) (sym (faultless-trace input text is) ∙ faults ∙ fault)

  -- ---- some text

  no-first : (faults : List (ℕ × Option TraceCode)) → ((line : ℕ) (code : TraceCode) → first_fault faults ≡ Some (line, code) → ⊥) → first_fault faults ≡ None
  no-first faults none = go (first_fault faults) refl
    where
      go : (found : Option (ℕ × TraceCode)) → first_fault faults ≡ found → found ≡ None
      go None is = refl
      go (Some (line, code)) is = absurd (none line code is)

  -- an input whose shape has no cycle, and whose trace has no fault, has a text
  pub has-ranked-text : (input : List ℕ) (doc : Doc) (s : Shaped) → Spells input doc → IsShapeOf doc s → ((cycle : List ℕ) → IsCycle (WritesTo s.diagram) cycle → ⊥)
      → ((line : ℕ) (code : TraceCode) → IsTraceFault doc s.diagram line code → ⊥) → (text : List ℕ) × Answers input Rank Ok text
  has-ranked-text input doc s spelled shape acyclic traced =
      let first_printable = printable-document input doc spelled in
      let first_items = item-lines input doc spelled in
      let (order, is) = some_order s.diagram (closed-shape input doc s spelled shape) acyclic in
      let ordered : HasOrder doc order = record { shaped = s; shape = shape; is = is } in
      let (t, again) = some-shape doc order s shape in
      let alike = bare doc (ranked_doc doc order) s t (same-bare-body doc.body order) shape again in
      let none : HasNoRankFault t = no-rank-fault doc order s t shape again is alike first_printable first_items in
      let d : Diagram = ranked_diagram t.diagram in
      let checked : IsCheckedOf (ranked_doc doc order) d = record { shaped = t; shape = again; ranks = none; is = refl } in
      let faultless : first_fault (trace_faults doc d) ≡ None = ap (λ fs. first_fault fs) (sym (same-faults bare doc order s shape (ranked_doc doc order) refl d checked)) ∙ no-first (trace_faults doc s.diagram) traced in
      let both = append-none (section_faults (ranked_doc doc order) d) ((doc.lines.until_at, occurrence_fault (ranked_doc doc order) d) ∷ []) faultless in
      let few = few-enough (ranked_doc doc order) d (cons-none doc.lines.until_at (occurrence_fault (ranked_doc doc order) d) [] both.1).0 in
      let (plan, planned) = faultless-plan (ranked_doc doc order) d (printable input doc order spelled ordered) (items input doc order spelled ordered) checked both.0 few in
      let text : List ℕ = canonical_text (ranked_body doc.body order) in
      (text, made text (of_a_shape Rank text refl (ranked-text input doc order spelled ordered d plan checked planned)))
