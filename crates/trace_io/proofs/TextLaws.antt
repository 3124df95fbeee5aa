-- One plan of a text, and one first fault.
use Rattle.std.proofs.Common.{◌≡◌, ℕ, List, Option, Some, None, sym, ap, ◌∙◌, subst}
use Rattle.dbp_plan.specs.declared.diagram.Diagram.{Diagram}
use Rattle.dbp_plan.specs.declared.plan.Plan.{Plan}
use Rattle.dbp_plan.specs.declared.schedule.Batch.{Batch}
use Rattle.dbp_plan.specs.declared.schedule.Sample.{Sample}
use Rattle.dbp_plan.specs.Plan.{IsPlan}
use Rattle.dbp_plan.specs.FirstFault.{first_fault}
use Rattle.std.proofs.Props.{props}
use mathlib.Core.HLevel.{Σ_prop_path}
use Rattle.std.proofs.lemmas.Option.{same_Some}
use Rattle.dia_check.specs.declared.fail.CheckCode.{CheckCode}
use Rattle.dia_check.specs.Checks.{IsCheckedOf, IsCheckFault}
use Rattle.dia_check.specs.Faults as checking
use Rattle.dia_lines.specs.declared.fault.ReadCode.{ReadCode}
use Rattle.dia_read.specs.declared.document.Doc.{Doc}
use Rattle.dia_read.specs.Documents.{Spells, IsFirstFault}
use Rattle.trace_io.specs.declared.code.Code.{Code}
use Rattle.trace_io.specs.Batches.{AreBatches}
use Rattle.trace_io.specs.Traces.{TraceCode, events_of, given_samples, trace_faults, IsPlanOf, IsTraceFault}
use Rattle.trace_io.specs.Texts.{Accepts, Refuses, of_reading, of_checking, of_the_trace, IsSameCode}

-- plans are the same if their parts are
same-plan : (p q : Plan) → p.diagram ≡ q.diagram → p.samples ≡ q.samples → p.batches ≡ q.batches → p ≡ q
same-plan p q diagram samples batches = ap made (Σ_prop_path kept (λ i. (diagram i, samples i, batches i)))
  where
    kept : (parts : Diagram × List Sample × List Batch) → IsProp (IsPlan parts.0 parts.1 parts.2)
    kept parts = hlevel props

    made : (parts : Diagram × List Sample × List Batch) × IsPlan parts.0 parts.1 parts.2 → Plan
    made x = record { diagram = x.0.0; samples = x.0.1; batches = x.0.2; rules = x.1 }

both-parts : (line place : ℕ) (code another : TraceCode) → ◌≡◌ {A = Option (ℕ × TraceCode)} (Some (line, code)) (Some (place, another)) → (line ≡ place) × (code ≡ another)
both-parts line place code another e = let same : ◌≡◌ {A = ℕ × TraceCode} (line, code) (place, another) = same_Some (line, code) (place, another) e in (ap (λ (p : ℕ × TraceCode). p.0) same, ap (λ (p : ℕ × TraceCode). p.1) same)

module _
    (one_document : (bytes : List ℕ) (d e : Doc) → Spells bytes d → Spells bytes e → d ≡ e)
    (no_fault : (bytes : List ℕ) (d : Doc) (line : ℕ) (code : ReadCode) → Spells bytes d → IsFirstFault bytes line code → ⊥)
    (one_fault : (bytes : List ℕ) (k l : ℕ) (c d : ReadCode) → IsFirstFault bytes k c → IsFirstFault bytes l d → (k ≡ l) × (c ≡ d))
    (one_check : (doc : Doc) (d e : Diagram) → IsCheckedOf doc d → IsCheckedOf doc e → d ≡ e)
    (no_check_fault : (doc : Doc) (d : Diagram) (line : ℕ) (code : CheckCode) → IsCheckedOf doc d → IsCheckFault doc line code → ⊥)
    (one_check_fault : (doc : Doc) (line other : ℕ) (code another : CheckCode) → IsCheckFault doc line code → IsCheckFault doc other another → (line ≡ other) × checking.IsSameCode code another)
    (one_schedule : (d : Diagram) (samples : List Sample) (events : List (List ℕ)) (a b : List Batch) → AreBatches d samples events a → AreBatches d samples events b → a ≡ b)
  where
    same-diagram : (text : List ℕ) (doc other : Doc) (d e : Diagram) → Spells text doc → Spells text other → IsCheckedOf doc d → IsCheckedOf other e → (doc ≡ other) × (d ≡ e)
    same-diagram text doc other d e here there checked also =
        let docs = one_document text doc other here there in
        (docs, one_check other d e (subst (λ x. IsCheckedOf x d) docs checked) also)

    planned-once : (doc : Doc) (d : Diagram) (p q : Plan) → IsPlanOf doc d p → IsPlanOf doc d q → p ≡ q
    planned-once doc d p q a b =
        same-plan p q (a.diagram ∙ sym b.diagram) (a.samples ∙ sym b.samples) (one_schedule d (given_samples doc d) (events_of doc d) p.batches q.batches a.batches b.batches)

    pub accepted-once : (text : List ℕ) (p q : Plan) → Accepts text p → Accepts text q → p ≡ q
    accepted-once text p q a b =
        let same = same-diagram text a.doc b.doc a.diagram b.diagram a.spelled b.spelled a.checked b.checked in
        let planned : IsPlanOf b.doc b.diagram p = subst (λ d. IsPlanOf b.doc d p) same.1 (subst (λ x. IsPlanOf x a.diagram p) same.0 a.planned) in
        planned-once b.doc b.diagram p q planned b.planned

    traced-once : (text : List ℕ) (doc other : Doc) (d e : Diagram) (line place : ℕ) (code another : TraceCode) → (doc ≡ other) × (d ≡ e) → IsTraceFault doc d line code → IsTraceFault other e place another → (line ≡ place) × (code ≡ another)
    traced-once text doc other d e line place code another same fault also =
        both-parts line place code another (sym fault ∙ (λ i. first_fault (trace_faults (same.0 i) (same.1 i))) ∙ also)

    pub accepted-not-refused : (text : List ℕ) (p : Plan) (line : ℕ) (code : Code) → Accepts text p → Refuses text line code → ⊥
    accepted-not-refused text p line code a (of_reading l c fault) = no_fault text a.doc l c a.spelled fault
    accepted-not-refused text p line code a (of_checking doc l c spelled fault) =
        no_check_fault doc a.diagram l c (subst (λ x. IsCheckedOf x a.diagram) (one_document text a.doc doc a.spelled spelled) a.checked) fault
    accepted-not-refused text p line code a (of_the_trace doc d l c spelled checked fault) =
        let same = same-diagram text a.doc doc a.diagram d a.spelled spelled a.checked checked in
        let none : first_fault (trace_faults doc d) ≡ None = (λ i. first_fault (trace_faults (sym same.0 i) (sym same.1 i))) ∙ a.planned.faultless in
        absurd (cc (none, fault))

    pub refused-once : (text : List ℕ) (line other : ℕ) (code another : Code) → Refuses text line code → Refuses text other another → (line ≡ other) × IsSameCode code another
    refused-once text line other code another (of_reading l c fault) (of_reading k d also) = one_fault text l k c d fault also
    refused-once text line other code another (of_reading l c fault) (of_checking doc k d spelled also) = absurd (no_fault text doc l c spelled fault)
    refused-once text line other code another (of_reading l c fault) (of_the_trace doc d k e spelled checked also) = absurd (no_fault text doc l c spelled fault)
    refused-once text line other code another (of_checking doc l c spelled fault) (of_reading k d also) = absurd (no_fault text doc k d spelled also)
    refused-once text line other code another (of_checking doc l c spelled fault) (of_checking same k d spelled_too also) =
        one_check_fault same l k c d (subst (λ x. IsCheckFault x l c) (one_document text doc same spelled spelled_too) fault) also
    refused-once text line other code another (of_checking doc l c spelled fault) (of_the_trace same d k e spelled_too checked also) =
        absurd (no_check_fault same d l c checked (subst (λ x. IsCheckFault x l c) (one_document text doc same spelled spelled_too) fault))
    refused-once text line other code another (of_the_trace doc d l c spelled checked fault) (of_reading k e also) = absurd (no_fault text doc k e spelled also)
    refused-once text line other code another (of_the_trace doc d l c spelled checked fault) (of_checking same k e spelled_too also) =
        absurd (no_check_fault doc d k e checked (subst (λ x. IsCheckFault x k e) (one_document text same doc spelled_too spelled) also))
    refused-once text line other code another (of_the_trace doc d l c spelled checked fault) (of_the_trace same e k a spelled_too checked_too also) =
        traced-once text doc same d e l k c a (same-diagram text doc same d e spelled spelled_too checked checked_too) fault also
