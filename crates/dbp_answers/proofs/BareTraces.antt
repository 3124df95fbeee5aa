-- The faults of a trace and the batches of tasks don't depend on ranks.
use Rattle.std.proofs.Common.{◌≡◌, ℕ, ◌+◌, ◌<◌, ◌≤◌, All, List, [], ◌∷◌, length, map, slice_get, option_map, Some, None, refl, sym, ◌∙◌, ap, subst, arith, inl, inr}
use Rattle.std.specs.Prelude.{nat_lt, sum_by}
use Rattle.std.proofs.lemmas.Bool.{cases_Bool}
use Rattle.std.proofs.lemmas.Bool.Decides.{nat_tests}
use Rattle.std.proofs.lemmas.List.{length-map}
use Rattle.std.proofs.lemmas.List.Sums.{sum_by-cons}
use Rattle.std.proofs.lemmas.Option.{slice_get-map}
use Rattle.dbp_plan.specs.declared.diagram.Diagram.{Diagram}
use Rattle.dbp_plan.specs.declared.diagram.Task.{Task}
use Rattle.dbp_plan.specs.declared.limits.TheConstants.{MAX_OCCURRENCES}
use Rattle.dbp_plan.specs.declared.schedule.Batch.{Batch}
use Rattle.dbp_plan.specs.declared.schedule.Sample.{Sample}
use Rattle.dbp_plan.specs.BareDiagrams.{bare_diagram, bare_task}
use Rattle.dbp_plan.proofs.ListMaps.{from-map}
use Rattle.dia_read.specs.declared.document.Doc.{Doc}
use Rattle.trace_io.specs.Batches.{AreBatches, times_in, total_of}
use Rattle.trace_io.specs.Traces.{events_of, given_samples, occurrence_fault, trace_faults}

-- the diagram without its ranks, but with its end
abbrev ended : Diagram → Diagram
ended d = record (bare_diagram d) { until = d.until }

same-ended : (d e : Diagram) → d.until ≡ e.until → bare_diagram d ≡ bare_diagram e → ended d ≡ ended e
same-ended d e end bare = λ i. record (bare i) { until = end i }

bare-sum : (f : Task → ℕ) → ((t : Task) → f (bare_task t) ≡ f t) → (ts : List Task) → sum_by f (map bare_task ts) ≡ sum_by f ts
bare-sum f same [] = refl
bare-sum f same (t ∷ ts) =
    let both : f (bare_task t) + sum_by f (map bare_task ts) ≡ f t + sum_by f ts = omega (arith, same t, bare-sum f same ts) in
    sum_by-cons f (bare_task t) (map bare_task ts) ∙ both ∙ sym (sum_by-cons f t ts)

bare-total : (d : Diagram) (samples : List Sample) (events : List (List ℕ)) → total_of (ended d) samples events ≡ total_of d samples events
bare-total d samples events = bare-sum (λ t. length (times_in d samples events t)) (λ t. refl) d.tasks

bare-faults : (doc : Doc) (d : Diagram) → trace_faults doc (ended d) ≡ trace_faults doc d
bare-faults doc d = rw (bare-total d (given_samples doc d) (events_of doc d)) refl

-- the faults of a trace are those over each diagram with the same end that differs in ranks alone
pub same-trace-faults : (doc : Doc) (d e : Diagram) → d.until ≡ e.until → bare_diagram d ≡ bare_diagram e → trace_faults doc d ≡ trace_faults doc e
same-trace-faults doc d e end bare = sym (bare-faults doc d) ∙ ap (λ (f : Diagram). trace_faults doc f) (same-ended d e end bare) ∙ bare-faults doc e

bare-batches : (d : Diagram) (samples : List Sample) (events : List (List ℕ)) (bs : List Batch) → AreBatches d samples events bs → AreBatches (ended d) samples events bs
bare-batches d samples events bs are = record {
  rising = are.rising;
  in_order = are.in_order;
  some = are.some;
  named = subst (λ (n : ℕ). All (λ b. All (λ i. i < n) b.tasks) bs) (sym (length-map d.tasks bare_task)) are.named;
  ends = are.ends;
  few = are.few;
  each = λ i t at.
      let u : (u : Task) × (slice_get d.tasks i ≡ Some u) × (bare_task u ≡ t) = from-map bare_task d.tasks i t at in
      are.each i u.0 u.1 ∙ ap (λ (v : Task). times_in d samples events v) u.2;
}

batches-again : (d : Diagram) (samples : List Sample) (events : List (List ℕ)) (bs : List Batch) → AreBatches (ended d) samples events bs → AreBatches d samples events bs
batches-again d samples events bs are = record {
  rising = are.rising;
  in_order = are.in_order;
  some = are.some;
  named = subst (λ (n : ℕ). All (λ b. All (λ i. i < n) b.tasks) bs) (length-map d.tasks bare_task) are.named;
  ends = are.ends;
  few = are.few;
  each = λ i t at. are.each i (bare_task t) (slice_get-map bare_task d.tasks i ∙ ap (option_map bare_task) at);
}

-- and so are the batches
pub same-batches : (d e : Diagram) (samples : List Sample) (events : List (List ℕ)) (bs : List Batch) → d.until ≡ e.until → bare_diagram d ≡ bare_diagram e
    → AreBatches d samples events bs → AreBatches e samples events bs
same-batches d e samples events bs end bare are =
    batches-again e samples events bs (subst (λ (f : Diagram). AreBatches f samples events bs) (same-ended d e end bare) (bare-batches d samples events bs are))

-- tasks without a fault of occurrences don't occur too often
pub few-enough : (doc : Doc) (d : Diagram) → occurrence_fault doc d ≡ None → total_of d (given_samples doc d) (events_of doc d) ≤ MAX_OCCURRENCES
few-enough doc d none = elim (cases_Bool (nat_lt MAX_OCCURRENCES (total_of d (given_samples doc d) (events_of doc d)))) [
  | inl many ↦ absurd (let no = rw many at none in cc)
  | inr few ↦ grind (arith, nat_tests)
]
