-- A batch is released, or comes too early.
use Rattle.std.proofs.Common.{◌≡◌, slice_index, ℕ, ◌+◌, ◌-◌, ◌<◌, ◌≤◌, ◌⊎◌, true, false, List, [], length, get_or, Option, sym, ap, ◌∙◌, subst, inl, inr, ⊎_elim, arith}
use Rattle.std.proofs.lemmas.Bool.{cases_lt, cases_eq, cases_Bool}
use Rattle.std.proofs.lemmas.List.{get_or_default, take_all}
use Rattle.dbp_plan.specs.declared.plan.Plan.{Plan}
use Rattle.dbp_plan.specs.declared.schedule.Batch.{Batch}
use Rattle.dbp_plan.specs.Occurrences.{names, times_of}
use Rattle.dbp_plan.specs.Lookups.{declared_task}
use Rattle.rank_order.specs.Instances.{Instance, IsInstance, before_it, release_of}
use Rattle.rank_order.specs.Service.{ServesWaiting, left_of}
use Rattle.rank_order.specs.Ends.{IsOverrun, NoOverrun}
use Rattle.virtual_time.specs.State.{Renewed, release_count, instance, busy_count, left_by, IsSimulatedTo}
use Rattle.rank_order.proofs.ServedTicks.{unserved}
use Rattle.dbp_plan.proofs.OccurrenceBatches.{batch-time, named-time}
use Rattle.dbp_plan.proofs.PlanRules as rules
use Rattle.dbp_plan.proofs.TaskTimes.{more-named, more-other, some-of}
use Rattle.instance_steps.specs.Releases.{no_batch}
use Rattle.virtual_time.proofs.Steps.{busy_count_one, busy_count_none, batch_of_instance, number_by, ended_left}

-- all processors have come to the time of the batch
module _ (P : Plan) (on : ℕ → ℕ) (serve : ℕ → ℕ → Option Instance) (waiting : (c : ℕ) → ServesWaiting P (serve c))
    (b now : ℕ) (rest : List ℕ) (ends : List (List ℕ)) (at : IsSimulatedTo P on serve b (λ c. now) rest ends) (small : b < length P.batches) (due : (get_or P.batches b no_batch).time ≡ now) where
  -- an instance that batch b brings
  pub brought : (i : ℕ) → i < length P.diagram.tasks → names i (get_or P.batches b no_batch) ≡ true → IsInstance P (instance i (release_count P.batches b i + 1)) × (release_of P (instance i (release_count P.batches b i + 1)) ≡ now)
  brought i il named =
      let up = more-named P.batches i b no_batch small named in
      let all = some-of P.batches i (b + 1) in
      let t = named-time P.batches i b no_batch small named in
      let back : release_count P.batches b i + 1 - 1 ≡ release_count P.batches b i = omega arith in (
        record { task = il; from_one = omega arith; within = omega (arith, up, all) },
        ap (λ (n : ℕ). get_or (times_of P.batches i) n 0) back ∙ t ∙ due,
      )

  -- the task's number so far is that of its last noted end, if it needs nothing
  all_ended : (i : ℕ) → i < length P.diagram.tasks → get_or rest i 0 ≡ 0 → release_count P.batches b i ≡ length (get_or ends i [])
  all_ended i il none = let c = at.counts i il in let z = busy_count_none (get_or rest i 0) none in omega (arith, c, z)

  pub released : (rest' : List ℕ) → Renewed P (get_or P.batches b no_batch) rest rest' → ((i : ℕ) → i < length P.diagram.tasks → names i (get_or P.batches b no_batch) ≡ true → get_or rest i 0 ≡ 0)
      → IsSimulatedTo P on serve (b + 1) (λ c. now) rest' ends
  released rest' new free = record {
    rests = new.long ∙ at.rests;
    lists = at.lists;
    counts = λ i il. ⊎_elim
        (λ (e : names i (get_or P.batches b no_batch) ≡ true).
        let up = more-named P.batches i b no_batch small e in
        let count = all_ended i il (free i il e) in
        let some = rules.costs P i il in
        let r = new.named i e in
        let one = busy_count_one (get_or rest' i 0) (omega (arith, some, r)) in
        omega (arith, up, count, one))
        (λ (e : names i (get_or P.batches b no_batch) ≡ false).
        let same = more-other P.batches i b no_batch small e in
        let r = ap busy_count (new.others i e) in
        let c = at.counts i il in
        omega (arith, same, r, c))
        (cases_Bool (names i (get_or P.batches b no_batch)));
    ended = at.ended;
    past = at.past;
    under = λ i il more. ⊎_elim
        (λ (e : names i (get_or P.batches b no_batch) ≡ true).
        let up = more-named P.batches i b no_batch small e in
        let there = brought i il e in
        let r = there.1 in
        let none = unserved P (serve (on i)) (waiting (on i)) (instance i (release_count P.batches b i + 1)) now (omega (arith, r)) in
        new.named i e ∙ (let z : (declared_task P i).cost ≡ left_of P (serve (on i)) (instance i (release_count P.batches b i + 1)) now = omega (arith, none) in z)
        ∙ ap (λ (n : ℕ). left_of P (serve (on i)) (instance i n) now) (sym up))
        (λ (e : names i (get_or P.batches b no_batch) ≡ false).
        let same = more-other P.batches i b no_batch small e in
        let r = new.others i e in
        r ∙ at.under i il (omega (arith, r, more)) ∙ ap (λ (n : ℕ). left_of P (serve (on i)) (instance i n) now) (sym same))
        (cases_Bool (names i (get_or P.batches b no_batch)));
    early = λ c k d kl kb. ⊎_elim
        (λ (l : k < b). at.early c k d l kb)
        (λ (g : b ≤ k). let e : k ≡ b = omega (arith, g, kl) in
        subst (λ (m : ℕ). (get_or P.batches m d).time ≤ now) (sym e) (let t = same_time d in omega (arith, t, due)))
        (cases_lt k b);
    in_time = λ x here two le. ⊎_elim
        (λ (l : x.number ≤ release_count P.batches b x.task). at.in_time x here two l)
        (λ (g : release_count P.batches b x.task < x.number).
        ⊎_elim
        (λ (e : names x.task (get_or P.batches b no_batch) ≡ true).
        let up = more-named P.batches x.task b no_batch small e in
        let its : release_count P.batches b x.task + 1 ≡ x.number = omega (arith, g, le, up) in
        let there = (brought x.task here.task e).1 in
        let when : release_of P x ≡ now = ap (λ (n : ℕ). release_of P (instance x.task n)) (sym its) ∙ there in
        let count = all_ended x.task here.task (free x.task here.task e) in
        let none = ended_left P on serve b (λ c. now) rest ends at x.task (x.number - 1) here.task (omega (arith, two)) (omega (arith, its, count)) in
        subst (λ (t : ℕ). left_by P on serve (before_it x) t ≡ 0) (sym when) none)
        (λ (e : names x.task (get_or P.batches b no_batch) ≡ false).
        let same = more-other P.batches x.task b no_batch small e in
        absurd (omega (arith, g, le, same)))
        (cases_Bool (names x.task (get_or P.batches b no_batch))))
        (cases_lt_le x.number (release_count P.batches b x.task));
  }
    where
      same_time : (d : Batch) → (get_or P.batches b d).time ≡ (get_or P.batches b no_batch).time
      same_time d = ap (λ (c : Batch). c.time) (get_or_default P.batches b d no_batch small)

      cases_lt_le : (m n : ℕ) → (m ≤ n) ⊎ (n < m)
      cases_lt_le m n = ⊎_elim (λ (l : n < m). inr l) (λ (g : m ≤ n). inl g) (cases_lt n m)

  -- the highest-ranked of those that the batch brings too early
  pub overrun : (i : ℕ) → i < length P.diagram.tasks → names i (get_or P.batches b no_batch) ≡ true → 0 < get_or rest i 0
      → ((j : ℕ) → j < length P.diagram.tasks → names j (get_or P.batches b no_batch) ≡ true → 0 < get_or rest j 0 → slice_index P.diagram.ranks i ≤ slice_index P.diagram.ranks j)
      → IsOverrun P (left_by P on serve) now (instance i (length (get_or ends i []) + 2))
  overrun i il named some highest =
      let count = at.counts i il in
      let one = busy_count_one (get_or rest i 0) some in
      let its : release_count P.batches b i + 1 ≡ length (get_or ends i []) + 2 = omega (arith, count, one) in
      let there = brought i il named in
      subst (λ (n : ℕ). IsOverrun P (left_by P on serve) now (instance i n)) its (record {
        late = record {
          instance = there.0;
          not_first = omega (arith, its);
          at = there.1;
          unfinished =
              let u = at.under i il some in
              let back : release_count P.batches b i + 1 - 1 ≡ release_count P.batches b i = omega arith in
              subst (λ (n : ℕ). 0 < left_of P (serve (on i)) (instance i n) now) (sym back) (omega (arith, u, some));
        };
        least = λ u y lt late.
            let k = batch_of_instance P y late.instance in
            let w = batch-time k.1 no_batch in
            let r = late.at in
            let before : k.0 < b = ⊎_elim (λ (l : k.0 < b). l)
            (λ (g : b ≤ k.0). absurd (⊎_elim (λ (e : k.0 ≡ b). let t = ap (λ (m : ℕ). (get_or P.batches m no_batch).time) e in omega (arith, t, due, w, r, lt))
            (λ (ne : k.0 ≡ b → ⊥). let t = rules.rising P b k.0 no_batch no_batch (omega (arith, g, ne)) k.1.within in omega (arith, t, due, w, r, lt)) (cases_eq k.0 b)))
            (cases_lt k.0 b) in
            let le = number_by P y k.0 b late.instance k.1 before in
            let none = at.in_time y late.instance late.not_first le in
            let more = late.unfinished in
            let none' = subst (λ (t : ℕ). left_by P on serve (before_it y) t ≡ 0) r none in
            omega (arith, none', more);
        highest = λ y late.
            let k = batch_of_instance P y late.instance in
            let w = batch-time k.1 no_batch in
            let r = late.at in
            let same : k.0 ≡ b = ⊎_elim
            (λ (l : k.0 < b). absurd (let t = rules.rising P k.0 b no_batch no_batch l small in omega (arith, t, due, w, r)))
            (λ (g : b ≤ k.0). ⊎_elim (λ (e : k.0 ≡ b). e) (λ (ne : k.0 ≡ b → ⊥). absurd (let t = rules.rising P b k.0 no_batch no_batch (omega (arith, g, ne)) k.1.within in omega (arith, t, due, w, r))) (cases_eq k.0 b))
            (cases_lt k.0 b) in
            let yes' = subst (λ (m : ℕ). names y.task (get_or P.batches m no_batch) ≡ true) same (k.1.named no_batch) in
            let n = k.1.number in
            let m = ap (λ (c : ℕ). release_count P.batches c y.task) same in
            let two = late.not_first in
            let number : y.number - 1 ≡ release_count P.batches b y.task = omega (arith, n, m) in
            highest y.task late.instance.task yes'
            (⊎_elim
            (λ (e : get_or rest y.task 0 ≡ 0).
            let c = all_ended y.task late.instance.task e in
            let none = ended_left P on serve b (λ c. now) rest ends at y.task (y.number - 1) late.instance.task (omega (arith, two)) (omega (arith, number, c)) in
            let more = late.unfinished in
            absurd (omega (arith, none, more)))
            (λ (ne : get_or rest y.task 0 ≡ 0 → ⊥). omega (arith, ne))
            (cases_eq (get_or rest y.task 0) 0));
      })

-- after the last batch
pub none_late : (P : Plan) (on : ℕ → ℕ) (serve : ℕ → ℕ → Option Instance) (now : ℕ → ℕ) (rest : List ℕ) (ends : List (List ℕ)) → IsSimulatedTo P on serve (length P.batches) now rest ends → NoOverrun P (left_by P on serve)
none_late P on serve now rest ends at = record {
  none = λ t y late.
      let all = ap (λ (bs : List Batch). length (times_of bs y.task)) (take_all (length P.batches) P.batches (omega arith)) in
      let below = late.instance.within in
      let none = at.in_time y late.instance late.not_first (omega (arith, all, below)) in
      let none' = subst (λ (u : ℕ). left_by P on serve (before_it y) u ≡ 0) late.at none in
      let more = late.unfinished in
      omega (arith, none', more);
}
