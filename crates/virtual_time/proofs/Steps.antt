-- The steps of a simulation: on a processor one instance runs, or none does, or nothing is left at all.
use Rattle.std.proofs.Common.{◌≡◌, ◌≢◌, ℕ, zero, suc, ◌+◌, ◌-◌, ◌<◌, ◌≤◌, List, [], ◌∷◌, ◌++◌, length, get_or, Option, Some, refl, sym, ap, ◌∙◌, subst, ⊎_elim, arith}
use Rattle.std.proofs.lemmas.List.{length_push, get_or_push, get_or_append_left}
use Rattle.std.proofs.lemmas.Bool.{cases_lt, cases_eq}
use Rattle.dbp_plan.specs.declared.plan.Plan.{Plan}
use Rattle.rank_order.specs.Instances.{Instance, IsInstance, release_of}
use Rattle.rank_order.specs.Service.{Ran, ServesWaiting, Waits, left_of, served_ticks}
use Rattle.rank_order.specs.Ends.{IsEnd}
use Rattle.instance_steps.specs.Releases.{no_batch}
use Rattle.virtual_time.specs.State.{release_count, instance, busy_count, left_by, EndsAt, GoesOn, IsSimulatedTo, NoBatchBefore, Sets}
use Rattle.rank_order.proofs.Jump.{ran_serves}
use Rattle.rank_order.proofs.ServedTicks.{left_falls, unserved_after}
use Rattle.dbp_plan.proofs.OccurrenceBatches.{IsOfBatch, batch-time, batch_of}
use Rattle.dbp_plan.proofs.TaskTimes.{more-named, some-of, some-rise}

pub busy_count_one : (n : ℕ) → 0 < n → busy_count n ≡ 1
busy_count_one zero lt = absurd (omega (arith, lt))
busy_count_one (suc n) lt = refl

pub busy_count_none : (n : ℕ) → n ≡ 0 → busy_count n ≡ 0
busy_count_none n e = ap busy_count e

-- one that was served to its end ends there
pub is_end : (P : Plan) (serve : ℕ → Option Instance) → ServesWaiting P serve → (x : Instance) (e : ℕ) → EndsAt P serve x e → IsEnd serve x e
is_end P serve waiting x e f = record {
  last = e - 1;
  served = f.last;
  no_later = λ t lt. let above = f.above in unserved_after P serve waiting x e t f.done (omega (arith, lt, above));
  after = let above = f.above in omega (arith, above);
}

module _ (P : Plan) where
  -- the batch of an instance
  pub batch_of_instance : (x : Instance) → IsInstance P x → (k : ℕ) × IsOfBatch P.batches x.task (x.number - 1) k
  batch_of_instance x here = batch_of P.batches x.task (x.number - 1) (let a = here.from_one in let c = here.within in omega (arith, a, c))

  pub number_by : (x : Instance) (k b : ℕ) → IsInstance P x → IsOfBatch P.batches x.task (x.number - 1) k → k < b → x.number ≤ release_count P.batches b x.task
  number_by x k b here at lt =
      let up = more-named P.batches x.task k no_batch at.within (at.named no_batch) in
      let grows = some-rise P.batches x.task (k + 1) b (omega (arith, lt)) in
      let n = at.number in
      let a = here.from_one in
      omega (arith, up, grows, n, a)

module _ (P : Plan) (on : ℕ → ℕ) (serve : ℕ → ℕ → Option Instance) (b : ℕ) (now : ℕ → ℕ) (rest : List ℕ) (ends : List (List ℕ)) (at : IsSimulatedTo P on serve b now rest ends) where
  -- one whose end is noted has nothing left
  pub ended_left : (i n : ℕ) → i < length P.diagram.tasks → 0 < n → n ≤ length (get_or ends i []) → left_of P (serve (on i)) (instance i n) (now (on i)) ≡ 0
  ended_left i n small above le =
      let f = at.ended i (n - 1) small (omega (arith, above, le)) in
      let past = at.past i (n - 1) small (omega (arith, above, le)) in
      let same : n - 1 + 1 ≡ n = omega (arith, above) in
      let done = subst (λ (m : ℕ). left_of P (serve (on i)) (instance i m) (get_or (get_or ends i []) (n - 1) 0) ≡ 0) same f.done in
      let falls = left_falls P (serve (on i)) (instance i n) (get_or (get_or ends i []) (n - 1) 0) (now (on i)) past in
      omega (arith, done, falls)

  module _ (limit : ℕ) (until : NoBatchBefore P b limit) where
    -- what is released before the limit is released already, wherever a processor is
    pub released_by : (c : ℕ) (x : Instance) → IsInstance P x → release_of P x < limit → (release_of P x ≤ now c) × (x.number ≤ release_count P.batches b x.task)
    released_by c x here lt =
        let k = batch_of_instance P x here in
        let w = batch-time k.1 no_batch in
        let before : k.0 < b = ⊎_elim (λ (l : k.0 < b). l) (λ (g : b ≤ k.0). let u = until.later k.0 no_batch g k.1.within in absurd (omega (arith, u, w, lt))) (cases_lt k.0 b) in
        let e = at.early c k.0 no_batch before k.1.within in
        (omega (arith, e, w), number_by P x k.0 b here k.1 before)

    pub quiet : (c d : ℕ) → now c + d ≤ limit → (y : Instance) → IsInstance P y → release_of P y < now c + d → release_of P y ≤ now c
    quiet c d le y here lt = (released_by c y here (omega (arith, le, lt))).0

    -- those that wait are the tasks' latest instances that need something
    pub waits_is : (x : Instance) → now (on x.task) < limit → Waits P (left_by P on serve) (now (on x.task)) x → (0 < get_or rest x.task 0) × (x.number ≡ release_count P.batches b x.task)
    waits_is x lt w =
        let number = (released_by (on x.task) x w.instance (let r = w.released in omega (arith, r, lt))).1 in
        let count = at.counts x.task w.instance.task in
        let more : length (get_or ends x.task []) < x.number =
        ⊎_elim (λ (l : length (get_or ends x.task []) < x.number). l)
        (λ (g : x.number ≤ length (get_or ends x.task [])).
        let none = ended_left x.task x.number w.instance.task w.instance.from_one g in
        let some = w.unfinished in
        absurd (omega (arith, none, some)))
        (cases_lt (length (get_or ends x.task [])) x.number) in
        ⊎_elim
        (λ (e : get_or rest x.task 0 ≡ 0). let z = busy_count_none (get_or rest x.task 0) e in absurd (omega (arith, z, count, more, number)))
        (λ (ne : get_or rest x.task 0 ≡ 0 → ⊥).
        let some : 0 < get_or rest x.task 0 = omega (arith, ne) in
        let one = busy_count_one (get_or rest x.task 0) some in
        (some, omega (arith, one, count, more, number)))
        (cases_eq (get_or rest x.task 0) 0)

  pub in_plan : (i : ℕ) → i < length P.diagram.tasks → 0 < get_or rest i 0 → IsInstance P (instance i (release_count P.batches b i))
  in_plan i small some =
      let count = at.counts i small in
      let one = busy_count_one (get_or rest i 0) some in
      record { task = small; from_one = omega (arith, one, count); within = some-of P.batches i b }

  pub waits_from : (i : ℕ) → i < length P.diagram.tasks → 0 < get_or rest i 0 → Waits P (left_by P on serve) (now (on i)) (instance i (release_count P.batches b i))
  waits_from i small some =
      let here = in_plan i small some in
      let k = batch_of_instance P (instance i (release_count P.batches b i)) here in
      let w = batch-time k.1 no_batch in
      let n = k.1.number in
      let one = here.from_one in
      let before : k.0 < b = ⊎_elim (λ (l : k.0 < b). l) (λ (g : b ≤ k.0). let u = some-rise P.batches i b k.0 g in absurd (omega (arith, u, n, one))) (cases_lt k.0 b) in
      let e = at.early (on i) k.0 no_batch before k.1.within in
      let u = at.under i small some in
      record { instance = here; released = omega (arith, e, w); unfinished = omega (arith, u, some) }

  -- a processor goes on for d ticks
  module _ (c d : ℕ) (later : ℕ → ℕ) (goes : GoesOn on c d now later) where
    -- an instance that isn't served on it has as much left as before
    still_left : (x : Instance) → (on x.task ≡ c → served_ticks (serve c) x (now c + d) ≡ served_ticks (serve c) x (now c)) → left_by P on serve x (later (on x.task)) ≡ left_by P on serve x (now (on x.task))
    still_left x none = ⊎_elim
        (λ (e : on x.task ≡ c).
        let o = none e in
        let after = ap (λ (k : ℕ). left_of P (serve k) x (later k)) e in
        let reach = ap (left_of P (serve c) x) goes.own in
        let before = ap (λ (k : ℕ). left_of P (serve k) x (now k)) e in
        omega (arith, o, after, reach, before))
        (λ (ne : on x.task ≢ c). ap (left_by P on serve x) (goes.others x.task ne))
        (cases_eq (on x.task) c)

    -- nobody is served on it
    pub rests_on : ((y : Instance) → served_ticks (serve c) y (now c + d) ≡ served_ticks (serve c) y (now c)) → IsSimulatedTo P on serve b later rest ends
    rests_on none = record {
      rests = at.rests;
      lists = at.lists;
      counts = at.counts;
      ended = at.ended;
      past = λ j k jl kl. omega (arith, at.past j k jl kl, goes.up (on j));
      under = λ j jl more. at.under j jl more ∙ sym (still_left (instance j (release_count P.batches b j)) (λ e. none (instance j (release_count P.batches b j))));
      early = λ k n e kl kb. omega (arith, at.early k n e kl kb, goes.up k);
      in_time = at.in_time;
    }

  -- the task's latest instance alone is served on its processor for d ticks
  module _ (i d : ℕ) (later : ℕ → ℕ) (goes : GoesOn on (on i) d now later) (small : i < length P.diagram.tasks) (some : 0 < get_or rest i 0)
      (ran : Ran (serve (on i)) (instance i (release_count P.batches b i)) (now (on i)) d) where
    other_left : (j n : ℕ) → j ≢ i → left_by P on serve (instance j n) (later (on j)) ≡ left_by P on serve (instance j n) (now (on j))
    other_left j n ne = still_left (on i) d later goes (instance j n) (λ e. ran.others (instance j n) (λ same. ne (ap (λ (z : Instance). z.task) same)))

    own_left : left_of P (serve (on i)) (instance i (release_count P.batches b i)) (now (on i) + d) ≡ get_or rest i 0 - d
    own_left = let o = ran.own in let u = at.under i small some in omega (arith, o, u)

    -- and is not done
    pub runs_on : (rest' : List ℕ) → d < get_or rest i 0 → Sets 0 rest i (get_or rest i 0 - d) rest' → IsSimulatedTo P on serve b later rest' ends
    runs_on rest' lt set = record {
      rests = set.long ∙ at.rests;
      lists = at.lists;
      counts = λ j jl. ⊎_elim
          (λ (e : j ≡ i). subst (λ (m : ℕ). length (get_or ends m []) + busy_count (get_or rest' m 0) ≡ release_count P.batches b m) (sym e)
          (let c = at.counts i small in let one = busy_count_one (get_or rest i 0) some in let new = busy_count_one (get_or rest' i 0) (let s = set.same in omega (arith, s, lt)) in omega (arith, c, one, new)))
          (λ (ne : j ≢ i). let o = set.others j ne in subst (λ (m : ℕ). length (get_or ends j []) + busy_count m ≡ release_count P.batches b j) (sym o) (at.counts j jl))
          (cases_eq j i);
      ended = at.ended;
      past = λ j k jl kl. omega (arith, at.past j k jl kl, goes.up (on j));
      under = λ j jl more. ⊎_elim
          (λ (e : j ≡ i). subst (λ (m : ℕ). get_or rest' m 0 ≡ left_of P (serve (on m)) (instance m (release_count P.batches b m)) (later (on m))) (sym e)
          (set.same ∙ sym own_left ∙ ap (left_of P (serve (on i)) (instance i (release_count P.batches b i))) (sym goes.own)))
          (λ (ne : j ≢ i). let o = set.others j ne in o ∙ at.under j jl (omega (arith, o, more)) ∙ sym (other_left j (release_count P.batches b j) ne))
          (cases_eq j i);
      early = λ k n e kl kb. omega (arith, at.early k n e kl kb, goes.up k);
      in_time = at.in_time;
    }

    -- and ends
    pub runs_out : (rest' : List ℕ) (ends' : List (List ℕ)) → d ≡ get_or rest i 0 → Sets 0 rest i 0 rest' → Sets [] ends i (get_or ends i [] ++ (now (on i) + d) ∷ []) ends' → IsSimulatedTo P on serve b later rest' ends'
    runs_out rest' ends' same set noted =
        let grown : length (get_or ends' i []) ≡ length (get_or ends i []) + 1 = ap (length {A = ℕ}) noted.same ∙ length_push (get_or ends i []) (now (on i) + d) in
        let count = at.counts i small in
        let one = busy_count_one (get_or rest i 0) some in
        let number : length (get_or ends i []) + 1 ≡ release_count P.batches b i = omega (arith, count, one) in
        record {
          rests = set.long ∙ at.rests;
          lists = noted.long ∙ at.lists;
          counts = λ j jl. ⊎_elim
              (λ (e : j ≡ i). subst (λ (m : ℕ). length (get_or ends' m []) + busy_count (get_or rest' m 0) ≡ release_count P.batches b m) (sym e)
              (let new = busy_count_none (get_or rest' i 0) set.same in omega (arith, number, grown, new)))
              (λ (ne : j ≢ i). subst (λ (m : ℕ). length (get_or ends' j []) + busy_count m ≡ release_count P.batches b j) (sym (set.others j ne))
              (subst (λ (l : List ℕ). length l + busy_count (get_or rest j 0) ≡ release_count P.batches b j) (sym (noted.others j ne)) (at.counts j jl)))
              (cases_eq j i);
          ended = λ j k jl kl. ⊎_elim
              (λ (e : j ≡ i). subst (λ (m : ℕ). EndsAt P (serve (on m)) (instance m (k + 1)) (get_or (get_or ends' m []) k 0)) (sym e)
              (let kl' = subst (λ (m : ℕ). k < length (get_or ends' m [])) e kl in
              subst (λ (l : List ℕ). EndsAt P (serve (on i)) (instance i (k + 1)) (get_or l k 0)) (sym noted.same)
              (⊎_elim
              (λ (old : k < length (get_or ends i [])).
              subst (EndsAt P (serve (on i)) (instance i (k + 1))) (sym (get_or_append_left (get_or ends i []) ((now (on i) + d) ∷ []) 0 k old)) (at.ended i k small old))
              (λ (new : length (get_or ends i []) ≤ k).
              let is : length (get_or ends i []) ≡ k = omega (arith, new, kl', grown) in
              let its : release_count P.batches b i ≡ k + 1 = omega (arith, number, is) in
              subst (EndsAt P (serve (on i)) (instance i (k + 1))) (sym (get_or_push (get_or ends i []) (now (on i) + d) 0 k is))
              (subst (λ (n : ℕ). EndsAt P (serve (on i)) (instance i n) (now (on i) + d)) its
              (record {
                above = omega (arith, same, some);
                last =
                    let before : now (on i) + (d - 1) ≡ now (on i) + d - 1 = omega (arith, same, some) in
                    subst (λ (t : ℕ). serve (on i) t ≡ Some (instance i (release_count P.batches b i))) before
                    (ran_serves (serve (on i)) (instance i (release_count P.batches b i)) (now (on i)) d ran (d - 1) (omega (arith, same, some)));
                done = own_left ∙ (let z : get_or rest i 0 - d ≡ 0 = omega (arith, same) in z);
              })))
              (cases_lt k (length (get_or ends i []))))))
              (λ (ne : j ≢ i). subst (λ (l : List ℕ). EndsAt P (serve (on j)) (instance j (k + 1)) (get_or l k 0)) (sym (noted.others j ne))
              (at.ended j k jl (subst (λ (l : List ℕ). k < length l) (noted.others j ne) kl)))
              (cases_eq j i);
          past = λ j k jl kl. ⊎_elim
              (λ (e : j ≡ i). subst (λ (m : ℕ). get_or (get_or ends' m []) k 0 ≤ later (on m)) (sym e)
              (let kl' = subst (λ (m : ℕ). k < length (get_or ends' m [])) e kl in
              subst (λ (l : List ℕ). get_or l k 0 ≤ later (on i)) (sym noted.same)
              (⊎_elim
              (λ (old : k < length (get_or ends i [])). let p = at.past i k small old in let q = get_or_append_left (get_or ends i []) ((now (on i) + d) ∷ []) 0 k old in omega (arith, p, q, goes.own))
              (λ (new : length (get_or ends i []) ≤ k). let q = get_or_push (get_or ends i []) (now (on i) + d) 0 k (omega (arith, new, kl', grown)) in omega (arith, q, goes.own))
              (cases_lt k (length (get_or ends i []))))))
              (λ (ne : j ≢ i). let p = at.past j k jl (subst (λ (l : List ℕ). k < length l) (noted.others j ne) kl) in
              subst (λ (l : List ℕ). get_or l k 0 ≤ later (on j)) (sym (noted.others j ne)) (omega (arith, p, goes.up (on j))))
              (cases_eq j i);
          under = λ j jl more. ⊎_elim
              (λ (e : j ≡ i). let z = set.same in let m = subst (λ (m : ℕ). 0 < get_or rest' m 0) e more in absurd (omega (arith, z, m)))
              (λ (ne : j ≢ i). let o = set.others j ne in o ∙ at.under j jl (omega (arith, o, more)) ∙ sym (other_left j (release_count P.batches b j) ne))
              (cases_eq j i);
          early = λ k n e kl kb. omega (arith, at.early k n e kl kb, goes.up k);
          in_time = at.in_time;
        }

  -- nothing is left of any task, and no processor goes back
  pub waits_out : (later : ℕ → ℕ) → ((c : ℕ) → now c ≤ later c) → ((i : ℕ) → i < length P.diagram.tasks → get_or rest i 0 ≡ 0) → IsSimulatedTo P on serve b later rest ends
  waits_out later up none =
      record {
        rests = at.rests;
        lists = at.lists;
        counts = at.counts;
        ended = at.ended;
        past = λ j k jl kl. omega (arith, at.past j k jl kl, up (on j));
        under = λ j jl more. let z = none j jl in absurd (omega (arith, z, more));
        early = λ k n e kl kb. omega (arith, at.early k n e kl kb, up k);
        in_time = at.in_time;
      }
