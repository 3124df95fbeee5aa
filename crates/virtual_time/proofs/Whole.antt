-- A whole simulation: its start, its batches and its end.
use Rattle.std.proofs.Common.{◌≡◌, ℕ, suc, ◌+◌, ◌*◌, ◌<◌, ◌≤◌, true, false, List, [], ◌∷◌, length, get_or, take, sum, replicate, sym, ap, ◌∙◌, inl, inr, ⊎_elim, arith}
use Rattle.std.proofs.lemmas.Bool.{cases_eq, cases_Bool}
use Rattle.std.proofs.lemmas.List.{take_all, length-replicate, get_or-replicate}
use Rattle.std.proofs.lemmas.List.Sums.{get_or-le-sum_by, sum_by-cons}
use Rattle.dbp_plan.specs.declared.plan.Plan.{Plan}
use Rattle.dbp_plan.specs.declared.schedule.Batch.{Batch}
use Rattle.dbp_plan.specs.Occurrences.{names}
use Rattle.rank_order.specs.declared.ready.Ready.{Ready}
use Rattle.virtual_time.specs.declared.run.Run.{Run}
use Rattle.rank_order.specs.Instances.{release_of}
use Rattle.rank_order.specs.Service.{ServesWaiting}
use Rattle.rank_order.specs.Ends.{IsOverrun}
use Rattle.virtual_time.specs.State.{Renewed, instance, left_by}
use Rattle.rank_order.specs.Queue.{Holds, MadeFor}
use Rattle.instance_steps.specs.Releases.{batch_at, no_batch}
use Rattle.dbp_plan.specs.Numbers.{is_in}
use Rattle.virtual_time.specs.Runs.{IsRun, IsWorst, Processors, all_at}
use Rattle.dbp_plan.proofs.PlanRules as rules
use Rattle.dbp_plan.proofs.TaskTimes.{more-named, more-other}
use Rattle.virtual_time.proofs.Steps.{busy_count_none}
use Rattle.virtual_time.proofs.Releases.{released, brought, overrun}
use Rattle.dbp_plan.proofs.Searches.{in_place, in_from}
use Rattle.virtual_time.proofs.Renewing.{Renewing}
use Rattle.virtual_time.proofs.Running.{sum_zero}

sum_small : (xs : List ℕ) → ((i : ℕ) → i < length xs → get_or xs i 0 ≤ 1000000000) → sum xs ≤ length xs * 1000000000
sum_small [] all = omega arith
sum_small (x ∷ xs) all =
    let rest = sum_small xs (λ i lt. all (suc i) (omega (arith, lt))) in
    let first : x ≤ 1000000000 = all 0 (omega arith) in
    let cons = sum_by-cons (λ (n : ℕ). n) x xs in
    omega (arith, rest, first, cons)

module _ (P : Plan) (cpus : Processors) (waiting : (c : ℕ) → ServesWaiting P (cpus.serve c)) (r : Run) (run : IsRun P (all_at cpus r.time) r) (small : r.released < length P.batches) (due : r.time ≡ (batch_at P r.released).time) where
  -- no instance of the next task of the batch is held
  pub absent : (j : ℕ) (rest' : List ℕ) (ready' : Ready) → Renewing P (batch_at P r.released).tasks j r.time r.rest.items rest' r.ready ready' → j < length (batch_at P r.released).tasks
      → ((i : ℕ) → is_in (batch_at P r.released).tasks i ≡ true → get_or r.rest.items i 0 ≡ 0)
      → (a : ℕ) → Holds ready' (get_or (batch_at P r.released).tasks j 0) a → ⊥
  absent j rest' ready' h jl free a held =
      ⊎_elim
      (λ (w : (is_in (take j (batch_at P r.released).tasks) (get_or (batch_at P r.released).tasks j 0) ≡ true) × (a ≡ r.time)).
      let k = in_place (batch_at P r.released).tasks j (get_or (batch_at P r.released).tasks j 0) w.0 in
      rules.once P r.released k.0 j no_batch small k.1 jl k.3)
      (λ (old : Holds r.ready (get_or (batch_at P r.released).tasks j 0) a).
      let some = ((run.tracks.held (get_or (batch_at P r.released).tasks j 0) a).0 old).1 in
      let none = free (get_or (batch_at P r.released).tasks j 0) (in_from (batch_at P r.released).tasks j jl) in
      omega (arith, some, none))
      ((h.held (get_or (batch_at P r.released).tasks j 0) a).0 held)

  -- after the last task of the batch
  pub all_renewed : (j : ℕ) (r' : Run) → length (batch_at P r.released).tasks ≤ j → Renewing P (batch_at P r.released).tasks j r.time r.rest.items r'.rest.items r.ready r'.ready
      → Renewed P (batch_at P r.released) r.rest.items r'.rest.items
  all_renewed j r' le h =
      let all = take_all j (batch_at P r.released).tasks le in
      record {
        long = h.long;
        named = λ i e. h.named i (ap (λ (l : List ℕ). is_in l i) all ∙ e);
        others = λ i e. h.others i (ap (λ (l : List ℕ). is_in l i) all ∙ e);
      }

  pub renewed : (j : ℕ) (r' : Run) → length (batch_at P r.released).tasks ≤ j → Renewing P (batch_at P r.released).tasks j r.time r.rest.items r'.rest.items r.ready r'.ready
      → ((i : ℕ) → is_in (batch_at P r.released).tasks i ≡ true → get_or r.rest.items i 0 ≡ 0)
      → r'.time ≡ r.time → r'.released ≡ r.released + 1 → r'.ends ≡ r.ends → IsRun P (all_at cpus r'.time) r'
  renewed j r' le h free time after ends =
      let all = take_all j (batch_at P r.released).tasks le in
      let new : Renewed P (batch_at P r.released) r.rest.items r'.rest.items = all_renewed j r' le h in
      let at' = released P cpus.on cpus.serve waiting r.released r.time r.rest.items r.ends run.at small (sym due) r'.rest.items new (λ i il e. free i e) in
      let each : (i : ℕ) → i < length r'.rest.items → get_or r'.rest.items i 0 ≤ 1000000000 = λ i il.
      let il' : i < length P.diagram.tasks = let a = h.long in let s = run.at.rests in omega (arith, il, a, s) in
      let cost = rules.small_costs P i in
      ⊎_elim
      (λ (e : is_in (batch_at P r.released).tasks i ≡ true). let n = new.named i e in omega (arith, n, cost))
      (λ (e : is_in (batch_at P r.released).tasks i ≡ false).
      let o = new.others i e in
      ⊎_elim
      (λ (z : get_or r.rest.items i 0 ≡ 0). omega (arith, z, o))
      (λ (nz : get_or r.rest.items i 0 ≡ 0 → ⊥). let u = run.at.under i il' (omega (arith, nz)) in omega (arith, u, o, cost))
      (cases_eq (get_or r.rest.items i 0) 0))
      (cases_Bool (is_in (batch_at P r.released).tasks i)) in
      let total = sum_small r'.rest.items each in
      record {
        at = rw (time, after, ends) at';
        tracks = record {
          made = h.made;
          held = λ i a. rw after (
            (λ w. ⊎_elim
                (λ (v : (is_in (take j (batch_at P r.released).tasks) i ≡ true) × (a ≡ r.time)).
                let e : is_in (batch_at P r.released).tasks i ≡ true = ap (λ (l : List ℕ). is_in l i) (sym all) ∙ v.0 in
                let k = in_place (batch_at P r.released).tasks j i v.0 in
                let il : i < length P.diagram.tasks = let s = rules.inside P r.released k.0 no_batch small k.2 in let q = k.3 in omega (arith, s, q) in
                let there = brought P cpus.on cpus.serve waiting r.released r.time r.rest.items r.ends run.at small (sym due) i il e in
                let up = more-named P.batches i r.released no_batch small e in
                let some = rules.costs P i il in
                let n = new.named i e in
                (il, omega (arith, some, n), v.1 ∙ sym there.1 ∙ ap (λ (m : ℕ). release_of P (instance i m)) (sym up)))
                (λ (v : Holds r.ready i a).
                let old = (run.tracks.held i a).0 v in
                let more = old.1 in
                ⊎_elim
                (λ (e : is_in (batch_at P r.released).tasks i ≡ true). let none = free i e in absurd (omega (arith, none, more)))
                (λ (e : is_in (batch_at P r.released).tasks i ≡ false).
                let o = new.others i e in
                (old.0, omega (arith, o, more), old.2 ∙ ap (λ (m : ℕ). release_of P (instance i m)) (sym (more-other P.batches i r.released no_batch small e))))
                (cases_Bool (is_in (batch_at P r.released).tasks i)))
                ((h.held i a).0 w)),
            (λ w. (h.held i a).1 (⊎_elim
                (λ (e : is_in (batch_at P r.released).tasks i ≡ true).
                let there = brought P cpus.on cpus.serve waiting r.released r.time r.rest.items r.ends run.at small (sym due) i w.0 e in
                let up = more-named P.batches i r.released no_batch small e in
                inl (ap (λ (l : List ℕ). is_in l i) all ∙ e, w.2 ∙ ap (λ (m : ℕ). release_of P (instance i m)) up ∙ there.1))
                (λ (e : is_in (batch_at P r.released).tasks i ≡ false).
                let o = new.others i e in
                let more = w.1 in
                inr ((run.tracks.held i a).1 (w.0, omega (arith, o, more), w.2 ∙ ap (λ (m : ℕ). release_of P (instance i m)) (more-other P.batches i r.released no_batch small e))))
                (cases_Bool (is_in (batch_at P r.released).tasks i)))),
          );
        };
        ahead = rw (time, after) (record { later = λ k d le' kl. let s = rules.rising P r.released k no_batch d (omega (arith, le')) kl in omega (arith, s, due) });
        bounded = rw (time, after) (let s = run.bounded in let a = h.long in let t = run.at.rests in let f = rules.few_tasks P in omega (arith, s, total, a, t, f));
        below = rw after (omega (arith, small));
      }

  pub overruns : (i : ℕ) → IsWorst P (batch_at P r.released).tasks r.rest.items i → IsOverrun P (left_by P cpus.on cpus.serve) r.time (instance i (length (get_or r.ends i []) + 2))
  overruns i w = overrun P cpus.on cpus.serve waiting r.released r.time r.rest.items r.ends run.at small (sym due) i w.small w.named w.late (λ j jl e some. w.highest j e some)

-- nothing is released
pub begins : (P : Plan) (cpus : Processors) (r : Run) → r.time ≡ 0 → r.released ≡ 0 → r.rest.items ≡ replicate (length P.diagram.tasks) 0 → r.ends ≡ replicate (length P.diagram.tasks) [] → MadeFor r.ready P.diagram → ((i a : ℕ) → Holds r.ready i a → ⊥) → IsRun P (all_at cpus r.time) r
begins P cpus r time none rest ends made empty =
    let zero_at : (i : ℕ) → i < length P.diagram.tasks → get_or r.rest.items i 0 ≡ 0 = λ i il. ap (λ (l : List ℕ). get_or l i 0) rest ∙ get_or-replicate (length P.diagram.tasks) i 0 0 il in
    let nil_at : (i : ℕ) → i < length P.diagram.tasks → length (get_or r.ends i []) ≡ 0 = λ i il. ap (length {A = ℕ}) (ap (λ (l : List (List ℕ)). get_or l i []) ends ∙ get_or-replicate (length P.diagram.tasks) i [] [] il) in
    let long : length r.rest.items ≡ length P.diagram.tasks = ap (length {A = ℕ}) rest ∙ length-replicate (length P.diagram.tasks) 0 in
    let zero' = sum_zero r.rest.items (λ i il. zero_at i (omega (arith, il, long))) in
    record {
      at = rw (none, time) (record {
        rests = long;
        lists = ap (length {A = List ℕ}) ends ∙ length-replicate (length P.diagram.tasks) [];
        counts = λ i il. let n = nil_at i il in let z = busy_count_none (get_or r.rest.items i 0) (zero_at i il) in omega (arith, n, z);
        ended = λ i k il kl. let n = nil_at i il in absurd (omega (arith, n, kl));
        past = λ i k il kl. let n = nil_at i il in absurd (omega (arith, n, kl));
        under = λ i il some. let z = zero_at i il in absurd (omega (arith, z, some));
        early = λ c k d kl kb. absurd (omega (arith, kl));
        in_time = λ x here two le. absurd (omega (arith, two, le));
      });
      tracks = record {
        made = made;
        held = λ i a. ((λ h. absurd (empty i a h)), (λ w. let z = zero_at i w.0 in let m = w.1 in absurd (omega (arith, z, m))));
      };
      ahead = rw (none, time) (record { later = λ k d le kl. omega arith });
      bounded = rw (none, time) (omega (arith, zero'));
      below = rw none (omega arith);
    }

-- ---- a batch

pub named_there : (p : Plan) (b : ℕ) → b < length p.batches → (i : ℕ) → names i (batch_at p b) ≡ true → i < length p.diagram.tasks
named_there p b more i named =
    let tasks : List ℕ = (batch_at p b).tasks in
    let all = take_all (length (batch_at p b).tasks) (batch_at p b).tasks (omega arith) in
    let k = in_place (batch_at p b).tasks (length (batch_at p b).tasks) i (ap (λ (l : List ℕ). is_in l i) all ∙ named) in
    let there = rules.inside p b k.0 no_batch more k.2 in
    let is = k.3 in
    omega (arith, there, is)

pub batch_few : (p : Plan) (b : ℕ) → b < length p.batches → length (batch_at p b).tasks ≤ 100000
batch_few p b more =
    let few = p.rules.few in
    let own = get_or-le-sum_by (λ (a : Batch). length a.tasks) p.batches b no_batch more in
    omega (arith, few, own)
