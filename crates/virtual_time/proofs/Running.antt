-- A running simulation, step by step.
use Rattle.std.proofs.Common.{◌≡◌, ◌≢◌, ℕ, suc, ◌+◌, ◌-◌, ◌<◌, ◌≤◌, ◌↔◌, List, [], ◌∷◌, ◌++◌, length, get_or, set, sum, refl, sym, ap, ◌∙◌, subst, ⊎_elim, arith, length-set, get_or-set_same, get_or-set_other, take, drop}
use Rattle.std.proofs.lemmas.Bool.{cases_eq}
use Rattle.std.proofs.lemmas.List.Sums.{sum_by-set, sum_by-cons, get_or-le-sum_by}
use Rattle.std.proofs.lemmas.List.{get_or_default}
use Rattle.dbp_plan.specs.declared.plan.Plan.{Plan}
use Rattle.dbp_plan.specs.declared.schedule.Batch.{Batch}
use Rattle.virtual_time.specs.declared.run.Run.{Run}
use Rattle.rank_order.specs.Instances.{release_of}
use Rattle.virtual_time.specs.State.{release_count, instance, GoesOn, NoBatchBefore, Sets}
use Rattle.rank_order.specs.Queue.{Holds, MadeFor}
use Rattle.instance_steps.specs.Releases.{batch_at, no_batch}
use Rattle.virtual_time.specs.Runs.{IsRun, IsServedFor, Processors, latest, with_times}
use Rattle.dbp_plan.proofs.ListParts.{refilled}
use Rattle.dbp_plan.proofs.TaskTimes.{some-of, times_few}
use Rattle.dbp_plan.proofs.PlanRules as rules
use Rattle.virtual_time.proofs.Steps.{runs_on, runs_out, waits_out}

pub sets_at : {X : Type 0} (d : X) (xs : List X) (i : ℕ) (v : X) → i < length xs → Sets d xs i v (set xs i v)
sets_at d xs i v lt = record { long = length-set xs i v; same = get_or-set_same xs i v d lt; others = λ j ne. get_or-set_other xs i j v d ne }

module _ (P : Plan) (cpus : Processors) (r : Run) (run : IsRun P cpus r) where
  -- what is left of an instance can be added to the time
  pub rest_fits : (i : ℕ) → i < length P.diagram.tasks → r.time + get_or r.rest.items i 0 < 3300000000000000
  rest_fits i small =
      let le = get_or-le-sum_by (λ (n : ℕ). n) r.rest.items i 0 (let s = run.at.rests in omega (arith, s, small)) in
      omega (arith, le, run.bounded, run.below, rules.few_batches P)

  pub few_ends : (i : ℕ) → i < length P.diagram.tasks → length (get_or r.ends i []) ≤ 100000
  few_ends i small =
      let few = P.rules.few in
      omega (arith, run.at.counts i small, some-of P.batches i r.released, times_few P.batches i, few)

  -- the time is far from its greatest value
  pub time_few : r.time ≤ 3210000000000000
  time_few =
      let few = rules.few_batches P in
      omega (arith, run.bounded, run.below, few)

  -- the time can go on for as many ticks as an instance has less left
  pub less_left : (i d v : ℕ) → i < length P.diagram.tasks → v + d ≤ get_or r.rest.items i 0 → r.time + d + sum (set r.rest.items i v) ≤ latest r.released
  less_left i d v small le =
      let s = sum_by-set (λ (n : ℕ). n) r.rest.items i v 0 (let n = run.at.rests in omega (arith, n, small)) in
      omega (arith, s, run.bounded, le)

  -- the queue has an instance of which something is left
  pub held_if : (i : ℕ) → i < length P.diagram.tasks → 0 < get_or r.rest.items i 0 → (a : ℕ) × Holds r.ready i a
  held_if i small some =
      let a : ℕ = release_of P (instance i (release_count P.batches r.released i)) in
      (a, (run.tracks.held i a).1 (small, some, refl))

  -- the task's instance is served for d ticks
  module _ (i d : ℕ) (small : i < length P.diagram.tasks) (some : 0 < get_or r.rest.items i 0) (ran : IsServedFor P cpus r i d)
      (later : ℕ → ℕ) (goes : GoesOn cpus.on (cpus.on i) d cpus.now later) where
    pub finished : (r' : Run) → cpus.now (cpus.on i) ≡ r.time → d ≡ get_or r.rest.items i 0 → r'.time ≡ r.time → r'.released ≡ r.released
        → r'.rest.items ≡ set r.rest.items i 0 → r'.ends ≡ set r.ends i (get_or r.ends i [] ++ (r.time + get_or r.rest.items i 0) ∷ [])
        → MadeFor r'.ready P.diagram → ((j a : ℕ) → Holds r'.ready j a ↔ ((j ≢ i) × Holds r.ready j a)) → IsRun P (with_times cpus later) r'
    finished r' there all now released rest ends made held =
        let inside : i < length r.rest.items = let s = run.at.rests in omega (arith, s, small) in
        let inside' : i < length r.ends = let s = run.at.lists in omega (arith, s, small) in
        let sets = sets_at 0 r.rest.items i 0 inside in
        let end_is : cpus.now (cpus.on i) + d ≡ r.time + get_or r.rest.items i 0 = omega (arith, there, all) in
        let noted : Sets [] r.ends i (get_or r.ends i [] ++ (cpus.now (cpus.on i) + d) ∷ []) (set r.ends i (get_or r.ends i [] ++ (r.time + get_or r.rest.items i 0) ∷ [])) =
        subst (λ (e : ℕ). Sets [] r.ends i (get_or r.ends i [] ++ e ∷ []) (set r.ends i (get_or r.ends i [] ++ (r.time + get_or r.rest.items i 0) ∷ []))) (sym end_is)
        (sets_at [] r.ends i (get_or r.ends i [] ++ (r.time + get_or r.rest.items i 0) ∷ []) inside') in
        let at' = runs_out P cpus.on cpus.serve r.released cpus.now r.rest.items r.ends run.at i d later goes small some ran
        (set r.rest.items i 0) (set r.ends i (get_or r.ends i [] ++ (r.time + get_or r.rest.items i 0) ∷ [])) all sets noted in
        record {
          at = rw (released, rest, ends) at';
          tracks = record {
            made = made;
            held = λ j a. rw (rest, released) (
              (λ h.
                  let two = (held j a).0 h in
                  let old = (run.tracks.held j a).0 two.1 in
                  let o = sets.others j two.0 in
                  let more = old.1 in
                  (old.0, omega (arith, o, more), old.2)),
              (λ w.
                  ⊎_elim
                  (λ (e : j ≡ i). let z = sets.same in let m = subst (λ (k : ℕ). 0 < get_or (set r.rest.items i 0) k 0) e w.1 in absurd (omega (arith, z, m)))
                  (λ (ne : j ≢ i). let o = sets.others j ne in let more = w.1 in (held j a).1 (ne, (run.tracks.held j a).1 (w.0, omega (arith, o, more), w.2)))
                  (cases_eq j i)),
            );
          };
          ahead = rw (now, released) run.ahead;
          bounded = rw (now, released, rest) (let s = sum_by-set (λ (n : ℕ). n) r.rest.items i 0 0 inside in omega (arith, s, run.bounded));
          below = rw released run.below;
        }

    pub paused : (r' : Run) → d < get_or r.rest.items i 0 → r'.time ≡ r.time → r'.released ≡ r.released
        → r'.rest.items ≡ set r.rest.items i (get_or r.rest.items i 0 - d) → r'.ends ≡ r.ends → r'.ready ≡ r.ready → IsRun P (with_times cpus later) r'
    paused r' short now released rest ends ready =
        let inside : i < length r.rest.items = let s = run.at.rests in omega (arith, s, small) in
        let sets = sets_at 0 r.rest.items i (get_or r.rest.items i 0 - d) inside in
        let at' = runs_on P cpus.on cpus.serve r.released cpus.now r.rest.items r.ends run.at i d later goes small some ran
        (set r.rest.items i (get_or r.rest.items i 0 - d)) short sets in
        record {
          at = rw (released, rest, ends) at';
          tracks = record {
            made = rw ready run.tracks.made;
            held = λ j a. rw (rest, released, ready) (
              (λ h.
                  let old = (run.tracks.held j a).0 h in
                  let more = old.1 in (
                    old.0,
                    ⊎_elim
                        (λ (e : j ≡ i). subst (λ (k : ℕ). 0 < get_or (set r.rest.items i (get_or r.rest.items i 0 - d)) k 0) (sym e) (let s = sets.same in omega (arith, s, short)))
                        (λ (ne : j ≢ i). let o = sets.others j ne in omega (arith, o, more))
                        (cases_eq j i),
                    old.2,
                  )),
              (λ w.
                  (run.tracks.held j a).1 (
                    w.0,
                    ⊎_elim
                        (λ (e : j ≡ i). subst (λ (k : ℕ). 0 < get_or r.rest.items k 0) (sym e) some)
                        (λ (ne : j ≢ i). let o = sets.others j ne in let more = w.1 in omega (arith, o, more))
                        (cases_eq j i),
                    w.2,
                  )),
            );
          };
          ahead = rw (now, released) run.ahead;
          bounded = rw (now, released, rest) (let s = sum_by-set (λ (n : ℕ). n) r.rest.items i (get_or r.rest.items i 0 - d) 0 inside in omega (arith, s, run.bounded, short));
          below = rw released run.below;
        }

  -- the time of the run itself follows
  pub advanced : (r' : Run) (time : ℕ) → NoBatchBefore P r.released time → time + sum r.rest.items ≤ latest r.released → r'.time ≡ time → r'.released ≡ r.released → r'.rest.items ≡ r.rest.items → r'.ends ≡ r.ends → r'.ready ≡ r.ready → IsRun P cpus r'
  advanced r' time until few now released rest ends ready = record {
    at = rw (released, rest, ends) run.at;
    tracks = rw (released, rest, ready) run.tracks;
    ahead = rw (now, released) until;
    bounded = rw (now, released, rest) few;
    below = rw released run.below;
  }

pub sum_zero : (xs : List ℕ) → ((i : ℕ) → i < length xs → get_or xs i 0 ≡ 0) → sum xs ≡ 0
sum_zero [] all = refl
sum_zero (x ∷ xs) all =
    let rest = sum_zero xs (λ i lt. all (suc i) (omega (arith, lt))) in
    let first : x ≡ 0 = all 0 (omega arith) in
    let cons = sum_by-cons (λ (n : ℕ). n) x xs in
    omega (arith, rest, first, cons)

pub sooner : (p : Plan) (b limit t : ℕ) → NoBatchBefore p b limit → t ≤ limit → NoBatchBefore p b t
sooner p b limit t until le = record { later = λ k d bk kl. let u = until.later k d bk kl in omega (arith, u, le) }

pub until_next : (P : Plan) → (b : ℕ) → b < length P.batches → NoBatchBefore P b (batch_at P b).time
until_next P b small = record {
  later = λ k d le kl. ⊎_elim
      (λ (e : k ≡ b). let s : (batch_at P b).time ≡ (get_or P.batches k d).time = ap (λ (x : Batch). x.time) (get_or_default P.batches b no_batch d small) ∙ ap (λ (m : ℕ). (get_or P.batches m d).time) (sym e) in omega (arith, s))
      (λ (ne : k ≡ b → ⊥). let r = rules.rising P b k no_batch d (omega (arith, le, ne)) kl in omega (arith, r))
      (cases_eq k b);
}

module _ (P : Plan) (cpus : Processors) (r : Run) (run : IsRun P cpus r) (none : (i a : ℕ) → Holds r.ready i a → ⊥) where
  pub all_idle : (i : ℕ) → i < length P.diagram.tasks → get_or r.rest.items i 0 ≡ 0
  all_idle i small = ⊎_elim
      (λ (e : get_or r.rest.items i 0 ≡ 0). e)
      (λ (ne : get_or r.rest.items i 0 ≡ 0 → ⊥). let h = held_if P cpus r run i small (omega (arith, ne)) in absurd (none i h.0 h.1))
      (cases_eq (get_or r.rest.items i 0) 0)

  pub rested : (r' : Run) (later : ℕ → ℕ) (limit : ℕ) → ((c : ℕ) → cpus.now c ≤ later c) → NoBatchBefore P r.released limit → limit ≤ 1000000000 → r'.time ≡ limit → r'.released ≡ r.released → r'.rest.items ≡ r.rest.items → r'.ends ≡ r.ends → r'.ready ≡ r.ready
      → IsRun P (with_times cpus later) r'
  rested r' later limit up until small time released rest ends ready =
      let at' = waits_out P cpus.on cpus.serve r.released cpus.now r.rest.items r.ends run.at later up all_idle in
      let zero' = sum_zero r.rest.items (λ i il. let s = run.at.rests in all_idle i (omega (arith, il, s))) in
      record {
        at = rw (released, rest, ends) at';
        tracks = rw (released, rest, ready) run.tracks;
        ahead = rw (time, released) until;
        bounded = rw (time, released, rest) (omega (arith, zero', small));
        below = rw released run.below;
      }

-- a write through the items of a list
pub written : (xs items : List (List ℕ)) (i : ℕ) (v : List ℕ) → items ≡ xs → take (length xs) (set items i v ++ drop (length (set items i v)) xs) ≡ set xs i v
written xs items i v same = rw same (refilled (length xs) xs (set xs i v) refl (length-set xs i v))
