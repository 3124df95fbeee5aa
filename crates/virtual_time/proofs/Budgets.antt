-- The steps of a simulation fit a list.
use Rattle.std.specs.Prelude.{count_by, nat_lt, ◌==◌, ◌||◌, if◌then◌else◌}
use Rattle.std.proofs.Common.{◌≡◌, ◌≢◌, ℕ, zero, suc, ◌+◌, ◌-◌, ◌*◌, ◌<◌, ◌≤◌, true, false, Bool, List, [], ◌∷◌, ◌++◌, length, map, get_or, refl, sym, ap, ◌∙◌, ⊎_elim, arith, length-append}
use Rattle.std.specs.List.{flat_map, filter, range_with_len}
use Rattle.std.proofs.lemmas.Bool.{cases_eq, cases_lt, cases_Bool, eq-eqb, ne_eqb, lt-ltb, le-ltb}
use Rattle.std.proofs.lemmas.List.{get_or_default, length-map, length-replicate}
use Rattle.std.proofs.lemmas.List.Concat.{length-flat_map}
use Rattle.std.proofs.lemmas.List.FromFn.{length-range_with_len, get_or-range_with_len}
use Rattle.std.proofs.lemmas.List.Sums.{count_by-le-length, sum_by-le}
use Rattle.dbp_plan.specs.declared.diagram.Read.{Read}
use Rattle.dbp_plan.specs.declared.plan.Plan.{Plan}
use Rattle.dbp_plan.specs.declared.schedule.Batch.{Batch}
use Rattle.dbp_plan.specs.Lookups.{declared_task, no_read}
use Rattle.dbp_plan.specs.Occurrences.{time_of}
use Rattle.dbp_plan.proofs.Counts.{count-cons}
use Rattle.release_list.specs.Releases.{links_into}
use Rattle.release_list.proofs.IntoLinks.{into_few}
use Rattle.dbp_rules.specs.declared.step.Step.TheVariants.{Claim, Done, End, Hear, OpenGate, Put}
use Rattle.instance_steps.specs.Events.{step_of, aim_events, batch_events, begin_events, claim_events, end_events, look_events, put_events, read_events, reads_at}
use Rattle.virtual_time.specs.Budgets.{early_reads, step_bound, steps_below, steps_by}
use Rattle.virtual_time.specs.Pieces.{begin_events_at}
use Rattle.dbp_plan.proofs.PlanRules as rules
use Rattle.virtual_time.proofs.PieceEvents.{NoReadAt}

-- ---- counts

filter-like : {X : Type 0} (p q : X → Bool) (xs : List X) → ((k : ℕ) (d : X) → k < length xs → p (get_or xs k d) ≡ q (get_or xs k d)) → filter p xs ≡ filter q xs
filter-like p q [] same = refl
filter-like p q (x ∷ xs) same =
    let here : p x ≡ q x = same 0 x (omega arith) in
    let rest : filter p xs ≡ filter q xs = filter-like p q xs (λ k d lt. same (suc k) d (omega (arith, lt))) in
    rw (here, rest) refl

pub count-like : {X : Type 0} (p q : X → Bool) (xs : List X) → ((k : ℕ) (d : X) → k < length xs → p (get_or xs k d) ≡ q (get_or xs k d)) → count_by p xs ≡ count_by q xs
count-like p q [] same = refl
count-like p q (x ∷ xs) same =
    let here : p x ≡ q x = same 0 x (omega arith) in
    let rest : count_by p xs ≡ count_by q xs = count-like p q xs (λ k d lt. same (suc k) d (omega (arith, lt))) in
    rw (count-cons p x xs, count-cons q x xs, here, rest) refl

-- how many numbers of items pass is how many items do
numbers_that : (f : Read → Bool) (xs : List Read) (a : ℕ) → length (filter (λ k. f (get_or xs (k - a) no_read)) (range_with_len a (length xs))) ≡ count_by f xs
numbers_that f [] a = refl
numbers_that f (x ∷ xs) a =
    let first : get_or (x ∷ xs) (a - a) no_read ≡ x = ap (λ (n : ℕ). get_or (x ∷ xs) n no_read) (let z : a - a ≡ 0 = omega arith in z) in
    let later : filter (λ k. f (get_or (x ∷ xs) (k - a) no_read)) (range_with_len (a + 1) (length xs)) ≡ filter (λ k. f (get_or xs (k - (a + 1)) no_read)) (range_with_len (a + 1) (length xs)) =
    filter-like (λ k. f (get_or (x ∷ xs) (k - a) no_read)) (λ k. f (get_or xs (k - (a + 1)) no_read)) (range_with_len (a + 1) (length xs)) (λ k d lt.
    let n = length-range_with_len (a + 1) (length xs) in
    let is : get_or (range_with_len (a + 1) (length xs)) k d ≡ a + 1 + k = get_or-range_with_len (a + 1) (length xs) k d (omega (arith, lt, n)) in
    let one : get_or (range_with_len (a + 1) (length xs)) k d - a ≡ suc k = omega (arith, is) in
    let two : get_or (range_with_len (a + 1) (length xs)) k d - (a + 1) ≡ k = omega (arith, is) in
    ap (λ (n : ℕ). f (get_or (x ∷ xs) n no_read)) one ∙ sym (ap (λ (n : ℕ). f (get_or xs n no_read)) two)) in
    let rest = ap length later ∙ numbers_that f xs (a + 1) in
    ⊎_elim
    (λ (e : f x ≡ true). let here : f (get_or (x ∷ xs) (a - a) no_read) ≡ true = ap f first ∙ e in rw (here, count-cons f x xs, e) (omega (arith, rest)))
    (λ (e : f x ≡ false). let here : f (get_or (x ∷ xs) (a - a) no_read) ≡ false = ap f first ∙ e in rw (here, count-cons f x xs, e) (omega (arith, rest)))
    (cases_Bool (f x))

length-looks : (i : ℕ) (xs : List ℕ) → length (flat_map (look_events i) xs) ≡ 2 * length xs
length-looks i [] = refl
length-looks i (x ∷ xs) = omega (arith, length-append (look_events i x) (flat_map (look_events i) xs), length-looks i xs)

pub length-reads : (p : Plan) (i served : ℕ) → length (read_events p i served) ≡ 2 * count_by (λ r. r.at == served) (declared_task p i).reads
length-reads p i served =
    let reads : List Read = (declared_task p i).reads in
    let numbers = numbers_that (λ r. r.at == served) reads 0 in
    let plain : length (reads_at reads served) ≡ length (filter (λ k. (get_or reads (k - 0) no_read).at == served) (range_with_len 0 (length reads))) =
    ap length (filter-like (λ k. (get_or reads k no_read).at == served) (λ k. (get_or reads (k - 0) no_read).at == served) (range_with_len 0 (length reads)) (λ k d lt.
    let z : get_or (range_with_len 0 (length reads)) k d - 0 ≡ get_or (range_with_len 0 (length reads)) k d = omega arith in
    ap (λ (n : ℕ). (get_or reads n no_read).at == served) (sym z))) in
    omega (arith, length-looks i (reads_at reads served), plain, numbers)

-- the reads up to a tick are those before it and those at it
split_one : (r c d : ℕ) → c < d → (if r == c then 1 else 0) + (if nat_lt r c then 1 else 0) ≤ (if nat_lt r d then 1 else 0)
split_one r c d less = ⊎_elim
    (λ (e : r ≡ c). rw (eq-eqb r c e, le-ltb r c (omega (arith, e)), lt-ltb r d (omega (arith, e, less))) (omega arith))
    (λ (ne : r ≡ c → ⊥). ⊎_elim
    (λ (lt : r < c). rw (ne_eqb r c ne, lt-ltb r c lt, lt-ltb r d (omega (arith, lt, less))) (omega arith))
    (λ (ge : c ≤ r). rw (ne_eqb r c ne, le-ltb r c ge) (omega arith))
    (cases_lt r c))
    (cases_eq r c)

reads_up_to : (reads : List Read) (c d : ℕ) → c < d → count_by (λ r. r.at == c) reads + count_by (λ r. nat_lt r.at c) reads ≤ count_by (λ r. nat_lt r.at d) reads
reads_up_to [] c d less = omega arith
reads_up_to (x ∷ reads) c d less =
    let rest = reads_up_to reads c d less in
    let one = split_one x.at c d less in
    omega (arith, rest, one, count-cons (λ (r : Read). r.at == c) x reads, count-cons (λ (r : Read). nat_lt r.at c) x reads, count-cons (λ (r : Read). nat_lt r.at d) x reads)

-- if none is in between, as many are early
pub same_early : (p : Plan) (i c d : ℕ) → ((n : ℕ) → c ≤ n → n < d → NoReadAt p i n) → c ≤ d → early_reads p i d ≡ early_reads p i c
same_early p i c d none le = count-like (λ r. nat_lt r.at d) (λ r. nat_lt r.at c) (declared_task p i).reads each
  where
    each : (k : ℕ) (e : Read) → k < length (declared_task p i).reads → nat_lt (get_or (declared_task p i).reads k e).at d ≡ nat_lt (get_or (declared_task p i).reads k e).at c
    each k e kl = ⊎_elim
        (λ (lt : (get_or (declared_task p i).reads k e).at < c). rw (lt-ltb _ _ lt, lt-ltb (get_or (declared_task p i).reads k e).at d (omega (arith, lt, le))) refl)
        (λ (ge : c ≤ (get_or (declared_task p i).reads k e).at).
        ⊎_elim
        (λ (lt : (get_or (declared_task p i).reads k e).at < d).
        let plain : get_or (declared_task p i).reads k e ≡ get_or (declared_task p i).reads k no_read = get_or_default (declared_task p i).reads k e no_read kl in
        absurd (none (get_or (declared_task p i).reads k e).at ge lt k kl (ap (λ (r : Read). r.at) (sym plain))))
        (λ (far : d ≤ (get_or (declared_task p i).reads k e).at). rw (le-ltb _ _ ge, le-ltb (get_or (declared_task p i).reads k e).at d far) refl)
        (cases_lt (get_or (declared_task p i).reads k e).at d))
        (cases_lt (get_or (declared_task p i).reads k e).at c)

-- ---- the lengths of the pieces

module _ (p : Plan) (i : ℕ) where
  pub length-begin : length (begin_events p i) ≤ 130
  length-begin = let few = p.rules.ranked.closed.links in
      omega (arith, few, into_few p.diagram.links i (length p.diagram.links), length-replicate (1 + length (links_into p.diagram.links i)) (step_of (Hear i)))

  pub length-ends : i < length p.diagram.tasks → length (end_events p i) ≤ 11
  length-ends il =
      let outs = (rules.closed_task p i il).outs.1 in
      let n = length-range_with_len 0 (length (declared_task p i).outs) in
      omega (arith, outs, n, length-map (range_with_len 0 (length (declared_task p i).outs)) (λ port. step_of (Put i port)), length-append (put_events i (length (declared_task p i).outs)) (step_of (Done i) ∷ step_of (End i) ∷ []))

  pub few_reads : i < length p.diagram.tasks → (c : ℕ) → early_reads p i c ≤ 16
  few_reads il c = let few = (rules.closed_task p i il).reads in omega (arith, few, count_by-le-length (λ (r : Read). nat_lt r.at c) (declared_task p i).reads)

  -- all reads are made before the end
  pub all_reads_early : i < length p.diagram.tasks → early_reads p i (declared_task p i).cost ≡ length (declared_task p i).reads
  all_reads_early il = all (declared_task p i).reads (λ k d kl. (rules.closed_task p i il).pointers k d kl)
    where
      all : (reads : List Read) → ((k : ℕ) (d : Read) → k < length reads → (get_or reads k d).at < (declared_task p i).cost) → count_by (λ r. nat_lt r.at (declared_task p i).cost) reads ≡ length reads
      all [] each = refl
      all (y ∷ reads) each =
          let rest = all reads (λ k d lt. each (suc k) d (omega (arith, lt))) in
          let here : y.at < (declared_task p i).cost = each 0 y (omega arith) in
          rw (count-cons (λ (r : Read). nat_lt r.at (declared_task p i).cost) y reads, lt-ltb y.at (declared_task p i).cost here) (omega (arith, rest))

  -- of what is left, the steps made so far: none if all is left
  pub bound_all : step_bound p i (declared_task p i).cost ≡ 0
  bound_all = none_if ((declared_task p i).cost == 0) ((declared_task p i).cost == (declared_task p i).cost) (130 + 2 * early_reads p i ((declared_task p i).cost - (declared_task p i).cost)) (eq-eqb (declared_task p i).cost (declared_task p i).cost refl)
    where
      none_if : (a b : Bool) (n : ℕ) → b ≡ true → (if a || b then 0 else n) ≡ 0
      none_if true b n is = refl
      none_if false b n is = rw is refl

  pub bound_some : (rest : ℕ) → 0 < rest → rest < (declared_task p i).cost → step_bound p i rest ≡ 130 + 2 * early_reads p i ((declared_task p i).cost - rest)
  bound_some rest some less = rw (ne_eqb rest 0 (λ e. omega (arith, e, some)), ne_eqb rest (declared_task p i).cost (λ e. omega (arith, e, less))) refl

  pub reads_few : i < length p.diagram.tasks → (served : ℕ) → length (read_events p i served) ≤ 32
  reads_few il served =
      let few = (rules.closed_task p i il).reads in
      omega (arith, few, length-reads p i served, count_by-le-length (λ (r : Read). r.at == served) (declared_task p i).reads)

  pub begin_few : (served : ℕ) → length (begin_events_at p i served) ≤ 130
  begin_few served = ⊎_elim
      (λ (e : served ≡ 0). rw (eq-eqb served 0 e) length-begin)
      (λ (ne : served ≡ 0 → ⊥). rw (ne_eqb served 0 ne) (omega arith))
      (cases_eq served 0)

  -- the steps of a tick in which the instance is served, with those before
  pub served_steps : (rest : ℕ) → 0 < rest → rest ≤ (declared_task p i).cost → (d : ℕ) → (declared_task p i).cost - rest < d
      → length (begin_events_at p i ((declared_task p i).cost - rest)) + length (read_events p i ((declared_task p i).cost - rest)) + step_bound p i rest ≤ 130 + 2 * early_reads p i d
  served_steps rest some le d less =
      let c : ℕ = (declared_task p i).cost - rest in
      let reads = length-reads p i c in
      let up = reads_up_to (declared_task p i).reads c d less in
      ⊎_elim
      (λ (e : rest ≡ (declared_task p i).cost).
      let z : c ≡ 0 = omega (arith, e) in
      let b : length (begin_events_at p i c) ≤ 130 = rw (eq-eqb c 0 z) length-begin in
      let n : step_bound p i rest ≡ 0 = ap (step_bound p i) e ∙ bound_all in
      omega (arith, reads, up, b, n))
      (λ (ne : rest ≡ (declared_task p i).cost → ⊥).
      let nz : c ≡ 0 → ⊥ = λ z. ne (omega (arith, z, le)) in
      let b : length (begin_events_at p i c) ≡ 0 = rw (ne_eqb c 0 nz) refl in
      let n = bound_some rest some (omega (arith, le, ne)) in
      omega (arith, reads, up, b, n))
      (cases_eq rest (declared_task p i).cost)

  pub paused_steps : i < length p.diagram.tasks → (rest ticks : ℕ) → 0 < ticks → ticks < rest → rest ≤ (declared_task p i).cost
      → length (begin_events_at p i ((declared_task p i).cost - rest)) + length (read_events p i ((declared_task p i).cost - rest)) + step_bound p i rest ≤ step_bound p i (rest - ticks)
  paused_steps il rest ticks some short le =
      let d : ℕ = (declared_task p i).cost - (rest - ticks) in
      let steps = served_steps rest (omega (arith, some, short)) le d (omega (arith, some, short, le)) in
      let n = bound_some (rest - ticks) (omega (arith, short)) (omega (arith, some, short, le)) in
      omega (arith, steps, n)

  pub ended_steps : i < length p.diagram.tasks → (rest : ℕ) → 0 < rest → rest ≤ (declared_task p i).cost
      → length (begin_events_at p i ((declared_task p i).cost - rest)) + length (read_events p i ((declared_task p i).cost - rest)) + length (end_events p i) + step_bound p i rest ≤ 173
  ended_steps il rest some le =
      let steps = served_steps rest some le (declared_task p i).cost (omega (arith, some, le)) in
      let few = few_reads il (declared_task p i).cost in
      let ends = length-ends il in
      omega (arith, steps, few, ends)

-- and of one task
pub bound_few : (p : Plan) (i : ℕ) → i < length p.diagram.tasks → (left : ℕ) → step_bound p i left ≤ 162
bound_few p i il left = let few = few_reads p i il ((declared_task p i).cost - left) in
    ⊎_elim
    (λ (e : ((left == 0) || (left == (declared_task p i).cost)) ≡ true). rw e (omega arith))
    (λ (e : ((left == 0) || (left == (declared_task p i).cost)) ≡ false). rw e (omega (arith, few)))
    (cases_Bool ((left == 0) || (left == (declared_task p i).cost)))

-- ---- the bound of all tasks

module _ (bound bound' : ℕ → ℕ) (ends ends' : List (List ℕ)) (i : ℕ)
    (bounds : (j : ℕ) → j ≢ i → bound' j ≡ bound j) (lists : (j : ℕ) → j ≢ i → length (get_or ends' j []) ≡ length (get_or ends j [])) where
  other_task : (j : ℕ) → j ≢ i → 173 * length (get_or ends' j []) + bound' j ≡ 173 * length (get_or ends j []) + bound j
  other_task j ne = let a = lists j ne in let b = bounds j ne in omega (arith, a, b)

  unlike_below : (n : ℕ) → n ≤ i → steps_by bound' ends' n ≡ steps_by bound ends n
  unlike_below zero le = refl
  unlike_below (suc n) le = let a = unlike_below n (omega (arith, le)) in let b = other_task n (λ e. omega (arith, e, le)) in omega (arith, a, b)

  pub one_bound_changed : (n : ℕ) → i < n → steps_by bound' ends' n + (173 * length (get_or ends i []) + bound i) ≡ steps_by bound ends n + (173 * length (get_or ends' i []) + bound' i)
  one_bound_changed zero lt = absurd (omega (arith, lt))
  one_bound_changed (suc n) lt = ⊎_elim
      (λ (e : n ≡ i).
      let below = unlike_below n (omega (arith, e)) in
      let a = ap (λ (j : ℕ). 173 * length (get_or ends j []) + bound j) e in
      let b = ap (λ (j : ℕ). 173 * length (get_or ends' j []) + bound' j) e in
      omega (arith, below, a, b))
      (λ (ne : n ≡ i → ⊥). let below = one_bound_changed n (omega (arith, lt, ne)) in let b = other_task n ne in omega (arith, below, b))
      (cases_eq n i)

pub same_bounds : (bound bound' : ℕ → ℕ) (ends : List (List ℕ)) (n : ℕ) → ((j : ℕ) → bound' j ≡ bound j) → steps_by bound' ends n ≡ steps_by bound ends n
same_bounds bound bound' ends zero same = refl
same_bounds bound bound' ends (suc n) same = let a = same_bounds bound bound' ends n same in let b = same n in omega (arith, a, b)

-- by what is left
pub one_changed : (p : Plan) (rest rest' : List ℕ) (ends ends' : List (List ℕ)) (i : ℕ)
    → ((j : ℕ) → j ≢ i → get_or rest' j 0 ≡ get_or rest j 0) → ((j : ℕ) → j ≢ i → length (get_or ends' j []) ≡ length (get_or ends j []))
    → (n : ℕ) → i < n → steps_below p rest' ends' n + (173 * length (get_or ends i []) + step_bound p i (get_or rest i 0)) ≡ steps_below p rest ends n + (173 * length (get_or ends' i []) + step_bound p i (get_or rest' i 0))
one_changed p rest rest' ends ends' i rests lists =
    one_bound_changed (λ j. step_bound p j (get_or rest j 0)) (λ j. step_bound p j (get_or rest' j 0)) ends ends' i (λ j ne. ap (step_bound p j) (rests j ne)) lists

pub same_steps : (p : Plan) (rest rest' : List ℕ) (ends : List (List ℕ)) (n : ℕ) → ((j : ℕ) → step_bound p j (get_or rest' j 0) ≡ step_bound p j (get_or rest j 0)) → steps_below p rest' ends n ≡ steps_below p rest ends n
same_steps p rest rest' ends n same = same_bounds (λ j. step_bound p j (get_or rest j 0)) (λ j. step_bound p j (get_or rest' j 0)) ends n same

pub bounds_few : (bound : ℕ → ℕ) (ends : List (List ℕ)) (n : ℕ) → ((j : ℕ) → j < n → length (get_or ends j []) ≤ 100000) → ((j : ℕ) → j < n → bound j ≤ 162) → steps_by bound ends n ≤ n * 17300162
bounds_few bound ends zero few small = omega arith
bounds_few bound ends (suc n) few small =
    let a = bounds_few bound ends n (λ j lt. few j (omega (arith, lt))) (λ j lt. small j (omega (arith, lt))) in
    omega (arith, a, few n (omega arith), small n (omega arith))

pub steps_few : (p : Plan) (rest : List ℕ) (ends : List (List ℕ)) (n : ℕ) → n ≤ length p.diagram.tasks → ((j : ℕ) → j < n → length (get_or ends j []) ≤ 100000) → steps_below p rest ends n ≤ n * 17300162
steps_few p rest ends n le few = bounds_few (λ j. step_bound p j (get_or rest j 0)) ends n few (λ j lt. bound_few p j (omega (arith, lt, le)) (get_or rest j 0))

-- ---- the release of a batch

pub length-batch : (p : Plan) (b : Batch) → length (batch_events p b) ≤ 131 * length b.tasks
length-batch p b =
    let few = p.rules.ranked.closed.links in
    let aim : (i : ℕ) → length (aim_events p b.time i) ≤ 2 = λ i. ⊎_elim
    (λ (e : (time_of p.batches i 1 == b.time) ≡ true). rw e (omega arith))
    (λ (e : (time_of p.batches i 1 == b.time) ≡ false). rw e (omega arith))
    (cases_Bool (time_of p.batches i 1 == b.time)) in
    let claim : (i : ℕ) → length (claim_events p i) ≤ 128 = λ i. omega (arith, few, length-map (links_into p.diagram.links i) (λ k. step_of (Claim k)), into_few p.diagram.links i (length p.diagram.links)) in
    omega (
      arith,
      length-append (flat_map (aim_events p b.time) b.tasks) (flat_map (claim_events p) b.tasks ++ map (λ i. step_of (OpenGate i)) b.tasks),
      length-append (flat_map (claim_events p) b.tasks) (map (λ i. step_of (OpenGate i)) b.tasks),
      length-map b.tasks (λ i. step_of (OpenGate i)),
      length-flat_map (aim_events p b.time) b.tasks,
      sum_by-le (λ i. length (aim_events p b.time i)) 2 b.tasks (λ k d lt. aim (get_or b.tasks k d)),
      length-flat_map (claim_events p) b.tasks,
      sum_by-le (λ i. length (claim_events p i)) 128 b.tasks (λ k d lt. claim (get_or b.tasks k d)),
    )
