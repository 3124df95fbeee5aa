-- The rows of all instances as a fixed point: an instance reads only what is earlier, or of a higher rank at its time.
use Rattle.std.proofs.Common.{◌≡◌, ℕ, ℤ, pos, zero, suc, ◌<◌, ◌≤◌, ◌+◌, ◌-◌, ◌*◌, List, [], ◌∷◌, ◌++◌, length, get_or, slice_get, Some, refl, sym, ◌∙◌, ap, arith, inl, inr}
use Rattle.std.specs.Prelude.{All, map, nat_le, sum_by}
use Rattle.std.specs.Option.{option_map_or}
use Rattle.std.proofs.Math.Nat.{mul-le-mul_right}
use Rattle.std.proofs.lemmas.Bool.{cases_eq}
use Rattle.std.proofs.lemmas.List.Sums.{count_by-le-length, sum_by-cons}
use Rattle.std.proofs.lemmas.Option.{slice_get-get_or}
use Rattle.dbp_plan.specs.declared.diagram.Diagram.{Diagram}
use Rattle.dbp_plan.specs.declared.diagram.Link.{Link}
use Rattle.dbp_plan.specs.declared.diagram.Read.{Read}
use Rattle.dbp_plan.specs.declared.diagram.Task.{Task}
use Rattle.dbp_plan.specs.declared.schedule.Batch.{Batch}
use Rattle.dbp_plan.specs.declared.schedule.Sample.{Sample}
use Rattle.dbp_plan.specs.Closed.{IsClosed, IsClosedTask}
use Rattle.dbp_plan.specs.Occurrences.{count_until, times_of}
use Rattle.dbp_plan.specs.Plan.{IsPlan}
use Rattle.dbp_plan.specs.Samples.{input_value}
use Rattle.sync_meaning.specs.Meaning.{outs_in}
use Rattle.dbp_plan.specs.Times.{Rises, has_come, times-rise, times_all}
use Rattle.dbp_plan.specs.ListItems.{all_place, at_place}
use Rattle.sync_meaning.specs.SomeMeaningEnvs.{env_from, states_after}

-- functions that agree on the items of a list
pub map_same : {X Y : Type 0} (f g : X → Y) (xs : List X) → ((k : ℕ) (x : X) → slice_get xs k ≡ Some x → f x ≡ g x) → map f xs ≡ map g xs
map_same f g [] same = refl
map_same f g (x ∷ xs) same =
    let head : f x ≡ g x = same 0 x refl in
    let tail : map f xs ≡ map g xs = map_same f g xs (λ k y at. same (suc k) y at) in
    cc

rank_le : (xs : List ℕ) (i : ℕ) → get_or xs i 0 ≤ sum_by (λ x. x) xs
rank_le [] zero = omega arith
rank_le [] (suc i) = omega arith
rank_le (x ∷ xs) zero = omega (arith, sum_by-cons (λ (y : ℕ). y) x xs)
rank_le (x ∷ xs) (suc i) = omega (arith, rank_le xs i, sum_by-cons (λ (y : ℕ). y) x xs)

module _ (d : Diagram) (samples : List Sample) (batches : List Batch) where
  -- the value that the read gives at a time if these are the rows
  abbrev pub value_at : (ℕ → ℕ → List ℤ) → ℕ → Read → ℤ
  value_at rows time read = option_map_or (λ l. get_or (rows l.writer (count_until (times_of batches l.writer) time - l.delay)) read.port (pos 0)) (slice_get d.links read.link) (pos 0)

  -- what an environment at the time begins with: states, senses and reads
  abbrev pub given_at : (ℕ → ℕ → List ℤ) → Task → ℕ → List ℤ → List ℤ
  given_at rows task time states = (states ++ map (λ s. input_value d.inputs samples s.input time) task.senses) ++ map (value_at rows time) task.reads

  -- the states before the instance at place n of task i
  pub states_at : (ℕ → ℕ → List ℤ) → ℕ → Task → ℕ → List ℤ
  states_at rows i task zero = map (λ s. s.first) task.states
  states_at rows i task (suc n) = states_after task (env_from task (given_at rows task (get_or (times_of batches i) n 0) (states_at rows i task n))) (states_at rows i task n)

  -- its environment
  abbrev pub env_at : (ℕ → ℕ → List ℤ) → ℕ → Task → ℕ → List ℤ
  env_at rows i task n = env_from task (given_at rows task (get_or (times_of batches i) n 0) (states_at rows i task n))

  pub states_at-none : (rows : ℕ → ℕ → List ℤ) (i : ℕ) (task : Task) → states_at rows i task 0 ≡ map (λ s. s.first) task.states
  unfolding states_at
  states_at-none rows i task = refl

  pub states_at-more : (rows : ℕ → ℕ → List ℤ) (i : ℕ) (task : Task) (n : ℕ) → states_at rows i task (suc n) ≡ states_after task (env_at rows i task n) (states_at rows i task n)
  unfolding states_at
  states_at-more rows i task n = refl

  -- the row with this number
  abbrev pub row_of : (ℕ → ℕ → List ℤ) → ℕ → Task → ℕ → List ℤ
  row_of rows i task zero = map (λ o. o.first) task.outs
  row_of rows i task (suc n) = outs_in task (env_at rows i task n)

  -- rows with a turn: first values, and then by time and by rank
  abbrev pub turn : ℕ → ℕ → ℕ
  turn i zero = 0
  turn i (suc n) = get_or (times_of batches i) n 0 * (sum_by (λ r. r) d.ranks + 1) + (get_or d.ranks i 0 + 1)

  -- the rows with earlier turns are the same
  pub record AgreeBelow (m : ℕ) (rows other : ℕ → ℕ → List ℤ) : Type 0 where
    pub same : (i n : ℕ) (task : Task) → slice_get d.tasks i ≡ Some task → n ≤ length (times_of batches i) → turn i n < m → rows i n ≡ other i n

  agree_less : (m n : ℕ) (rows other : ℕ → ℕ → List ℤ) → m ≤ n → AgreeBelow n rows other → AgreeBelow m rows other
  agree_less m n rows other less agree = record { same = λ i k task at few below. agree.same i k task at few (omega arith) }

  -- the equations of the rows
  pub record Solves (rows : ℕ → ℕ → List ℤ) : Type 0 where
    pub each : (i n : ℕ) (task : Task) → slice_get d.tasks i ≡ Some task → n ≤ length (times_of batches i) → rows i n ≡ row_of rows i task n

  earlier : (s t p q : ℕ) → s < t → p < sum_by (λ r. r) d.ranks + 1 → s * (sum_by (λ r. r) d.ranks + 1) + (p + 1) < t * (sum_by (λ r. r) d.ranks + 1) + (q + 1)
  earlier s t p q less few =
      let scaled : (s + 1) * (sum_by (λ r. r) d.ranks + 1) ≤ t * (sum_by (λ r. r) d.ranks + 1) = mul-le-mul_right (sum_by (λ r. r) d.ranks + 1) (omega arith) in
      omega (arith, scaled)

  module _ (plan : IsPlan d samples batches) where
    rises : (i : ℕ) → Rises (times_of batches i)
    rises i = times-rise batches i plan.rising

    within : (i time : ℕ) → count_until (times_of batches i) time ≤ length (times_of batches i)
    within i time = count_by-le-length (λ (t : ℕ). nat_le t time) (times_of batches i)

    turn_more : (i n : ℕ) → n < length (times_of batches i) → turn i n < turn i (suc n)
    turn_more i zero below = omega arith
    turn_more i (suc n) below =
        let less : get_or (times_of batches i) n 0 < get_or (times_of batches i) (suc n) 0 =
        (rises i).pairs n (suc n) (get_or (times_of batches i) n 0) (get_or (times_of batches i) (suc n) 0) (omega arith)
        (slice_get-get_or (times_of batches i) n 0 (omega arith)) (slice_get-get_or (times_of batches i) (suc n) 0 below) in
        earlier (get_or (times_of batches i) n 0) (get_or (times_of batches i) (suc n) 0) (get_or d.ranks i 0) (get_or d.ranks i 0) less (omega (arith, rank_le d.ranks i))

    -- a time that has come
    come : (w k time : ℕ) → k < count_until (times_of batches w) time → get_or (times_of batches w) k 0 ≤ time
    come w k time below = has_come (times_of batches w) k (get_or (times_of batches w) k 0) time (rises w) (slice_get-get_or (times_of batches w) k 0 (omega (arith, within w time))) below

    -- the rows of a higher rank until now
    direct_turn : (w i k n : ℕ) → k ≤ count_until (times_of batches w) (get_or (times_of batches i) n 0) → get_or d.ranks w 0 < get_or d.ranks i 0 → turn w k < turn i (suc n)
    direct_turn w i zero n few above = omega arith
    direct_turn w i (suc k) n few above =
        let until : get_or (times_of batches w) k 0 ≤ get_or (times_of batches i) n 0 = come w k (get_or (times_of batches i) n 0) (omega arith) in
        let scaled : get_or (times_of batches w) k 0 * (sum_by (λ r. r) d.ranks + 1) ≤ get_or (times_of batches i) n 0 * (sum_by (λ r. r) d.ranks + 1) = mul-le-mul_right (sum_by (λ r. r) d.ranks + 1) until in
        omega (arith, scaled)

    -- the rows before the last until now
    late_turn : (w i k n : ℕ) → k ≤ count_until (times_of batches w) (get_or (times_of batches i) n 0) - 1 → turn w k < turn i (suc n)
    late_turn w i zero n few = omega arith
    late_turn w i (suc k) n few =
        let inside : suc k < length (times_of batches w) = omega (arith, within w (get_or (times_of batches i) n 0)) in
        let until : get_or (times_of batches w) (suc k) 0 ≤ get_or (times_of batches i) n 0 = come w (suc k) (get_or (times_of batches i) n 0) (omega arith) in
        let less : get_or (times_of batches w) k 0 < get_or (times_of batches w) (suc k) 0 =
        (rises w).pairs k (suc k) (get_or (times_of batches w) k 0) (get_or (times_of batches w) (suc k) 0) (omega arith)
        (slice_get-get_or (times_of batches w) k 0 (omega arith)) (slice_get-get_or (times_of batches w) (suc k) 0 inside) in
        earlier (get_or (times_of batches w) k 0) (get_or (times_of batches i) n 0) (get_or d.ranks w 0) (get_or d.ranks i 0) (omega (arith, until, less)) (omega (arith, rank_le d.ranks w))

    pub task_rules : (i : ℕ) (task : Task) → slice_get d.tasks i ≡ Some task → IsClosedTask (length d.inputs) (length d.events) (length d.links) task
    task_rules i task at = all_place (IsClosedTask (length d.inputs) (length d.events) (length d.links)) d.tasks i task plan.ranked.closed.each at

    -- the link of a read, and its writer
    pub record IsLinkOf (i : ℕ) (task : Task) (read : Read) : Type 0 where
      pub link : Link
      pub has_link : slice_get d.links read.link ≡ Some link
      pub reader : link.reader ≡ i
      pub writer : Task
      pub has_writer : slice_get d.tasks link.writer ≡ Some writer
      pub port : read.port < length writer.outs

    pub link_of : (i k : ℕ) (task : Task) (read : Read) → slice_get d.tasks i ≡ Some task → slice_get task.reads k ≡ Some read → IsLinkOf i task read
    link_of i k task read at_task at_read =
        let closed : IsClosed d = plan.ranked.closed in
        let linked : read.link < length d.links = all_place (λ (r : Read). r.link < length d.links) task.reads k read (task_rules i task at_task).linked at_read in
        let l : (l : Link) × (slice_get d.links read.link ≡ Some l) = at_place d.links read.link linked in
        let writer : l.0.writer < length d.tasks = (closed_ends read.link l.0 l.1) in
        let w : (w : Task) × (slice_get d.tasks l.0.writer ≡ Some w) = at_place d.tasks l.0.writer writer in
        record {
          link = l.0;
          has_link = l.1;
          reader = closed.own i task read l.0 k at_task at_read l.1;
          writer = w.0;
          has_writer = w.1;
          port = closed.ports task w.0 read l.0 i k at_task at_read l.1 w.1;
        }
      where
        closed_ends : (p : ℕ) (l : Link) → slice_get d.links p ≡ Some l → l.writer < length d.tasks
        closed_ends p l at = all_place (λ (a : Link). a.writer < length d.tasks) d.links p l (λ j e below. (plan.ranked.closed.ends j e below).0) at

    -- what a read goes back to has an earlier turn
    read_turn : (i n : ℕ) (task : Task) (read : Read) (l : IsLinkOf i task read) → turn l.link.writer (count_until (times_of batches l.link.writer) (get_or (times_of batches i) n 0) - l.link.delay) < turn i (suc n)
    read_turn i n task read l = elim (cases_eq l.link.delay 0) [
      | inl direct ↦
          let above : get_or d.ranks l.link.writer 0 < get_or d.ranks l.link.reader 0 =
          all_place (λ (a : Link). a.delay ≡ 0 → get_or d.ranks a.writer 0 < get_or d.ranks a.reader 0) d.links read.link l.link plan.ranked.downward l.has_link direct in
          let rank : get_or d.ranks l.link.reader 0 ≡ get_or d.ranks i 0 = ap (λ p. get_or d.ranks p 0) l.reader in
          direct_turn l.link.writer i (count_until (times_of batches l.link.writer) (get_or (times_of batches i) n 0) - l.link.delay) n (omega arith) (omega arith)
      | inr late ↦ late_turn l.link.writer i (count_until (times_of batches l.link.writer) (get_or (times_of batches i) n 0) - l.link.delay) n (omega arith)
    ]

    -- so the values that an instance reads are the same
    value_same : (i n k : ℕ) (task : Task) (read : Read) (rows other : ℕ → ℕ → List ℤ) → slice_get d.tasks i ≡ Some task → slice_get task.reads k ≡ Some read
        → AgreeBelow (turn i (suc n)) rows other → value_at rows (get_or (times_of batches i) n 0) read ≡ value_at other (get_or (times_of batches i) n 0) read
    value_same i n k task read rows other at_task at_read agree =
        let l : IsLinkOf i task read = link_of i k task read at_task at_read in
        let number : ℕ = count_until (times_of batches l.link.writer) (get_or (times_of batches i) n 0) - l.link.delay in
        let few : number ≤ length (times_of batches l.link.writer) = omega (arith, within l.link.writer (get_or (times_of batches i) n 0)) in
        let row : rows l.link.writer number ≡ other l.link.writer number = agree.same l.link.writer number l.writer l.has_writer few (read_turn i n task read l) in
        rw l.has_link (ap (λ (r : List ℤ). get_or r read.port (pos 0)) row)

    env_same : (i n : ℕ) (task : Task) (rows other : ℕ → ℕ → List ℤ) → slice_get d.tasks i ≡ Some task → AgreeBelow (turn i (suc n)) rows other
        → states_at rows i task n ≡ states_at other i task n → env_at rows i task n ≡ env_at other i task n
    env_same i n task rows other at agree states =
        let time : ℕ = get_or (times_of batches i) n 0 in
        let words : map (value_at rows time) task.reads ≡ map (value_at other time) task.reads = map_same (value_at rows time) (value_at other time) task.reads (λ k read at_read. value_same i n k task read rows other at at_read agree) in
        ap (λ (s : List ℤ). env_from task (given_at rows task time s)) states
        ∙ ap (λ (ws : List ℤ). env_from task ((states_at other i task n ++ map (λ s. input_value d.inputs samples s.input time) task.senses) ++ ws)) words

    states_same : (i n : ℕ) (task : Task) (rows other : ℕ → ℕ → List ℤ) → slice_get d.tasks i ≡ Some task → n ≤ length (times_of batches i) → AgreeBelow (turn i n) rows other
        → states_at rows i task n ≡ states_at other i task n
    states_same i zero task rows other at few agree = states_at-none rows i task ∙ sym (states_at-none other i task)
    states_same i (suc n) task rows other at few agree =
        let states : states_at rows i task n ≡ states_at other i task n =
        states_same i n task rows other at (omega arith) (agree_less (turn i n) (turn i (suc n)) rows other (omega (arith, turn_more i n (omega arith))) agree) in
        let env : env_at rows i task n ≡ env_at other i task n = env_same i n task rows other at agree states in
        states_at-more rows i task n ∙ ap (λ e. states_after task e (states_at rows i task n)) env ∙ ap (λ s. states_after task (env_at other i task n) s) states ∙ sym (states_at-more other i task n)

    -- a row is determined by those with earlier turns
    row_same : (i n : ℕ) (task : Task) (rows other : ℕ → ℕ → List ℤ) → slice_get d.tasks i ≡ Some task → n ≤ length (times_of batches i) → AgreeBelow (turn i n) rows other
        → row_of rows i task n ≡ row_of other i task n
    row_same i zero task rows other at few agree = refl
    row_same i (suc n) task rows other at few agree =
        let states : states_at rows i task n ≡ states_at other i task n =
        states_same i n task rows other at (omega arith) (agree_less (turn i n) (turn i (suc n)) rows other (omega (arith, turn_more i n (omega arith))) agree) in
        ap (outs_in task) (env_same i n task rows other at agree states)

    -- there is one solution
    pub one_solution : (m : ℕ) (rows other : ℕ → ℕ → List ℤ) → Solves rows → Solves other → AgreeBelow m rows other
    one_solution zero rows other a b = record { same = λ i n task at few below. absurd (omega arith) }
    one_solution (suc m) rows other a b =
        let before : AgreeBelow m rows other = one_solution m rows other a b in
        record {
          same = λ i n task at few below.
              a.each i n task at few ∙ row_same i n task rows other at few (agree_less (turn i n) m rows other (omega arith) before) ∙ sym (b.each i n task at few);
        }

    -- and there is one: the rows after so many rounds
    rows_after : ℕ → ℕ → ℕ → List ℤ
    rows_after zero i n = []
    rows_after (suc m) i n = option_map_or (λ task. row_of (rows_after m) i task n) (slice_get d.tasks i) []

    rows_after-more : (m i n : ℕ) (task : Task) → slice_get d.tasks i ≡ Some task → rows_after (suc m) i n ≡ row_of (rows_after m) i task n
    unfolding rows_after
    rows_after-more m i n task at = rw at refl

    agree_after : (m : ℕ) → AgreeBelow m (rows_after m) (rows_after (suc m))
    agree_after zero = record { same = λ i n task at few below. absurd (omega arith) }
    agree_after (suc m) =
        let before : AgreeBelow m (rows_after m) (rows_after (suc m)) = agree_after m in
        record {
          same = λ i n task at few below.
              rows_after-more m i n task at ∙ row_same i n task (rows_after m) (rows_after (suc m)) at few (agree_less (turn i n) m (rows_after m) (rows_after (suc m)) (omega arith) before)
              ∙ sym (rows_after-more (suc m) i n task at);
        }

    last_turn : (i n : ℕ) → n ≤ length (times_of batches i) → turn i n < d.until * (sum_by (λ r. r) d.ranks + 1) + 1
    last_turn i zero few = omega arith
    last_turn i (suc n) few =
        let ends : All (λ t. t < d.until) (times_of batches i) = times_all (λ t. t < d.until) batches i plan.ends in
        let end : get_or (times_of batches i) n 0 < d.until = ends n 0 (omega arith) in
        omega (arith, earlier (get_or (times_of batches i) n 0) d.until (get_or d.ranks i 0) 0 end (omega (arith, rank_le d.ranks i)))

    pub solution : ℕ → ℕ → List ℤ
    solution = rows_after (d.until * (sum_by (λ r. r) d.ranks + 1) + 1)

    pub solution-solves : Solves solution
    unfolding solution
    solution-solves =
        let rounds : ℕ = d.until * (sum_by (λ r. r) d.ranks + 1) + 1 in
        record { each = λ i n task at few. (agree_after rounds).same i n task at few (last_turn i n few) ∙ rows_after-more rounds i n task at }
