-- Ranks differ, and so do keys; a task's times rise.
use Rattle.std.proofs.Common.{◌≡◌, ℕ, ◌<◌, ◌≤◌, length, slice_index, slice_index_or, Some, ◌∙◌, ap, arith}
use Rattle.std.specs.Prelude.{unwrap_or}
use Rattle.std.proofs.lemmas.Option.{slice_get-get_or}
use Rattle.dbp_plan.specs.declared.diagram.Diagram.{Diagram}
use Rattle.dbp_plan.specs.declared.diagram.ServedBy.{ServedBy}
use Rattle.dbp_plan.specs.declared.diagram.ServedBy.TheVariants.{Rank, Deadline}
use Rattle.dbp_plan.specs.declared.plan.Plan.{Plan}
use Rattle.dbp_plan.specs.Lookups.{no_declared_task}
use Rattle.dbp_plan.specs.Occurrences.{times_of, time_of}
use Rattle.dbp_plan.specs.Policies.{served_by}
use Rattle.dbp_plan.specs.Ranked.{IsRanked}
use Rattle.dbp_plan.specs.Times.{times-rise}
use Rattle.dbp_plan.proofs.RankLaws.{length-ranks, ranking}
use Rattle.dbp_plan.proofs.TaskTimes.{time_of-rises}
use Rattle.rank_order.specs.Order.{key_by, key_of}

-- tasks of one rank are one task
pub one-task : (d : Diagram) → IsRanked d → (i j : ℕ) → i < length d.tasks → j < length d.tasks → slice_index d.ranks i ≡ slice_index d.ranks j → i ≡ j
one-task d ranked i j i_named j_named same =
    let size : length d.ranks ≡ length d.tasks = length-ranks d ranked in
    (ranking d ranked).apart i j (slice_index d.ranks j)
    (slice_get-get_or d.ranks i 0 (omega (arith, i_named, size)) ∙ ap (λ (r : ℕ). Some r) same)
    (slice_get-get_or d.ranks j 0 (omega (arith, j_named, size)))

same_key : (by : ServedBy) (d : Diagram) (i j a b : ℕ) → (slice_index d.ranks i ≡ slice_index d.ranks j → i ≡ j)
    → (key_by by d i a).first ≡ (key_by by d j b).first → (key_by by d i a).second ≡ (key_by by d j b).second → (i ≡ j) × (a ≡ b)
same_key Rank d i j a b one first second = (one first, second)
same_key Deadline d i j a b one first second =
    let task : i ≡ j = one second in
    let deadline : unwrap_or (slice_index_or d.tasks i no_declared_task).deadline 0 ≡ unwrap_or (slice_index_or d.tasks j no_declared_task).deadline 0 = ap (λ k. unwrap_or (slice_index_or d.tasks k no_declared_task).deadline 0) task in
    (task, omega (arith, first, deadline))

-- instances of one key are of one task and released at one time
pub one_key : (d : Diagram) → IsRanked d → (i j a b : ℕ) → i < length d.tasks → j < length d.tasks
    → (key_of d i a).first ≡ (key_of d j b).first → (key_of d i a).second ≡ (key_of d j b).second → (i ≡ j) × (a ≡ b)
one_key d ranked i j a b i_named j_named first second = same_key (served_by d.policy) d i j a b (one-task d ranked i j i_named j_named) first second

-- of two instances of one task the later one is released later
pub releases-rise : (p : Plan) (i m n : ℕ) → 1 ≤ m → m < n → n ≤ length (times_of p.batches i) → time_of p.batches i m < time_of p.batches i n
releases-rise p i m n some less within = time_of-rises p.batches i m n (times-rise p.batches i p.rules.rising) some less within
