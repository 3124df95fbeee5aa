-- Masks of ranks: their bits, what they say of the tasks that block a step, and that they stay right from step to step.
use Rattle.std.proofs.Common.{◌≡◌, ◌≢◌, ℕ, zero, suc, ◌<◌, ◌≤◌, ◌^◌, true, false, length, get_or, Option, Some, None, refl, sym, ◌∙◌, ap, arith, inl, inr, get_or-set_other, get_or-set_same, w32}
use Rattle.std.specs.Prelude.{Result, nat_lt, ◌==◌, slice_get}
use Rattle.std.specs.Int.{bit_at, trailing_zeros}
use Rattle.std.proofs.lemmas.Bool.{cases_Bool, cases_eq, eq-eqb, ltb-true, ne_eqb}
use Rattle.std.proofs.lemmas.Nat.Bits.{bit_at-trailing_zeros, bit_at-zero}
use Rattle.std.proofs.lemmas.Option.{same_Some, slice_get-get_or}
use Rattle.dbp_plan.specs.declared.plan.Plan.{Plan}
use Rattle.dbp_plan.proofs.RankLaws.{rank-below, length-ranks}
use Rattle.dbp_rules.specs.Lookups.{no_task, no_task_entry, task, task_entry, wired_task}
use Rattle.dbp_rules.specs.Rules as rule
use Rattle.dbp_rules.specs.Shapes.{IsShape, IsWired}
use Rattle.dbp_rules.specs.Start.{start_of}
use Rattle.dbp_rules.specs.Wired.{wiring_of}
use Rattle.dbp_rules.specs.declared.parts.TaskEntry.{TaskEntry}
use Rattle.dbp_rules.specs.declared.state.State.{State}
use Rattle.dbp_rules.specs.declared.state.TaskState.{TaskState}
use Rattle.dbp_rules.specs.declared.step.Count.{Count}
use Rattle.dbp_rules.specs.declared.step.Heard.{Heard}
use Rattle.dbp_rules.specs.declared.step.Illegal.{Illegal}
use Rattle.dbp_rules.specs.declared.step.Step.{Step}
use Rattle.dbp_rules.specs.declared.step.Step.TheVariants.{Seen, Aim, Claim, OpenGate, Start, Hear, Look, Take, Shut, Put, Done, End}
use Rattle.dbp_rules.specs.declared.wiring.Wiring.{Wiring}
use Rattle.dbp_rules.proofs.SoundOwn.{IsOwn, own_wiring, rank_is}
use Rattle.dbp_rules.proofs.StartShape.{start_shape}
use Rattle.dbp_core.specs.declared.rank_mask.RankMask.{RankMask}
use Rattle.dbp_core.specs.Unfinished.{HasRanks, HasUnfinished, has_rank, is_unfinished, recounted_task}

-- ---- bits

-- below the lowest bit there is none
pub none_below : (n r rank : ℕ) → n < 2 ^ 32 → rank ≤ trailing_zeros w32 n → r < rank → (bit_at n r == 1) ≡ false
none_below n r rank few above below = elim (cases_eq n 0) [
  | inl empty ↦ rw empty (ne_eqb (bit_at 0 r) 1 (λ is. absurd (omega (arith, is, bit_at-zero r))))
  | inr some ↦
      let at = bit_at-trailing_zeros w32 n (omega arith) few in
      let none : bit_at n r ≡ 0 = at.2 r (omega arith) in
      ne_eqb (bit_at n r) 1 (λ is. absurd (omega (arith, is, none)))
]

-- 0 has none
no_bit : trailing_zeros w32 0 ≡ 32
unfolding lib.Count.count_trailing_zeros
no_bit = refl

-- the lowest bit is one
pub some_below : (n rank : ℕ) → n < 2 ^ 32 → trailing_zeros w32 n < rank → rank ≤ 32 → (r : ℕ) × (r < rank) × ((bit_at n r == 1) ≡ true)
some_below n rank few below fits = elim (cases_eq n 0) [
  | inl empty ↦ absurd (omega (arith, below, fits, ap (trailing_zeros w32) empty ∙ no_bit))
  | inr some ↦
      let at = bit_at-trailing_zeros w32 n (omega arith) few in
      (trailing_zeros w32 n, below, eq-eqb (bit_at n (trailing_zeros w32 n)) 1 at.1)
]

-- ---- tasks that block a step

-- without a rank above there is no task that blocks
pub none_blocks : (w : Wiring) (s : State) (m : RankMask) (i : ℕ) → HasUnfinished w s m → ((r : ℕ) → r < (wired_task w i).rank → has_rank m r ≡ false) → (n : ℕ) → n ≤ length w.tasks → rule.highest w (rule.blocks w s i) n ≡ None
none_blocks w s m i marked none zero few = refl
none_blocks w s m i marked none (suc n) few =
    let rest : rule.highest w (rule.blocks w s i) n ≡ None = none_blocks w s m i marked none n (omega arith) in
    let free : rule.blocks w s i n ≡ false = elim (cases_Bool (nat_lt (wired_task w n).rank (wired_task w i).rank)) [
      | inl above ↦
          let ended : is_unfinished s n ≡ false = sym (marked n (omega arith)) ∙ none (wired_task w n).rank (ltb-true (wired_task w n).rank (wired_task w i).rank above) in
          rw (above, ended) refl
      | inr below ↦ rw below refl
    ] in
    rw (free, rest) refl

-- ---- the ranks of a plan

pub has_ranks : (p : Plan) (count : Count) → HasRanks (wiring_of p count)
has_ranks p count =
    let own : IsOwn p (wiring_of p count) = own_wiring p count in
    record {
      few = λ i below.
          let there : i < length p.diagram.tasks = omega (arith, below, own.whole.tasks) in
          let at : slice_get p.diagram.ranks i ≡ Some (get_or p.diagram.ranks i 0) = slice_get-get_or p.diagram.ranks i 0 (omega (arith, there, length-ranks p.diagram p.rules.ranked)) in
          let rank : get_or p.diagram.ranks i 0 < length p.diagram.tasks =
          rank-below p.diagram.policy p.diagram.tasks i (get_or p.diagram.ranks i 0) (ap (λ rs. slice_get rs i) (sym p.rules.ranked.ranks) ∙ at) in
          omega (arith, rank, rank_is p count i there, p.rules.ranked.closed.tasks);
      apart = own.ranks;
    }

-- ---- steps

module _ (p : Plan) (w : Wiring) (s : State) (shape : IsShape p w s) where
  -- a task with another part that has ended as often
  same_ended : (i j : ℕ) (t : TaskState) → i < length w.tasks → t.part.ended ≡ (task s i).part.ended → is_unfinished (rule.with_task s i t) j ≡ is_unfinished s j
  same_ended i j t below same = elim (cases_eq j i) [
    | inl here ↦ rw (here, get_or-set_same s.tasks i t no_task (rw shape.tasks below), same) refl
    | inr other ↦ rw (get_or-set_other s.tasks i j t no_task other) refl
  ]

  -- an entry that is aimed as far
  same_aimed : (i j : ℕ) (e : TaskEntry) → i < length w.tasks → e.aimed ≡ (task_entry s i).aimed → is_unfinished (rule.with_entry s i e) j ≡ is_unfinished s j
  same_aimed i j e below same = elim (cases_eq j i) [
    | inl here ↦ rw (here, get_or-set_same s.releaser.tasks i e no_task_entry (rw shape.entries below), same) refl
    | inr other ↦ rw (get_or-set_other s.releaser.tasks i j e no_task_entry other) refl
  ]

  there : (i : ℕ) → i < length p.diagram.tasks → i < length w.tasks
  there i below = rw shape.wiring.tasks below

  -- a step leaves all tasks but the one that it aims or ends as unfinished as they were
  next_unfinished : (e : Step) (j : ℕ) → rule.IsNamed p.diagram e → recounted_task e ≢ Some j → is_unfinished (rule.next p w s e) j ≡ is_unfinished s j
  next_unfinished (Seen i) j named other = same_aimed i j _ (there i named) refl
  next_unfinished (Aim i slot) j named other =
      let apart : j ≢ i = λ same. other (ap (λ n. Some n) (sym same)) in
      rw (get_or-set_other s.releaser.tasks i j _ no_task_entry apart, get_or-set_other s.tasks i j _ no_task apart) refl
  next_unfinished (Claim k) j named other = refl
  next_unfinished (OpenGate i) j named other = same_ended i j _ (there i named) refl
  next_unfinished (Start i) j named other = same_ended i j _ (there i named) (elim (cases_Bool (rule.is_open s i)) [ inl is ↦ rw is refl | inr isnt ↦ rw isnt refl ])
  next_unfinished (Hear i) j named other = same_ended i j _ (there i named) refl
  next_unfinished (Look i r) j named other =
      same_ended i j _ (there i named) (elim (cases_Bool (rule.is_ready w s i (rule.turn_at (task s i).part.place))) [ inl is ↦ rw is refl | inr isnt ↦ rw isnt refl ])
  next_unfinished (Take i r) j named other = same_ended i j _ (there i named) refl
  next_unfinished (Shut i) j named other = same_ended i j _ (there i named) refl
  next_unfinished (Put i port) j named other = same_ended i j _ (there i named) refl
  next_unfinished (Done i) j named other = same_ended i j _ (there i named) refl
  next_unfinished (End i) j named other =
      let apart : j ≢ i = λ same. other (ap (λ n. Some n) (sym same)) in
      rw (get_or-set_other s.tasks i j _ no_task apart) refl

  -- so it is however the step is answered
  pub asked_unfinished : (new : State) (e : Step) (result : Result Heard Illegal) (j : ℕ) → rule.IsNamed p.diagram e → rule.IsStep p w s e result new → recounted_task e ≢ Some j → is_unfinished new j ≡ is_unfinished s j
  asked_unfinished new e result j named is other = answered (rule.refusal w s e) is
    where
      answered : (o : Option Illegal) → rule.IsAnswer o p w s e result new → is_unfinished new j ≡ is_unfinished s j
      answered None is = ap (λ x. is_unfinished x j) is.1 ∙ next_unfinished e j named other
      answered (Some why) is = ap (λ x. is_unfinished x j) is.1

-- the task that a step aims or ends is there
pub recounted_there : (p : Plan) (e : Step) (i : ℕ) → rule.IsNamed p.diagram e → recounted_task e ≡ Some i → i < length p.diagram.tasks
recounted_there p (Aim k slot) i named is = let same : Some k ≡ Some i = is in rw (same_Some k i same) at named
recounted_there p (End k) i named is = let same : Some k ≡ Some i = is in rw (same_Some k i same) at named
recounted_there p _ i named is = absurd (cc (is))

-- nothing is unfinished before the first step
pub start_unfinished : (p : Plan) (w : Wiring) (m : RankMask) → IsWired p w → ((r : ℕ) → has_rank m r ≡ false) → HasUnfinished w (start_of p w) m
start_unfinished p w m whole empty i below =
    let shape : IsShape p w (start_of p w) = start_shape p w whole in
    let none : (task_entry (start_of p w) i).aimed ≡ 0 = shape.aimed i below in
    empty (wired_task w i).rank ∙ sym (never (task (start_of p w) i).part.ended (task_entry (start_of p w) i).aimed none)
  where
    never : (ended aimed : ℕ) → aimed ≡ 0 → nat_lt ended aimed ≡ false
    never ended aimed none = elim (cases_Bool (nat_lt ended aimed)) [
      | inl is ↦ absurd (omega (arith, none, ltb-true ended aimed is))
      | inr isnt ↦ isnt
    ]
