-- What a task's party has after each of its steps, at the terms of the calls.
use Rattle.std.proofs.Common.{◌≡◌, ℕ, ℤ, ◌+◌, ◌<◌, ◌≤◌, Bool, true, false, length, set, refl, sym, ◌∙◌, ap, subst, arith}
use Rattle.std.specs.Prelude.{MatchBool}
use Rattle.dbp_plan.specs.declared.plan.Plan.{Plan}
use Rattle.dbp_plan.specs.declared.table.TaskRows.{TaskRows}
use Rattle.dbp_plan.specs.Lookups.{declared_task}
use Rattle.dbp_plan.specs.Occurrences.{times_of}
use Rattle.sync_meaning.specs.SomeMeaning.{meaning_of}
use Rattle.dbp_rules.specs.Moves as move
use Rattle.dbp_rules.specs.PartyRules.{a_number, a_value, an_order, no_word, task_after}
use Rattle.dbp_rules.specs.Lookups.{read_at, wired_task}
use Rattle.dbp_rules.specs.Promises.{IsMeant}
use Rattle.dbp_rules.specs.Shapes.{PlaceIn, running_count}
use Rattle.dbp_rules.specs.SoundParts.{shut_by}
use Rattle.dbp_rules.specs.Work.{WorkWords}
use Rattle.dbp_rules.specs.declared.parts.Order.{Order}
use Rattle.dbp_rules.specs.declared.parts.Place.{Place}
use Rattle.dbp_rules.specs.declared.parts.Place.TheVariants as place
use Rattle.dbp_rules.specs.declared.parts.TaskPart.{TaskPart}
use Rattle.dbp_rules.specs.declared.step.Step.TheVariants as step
use Rattle.dbp_rules.specs.declared.wiring.TaskWiring.{TaskWiring}
use Rattle.word_rule.specs.Roles.{meaning_row, run_wiring}
use Rattle.word_rule.specs.Seats.{TaskSits, TaskSteps}
use Rattle.word_rule.specs.declared.seats.Look.{Look}
use Rattle.word_rule.specs.declared.seats.Look.TheVariants.{NotYet, Ready}
use Rattle.word_rule.specs.declared.seats.Opened.{Opened}
use Rattle.word_rule.specs.declared.seats.Opened.TheVariants.{Closed, Started}
use Rattle.word_rule.specs.declared.seats.SlotWords.{SlotWords}
use Rattle.word_rule.specs.declared.seats.TaskSeat.{TaskSeat}
use Rattle.word_rule.proofs.TaskCalls.{inside, shape, task_wired, wired_is}
use Rattle.party_turns.specs.Computed.{HasComputed, plan_of_task}
use Rattle.party_turns.specs.Turns.{delay_of_read, stepped_if}
use Rattle.party_turns.specs.declared.task_party.TaskParty.{TaskParty}
use Rattle.party_turns.specs.declared.turn.Turn.{Turn}
use Rattle.party_turns.specs.declared.turn.Cause.TheVariants.{NotOpened, WriterNotDone}
use Rattle.party_turns.specs.declared.turn.Turn.TheVariants.{Idle, Stepped}
use Rattle.party_turns.proofs.Seats.{has_then}
use Rattle.party_turns.proofs.Stays.{after_done, after_hear, after_look, after_put, after_start}
use Rattle.party_turns.proofs.Works.{after_end, after_take, meant_width}

module _ (w : SlotWords) (s : TaskParty) (here : TaskSits w s.seat) where
  abbrev p : Plan
  p = plan_of_task s.seat

  abbrev i : ℕ
  i = s.seat.task

  abbrev t : TaskPart
  t = s.seat.part

  abbrev its : TaskWiring
  its = wired_task w.wiring s.seat.task

  module _ (new : TaskSeat) (steps : TaskSteps s.seat new) where
    pub has_started : (gate : ℕ) → t.place ≡ place.Idle → new.part ≡ task_after its t (step.Start i) (a_number gate) → HasComputed (plan_of_task new) new.task new.part s.work s.rows
    has_started gate at part = has_then w s.seat new here steps (step.Start i) (a_number gate) s.work s.rows part (after_start p i t s.work s.rows s.computed (a_number gate) at)

    pub has_heard : (n : ℕ) (o : Order) → t.place ≡ place.Hear n → new.part ≡ task_after its t (step.Hear i) (an_order o) → HasComputed (plan_of_task new) new.task new.part s.work s.rows
    has_heard n o at part = has_then w s.seat new here steps (step.Hear i) (an_order o) s.work s.rows part (after_hear p i t s.work s.rows s.computed n (an_order o) at)

    pub has_looked : (n r stamp : ℕ) → t.place ≡ place.Look n → new.part ≡ task_after its t (step.Look i r) (a_number stamp) → HasComputed (plan_of_task new) new.task new.part s.work s.rows
    has_looked n r stamp at part = has_then w s.seat new here steps (step.Look i r) (a_number stamp) s.work s.rows part (after_look p i t s.work s.rows s.computed n r (a_number stamp) at)

    pub has_taken : (n r : ℕ) (word : ℤ) → t.place ≡ place.Take n → n < length its.reads → r ≡ (read_at its n).read
        → IsMeant w.plan (meaning_of w.plan) i (t.ended + 1) r word → new.part ≡ task_after its t (step.Take i r) (a_value word)
        → HasComputed (plan_of_task new) new.task new.part (move.with_read (declared_task w.plan i) s.work r word) s.rows
    has_taken n r word at few read meant part =
        let spot : ℕ = length (declared_task w.plan i).states + length (declared_task w.plan i).senses + r in
        let own_few : n < length (wired_task (run_wiring p) i).reads = omega (arith, few, ap (λ (x : TaskWiring). length x.reads) (wired_is w s.seat here)) in
        let own_read : r ≡ (read_at (wired_task (run_wiring p) i) n).read = read ∙ ap (λ (x : TaskWiring). (read_at x n).read) (sym (wired_is w s.seat here)) in
        let own_spot : spot ≡ length (declared_task p i).states + length (declared_task p i).senses + r = ap (λ (x : Plan). length (declared_task x i).states + length (declared_task x i).senses + r) (sym here.1) in
        let own_meant : IsMeant p (meaning_of p) i (t.ended + 1) r word = subst (λ (x : Plan). IsMeant x (meaning_of x) i (t.ended + 1) r word) (sym here.1) meant in
        has_then w s.seat new here steps (step.Take i r) (a_value word) (record s.work { now = set s.work.now spot word }) s.rows part
        (after_take p i (inside w s.seat here) t s.work s.rows s.computed n r spot word (a_value word) at own_few own_read own_spot own_meant)

    pub has_shut : (work : WorkWords) (rows : TaskRows) → HasComputed p i (move.at_place t (place.Put 0)) work rows → new.part ≡ task_after its t (step.Shut i) no_word → HasComputed (plan_of_task new) new.task new.part work rows
    has_shut work rows has part = has_then w s.seat new here steps (step.Shut i) no_word work rows part has

    pub has_put : (port : ℕ) → t.place ≡ place.Put port → new.part ≡ task_after its t (step.Put i port) no_word → HasComputed (plan_of_task new) new.task new.part s.work s.rows
    has_put port at part = has_then w s.seat new here steps (step.Put i port) no_word s.work s.rows part (after_put p i t s.work s.rows s.computed port port no_word at)

    pub has_finished : t.place ≡ place.Done → new.part ≡ task_after its t (step.Done i) no_word → HasComputed (plan_of_task new) new.task new.part s.work s.rows
    has_finished at part = has_then w s.seat new here steps (step.Done i) no_word s.work s.rows part (after_done p i t s.work s.rows s.computed no_word at)

    pub has_ended : t.place ≡ place.End → new.part ≡ task_after its t (step.End i) no_word → HasComputed (plan_of_task new) new.task new.part (move.after_advance s.work) s.rows
    has_ended at part = has_then w s.seat new here steps (step.End i) no_word (move.after_advance s.work) s.rows part (after_end p i (inside w s.seat here) t s.work s.rows s.computed no_word at)

  -- the place of a read's word is one of the environment's
  pub spot_inside : (n r : ℕ) → n < length its.reads → r ≡ (read_at its n).read → length (declared_task w.plan i).states + length (declared_task w.plan i).senses + r < length s.work.now
  spot_inside n r few read =
      let spot : ℕ = length (declared_task w.plan i).states + length (declared_task w.plan i).senses + r in
      let own_few : n < length (wired_task (run_wiring p) i).reads = omega (arith, few, ap (λ (x : TaskWiring). length x.reads) (wired_is w s.seat here)) in
      let own_read : r ≡ (read_at (wired_task (run_wiring p) i) n).read = read ∙ ap (λ (x : TaskWiring). (read_at x n).read) (sym (wired_is w s.seat here)) in
      let own_spot : spot ≡ length (declared_task p i).states + length (declared_task p i).senses + r = ap (λ (x : Plan). length (declared_task x i).states + length (declared_task x i).senses + r) (sym here.1) in
      omega (arith, s.computed.words.now, own_spot, own_read, ((task_wired w s.seat here).each_read n own_few).read)

  -- the row has a word of each port
  pub port_inside : (port : ℕ) → t.place ≡ place.Put port → port < length s.work.row
  port_inside port at =
      let few : port < (wired_task (run_wiring p) i).ports = subst (λ (q : Place). PlaceIn (wired_task (run_wiring p) i) q) at (shape w s.seat here).place in
      let occurs : t.ended + 1 ≤ length (times_of p.batches i) = omega (arith, (shape w s.seat here).occurs, ap running_count at, ap length (task_wired w s.seat here).times) in
      let row : s.work.row ≡ meaning_row p i (t.ended + 1) = s.computed.words.row ∙ ap (λ (x : ℕ). meaning_row p i (t.ended + x)) (ap shut_by at) in
      omega (arith, few, (task_wired w s.seat here).ports, ap length row, meant_width p i (t.ended + 1) s.seat.same.named occurs)

-- ---- what a start and a look return

pub started : (b : Bool) (gate : ℕ) (r : Opened) → MatchBool b (r ≡ Started) (r ≡ Closed gate) → r ≡ Started → Stepped ≡ stepped_if b (Idle NotOpened)
started true gate r told is = refl
started false gate r told is = absurd (cc (told, is))

pub not_started : (b : Bool) (gate found : ℕ) (r : Opened) → MatchBool b (r ≡ Started) (r ≡ Closed gate) → r ≡ Closed found → Idle NotOpened ≡ stepped_if b (Idle NotOpened)
not_started true gate found r told is = absurd (cc (told, is))
not_started false gate found r told is = refl

pub looked : (b : Bool) (stamp : ℕ) (r : Look) → MatchBool b (r ≡ Ready) (r ≡ NotYet stamp) → r ≡ Ready → Stepped ≡ stepped_if b (Idle WriterNotDone)
looked true stamp r told is = refl
looked false stamp r told is = absurd (cc (told, is))

pub not_ready : (b : Bool) (stamp found : ℕ) (r : Look) → MatchBool b (r ≡ Ready) (r ≡ NotYet stamp) → r ≡ NotYet found → Idle WriterNotDone ≡ stepped_if b (Idle WriterNotDone)
not_ready true stamp found r told is = absurd (cc (told, is))
not_ready false stamp found r told is = refl

-- a look over a delayed link doesn't wait
pub never_late : (w : SlotWords) (i read r : ℕ) (look : Look) (found : ℕ) (turn : Turn) → (0 < delay_of_read w i read → look ≡ Ready) → look ≡ NotYet found
    → step.Look i read ≡ step.Look i r → 0 < delay_of_read w i r → turn ≡ Stepped
never_late w i read r look found turn ready waits is late =
    let same : r ≡ read = cc (is) in
    let found_it : look ≡ Ready = ready (subst (λ (n : ℕ). 0 < delay_of_read w i n) same late) in
    absurd (cc (found_it, waits))
