-- A task's steps: each is allowed if the task stands before it and no higher-ranked task is due, and changes that task alone.
use Rattle.std.proofs.Common.{◌≡◌, ℕ, zero, suc, ◌+◌, ◌-◌, ◌<◌, Bool, true, false, length, get_or, Option, None, refl, sym, ap, ◌∙◌, subst, arith, inl, inr, get_or-set_other, get_or-set_same}
use Rattle.std.specs.Prelude.{nat_lt, nat_le, ◌&&◌}
use Rattle.std.proofs.lemmas.Bool.{cases_eq, eq-eqb, lt-leb, ltb-true}
use Rattle.dbp_plan.specs.declared.plan.Plan.{Plan}
use Rattle.dbp_rules.specs.Moves as move
use Rattle.dbp_rules.specs.Lookups.{no_task, read_at, task, task_entry, wired_task}
use Rattle.dbp_rules.specs.Rules as rule
use Rattle.dbp_rules.specs.Rules.{with_task}
use Rattle.dbp_rules.specs.declared.parts.Place.{Place}
use Rattle.dbp_rules.specs.declared.parts.Place.TheVariants as place
use Rattle.dbp_rules.specs.declared.state.State.{State}
use Rattle.dbp_rules.specs.declared.state.TaskState.{TaskState}
use Rattle.dbp_rules.specs.declared.step.Broken.{Broken}
use Rattle.dbp_rules.specs.declared.step.Broken.TheVariants as broken
use Rattle.dbp_rules.specs.declared.step.Count.{Count}
use Rattle.dbp_rules.specs.declared.step.Count.TheVariants.{All, Ranked}
use Rattle.dbp_rules.specs.declared.step.Step.TheVariants.{Start, Hear, Look, Take, Shut, Put, Done, End}
use Rattle.dbp_rules.specs.declared.wiring.Wiring.{Wiring}
use Rattle.instance_steps.specs.Plays.{Moves}
use Rattle.instance_steps.specs.TaskPieces.{ChangesTask, MayStep}

-- ---- the condition on higher ranks

highest_none : (w : Wiring) (f : ℕ → Bool) (n : ℕ) → ((r : ℕ) → r < n → f r ≡ false) → rule.highest w f n ≡ None
highest_none w f zero none = refl
highest_none w f (suc n) none = rw (none n (omega arith), highest_none w f n (λ r below. none r (omega arith))) refl

-- of three tests the last fails if the first two pass
third_fails : (a b c : Bool) → (a ≡ true → b ≡ true → c ≡ false) → (a && (b && c)) ≡ false
third_fails true true c fails = fails refl refl
third_fails true false c fails = refl
third_fails false b c fails = refl

pub unblocked_from : (c : Count) (w : Wiring) (s : State) (i : ℕ) → (c ≡ Ranked → (r : ℕ) → r < length w.tasks → rule.blocks w s i r ≡ false) → rule.blocker_refusal c w s i ≡ None
unblocked_from All w s i free = refl
unblocked_from Ranked w s i free = ap (λ (o : Option ℕ). rule.none_of o broken.HigherUnfinished i) (highest_none w (rule.blocks w s i) (length w.tasks) (free refl))

pub may_step_free : (w : Wiring) (s : State) (i : ℕ) → MayStep w s i → rule.blocker_refusal w.count w s i ≡ None
may_step_free w s i may = unblocked_from w.count w s i (λ ranked r below. third_fails
    (nat_lt (wired_task w r).rank (wired_task w i).rank)
    (nat_lt (task s r).part.ended (task_entry s r).aimed)
    (nat_le (rule.own_time w s r) (rule.own_time w s i))
    (λ above left.
    let later : rule.own_time w s i < rule.own_time w s r = may ranked r below (ltb-true (wired_task w r).rank (wired_task w i).rank above) (ltb-true (task s r).part.ended (task_entry s r).aimed left) in
    lt-leb (rule.own_time w s r) (rule.own_time w s i) later))

-- ---- one task changed

pub with_task_changes : (s : State) (i : ℕ) (t : TaskState) → i < length s.tasks → t.words.gate ≡ (task s i).words.gate → ChangesTask s (with_task s i t) i t.part.ended t.part.place
with_task_changes s i t inside gate =
    let own : task (with_task s i t) i ≡ t = get_or-set_same s.tasks i t no_task inside in
    record {
      releaser = refl;
      orders = refl;
      others = λ j other. get_or-set_other s.tasks i j t no_task other;
      gate = ap (λ (x : TaskState). x.words.gate) own ∙ gate;
      ended = ap (λ (x : TaskState). x.part.ended) own;
      place = ap (λ (x : TaskState). x.part.place) own;
    }

pub changes_on : (s u v : State) (i m n : ℕ) (a b : Place) → ChangesTask s u i m a → ChangesTask u v i n b → ChangesTask s v i n b
changes_on s u v i m n a b first then_ = record {
  releaser = then_.releaser ∙ first.releaser;
  orders = then_.orders ∙ first.orders;
  others = λ j other. then_.others j other ∙ first.others j other;
  gate = then_.gate ∙ first.gate;
  ended = then_.ended;
  place = then_.place;
}

-- the ended number of each task is as it was, if that of the changed one is
pub changed_ended : (s u : State) (i r : ℕ) (a : Place) → ChangesTask s u i (task s i).part.ended a → (task u r).part.ended ≡ (task s r).part.ended
changed_ended s u i r a changes = elim (cases_eq r i) [
  | inl same ↦ subst (λ (x : ℕ). (task u x).part.ended ≡ (task s x).part.ended) (sym same) changes.ended
  | inr other ↦ ap (λ (t : TaskState). t.part.ended) (changes.others r other)
]

pub may_step_on : (w : Wiring) (s u : State) (i : ℕ) (a : Place) → ChangesTask s u i (task s i).part.ended a → MayStep w s i → MayStep w u i
may_step_on w s u i a changes may = λ ranked r below above left.
    let ended : (k : ℕ) → (task u k).part.ended ≡ (task s k).part.ended = λ k. changed_ended s u i k a changes in
    let time_of_ : (k : ℕ) → rule.own_time w u k ≡ rule.own_time w s k = λ k. ap (λ (n : ℕ). get_or (wired_task w k).times (n + 1 - 1) 0) (ended k) in
    let aimed : (task_entry u r).aimed ≡ (task_entry s r).aimed = rw changes.releaser refl in
    let later : rule.own_time w s i < rule.own_time w s r = may ranked r below above (omega (arith, left, ended r, aimed)) in
    omega (arith, later, time_of_ i, time_of_ r)

-- ---- the steps

-- the step of this kind with this subject is the task's next one
is_next_from : (b : Broken) (next : ℕ × ℕ) (kind subject : ℕ) → next.0 ≡ kind → next.1 ≡ subject → rule.is_next b next kind subject ≡ None
is_next_from b next kind subject same also = rw (eq-eqb next.0 kind same, eq-eqb next.1 subject also) refl

module _ (p : Plan) (w : Wiring) (s : State) (i : ℕ) (named : i < length p.diagram.tasks) (inside : i < length s.tasks) (may : MayStep w s i) where
  next_from : (q : Place) (kind subject : ℕ) → (task s i).part.place ≡ q → (rule.place_kind (wired_task w i) q).0 ≡ kind → (rule.place_kind (wired_task w i) q).1 ≡ subject → rule.steps_next w s i kind subject ≡ None
  next_from q kind subject at same also =
      is_next_from broken.TaskPlace (rule.place_kind (wired_task w i) (task s i).part.place) kind subject
      (ap (λ (x : Place). (rule.place_kind (wired_task w i) x).0) at ∙ same)
      (ap (λ (x : Place). (rule.place_kind (wired_task w i) x).1) at ∙ also)

  free : rule.blocker_refusal w.count w s i ≡ None
  free = may_step_free w s i may

  -- a start
  pub start_moves : (task s i).part.place ≡ place.Idle → rule.is_open s i ≡ true → Moves p w s (Start i)
  start_moves at open_ = record {
    named = named;
    allowed = rw (next_from place.Idle 5 0 at refl refl, open_) free;
    open_ = rw open_ (λ same. cc (same));
    ready = rw open_ (λ same. cc (same));
  }

  pub start_changes : rule.is_open s i ≡ true → ChangesTask s (rule.next p w s (Start i)) i (task s i).part.ended (place.Hear 0)
  start_changes open_ = rw open_ (with_task_changes s i _ inside refl)

  -- the hear at the place
  pub hear_moves : (n : ℕ) → (task s i).part.place ≡ place.Hear n → Moves p w s (Hear i)
  hear_moves n at = record {
    named = named;
    allowed = rw (next_from (place.Hear n) 6 0 at refl refl) free;
    open_ = λ same. cc (same);
    ready = λ same. cc (same);
  }

  pub hear_changes : (n : ℕ) → (task s i).part.place ≡ place.Hear n → ChangesTask s (rule.next p w s (Hear i)) i (task s i).part.ended (move.hear_place (wired_task w i) (n + 1))
  hear_changes n at = rw at (with_task_changes s i _ inside refl)

  -- the look of the read whose turn it is
  pub look_moves : (n r : ℕ) → (task s i).part.place ≡ place.Look n → (read_at (wired_task w i) n).read ≡ r → rule.is_ready w s i n ≡ true → Moves p w s (Look i r)
  look_moves n r at is ready =
      let here : rule.is_ready w s i (rule.turn_at (task s i).part.place) ≡ true = ap (λ (x : Place). rule.is_ready w s i (rule.turn_at x)) at ∙ ready in
      record {
        named = named;
        allowed = rw (next_from (place.Look n) 7 r at refl is) free;
        open_ = rw here (λ same. cc (same));
        ready = rw here (λ same. cc (same));
      }

  pub look_changes : (n r : ℕ) → (task s i).part.place ≡ place.Look n → rule.is_ready w s i n ≡ true → ChangesTask s (rule.next p w s (Look i r)) i (task s i).part.ended (place.Take n)
  look_changes n r at ready = rw (at, ready) (with_task_changes s i _ inside refl)

  -- its take
  pub take_moves : (n r : ℕ) → (task s i).part.place ≡ place.Take n → (read_at (wired_task w i) n).read ≡ r → Moves p w s (Take i r)
  take_moves n r at is = record {
    named = named;
    allowed = rw (next_from (place.Take n) 8 r at refl is) free;
    open_ = λ same. cc (same);
    ready = λ same. cc (same);
  }

  pub take_changes : (n r : ℕ) → (task s i).part.place ≡ place.Take n → ChangesTask s (rule.next p w s (Take i r)) i (task s i).part.ended (move.read_place (length (wired_task w i).reads) (n + 1))
  take_changes n r at = rw at (with_task_changes s i _ inside refl)

  -- the end of an instance
  pub shut_moves : (task s i).part.place ≡ place.Shut → Moves p w s (Shut i)
  shut_moves at = record {
    named = named;
    allowed = rw (next_from place.Shut 9 0 at refl refl) free;
    open_ = λ same. cc (same);
    ready = λ same. cc (same);
  }

  pub shut_changes : ChangesTask s (rule.next p w s (Shut i)) i (task s i).part.ended (place.Put 0)
  shut_changes = with_task_changes s i _ inside refl

  pub put_moves : (port : ℕ) → (task s i).part.place ≡ place.Put port → Moves p w s (Put i port)
  put_moves port at = record {
    named = named;
    allowed = rw (next_from (place.Put port) 10 port at refl refl) free;
    open_ = λ same. cc (same);
    ready = λ same. cc (same);
  }

  pub put_changes : (port : ℕ) → ChangesTask s (rule.next p w s (Put i port)) i (task s i).part.ended (move.put_place (wired_task w i).ports (port + 1))
  put_changes port = with_task_changes s i _ inside refl

  pub done_moves : (task s i).part.place ≡ place.Done → Moves p w s (Done i)
  done_moves at = record {
    named = named;
    allowed = rw (next_from place.Done 11 0 at refl refl) free;
    open_ = λ same. cc (same);
    ready = λ same. cc (same);
  }

  pub done_changes : ChangesTask s (rule.next p w s (Done i)) i (task s i).part.ended place.End
  done_changes = with_task_changes s i _ inside refl

  pub end_moves : (task s i).part.place ≡ place.End → Moves p w s (End i)
  end_moves at = record {
    named = named;
    allowed = rw (next_from place.End 12 0 at refl refl) free;
    open_ = λ same. cc (same);
    ready = λ same. cc (same);
  }

  pub end_changes : ChangesTask s (rule.next p w s (End i)) i ((task s i).part.ended + 1) place.Idle
  end_changes = with_task_changes s i _ inside refl
