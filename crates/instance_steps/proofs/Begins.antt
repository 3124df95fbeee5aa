-- The begin of an instance, step by step.
use Rattle.std.proofs.Common.{◌≡◌, ℕ, ◌+◌, ◌<◌, true, false, cond, List, [], ◌∷◌, ◌++◌, length, refl, sym, ap, ◌∙◌, subst, arith}
use Rattle.std.specs.Prelude.{count_by, nat_lt, replicate}
use Rattle.std.proofs.lemmas.Bool.{eq-eqb, lt-ltb, le-ltb}
use Rattle.std.proofs.lemmas.List.{replicate_more}
use Rattle.dbp_plan.specs.declared.diagram.Read.{Read}
use Rattle.dbp_plan.specs.declared.plan.Plan.{Plan}
use Rattle.dbp_plan.specs.Lookups.{declared_task}
use Rattle.dbp_plan.proofs.Counts.{count-cons}
use Rattle.release_list.specs.Releases.{links_into}
use Rattle.dbp_rules.specs.Moves.{hear_place, read_place}
use Rattle.dbp_rules.specs.Lookups.{task, wired_task}
use Rattle.dbp_rules.specs.Rules.{is_open}
use Rattle.dbp_rules.specs.declared.parts.Place.{Place}
use Rattle.dbp_rules.specs.declared.parts.Place.TheVariants as place
use Rattle.dbp_rules.specs.declared.step.Step.TheVariants.{Start, Hear}
use Rattle.dbp_rules.specs.declared.wiring.TaskWiring.{TaskWiring}
use Rattle.dbp_rules.specs.declared.wiring.Wiring.{Wiring}
use Rattle.instance_steps.specs.Events.{Event, begin_events, step_of}
use Rattle.instance_steps.specs.Plays.{Moves}
use Rattle.instance_steps.specs.Recorders.{AddsStep, plan_in, state_in, wiring_in}
use Rattle.instance_steps.specs.TaskPieces.{AddsPiece, MayStep, place_after}
use Rattle.instance_steps.specs.declared.recorder.Recorder.{Recorder}
use Rattle.instance_steps.proofs.Adding.{own_in, piece_as, piece_none, piece_on, piece_step, still_free, still_named, task_there, wired_in, wired_there}
use Rattle.instance_steps.proofs.TaskMoves as moves

-- the links into the task
abbrev pub links_of : Recorder → ℕ → ℕ
links_of r i = length (links_into (plan_in r).diagram.links i)

pub links_in : (r : Recorder) (i : ℕ) → i < length (plan_in r).diagram.tasks → length (wired_task (wiring_in r) i).links ≡ links_of r i
links_in r i named = ap (λ (t : TaskWiring). length t.links) (wired_in r i named)

hear_below : (t : TaskWiring) (n : ℕ) → n < 1 + length t.links → hear_place t n ≡ place.Hear n
hear_below t n below = rw (lt-ltb n (1 + length t.links) below) refl

hear_all : (t : TaskWiring) (n : ℕ) → n ≡ 1 + length t.links → hear_place t n ≡ read_place (length t.reads) 0
hear_all t n is = rw (le-ltb n (1 + length t.links) (omega arith)) refl

-- no read is made before tick 0
none_before : (reads : List Read) → count_by (λ r. nat_lt r.at 0) reads ≡ 0
none_before [] = refl
none_before (r ∷ reads) =
    let not_ : nat_lt r.at 0 ≡ false = le-ltb r.at 0 (omega arith) in
    let first : cond {A = ℕ} (nat_lt r.at 0) 1 0 ≡ 0 = rw not_ refl in
    omega (arith, count-cons (λ (q : Read). nat_lt q.at 0) r reads, first, none_before reads)

pub at_first_read : (r : Recorder) (i : ℕ) → i < length (plan_in r).diagram.tasks → read_place (length (wired_task (wiring_in r) i).reads) 0 ≡ place_after (plan_in r) i 0
at_first_read r i named =
    ap (λ (n : ℕ). read_place n 0) ((own_in r).whole.each_task i (wired_there r i named)).reads
    ∙ ap (λ (n : ℕ). read_place (length (declared_task (plan_in r) i).reads) n) (sym (none_before (declared_task (plan_in r) i).reads))

-- ---- the hears

module _ (a : Recorder) (i : ℕ) (named : i < length (plan_in a).diagram.tasks) (may : MayStep (wiring_in a) (state_in a) i) where
  abbrev pub hears : ℕ → List Event
  hears n = replicate n (step_of (Hear i))

  abbrev pub heard_place : ℕ → Place
  heard_place n = hear_place (wired_task (wiring_in a) i) n

  pub hears_none : (task (state_in a) i).part.place ≡ place.Hear 0 → AddsPiece a a (replicate 0 (step_of (Hear i))) i (task (state_in a) i).part.ended (hear_place (wired_task (wiring_in a) i) 0)
  hears_none at = piece_as a a [] i _ _ _ _ refl (at ∙ sym (hear_below (wired_task (wiring_in a) i) 0 (omega arith))) (piece_none a i)

  pub hears_all : (b : Recorder) (n : ℕ) → n ≡ 1 + links_of a i → AddsPiece a b (replicate n (step_of (Hear i))) i (task (state_in a) i).part.ended (hear_place (wired_task (wiring_in a) i) n)
      → AddsPiece a b (replicate (1 + links_of a i) (step_of (Hear i))) i (task (state_in a) i).part.ended (place_after (plan_in a) i 0)
  hears_all b n is piece =
      let last : n ≡ 1 + length (wired_task (wiring_in a) i).links = omega (arith, is, links_in a i named) in
      subst (λ (k : ℕ). AddsPiece a b (replicate k (step_of (Hear i))) i (task (state_in a) i).part.ended (place_after (plan_in a) i 0)) is
      (piece_as a b _ i _ _ _ _ refl (hear_all (wired_task (wiring_in a) i) n last ∙ at_first_read a i named) piece)

  module _ (b : Recorder) (n : ℕ) (below : n < 1 + links_of a i) (so_far : AddsPiece a b (replicate n (step_of (Hear i))) i (task (state_in a) i).part.ended (hear_place (wired_task (wiring_in a) i) n)) where
    named_b : i < length (plan_in b).diagram.tasks
    named_b = still_named a b _ i _ so_far named

    may_b : MayStep (wiring_in b) (state_in b) i
    may_b = still_free a b _ i _ so_far may

    here : (task (state_in b) i).part.place ≡ place.Hear n
    here = so_far.changes.place ∙ hear_below (wired_task (wiring_in a) i) n (omega (arith, below, links_in a i named))

    pub hear_may : Moves (plan_in b) (wiring_in b) (state_in b) (Hear i)
    hear_may = moves.hear_moves (plan_in b) (wiring_in b) (state_in b) i named_b (task_there b i named_b) may_b n here

    pub hear_more : (c : Recorder) → AddsStep b c (Hear i) → AddsPiece a c (replicate (n + 1) (step_of (Hear i))) i (task (state_in a) i).part.ended (hear_place (wired_task (wiring_in a) i) (n + 1))
    hear_more c step =
        let one : AddsPiece b c (step_of (Hear i) ∷ []) i (task (state_in b) i).part.ended (hear_place (wired_task (wiring_in b) i) (n + 1)) =
        piece_step b c (Hear i) i _ _ step hear_may (moves.hear_changes (plan_in b) (wiring_in b) (state_in b) i named_b (task_there b i named_b) may_b n here) in
        let whole : AddsPiece a c (replicate n (step_of (Hear i)) ++ step_of (Hear i) ∷ []) i (task (state_in a) i).part.ended (hear_place (wired_task (wiring_in a) i) (n + 1)) =
        piece_on a b c (replicate n (step_of (Hear i))) (step_of (Hear i) ∷ []) i _ _ _ _ so_far
        (piece_as b c (step_of (Hear i) ∷ []) i _ _ _ _ so_far.changes.ended (ap (λ (w : Wiring). hear_place (wired_task w i) (n + 1)) so_far.steps.wiring) one) in
        subst (λ (vs : List Event). AddsPiece a c vs i (task (state_in a) i).part.ended (hear_place (wired_task (wiring_in a) i) (n + 1))) (replicate_more n (step_of (Hear i))) whole

-- ---- the whole begin

module _ (a : Recorder) (i : ℕ) (named : i < length (plan_in a).diagram.tasks) (may : MayStep (wiring_in a) (state_in a) i) (idle : (task (state_in a) i).part.place ≡ place.Idle)
    (gate : (task (state_in a) i).words.gate ≡ (task (state_in a) i).part.ended + 1) where
  opened : is_open (state_in a) i ≡ true
  opened = eq-eqb (task (state_in a) i).words.gate ((task (state_in a) i).part.ended + 1) gate

  pub start_may : Moves (plan_in a) (wiring_in a) (state_in a) (Start i)
  start_may = moves.start_moves (plan_in a) (wiring_in a) (state_in a) i named (task_there a i named) may idle opened

  module _ (b : Recorder) (start : AddsStep a b (Start i)) where
    start_piece : AddsPiece a b (step_of (Start i) ∷ []) i (task (state_in a) i).part.ended (place.Hear 0)
    start_piece = piece_step a b (Start i) i _ _ start start_may (moves.start_changes (plan_in a) (wiring_in a) (state_in a) i named (task_there a i named) may opened)

    pub start_named : i < length (plan_in b).diagram.tasks
    start_named = still_named a b _ i _ start_piece named

    pub start_free : MayStep (wiring_in b) (state_in b) i
    start_free = still_free a b _ i _ start_piece may

    pub start_place : (task (state_in b) i).part.place ≡ place.Hear 0
    start_place = start_piece.changes.place

    pub start_links : links_of b i ≡ links_of a i
    start_links = ap (λ (p : Plan). length (links_into p.diagram.links i)) start.plan

    pub begin_whole : (c : Recorder) → AddsPiece b c (replicate (1 + links_of b i) (step_of (Hear i))) i (task (state_in b) i).part.ended (place_after (plan_in b) i 0)
        → AddsPiece a c (begin_events (plan_in a) i) i (task (state_in a) i).part.ended (place_after (plan_in a) i 0)
    begin_whole c hears_ =
        let whole : AddsPiece a c (step_of (Start i) ∷ replicate (1 + links_of b i) (step_of (Hear i))) i (task (state_in a) i).part.ended (place_after (plan_in a) i 0) =
        piece_on a b c (step_of (Start i) ∷ []) (replicate (1 + links_of b i) (step_of (Hear i))) i _ _ _ _ start_piece
        (piece_as b c _ i _ _ _ _ start_piece.changes.ended (ap (λ (p : Plan). place_after p i 0) start.plan) hears_) in
        subst (λ (n : ℕ). AddsPiece a c (step_of (Start i) ∷ replicate (1 + n) (step_of (Hear i))) i (task (state_in a) i).part.ended (place_after (plan_in a) i 0)) start_links whole
