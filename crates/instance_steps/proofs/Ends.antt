-- The end of an instance, step by step.
use Rattle.std.proofs.Common.{◌≡◌, ℕ, ◌+◌, ◌<◌, List, [], ◌∷◌, ◌++◌, length, refl, sym, ap, ◌∙◌, subst, arith}
use Rattle.std.proofs.lemmas.Bool.{lt-ltb, le-ltb}
use Rattle.std.proofs.lemmas.List.FromFn.{length-map-range_with_len, map-range_with_len_more}
use Rattle.dbp_plan.specs.declared.plan.Plan.{Plan}
use Rattle.dbp_plan.specs.Lookups.{declared_task}
use Rattle.dbp_rules.specs.Moves.{put_place}
use Rattle.dbp_rules.specs.Lookups.{task, wired_task}
use Rattle.dbp_rules.specs.declared.parts.Place.TheVariants as place
use Rattle.dbp_rules.specs.declared.step.Step.TheVariants.{Shut, Put, Done, End}
use Rattle.instance_steps.specs.Events.{Event, end_events, put_events, step_of}
use Rattle.instance_steps.specs.Plays.{Moves}
use Rattle.instance_steps.specs.Recorders.{AddsStep, plan_in, state_in, wiring_in}
use Rattle.instance_steps.specs.TaskPieces.{AddsPiece, MayStep}
use Rattle.instance_steps.specs.declared.recorder.Recorder.{Recorder}
use Rattle.instance_steps.proofs.Adding.{own_in, piece_as, piece_none, piece_on, piece_step, still_free, still_named, task_there, wired_there}
use Rattle.instance_steps.proofs.TaskMoves as moves

-- so many outs are put
abbrev pub outs_of : Recorder → ℕ → ℕ
outs_of r i = length (declared_task (plan_in r) i).outs

ports_in : (r : Recorder) (i : ℕ) → i < length (plan_in r).diagram.tasks → (wired_task (wiring_in r) i).ports ≡ outs_of r i
ports_in r i named = ((own_in r).whole.each_task i (wired_there r i named)).ports

some_outs : (r : Recorder) (i : ℕ) → i < length (plan_in r).diagram.tasks → 0 < outs_of r i
some_outs r i named = omega (arith, ports_in r i named, ((own_in r).whole.each_task i (wired_there r i named)).some_port)

put_below : (ports port : ℕ) → port < ports → put_place ports port ≡ place.Put port
put_below ports port below = rw (lt-ltb port ports below) refl

put_all : (ports : ℕ) → put_place ports ports ≡ place.Done
put_all ports = rw (le-ltb ports ports (omega arith)) refl

put_events-more : (i port : ℕ) → put_events i (port + 1) ≡ put_events i port ++ step_of (Put i port) ∷ []
put_events-more i port = map-range_with_len_more (λ p. step_of (Put i p)) 0 port port (omega arith)

pub length-put_events : (i outs : ℕ) → length (put_events i outs) ≡ outs
length-put_events i outs = length-map-range_with_len (λ p. step_of (Put i p)) 0 outs

-- ---- the puts

module _ (a : Recorder) (i : ℕ) (named : i < length (plan_in a).diagram.tasks) (may : MayStep (wiring_in a) (state_in a) i) where
  -- before the first put, and after the last
  pub puts_none : (task (state_in a) i).part.place ≡ place.Put 0 → AddsPiece a a (put_events i 0) i (task (state_in a) i).part.ended (put_place (outs_of a i) 0)
  puts_none at = piece_as a a [] i _ _ _ _ refl (at ∙ sym (put_below (outs_of a i) 0 (some_outs a i named))) (piece_none a i)

  pub puts_all : (b : Recorder) → AddsPiece a b (put_events i (outs_of a i)) i (task (state_in a) i).part.ended (put_place (outs_of a i) (outs_of a i)) → AddsPiece a b (put_events i (outs_of a i)) i (task (state_in a) i).part.ended place.Done
  puts_all b piece = piece_as a b (put_events i (outs_of a i)) i _ _ _ _ refl (put_all (outs_of a i)) piece

  module _ (b : Recorder) (port : ℕ) (below : port < outs_of a i) (so_far : AddsPiece a b (put_events i port) i (task (state_in a) i).part.ended (put_place (outs_of a i) port)) where
    named_b : i < length (plan_in b).diagram.tasks
    named_b = still_named a b (put_events i port) i (put_place (outs_of a i) port) so_far named

    may_b : MayStep (wiring_in b) (state_in b) i
    may_b = still_free a b (put_events i port) i (put_place (outs_of a i) port) so_far may

    pub put_may : Moves (plan_in b) (wiring_in b) (state_in b) (Put i port)
    put_may = moves.put_moves (plan_in b) (wiring_in b) (state_in b) i named_b (task_there b i named_b) may_b port (so_far.changes.place ∙ put_below (outs_of a i) port below)

    pub put_more : (c : Recorder) → AddsStep b c (Put i port) → AddsPiece a c (put_events i (port + 1)) i (task (state_in a) i).part.ended (put_place (outs_of a i) (port + 1))
    put_more c step =
        let ports : (wired_task (wiring_in b) i).ports ≡ outs_of a i = ports_in b i named_b ∙ ap (λ (p : Plan). length (declared_task p i).outs) so_far.steps.plan in
        let one : AddsPiece b c (step_of (Put i port) ∷ []) i (task (state_in b) i).part.ended (put_place (wired_task (wiring_in b) i).ports (port + 1)) =
        piece_step b c (Put i port) i _ _ step put_may (moves.put_changes (plan_in b) (wiring_in b) (state_in b) i named_b (task_there b i named_b) may_b port) in
        let whole : AddsPiece a c (put_events i port ++ step_of (Put i port) ∷ []) i (task (state_in a) i).part.ended (put_place (outs_of a i) (port + 1)) =
        piece_on a b c (put_events i port) (step_of (Put i port) ∷ []) i _ _ _ _ so_far
        (piece_as b c (step_of (Put i port) ∷ []) i _ _ _ _ so_far.changes.ended (ap (λ (n : ℕ). put_place n (port + 1)) ports) one) in
        subst (λ (vs : List Event). AddsPiece a c vs i (task (state_in a) i).part.ended (put_place (outs_of a i) (port + 1))) (sym (put_events-more i port)) whole

-- ---- the whole end

module _ (a : Recorder) (i : ℕ) (named : i < length (plan_in a).diagram.tasks) (may : MayStep (wiring_in a) (state_in a) i) (at : (task (state_in a) i).part.place ≡ place.Shut) where
  pub shut_may : Moves (plan_in a) (wiring_in a) (state_in a) (Shut i)
  shut_may = moves.shut_moves (plan_in a) (wiring_in a) (state_in a) i named (task_there a i named) may at

  module _ (b : Recorder) (shut : AddsStep a b (Shut i)) where
    shut_piece : AddsPiece a b (step_of (Shut i) ∷ []) i (task (state_in a) i).part.ended (place.Put 0)
    shut_piece = piece_step a b (Shut i) i _ _ shut shut_may (moves.shut_changes (plan_in a) (wiring_in a) (state_in a) i named (task_there a i named) may)

    pub shut_named : i < length (plan_in b).diagram.tasks
    shut_named = still_named a b _ i _ shut_piece named

    pub shut_free : MayStep (wiring_in b) (state_in b) i
    shut_free = still_free a b _ i _ shut_piece may

    pub shut_place : (task (state_in b) i).part.place ≡ place.Put 0
    shut_place = shut_piece.changes.place

    pub shut_outs : outs_of b i ≡ outs_of a i
    shut_outs = ap (λ (p : Plan). length (declared_task p i).outs) shut.plan

    module _ (c : Recorder) (puts : AddsPiece b c (put_events i (outs_of b i)) i (task (state_in b) i).part.ended place.Done) where
      put_named : i < length (plan_in c).diagram.tasks
      put_named = still_named b c _ i _ puts shut_named

      put_free : MayStep (wiring_in c) (state_in c) i
      put_free = still_free b c _ i _ puts shut_free

      pub done_may : Moves (plan_in c) (wiring_in c) (state_in c) (Done i)
      done_may = moves.done_moves (plan_in c) (wiring_in c) (state_in c) i put_named (task_there c i put_named) put_free puts.changes.place

      module _ (d : Recorder) (done : AddsStep c d (Done i)) where
        done_piece : AddsPiece c d (step_of (Done i) ∷ []) i (task (state_in c) i).part.ended place.End
        done_piece = piece_step c d (Done i) i _ _ done done_may (moves.done_changes (plan_in c) (wiring_in c) (state_in c) i put_named (task_there c i put_named) put_free)

        done_named : i < length (plan_in d).diagram.tasks
        done_named = still_named c d _ i _ done_piece put_named

        done_free : MayStep (wiring_in d) (state_in d) i
        done_free = still_free c d _ i _ done_piece put_free

        pub end_may : Moves (plan_in d) (wiring_in d) (state_in d) (End i)
        end_may = moves.end_moves (plan_in d) (wiring_in d) (state_in d) i done_named (task_there d i done_named) done_free done_piece.changes.place

        pub end_whole : (e : Recorder) → AddsStep d e (End i) → AddsPiece a e (end_events (plan_in a) i) i ((task (state_in a) i).part.ended + 1) place.Idle
        end_whole e step =
            let last : AddsPiece d e (step_of (End i) ∷ []) i ((task (state_in d) i).part.ended + 1) place.Idle =
            piece_step d e (End i) i _ _ step end_may (moves.end_changes (plan_in d) (wiring_in d) (state_in d) i done_named (task_there d i done_named) done_free) in
            let two : AddsPiece c e (step_of (Done i) ∷ step_of (End i) ∷ []) i ((task (state_in d) i).part.ended + 1) place.Idle =
            piece_on c d e (step_of (Done i) ∷ []) (step_of (End i) ∷ []) i _ _ _ _ done_piece last in
            let three : AddsPiece b e (put_events i (outs_of b i) ++ step_of (Done i) ∷ step_of (End i) ∷ []) i ((task (state_in d) i).part.ended + 1) place.Idle =
            piece_on b c e (put_events i (outs_of b i)) (step_of (Done i) ∷ step_of (End i) ∷ []) i _ _ _ _ puts two in
            let all : AddsPiece a e (step_of (Shut i) ∷ (put_events i (outs_of b i) ++ step_of (Done i) ∷ step_of (End i) ∷ [])) i ((task (state_in d) i).part.ended + 1) place.Idle =
            piece_on a b e (step_of (Shut i) ∷ []) (put_events i (outs_of b i) ++ step_of (Done i) ∷ step_of (End i) ∷ []) i _ _ _ _ shut_piece three in
            let ended : (task (state_in d) i).part.ended ≡ (task (state_in a) i).part.ended = done_piece.changes.ended ∙ puts.changes.ended ∙ shut_piece.changes.ended in
            let events : step_of (Shut i) ∷ (put_events i (outs_of b i) ++ step_of (Done i) ∷ step_of (End i) ∷ []) ≡ end_events (plan_in a) i =
            ap (λ (n : ℕ). step_of (Shut i) ∷ (put_events i n ++ step_of (Done i) ∷ step_of (End i) ∷ [])) shut_outs in
            subst (λ (vs : List Event). AddsPiece a e vs i ((task (state_in a) i).part.ended + 1) place.Idle) events
            (piece_as a e _ i _ _ _ _ (ap (λ (n : ℕ). n + 1) ended) refl all)
