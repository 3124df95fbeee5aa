-- What stays sound if a task goes on, or if the records of a link's ends change in some of their parts.
use Rattle.std.proofs.Common.{◌≡◌, ℕ, ℤ, pos, ◌+◌, ◌<◌, ◌≤◌, Bool, true, false, List, length, get_or, take, refl, sym, ◌∙◌, ap, arith, ltb}
use Rattle.std.proofs.lemmas.Bool.{cond_both, ltb-false}
use Rattle.dbp_plan.specs.declared.plan.Plan.{Plan}
use Rattle.dbp_plan.specs.Lookups.{declared_task}
use Rattle.sync_meaning.specs.SomeMeaningRows.{states_at}
use Rattle.dbp_rules.specs.Moves as move
use Rattle.dbp_rules.specs.Lookups.{is_counted, link, slot_at, wired_task}
use Rattle.dbp_rules.specs.Shapes.{link_in, running_count}
use Rattle.dbp_rules.specs.SoundParts.{LinkSound, TaskSound, filled_by, last_filled, last_shut, meant_value, last_passed, place_of_read, put_by, read_of, shut_by, taken_by}
use Rattle.dbp_rules.specs.Work.{WorkWords}
use Rattle.dbp_rules.specs.declared.parts.LinkEntry.{LinkEntry}
use Rattle.dbp_rules.specs.declared.parts.Place.{Place}
use Rattle.dbp_rules.specs.declared.parts.Place.TheVariants.{Idle, Hear, Look, Take, Shut, Put, Done, End}
use Rattle.dbp_rules.specs.declared.parts.TaskEntry.{TaskEntry}
use Rattle.dbp_rules.specs.declared.parts.TaskPart.{TaskPart}
use Rattle.dbp_rules.specs.declared.state.TaskState.{TaskState}
use Rattle.dbp_rules.specs.declared.wiring.TaskWiring.{TaskWiring}
use Rattle.dbp_rules.specs.declared.wiring.Wiring.{Wiring}

-- ---- places

-- a task that isn't running is idle
pub idle : (q : Place) → running_count q ≡ 0 → q ≡ Idle
idle Idle none = refl
idle (Hear n) none = absurd (omega (arith, none))
idle (Look n) none = absurd (omega (arith, none))
idle (Take n) none = absurd (omega (arith, none))
idle Shut none = absurd (omega (arith, none))
idle (Put n) none = absurd (omega (arith, none))
idle Done none = absurd (omega (arith, none))
idle End none = absurd (omega (arith, none))

pub filled_shut : (q : Place) → filled_by q ≤ shut_by q
filled_shut Idle = omega arith
filled_shut (Hear n) = omega arith
filled_shut (Look n) = omega arith
filled_shut (Take n) = omega arith
filled_shut Shut = omega arith
filled_shut (Put n) = omega arith
filled_shut Done = omega arith
filled_shut End = omega arith

pub shut_running : (q : Place) → shut_by q ≤ running_count q
shut_running Idle = omega arith
shut_running (Hear n) = omega arith
shut_running (Look n) = omega arith
shut_running (Take n) = omega arith
shut_running Shut = omega arith
shut_running (Put n) = omega arith
shut_running Done = omega arith
shut_running End = omega arith

-- a place before the shut
pub record IsEarly (q : Place) : Type 0 where
  pub filled : filled_by q ≡ 0
  pub shut : shut_by q ≡ 0
  pub put : (ports : ℕ) → put_by ports q ≡ 0

pub early_idle : IsEarly Idle
early_idle = record { filled = refl; shut = refl; put = λ ports. refl }

pub early_hear : (n : ℕ) → IsEarly (Hear n)
early_hear n = record { filled = refl; shut = refl; put = λ ports. refl }

pub early_look : (n : ℕ) → IsEarly (Look n)
early_look n = record { filled = refl; shut = refl; put = λ ports. refl }

pub early_take : (n : ℕ) → IsEarly (Take n)
early_take n = record { filled = refl; shut = refl; put = λ ports. refl }

pub early_shut : IsEarly Shut
early_shut = record { filled = refl; shut = refl; put = λ ports. refl }

pub early_read : (reads n : ℕ) → IsEarly (move.read_place reads n)
early_read reads n = cond_both (ltb n reads) (Look n) Shut (λ q. IsEarly q) (λ _. early_look n) (λ _. early_shut)

pub early_heard : (t : TaskWiring) (n : ℕ) → IsEarly (move.hear_place t n)
early_heard t n = cond_both (ltb n (1 + length t.links)) (Hear n) (move.read_place (length t.reads) 0) (λ q. IsEarly q) (λ _. early_hear n) (λ _. early_read (length t.reads) 0)

-- how many words are taken there
pub taken_read : (reads n : ℕ) → n ≤ reads → taken_by reads (move.read_place reads n) ≡ n
taken_read reads n few = cond_both (ltb n reads) (Look n) Shut (λ q. taken_by reads q ≡ n) (λ _. refl) (λ past. omega (arith, ltb-false n reads past))

pub taken_hear : (t : TaskWiring) (n : ℕ) → taken_by (length t.reads) (move.hear_place t n) ≡ 0
taken_hear t n = cond_both (ltb n (1 + length t.links)) (Hear n) (move.read_place (length t.reads) 0) (λ q. taken_by (length t.reads) q ≡ 0) (λ _. refl) (λ _. taken_read (length t.reads) 0 (omega arith))

-- no word is to be taken at once
no_take : (n m : ℕ) → Look n ≡ Take m → ⊥
no_take n m same = absurd (cc (same))

pub take_read : (reads n m : ℕ) → move.read_place reads n ≡ Take m → ⊥
take_read reads n m = cond_both (ltb n reads) (Look n) Shut (λ q. q ≡ Take m → ⊥) (λ _ same. absurd (cc (same))) (λ _ same. absurd (cc (same)))

pub take_hear : (t : TaskWiring) (n m : ℕ) → move.hear_place t n ≡ Take m → ⊥
take_hear t n m = cond_both (ltb n (1 + length t.links)) (Hear n) (move.read_place (length t.reads) 0) (λ q. q ≡ Take m → ⊥) (λ _ same. absurd (cc (same))) (λ _. take_read (length t.reads) 0 m)

-- ---- links

-- a link is sound if its writer has the same slots and has come as far
pub writer_same : (p : Plan) (w : Wiring) (k : ℕ) (c : LinkEntry) (v u : TaskEntry) (writer other : TaskState) (e : TaskEntry) (reader : TaskState)
    → other.words.slots ≡ writer.words.slots → u.current ≡ v.current → u.aimed ≡ v.aimed → last_filled other ≡ last_filled writer → last_shut other ≡ last_shut writer
    → LinkSound p w k c v writer e reader → LinkSound p w k c u other e reader
writer_same p w k c v u writer other e reader slots current aimed filled shut old = record {
  holds = λ stands. rw (slots, current, aimed, filled) (old.holds stands);
  current = λ stands here. rw (aimed, shut) (old.current stands (here ∙ current));
  heard = old.heard;
  ready = λ n at here. rw slots (old.ready n at here);
}

pub passed_more : (b : Bool) (known ended more further : ℕ) → known ≤ more → ended ≤ further → last_passed b known ended ≤ last_passed b more further
passed_more true known ended more further first second = first
passed_more false known ended more further first second = second

-- a link is sound if its reader has gone on
pub reader_on : (p : Plan) (w : Wiring) (k : ℕ) (c : LinkEntry) (v : TaskEntry) (writer : TaskState) (e f : TaskEntry) (reader other : TaskState) → e.known ≤ f.known → reader.words.ended ≤ other.words.ended
    → ((j : ℕ) → j + 1 < length other.part.heard.items → link_in (wired_task w (link w k).reader) j ≡ k → move.heard_order other.part (j + 1) ≡ move.claim_order c)
    → ((n : ℕ) → other.part.place ≡ Take n → (read_of p w (link w k).reader n).link ≡ k → (slot_at writer.words.slots c.slot).stamp ≡ c.number + 1)
    → LinkSound p w k c v writer e reader → LinkSound p w k c v writer f other
reader_on p w k c v writer e f reader other known ended heard ready old =
    let more : last_passed (is_counted w k) e.known reader.words.ended ≤ last_passed (is_counted w k) f.known other.words.ended = passed_more (is_counted w k) e.known reader.words.ended f.known other.words.ended known ended in
    record {
      holds = λ stands. old.holds (omega arith);
      current = λ stands here. old.current (omega arith) here;
      heard = heard;
      ready = ready;
    }

-- ---- a task that goes on before its shut: its words and its states stay

pub task_goes : (p : Plan) (w : Wiring) (rows : ℕ → ℕ → List ℤ) (i : ℕ) (e : TaskEntry) (t : TaskState) (part : TaskPart) (work : WorkWords) → TaskSound p w rows i e t
    → IsEarly t.part.place → IsEarly part.place → part.ended ≡ t.part.ended
    → (0 < length part.heard.items → move.heard_order part 0 ≡ t.words.aim)
    → take (length (declared_task p i).states) work.now ≡ take (length (declared_task p i).states) t.work.now
    → ((n : ℕ) → n < taken_by (length (wired_task w i).reads) part.place → get_or work.now (place_of_read p w i n) (pos 0) ≡ meant_value p rows i (t.part.ended + 1) (read_of p w i n))
    → work.row ≡ t.work.row
    → TaskSound p w rows i e (record { words = t.words; part = part; work = work })
task_goes p w rows i e t part work ok from to same heard states taken row = record {
  known = ok.known;
  ended = ok.ended ∙ sym same;
  aimed = ok.aimed;
  aim = ok.aim;
  heard = heard;
  whole = λ n l below stamp. ((omega (arith, (ok.whole n l below stamp).0, from.filled, to.filled)), (ok.whole n l below stamp).1);
  filled = λ all. ok.filled (omega (arith, from.filled, to.filled));
  filling = λ some. absurd (omega (arith, to.filled, to.shut));
  put = λ port below. absurd (omega (arith, to.put (wired_task w i).ports));
  kept = ok.kept;
  kept_apart = ok.kept_apart;
  states = states ∙ ok.states ∙ ap (λ n. states_at p.diagram p.samples p.batches rows i (declared_task p i) n) (sym same);
  taken = λ n below. taken n below ∙ ap (λ m. meant_value p rows i (m + 1) (read_of p w i n)) (sym same);
  row = row ∙ ok.row ∙ ap (rows i) (omega (arith, from.shut, to.shut, same));
  later = λ some. absurd (omega (arith, to.shut));
}
