-- The releaser's steps keep a state sound.
use Rattle.std.proofs.Common.{◌≡◌, ◌≢◌, ℕ, zero, suc, ℤ, ◌+◌, ◌-◌, ◌<◌, ◌≤◌, ◌⊎◌, true, false, List, ◌∷◌, length, get_or, take, Some, None, refl, sym, ◌∙◌, ap, arith, inl, inr}
use Rattle.std.specs.Prelude.{◌==◌, slice_get}
use Rattle.std.specs.List.{list_any}
use Rattle.std.proofs.lemmas.Bool.{cases_Bool, cases_lt, eq-eqb, lt-ltb}
use Rattle.std.proofs.lemmas.List.{get_or-take, length-take-le}
use Rattle.std.proofs.lemmas.List.Folds.{list_any_at}
use Rattle.std.proofs.lemmas.Option.{slice_get_within}
use Rattle.dbp_plan.specs.declared.plan.Plan.{Plan}
use Rattle.dbp_plan.specs.Lookups.{declared_task}
use Rattle.release_list.specs.Schedule.{aims, opens, seen_by}
use Rattle.release_list.specs.declared.release.Release.TheVariants as release
use Rattle.dbp_rules.specs.Moves as move
use Rattle.dbp_rules.specs.Lookups.{is_counted, link, link_entry, slot_at, task, task_entry, wired_task}
use Rattle.dbp_rules.specs.Rules as rule
use Rattle.dbp_rules.specs.Shapes.{EntryShape, TaskShape, heard_by}
use Rattle.dbp_rules.specs.Sound.{Sound}
use Rattle.dbp_rules.specs.SoundParts.{LinkSound, TaskSound, filled_by, last_filled, last_passed, put_by, shut_by}
use Rattle.dbp_rules.specs.declared.parts.LinkEntry.{LinkEntry}
use Rattle.dbp_rules.specs.declared.parts.Place.TheVariants as place
use Rattle.dbp_rules.specs.declared.parts.TaskEntry.{TaskEntry}
use Rattle.dbp_rules.specs.declared.state.State.{State}
use Rattle.dbp_rules.specs.declared.state.TaskState.{TaskState}
use Rattle.dbp_rules.specs.declared.step.Broken.TheVariants as broken
use Rattle.dbp_rules.specs.declared.step.Step.TheVariants.{Seen, Aim, Claim, OpenGate}
use Rattle.dbp_rules.specs.declared.wiring.TaskWiring.{TaskWiring}
use Rattle.dbp_rules.specs.declared.wiring.Wiring.{Wiring}
use Rattle.dbp_rules.proofs.Aims.{IsAllowedAim, aim_allowed}
use Rattle.dbp_rules.proofs.Allowed.{at_claim, at_open, next_none}
use Rattle.dbp_rules.proofs.SoundCounts.{aim_claims, aim_opens, claim_opens, claims_other, claims_same, open_claims, opens_other, opens_same}
use Rattle.dbp_rules.proofs.SoundFrame.{Changed, changed_both, changed_entry, changed_task, claim_frame, task_frame}
use Rattle.dbp_rules.proofs.SoundGoes.{idle, reader_on}
use Rattle.dbp_rules.proofs.SoundOwn.{ClaimPlace, IsOwn, claim_place, seen_aims}
use Rattle.dbp_rules.proofs.StateKept.{step_kept}

-- ---- conditions

-- no item of a list that has no such item
not_there : (xs : List ℕ) (n j : ℕ) → list_any (λ k. k == n) xs ≡ false → j < length xs → get_or xs j 0 ≢ n
not_there xs n j none below = λ same.
    let here : list_any (λ k. k == n) xs ≡ true = list_any_at (λ k. k == n) xs j 0 below (eq-eqb (get_or xs j 0) n same) in
    absurd (cc (here, none))

-- ---- seen

seen_task : (p : Plan) (w : Wiring) (rows : ℕ → ℕ → List ℤ) (i : ℕ) (e : TaskEntry) (t : TaskState) → TaskSound p w rows i e t → TaskSound p w rows i (move.after_seen e t.words.ended) t
seen_task p w rows i e t ok = record {
  known = omega arith;
  ended = ok.ended;
  aimed = omega (arith, ok.known, ok.aimed);
  aim = ok.aim;
  heard = ok.heard;
  whole = ok.whole;
  filled = ok.filled;
  filling = ok.filling;
  put = ok.put;
  kept = ok.kept;
  kept_apart = ok.kept_apart;
  states = ok.states;
  taken = ok.taken;
  row = ok.row;
  later = ok.later;
}

-- ---- aim

-- the kept slots after an aim
kept_stamp : (t : TaskWiring) (e : TaskEntry) (w : TaskState) (j : ℕ) → length e.kept ≡ t.kept → (slot_at w.words.slots e.current).stamp ≡ e.aimed + 1
    → ((m : ℕ) → m < t.kept → (slot_at w.words.slots (get_or e.kept m 0)).stamp ≡ e.aimed - (m + 1) + 1) → j < t.kept
    → (slot_at w.words.slots (get_or (take (length e.kept) (e.current ∷ e.kept)) j 0)).stamp ≡ e.aimed + 1 - (j + 1) + 1
kept_stamp t e w zero size first each below = rw (get_or-take (length e.kept) (e.current ∷ e.kept) 0 0 (omega arith)) (omega (arith, first))
kept_stamp t e w (suc j) size first each below = rw (get_or-take (length e.kept) (e.current ∷ e.kept) (suc j) 0 (omega arith)) (omega (arith, each j (omega arith)))

aim_task : (p : Plan) (w : Wiring) (rows : ℕ → ℕ → List ℤ) (i slot : ℕ) (e : TaskEntry) (t : TaskState) → TaskSound p w rows i e t → TaskShape w (declared_task p i) i e.aimed t → EntryShape (wired_task w i) e
    → e.aimed ≡ e.known → rule.stays_kept e slot ≡ false
    → TaskSound p w rows i (move.after_aim e slot) (record t { words = move.words_after_aim t.words (move.after_aim e slot) })
aim_task p w rows i slot e t ok shape fits known free =
    let rest : t.part.place ≡ place.Idle = idle t.part.place (omega (arith, shape.gate, shape.aimed, ok.known, ok.ended)) in
    let filled : filled_by t.part.place ≡ 0 = ap filled_by rest in
    let shut : shut_by t.part.place ≡ 0 = ap shut_by rest in
    let puts : put_by (wired_task w i).ports t.part.place ≡ 0 = ap (put_by (wired_task w i).ports) rest in
    let orders : length t.part.heard.items ≡ 0 = shape.heard ∙ ap (heard_by (1 + length (wired_task w i).links)) rest in
    let now : (slot_at t.words.slots e.current).stamp ≡ e.aimed + 1 = ok.filled (omega (arith, ok.known, ok.ended)) in
    record {
      known = ok.known;
      ended = ok.ended;
      aimed = omega arith;
      aim = refl;
      heard = λ some. absurd (omega arith);
      whole = ok.whole;
      filled = λ all. absurd (omega (arith, shape.gate, shape.aimed));
      filling = λ some. absurd (omega arith);
      put = λ port below. absurd (omega arith);
      kept = λ j below. kept_stamp (wired_task w i) e t j fits.kept now ok.kept below;
      kept_apart = λ _ j below. not_there (rule.kept_after_aim e) slot j free (omega (arith, fits.kept, length-take-le (length e.kept) (e.current ∷ e.kept) (omega arith)));
      states = ok.states;
      taken = ok.taken;
      row = ok.row;
      later = ok.later;
    }

-- a link out of the task
aim_writes : (p : Plan) (w : Wiring) (rows : ℕ → ℕ → List ℤ) (i k slot : ℕ) (c : LinkEntry) (v : TaskEntry) (t : TaskState) (e : TaskEntry) (reader : TaskState) → TaskSound p w rows i v t → TaskShape w (declared_task p i) i v.aimed t
    → v.aimed ≡ v.known → (is_counted w k ≡ true → e.known < c.instance → c.slot ≢ slot) → seen_by w.links p.batches k c.instance ≤ v.aimed
    → LinkSound p w k c v t e reader → LinkSound p w k c (move.after_aim v slot) (record t { words = move.words_after_aim t.words (move.after_aim v slot) }) e reader
aim_writes p w rows i k slot c v t e reader ok shape known free seen old =
    let rest : t.part.place ≡ place.Idle = idle t.part.place (omega (arith, shape.gate, shape.aimed, ok.known, ok.ended)) in
    let shut : shut_by t.part.place ≡ 0 = ap shut_by rest in
    record {
      holds = λ stands. elim (old.holds stands) [
        | inl is ↦ inl is
        | inr to ↦ absurd (omega (arith, to.1, to.2, ok.known, ok.ended))
      ];
      current = λ stands here. elim (cases_Bool (is_counted w k)) [
        | inl is ↦ absurd (free is (let known_below : last_passed (is_counted w k) e.known reader.words.ended < c.instance = stands in rw is at known_below) here)
        | inr isnt ↦ inr (isnt, omega (arith, shape.gate, shape.aimed), omega arith)
      ];
      heard = old.heard;
      ready = old.ready;
    }

-- a link into the task
aim_reads : (p : Plan) (w : Wiring) (k slot : ℕ) (c : LinkEntry) (v : TaskEntry) (writer : TaskState) (e : TaskEntry) (t : TaskState) → LinkSound p w k c v writer e t
    → LinkSound p w k c v writer (move.after_aim e slot) (record t { words = move.words_after_aim t.words (move.after_aim e slot) })
aim_reads p w k slot c v writer e t old = record { holds = old.holds; current = old.current; heard = old.heard; ready = old.ready }

-- ---- claim

claim_holds : (p : Plan) (w : Wiring) (rows : ℕ → ℕ → List ℤ) (i d : ℕ) (v : TaskEntry) (t : TaskState) → TaskSound p w rows i v t → d ≤ (wired_task w i).kept
    → ((slot_at t.words.slots (move.claimed_slot d v.current v.kept)).stamp ≡ v.aimed - d + 1) ⊎ ((move.claimed_slot d v.current v.kept ≡ v.current) × (v.aimed - d ≡ v.aimed) × (last_filled t < v.aimed - d))
claim_holds p w rows i zero v t ok few = elim (cases_lt (last_filled t) v.aimed) [
  | inl less ↦ inr (refl, omega arith, omega arith)
  | inr all ↦ inl (ok.filled all ∙ omega arith)
]
claim_holds p w rows i (suc d) v t ok few = inl (ok.kept d (omega arith) ∙ omega arith)

claim_current : (p : Plan) (w : Wiring) (rows : ℕ → ℕ → List ℤ) (i d : ℕ) (v : TaskEntry) (t : TaskState) → TaskSound p w rows i v t → d ≤ (wired_task w i).kept
    → move.claimed_slot d v.current v.kept ≡ v.current → v.aimed - d ≡ v.aimed
claim_current p w rows i zero v t ok few here = omega arith
claim_current p w rows i (suc d) v t ok few here = elim (cases_lt 0 v.aimed) [
  | inl some ↦ absurd (ok.kept_apart some d (omega arith) here)
  | inr none ↦ omega arith
]

-- ---- the steps

changed_further : (s new : State) (i : ℕ) (e : TaskEntry) (t : TaskState) → Changed s new i e t → Changed s (rule.further new) i e t
changed_further s new i e t c = record { entry = c.entry; entries = c.entries; own = c.own; others = c.others; claims = c.claims; orders = c.orders }

module _ (p : Plan) (w : Wiring) (rows : ℕ → ℕ → List ℤ) (s : State) (own : IsOwn p w) (sound : Sound p w rows s) where
  there : (i : ℕ) → i < length p.diagram.tasks → i < length w.tasks
  there i named = omega (arith, named, own.whole.tasks)

  pub seen_sound : (i : ℕ) → i < length p.diagram.tasks → Sound p w rows (rule.next p w s (Seen i))
  seen_sound i named =
      let below : i < length w.tasks = there i named in
      let inside : i < length s.releaser.tasks = rw sound.shape.entries below in
      let e : TaskEntry = task_entry s i in
      let ok : TaskSound p w rows i (task_entry s i) (task s i) = sound.tasks i below in
      task_frame p w rows s own sound (rule.next p w s (Seen i)) i (move.after_seen (task_entry s i) (task s i).words.ended) (task s i)
      (step_kept p w s sound.shape (Seen i) named refl) sound.place
      (changed_entry s i (move.after_seen (task_entry s i) (task s i).words.ended) inside)
      (sound.gates i below) (λ j other. refl) (λ k. refl)
      (seen_task p w rows i (task_entry s i) (task s i) ok)
      (λ k fits is.
      let old : LinkSound p w k (link_entry s k) (task_entry s i) (task s i) (task_entry s (link w k).reader) (task s (link w k).reader) = rw is at (sound.links k fits) in
      record { holds = old.holds; current = old.current; heard = old.heard; ready = old.ready })
      (λ k fits is.
      let old : LinkSound p w k (link_entry s k) (task_entry s (link w k).writer) (task s (link w k).writer) (task_entry s i) (task s i) = rw is at (sound.links k fits) in
      reader_on p w k (link_entry s k) (task_entry s (link w k).writer) (task s (link w k).writer) (task_entry s i) (move.after_seen (task_entry s i) (task s i).words.ended) (task s i) (task s i) ok.known (omega arith) old.heard old.ready old)

  pub open_sound : (i : ℕ) → i < length p.diagram.tasks → rule.refusal w s (OpenGate i) ≡ None → Sound p w rows (rule.next p w s (OpenGate i))
  open_sound i named free =
      let below : i < length w.tasks = there i named in
      let inside : i < length s.tasks = rw sound.shape.tasks below in
      let next = next_none broken.Place (rule.release_kind (slice_get w.releases s.releaser.place)) 4 i free in
      let here : slice_get w.releases s.releaser.place ≡ Some (release.OpenGate i) = at_open (slice_get w.releases s.releaser.place) i next.0 next.1 in
      let at = own.whole.releases.at_open s.releaser.place i here in
      let t : TaskState = record (task s i) { words = move.words_after_open (task s i).words (task_entry s i).aimed } in
      let ok : TaskSound p w rows i (task_entry s i) (task s i) = sound.tasks i below in
      let gate : (task_entry s i).aimed ≡ opens w.releases (s.releaser.place + 1) i = sound.shape.aimed i below ∙ at.aimed ∙ sym (opens_same w.releases s.releaser.place i here) in
      task_frame p w rows s own sound (rule.next p w s (OpenGate i)) i (task_entry s i) (record (task s i) { words = move.words_after_open (task s i).words (task_entry s i).aimed })
      (step_kept p w s sound.shape (OpenGate i) named free) (omega (arith, slice_get_within w.releases s.releaser.place (release.OpenGate i) here))
      (changed_further s (rule.with_task s i (record (task s i) { words = move.words_after_open (task s i).words (task_entry s i).aimed })) i (task_entry s i) (record (task s i) { words = move.words_after_open (task s i).words (task_entry s i).aimed })
      (changed_task s i (record (task s i) { words = move.words_after_open (task s i).words (task_entry s i).aimed }) inside))
      gate (λ j other. opens_other w.releases s.releaser.place i j here other) (λ k. open_claims w.releases s.releaser.place i k here)
      (record { known = ok.known; ended = ok.ended; aimed = ok.aimed; aim = ok.aim; heard = ok.heard; whole = ok.whole; filled = ok.filled; filling = ok.filling; put = ok.put; kept = ok.kept; kept_apart = ok.kept_apart; states = ok.states; taken = ok.taken; row = ok.row; later = ok.later })
      (λ k fits is.
      let old : LinkSound p w k (link_entry s k) (task_entry s i) (task s i) (task_entry s (link w k).reader) (task s (link w k).reader) = rw is at (sound.links k fits) in
      record { holds = old.holds; current = old.current; heard = old.heard; ready = old.ready })
      (λ k fits is.
      let old : LinkSound p w k (link_entry s k) (task_entry s (link w k).writer) (task s (link w k).writer) (task_entry s i) (task s i) = rw is at (sound.links k fits) in
      record { holds = old.holds; current = old.current; heard = old.heard; ready = old.ready })

  -- no counted claim on the slot stands
  unclaimed : (i slot k : ℕ) → rule.claims_slot w s i slot k ≡ false → (link w k).writer ≡ i → is_counted w k ≡ true → (task_entry s (link w k).reader).known < (link_entry s k).instance → (link_entry s k).slot ≢ slot
  unclaimed i slot k isnt writer counted stands = λ same.
      let is : rule.claims_slot w s i slot k ≡ true = rw (eq-eqb (link w k).writer i writer, counted, lt-ltb (task_entry s (link w k).reader).known (link_entry s k).instance stands, eq-eqb (link_entry s k).slot slot same) refl in
      absurd (cc (is, isnt))

  pub aim_sound : (i slot : ℕ) → i < length p.diagram.tasks → rule.refusal w s (Aim i slot) ≡ None → Sound p w rows (rule.next p w s (Aim i slot))
  aim_sound i slot named free =
      let below : i < length w.tasks = there i named in
      let inside : i < length s.tasks = rw sound.shape.tasks below in
      let within : i < length s.releaser.tasks = rw sound.shape.entries below in
      let a : IsAllowedAim w s.releaser i slot = aim_allowed w s.releaser i slot free in
      let here : slice_get w.releases s.releaser.place ≡ Some (release.Aim i) = a.here in
      let e : TaskEntry = move.after_aim (task_entry s i) slot in
      let t : TaskState = record (task s i) { words = move.words_after_aim (task s i).words (move.after_aim (task_entry s i) slot) } in
      let ok : TaskSound p w rows i (task_entry s i) (task s i) = sound.tasks i below in
      let shape : TaskShape w (declared_task p i) i (task_entry s i).aimed (task s i) = sound.shape.each_task i below in
      task_frame p w rows s own sound (rule.next p w s (Aim i slot)) i (move.after_aim (task_entry s i) slot) (record (task s i) { words = move.words_after_aim (task s i).words (move.after_aim (task_entry s i) slot) })
      (step_kept p w s sound.shape (Aim i slot) named free) (omega (arith, slice_get_within w.releases s.releaser.place (release.Aim i) here))
      (changed_further s (rule.with_task (rule.with_entry s i (move.after_aim (task_entry s i) slot)) i (record (task s i) { words = move.words_after_aim (task s i).words (move.after_aim (task_entry s i) slot) })) i
      (move.after_aim (task_entry s i) slot) (record (task s i) { words = move.words_after_aim (task s i).words (move.after_aim (task_entry s i) slot) })
      (changed_both s i (move.after_aim (task_entry s i) slot) (record (task s i) { words = move.words_after_aim (task s i).words (move.after_aim (task_entry s i) slot) }) within inside))
      (sound.gates i below ∙ sym (aim_opens w.releases s.releaser.place i i here)) (λ j other. aim_opens w.releases s.releaser.place i j here) (λ k. aim_claims w.releases s.releaser.place i k here)
      (aim_task p w rows i slot (task_entry s i) (task s i) ok shape (sound.shape.each_entry i below) a.known a.fresh)
      (λ k fits is.
      let old : LinkSound p w k (link_entry s k) (task_entry s i) (task s i) (task_entry s (link w k).reader) (task s (link w k).reader) = rw is at (sound.links k fits) in
      let seen : seen_by w.links p.batches k (link_entry s k).instance ≤ aims w.releases s.releaser.place (link w k).writer = rw (sound.claims k fits).instance (seen_aims p w own.whole s.releaser.place k fits) in
      let few : seen_by w.links p.batches k (link_entry s k).instance ≤ (task_entry s i).aimed = omega (arith, seen, sound.shape.aimed i below, ap (aims w.releases s.releaser.place) is) in
      aim_writes p w rows i k slot (link_entry s k) (task_entry s i) (task s i) (task_entry s (link w k).reader) (task s (link w k).reader) ok shape a.known
      (unclaimed i slot k (a.unclaimed k fits) is) few old)
      (λ k fits is. aim_reads p w k slot (link_entry s k) (task_entry s (link w k).writer) (task s (link w k).writer) (task_entry s i) (task s i) (rw is at (sound.links k fits)))

  pub claim_sound : (k : ℕ) → k < length p.diagram.links → rule.refusal w s (Claim k) ≡ None → Sound p w rows (rule.next p w s (Claim k))
  claim_sound k named free =
      let below : k < length w.links = omega (arith, named, ap length own.whole.links) in
      let next = next_none broken.Place (rule.release_kind (slice_get w.releases s.releaser.place)) 3 k free in
      let here : slice_get w.releases s.releaser.place ≡ Some (release.Claim k) = at_claim (slice_get w.releases s.releaser.place) k next.0 next.1 in
      let at : ClaimPlace p w s.releaser.place k = claim_place p w own.whole s.releaser.place k here in
      let writer : (link w k).writer < length w.tasks = own.whole.writer k below in
      let reader : (link w k).reader < length w.tasks = own.whole.reader k below in
      let few : (link w k).delay ≤ (wired_task w (link w k).writer).kept = own.whole.delay k below in
      let v : TaskSound p w rows (link w k).writer (task_entry s (link w k).writer) (task s (link w k).writer) = sound.tasks (link w k).writer writer in
      let ok : TaskSound p w rows (link w k).reader (task_entry s (link w k).reader) (task s (link w k).reader) = sound.tasks (link w k).reader reader in
      let shape : TaskShape w (declared_task p (link w k).reader) (link w k).reader (task_entry s (link w k).reader).aimed (task s (link w k).reader) = sound.shape.each_task (link w k).reader reader in
      let aimed : (task_entry s (link w k).reader).aimed ≡ aims w.releases s.releaser.place (link w k).reader = sound.shape.aimed (link w k).reader reader in
      let written : (task_entry s (link w k).writer).aimed ≡ aims w.releases s.releaser.place (link w k).writer = sound.shape.aimed (link w k).writer writer in
      let gate : (task s (link w k).reader).words.gate + 1 ≡ (task_entry s (link w k).reader).aimed = omega (arith, sound.gates (link w k).reader reader, at.opened, aimed) in
      let rest : (task s (link w k).reader).part.place ≡ place.Idle = idle (task s (link w k).reader).part.place (omega (arith, shape.gate, gate, ok.known, ok.ended, ok.aimed)) in
      let orders : length (task s (link w k).reader).part.heard.items ≡ 0 = shape.heard ∙ ap (heard_by (1 + length (wired_task w (link w k).reader).links)) rest in
      claim_frame p w rows s own sound (rule.next p w s (Claim k)) k (move.claim_entry (link w k).delay (task_entry s (link w k).writer) (task_entry s (link w k).reader))
      (step_kept p w s sound.shape (Claim k) named free) below (slice_get_within w.releases s.releaser.place (release.Claim k) here) refl refl refl refl refl
      (λ j. claim_opens w.releases s.releaser.place k j here)
      (record {
        instance = omega (arith, aimed, at.claimed, claims_same w.releases s.releaser.place k here);
        number = rw (aimed, at.seen, written) refl;
        order = refl;
      })
      (λ j other. claims_other w.releases s.releaser.place k j here other)
      (record {
        holds = λ _. claim_holds p w rows (link w k).writer (link w k).delay (task_entry s (link w k).writer) (task s (link w k).writer) v few;
        current = λ _ is. inl (claim_current p w rows (link w k).writer (link w k).delay (task_entry s (link w k).writer) (task s (link w k).writer) v few is);
        heard = λ j inside _. absurd (omega arith);
        ready = λ n takes _. absurd (cc (rest, takes));
      })
