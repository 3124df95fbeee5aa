-- Each allowed step keeps what its party's part keeps by itself.
use Rattle.std.proofs.Common.{◌≡◌, ℕ, ◌+◌, ◌-◌, ◌<◌, ◌≤◌, Bool, [], ◌∷◌, length, Some, None, refl, sym, ◌∙◌, ap, subst, arith, inl, inr, length-append}
use Rattle.std.specs.Prelude.{slice_get}
use Rattle.std.proofs.lemmas.Bool.{cases_Bool, eqb-true}
use Rattle.std.proofs.lemmas.List.{length-set, length-take-le}
use Rattle.std.proofs.lemmas.Option.{slice_get_within}
use Rattle.dbp_plan.specs.declared.plan.Plan.{Plan}
use Rattle.release_list.specs.Schedule.{aims, claims, seen_by}
use Rattle.release_list.specs.declared.release.Release.TheVariants as release
use Rattle.dbp_rules.specs.Moves as move
use Rattle.dbp_rules.specs.PartyRules as rule
use Rattle.dbp_rules.specs.PartyRules.{Loaded, loaded_number, loaded_order}
use Rattle.dbp_rules.specs.PartyShapes.{IsNamedIn, ReleaserLoads, ReleaserShape, TaskLoads, TaskPartShape}
use Rattle.dbp_rules.specs.Lookups.{entry_in, link, no_link_entry, no_task_entry, wired_task}
use Rattle.dbp_rules.specs.Shapes.{EntryShape, IsWired, OrderFits, PlaceIn, heard_by, place_number, running_count, slot_owner}
use Rattle.dbp_rules.specs.StepKinds.{kind_number, kind_of, subject_of}
use Rattle.dbp_rules.specs.declared.parts.LinkEntry.{LinkEntry}
use Rattle.dbp_rules.specs.declared.parts.Order.{Order}
use Rattle.dbp_rules.specs.declared.parts.Place.{Place}
use Rattle.dbp_rules.specs.declared.parts.Place.TheVariants as place
use Rattle.dbp_rules.specs.declared.parts.ReleaserPart.{ReleaserPart}
use Rattle.dbp_rules.specs.declared.parts.TaskEntry.{TaskEntry}
use Rattle.dbp_rules.specs.declared.parts.TaskPart.{TaskPart}
use Rattle.dbp_rules.specs.declared.step.Broken.TheVariants as broken
use Rattle.dbp_rules.specs.declared.step.Step.{Step}
use Rattle.dbp_rules.specs.declared.step.Step.TheVariants.{Seen, Aim, Claim, OpenGate, Start, Hear, Look, Take, Shut, Put, Done, End}
use Rattle.dbp_rules.specs.declared.wiring.Wiring.{Wiring}
use Rattle.dbp_rules.proofs.Aims.{IsAllowedAim, aim_allowed}
use Rattle.dbp_rules.proofs.Allowed.{at_claim, at_next, at_open, next_none, place_of}
use Rattle.dbp_rules.proofs.Counted.{aims_claim, aims_open, aims_other, aims_same}
use Rattle.dbp_rules.proofs.Frames.{after_set}
use Rattle.dbp_rules.proofs.Keeping.{claimed_fits, kept_on}
use Rattle.dbp_rules.proofs.SoundCounts.{aim_claims, claims_other, claims_same, open_claims}
use Rattle.dbp_rules.proofs.SoundOwn.{ClaimPlace, claim_place}
use Rattle.dbp_rules.proofs.TaskKept.{GoesOn, goes_to_hear, goes_to_put, goes_to_read, orders_more}

-- ---- a task's part

module _ (w : Wiring) (i : ℕ) (t : TaskPart) (ok : TaskPartShape w i t) where
  -- at another place of its instance, after all its hears
  moved_part : (q : Place) → running_count t.place ≡ 1 → heard_by (1 + length (wired_task w i).links) t.place ≡ 1 + length (wired_task w i).links → GoesOn (wired_task w i) (1 + length (wired_task w i).links) q → TaskPartShape w i (move.at_place t q)
  moved_part q busy all goes = record {
    place = goes.inside;
    occurs = omega (arith, ok.occurs, busy, goes.busy);
    heard = ok.heard ∙ all ∙ sym goes.heard;
    each_heard = ok.each_heard;
  }

  started_part : (gate : ℕ) → t.place ≡ place.Idle → gate ≤ length (wired_task w i).times → TaskPartShape w i (move.after_start t (rule.is_opened_by t gate))
  started_part gate at few = elim (cases_Bool (rule.is_opened_by t gate)) [
    | inl is ↦
        let opened : gate ≡ t.ended + 1 = eqb-true gate (t.ended + 1) is in
        rw is (record { place = omega arith; occurs = omega (arith, opened, few); heard = ok.heard ∙ ap (heard_by (1 + length (wired_task w i).links)) at; each_heard = ok.each_heard })
    | inr isnt ↦ rw isnt ok
  ]

  heard_part : (n : ℕ) (o : Order) → t.place ≡ place.Hear n → OrderFits (wired_task w (slot_owner w i n)) o → TaskPartShape w i (move.after_hear (wired_task w i) t n o)
  heard_part n o at fits =
      let inside : PlaceIn (wired_task w i) (place.Hear n) = subst (λ (q : Place). PlaceIn (wired_task w i) q) at ok.place in
      let few : n ≤ length (wired_task w i).links = omega (arith, inside) in
      let size : length t.heard.items ≡ n = ok.heard ∙ ap (heard_by (1 + length (wired_task w i).links)) at in
      let busy : running_count t.place ≡ 1 = ap running_count at in
      let goes : GoesOn (wired_task w i) (n + 1) (move.hear_place (wired_task w i) (n + 1)) = goes_to_hear (wired_task w i) n few in
      record {
        place = goes.inside;
        occurs = omega (arith, ok.occurs, busy, goes.busy);
        heard = length-append t.heard.items (o ∷ []) ∙ omega (arith, size, goes.heard);
        each_heard = orders_more w i n t.heard.items o size ok.each_heard fits;
      }

  looked_part : (n : ℕ) (ready : Bool) → t.place ≡ place.Look n → TaskPartShape w i (move.after_look t n ready)
  looked_part n ready at = elim (cases_Bool ready) [
    | inl is ↦
        let inside : PlaceIn (wired_task w i) (place.Look n) = subst (λ (q : Place). PlaceIn (wired_task w i) q) at ok.place in
        rw is (moved_part (place.Take n) (ap running_count at) (ap (heard_by (1 + length (wired_task w i).links)) at) (record { inside = inside; busy = refl; heard = refl }))
    | inr isnt ↦ rw isnt ok
  ]

  ended_part : t.place ≡ place.End → TaskPartShape w i (move.after_end t)
  ended_part at =
      let busy : running_count t.place ≡ 1 = ap running_count at in
      record {
        place = omega arith;
        occurs = omega (arith, ok.occurs, busy);
        heard = refl;
        each_heard = λ n below. absurd (omega arith);
      }

  -- the place is the one of an allowed step
  at_allowed : (e : Step) → rule.task_refusal (wired_task w i) t e ≡ None → t.place ≡ place_of (kind_number (kind_of e)) (place_number t.place)
  at_allowed e free = at_next broken.TaskPlace (wired_task w i) t.place (kind_number (kind_of e)) (subject_of e) free

  at_hear : (n : ℕ) → t.place ≡ place.Hear n → t.place ≡ place.Hear (rule.hears_at t.place)
  at_hear n at = at ∙ ap (λ m. place.Hear m) (sym (ap rule.hears_at at))

  at_look : (n : ℕ) → t.place ≡ place.Look n → t.place ≡ place.Look (rule.turn_at t.place)
  at_look n at = at ∙ ap (λ m. place.Look m) (sym (ap rule.turn_at at))

  pub task_part_kept : 0 < (wired_task w i).ports → (e : Step) (l : Loaded) → rule.task_refusal (wired_task w i) t e ≡ None → TaskLoads w i t e l → TaskPartShape w i (rule.task_after (wired_task w i) t e l)
  task_part_kept some (Seen j) l free loads = ok
  task_part_kept some (Aim j slot) l free loads = ok
  task_part_kept some (Claim k) l free loads = ok
  task_part_kept some (OpenGate j) l free loads = ok
  task_part_kept some (Start j) l free loads = started_part (loaded_number l) (at_allowed (Start j) free) loads
  task_part_kept some (Hear j) l free loads = heard_part (rule.hears_at t.place) (loaded_order l) (at_hear (place_number t.place) (at_allowed (Hear j) free)) loads
  task_part_kept some (Look j r) l free loads = looked_part (rule.turn_at t.place) (rule.is_stamp_of (rule.read_order_in (wired_task w i) t (rule.turn_at t.place)) (loaded_number l)) (at_look (place_number t.place) (at_allowed (Look j r) free))
  task_part_kept some (Take j r) l free loads =
      let at : t.place ≡ place.Take (place_number t.place) = at_allowed (Take j r) free in
      moved_part (move.read_place (length (wired_task w i).reads) (rule.turn_at t.place + 1)) (ap running_count at) (ap (heard_by (1 + length (wired_task w i).links)) at) (goes_to_read (wired_task w i) (rule.turn_at t.place + 1))
  task_part_kept some (Shut j) l free loads =
      let at : t.place ≡ place.Shut = at_allowed (Shut j) free in
      moved_part (place.Put 0) (ap running_count at) (ap (heard_by (1 + length (wired_task w i).links)) at) (record { inside = some; busy = refl; heard = refl })
  task_part_kept some (Put j port) l free loads =
      let at : t.place ≡ place.Put (place_number t.place) = at_allowed (Put j port) free in
      moved_part (move.put_place (wired_task w i).ports (port + 1)) (ap running_count at) (ap (heard_by (1 + length (wired_task w i).links)) at) (goes_to_put (wired_task w i) (port + 1))
  task_part_kept some (Done j) l free loads =
      let at : t.place ≡ place.Done = at_allowed (Done j) free in
      moved_part place.End (ap running_count at) (ap (heard_by (1 + length (wired_task w i).links)) at) (record { inside = omega arith; busy = refl; heard = refl })
  task_part_kept some (End j) l free loads = ended_part (at_allowed (End j) free)

-- ---- the releaser's part

module _ (p : Plan) (w : Wiring) (whole : IsWired p w) (r : ReleaserPart) (ok : ReleaserShape p w r) where
  seen_part : (i n : ℕ) → i < length w.tasks → (entry_in r i).known ≤ n → n ≤ (entry_in r i).aimed → ReleaserShape p w (rule.with_entry_in r i (move.after_seen (entry_in r i) n))
  seen_part i n below first last =
      let inside : i < length r.tasks = rw ok.entries below in
      let e : EntryShape (wired_task w i) (entry_in r i) = ok.each_entry i below in
      let u : TaskEntry = move.after_seen (entry_in r i) n in
      record {
        place = ok.place;
        entries = length-set r.tasks i u ∙ ok.entries;
        links = ok.links;
        aimed = after_set (λ j u. j < length w.tasks → u.aimed ≡ aims w.releases r.place j) r.tasks i u no_task_entry inside (λ fits. ok.aimed i fits) (λ j other fits. ok.aimed j fits);
        known = after_set (λ j u. j < length w.tasks → u.known ≤ u.aimed) r.tasks i u no_task_entry inside (λ fits. last) (λ j other fits. ok.known j fits);
        ahead = after_set (λ j u. j < length w.tasks → u.aimed ≤ u.known + 1) r.tasks i u no_task_entry inside (λ fits. omega (arith, ok.ahead i below, first)) (λ j other fits. ok.ahead j fits);
        each_entry = after_set (λ j u. j < length w.tasks → EntryShape (wired_task w j) u) r.tasks i u no_task_entry inside (λ fits. record { current = e.current; kept = e.kept; kept_slots = e.kept_slots }) (λ j other fits. ok.each_entry j fits);
        claimed = ok.claimed;
        number = ok.number;
        slot = ok.slot;
      }

  aimed_part : (i slot : ℕ) → i < length w.tasks → IsAllowedAim w r i slot → ReleaserShape p w (rule.one_further (rule.with_entry_in r i (move.after_aim (entry_in r i) slot)))
  aimed_part i slot below a =
      let here : slice_get w.releases r.place ≡ Some (release.Aim i) = a.here in
      let inside : i < length r.tasks = rw ok.entries below in
      let e : EntryShape (wired_task w i) (entry_in r i) = ok.each_entry i below in
      let u : TaskEntry = move.after_aim (entry_in r i) slot in
      record {
        place = omega (arith, slice_get_within w.releases r.place (release.Aim i) here);
        entries = length-set r.tasks i u ∙ ok.entries;
        links = ok.links;
        aimed = after_set (λ j u. j < length w.tasks → u.aimed ≡ aims w.releases (r.place + 1) j) r.tasks i u no_task_entry inside (λ fits. omega (arith, ok.aimed i fits, aims_same w.releases r.place i here)) (λ j other fits. ok.aimed j fits ∙ sym (aims_other w.releases r.place i j here other));
        known = after_set (λ j u. j < length w.tasks → u.known ≤ u.aimed) r.tasks i u no_task_entry inside (λ fits. omega (arith, ok.known i fits)) (λ j other fits. ok.known j fits);
        ahead = after_set (λ j u. j < length w.tasks → u.aimed ≤ u.known + 1) r.tasks i u no_task_entry inside (λ fits. omega (arith, a.known)) (λ j other fits. ok.ahead j fits);
        each_entry = after_set (λ j u. j < length w.tasks → EntryShape (wired_task w j) u) r.tasks i u no_task_entry inside
            (λ fits. record {
              current = a.below;
              kept = length-take-le (length (entry_in r i).kept) ((entry_in r i).current ∷ (entry_in r i).kept) (omega arith) ∙ e.kept;
              kept_slots = λ j few. kept_on (wired_task w i).slots (wired_task w i).kept (entry_in r i).current j (entry_in r i).kept e.kept e.current e.kept_slots few;
            })
            (λ j other fits. ok.each_entry j fits);
        claimed = λ k fits. ok.claimed k fits ∙ sym (aim_claims w.releases r.place i k here);
        number = ok.number;
        slot = ok.slot;
      }

  claimed_part : (k : ℕ) → k < length w.links → slice_get w.releases r.place ≡ Some (release.Claim k) → ReleaserShape p w (rule.one_further (rule.with_claim_in r k (rule.next_claim w r k)))
  claimed_part k below here =
      let inside : k < length r.links = rw ok.links below in
      let at : ClaimPlace p w r.place k = claim_place p w whole r.place k here in
      let writer : (link w k).writer < length w.tasks = whole.writer k below in
      let reader : (link w k).reader < length w.tasks = whole.reader k below in
      let from : EntryShape (wired_task w (link w k).writer) (entry_in r (link w k).writer) = ok.each_entry (link w k).writer writer in
      let c : LinkEntry = rule.next_claim w r k in
      let seen : (entry_in r (link w k).writer).aimed ≡ seen_by w.links p.batches k (entry_in r (link w k).reader).aimed =
      ok.aimed (link w k).writer writer ∙ sym at.seen ∙ ap (seen_by w.links p.batches k) (sym (ok.aimed (link w k).reader reader)) in
      record {
        place = omega (arith, slice_get_within w.releases r.place (release.Claim k) here);
        entries = ok.entries;
        links = length-set r.links k c ∙ ok.links;
        aimed = λ i fits. ok.aimed i fits ∙ sym (aims_claim w.releases r.place k i here);
        known = ok.known;
        ahead = ok.ahead;
        each_entry = ok.each_entry;
        claimed = after_set (λ j u. j < length w.links → u.instance ≡ claims w.releases (r.place + 1) j) r.links k c no_link_entry inside
            (λ fits. ok.aimed (link w k).reader reader ∙ sym at.claimed ∙ sym (claims_same w.releases r.place k here)) (λ j other fits. ok.claimed j fits ∙ sym (claims_other w.releases r.place k j here other));
        number = after_set (λ j u. j < length w.links → u.number ≡ seen_by w.links p.batches j u.instance - (link w j).delay) r.links k c no_link_entry inside
            (λ fits. ap (λ (n : ℕ). n - (link w k).delay) seen) (λ j other fits. ok.number j fits);
        slot = after_set (λ j u. j < length w.links → u.slot < (wired_task w (link w j).writer).slots) r.links k c no_link_entry inside
            (λ fits. claimed_fits (wired_task w (link w k).writer).slots (wired_task w (link w k).writer).kept (link w k).delay (entry_in r (link w k).writer) from.current from.kept_slots (whole.delay k below)) (λ j other fits. ok.slot j fits);
      }

  opened_part : (i : ℕ) → slice_get w.releases r.place ≡ Some (release.OpenGate i) → ReleaserShape p w (rule.one_further r)
  opened_part i here = record {
    place = omega (arith, slice_get_within w.releases r.place (release.OpenGate i) here);
    entries = ok.entries;
    links = ok.links;
    aimed = λ j fits. ok.aimed j fits ∙ sym (aims_open w.releases r.place i j here);
    known = ok.known;
    ahead = ok.ahead;
    each_entry = ok.each_entry;
    claimed = λ k fits. ok.claimed k fits ∙ sym (open_claims w.releases r.place i k here);
    number = ok.number;
    slot = ok.slot;
  }

  pub releaser_part_kept : (e : Step) (l : Loaded) → IsNamedIn w e → rule.releaser_refusal w r e ≡ None → ReleaserLoads r e l → ReleaserShape p w (rule.releaser_after w r e l)
  releaser_part_kept (Seen i) l named free loads = seen_part i (loaded_number l) named loads.0 loads.1
  releaser_part_kept (Aim i slot) l named free loads = aimed_part i slot named (aim_allowed w r i slot free)
  releaser_part_kept (Claim k) l named free loads =
      let next = next_none broken.Place (rule.release_kind (slice_get w.releases r.place)) 3 k free in
      claimed_part k named (at_claim (slice_get w.releases r.place) k next.0 next.1)
  releaser_part_kept (OpenGate i) l named free loads =
      let next = next_none broken.Place (rule.release_kind (slice_get w.releases r.place)) 4 i free in
      opened_part i (at_open (slice_get w.releases r.place) i next.0 next.1)
  releaser_part_kept (Start i) l named free loads = ok
  releaser_part_kept (Hear i) l named free loads = ok
  releaser_part_kept (Look i n) l named free loads = ok
  releaser_part_kept (Take i n) l named free loads = ok
  releaser_part_kept (Shut i) l named free loads = ok
  releaser_part_kept (Put i port) l named free loads = ok
  releaser_part_kept (Done i) l named free loads = ok
  releaser_part_kept (End i) l named free loads = ok
