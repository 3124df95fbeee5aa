-- The calls of the releaser: each is one step of its part, which the table allows, and its data are those of its view afterwards.
use Rattle.std.proofs.Common.{◌≡◌, ℕ, ◌+◌, ◌*◌, ◌<◌, ◌≤◌, ◌^◌, List, length, slice_get, Some, None, refl, sym, ◌∙◌, ap, subst, arith}
use mathlib.Core.Option.{none}
use Rattle.atomic_table.specs.Table.{Allows, step}
use Rattle.dbp_plan.specs.declared.diagram.Link.{Link}
use Rattle.dbp_plan.specs.declared.plan.Plan.{Plan}
use Rattle.dbp_plan.specs.declared.limits.TheConstants.{MAX_OCCURRENCES}
use Rattle.dbp_slots.specs.Layout.{sizes}
use Rattle.dbp_slots.specs.TableWords.{Sizes, TableWord, address_of, aim, claim, ended, gate, sizes_of}
use Rattle.release_list.specs.declared.release.Release.{Release}
use Rattle.release_list.specs.declared.release.Release.TheVariants as release
use Rattle.dbp_rules.specs.LoadedWords.{order_of}
use Rattle.dbp_rules.specs.Moves.{claim_order}
use Rattle.dbp_rules.specs.PartyRules.{Loaded, a_number, next_claim, no_word, release_kind, releaser_after, releaser_refusal}
use Rattle.dbp_rules.specs.PartyShapes.{IsNamedIn, LinksFit, ReleaserShape}
use Rattle.dbp_rules.specs.Lookups.{entry_in, link}
use Rattle.dbp_rules.specs.Rules.{IsNamed, IsNamedWithin}
use Rattle.dbp_rules.specs.SharedWords.{made_by, order_value}
use Rattle.dbp_rules.specs.Shapes.{IsWired}
use Rattle.dbp_rules.specs.declared.parts.Order.{Order}
use Rattle.dbp_rules.specs.declared.parts.ReleaserPart.{ReleaserPart}
use Rattle.dbp_rules.specs.declared.step.Broken.TheVariants as broken
use Rattle.dbp_rules.specs.declared.step.Count.TheVariants.{All}
use Rattle.dbp_rules.specs.declared.step.Step.{Step}
use Rattle.dbp_rules.specs.declared.step.Step.TheVariants.{Seen, Aim, Claim, OpenGate}
use Rattle.dbp_rules.specs.declared.wiring.Wiring.{Wiring}
use Rattle.dbp_rules.proofs.Aims.{IsAllowedAim, aim_allowed}
use Rattle.dbp_rules.proofs.Allowed.{at_claim, at_open, next_none}
use Rattle.dbp_rules.proofs.Parties.{links_fit}
use Rattle.dbp_rules.proofs.TableSizes.{same_sizes, slots_few, task_count}
use Rattle.dbp_rules.proofs.WiringParts.{wired_tasks}
use Rattle.dbp_rules.proofs.Wirings.{wiring-whole}
use Rattle.dbp_rules.proofs.WordNumbers.{order_back}
use Rattle.std.proofs.lemmas.Option.{slice_get_within}
use Rattle.word_rule.specs.OwnSteps.{IsOwnStep}
use Rattle.word_rule.specs.Plays.{Aims, Claims, IsReleaser, Makes, OneStep, Opens, Seated, Sees, seats_split}
use Rattle.word_rule.specs.Roles.{PutFits, RoleLoads, RoleShape, number_stored, role_after, role_refusal, run_wiring, task_of}
use Rattle.word_rule.specs.Seats.{ReleaserSits}
use Rattle.word_rule.specs.Showing.{Keeps}
use Rattle.word_rule.specs.declared.seats.ReleaserSeat.{ReleaserSeat}
use Rattle.word_rule.specs.declared.seats.SlotWords.{SlotWords}
use Rattle.word_rule.specs.declared.views.Role.{Role}
use Rattle.word_rule.specs.declared.views.Role.TheVariants.{Releaser}
use Rattle.word_rule.proofs.SeatSteps.{may_load, may_store, same_links, same_tasks, sizes_are, wiring_is}

-- what a releaser's seat has after its step
pub releaser_then : (me new : Seated) (r : ReleaserPart) (e : Step) (l : Loaded) → IsReleaser me r → OneStep me new → Makes e l me new → IsReleaser new (releaser_after (run_wiring me.0.plan) r e l)
releaser_then me new r e l is one makes =
    let after : ReleaserPart = releaser_after (run_wiring me.0.plan) r e l in
    let now : new.0.role ≡ Releaser after (seats_split me.0.role) = makes.part ∙ ap (λ (x : Role). role_after (run_wiring me.0.plan) x e l) is.role in
    let shape : ReleaserShape me.0.plan (run_wiring me.0.plan) after = subst (RoleShape me.0.plan) now makes.shape in
    record {
      role = now ∙ ap (λ (n : ℕ). Releaser after n) (sym (ap seats_split now));
      no_slots = one.slots ∙ is.no_slots;
      shape = subst (λ (p : Plan). ReleaserShape p (run_wiring p) after) (sym one.plan) shape;
    }

module _ (w : SlotWords) (s : ReleaserSeat) (here : ReleaserSits w s) where
  abbrev me : Seated
  me = s.seat.me

  abbrev p : Plan
  p = s.seat.me.0.plan

  abbrev o : Wiring
  o = run_wiring s.seat.me.0.plan

  shape : ReleaserShape p o s.part
  shape = s.same.shape

  whole : IsWired p o
  whole = wiring-whole p All

  task_below : (i : ℕ) → i < length w.plan.diagram.tasks → i < length o.tasks
  task_below i below = let a = wired_tasks p All in let b = same_tasks w me here.1 in omega arith

  task_word : (i : ℕ) → i < length w.plan.diagram.tasks → i < length (sizes_of p.diagram).tasks
  task_word i below = let a = task_below i below in let b = ap (λ (x : Sizes). length x.tasks) (same_sizes p) in let c = task_count o in omega arith

  own : (e : Step) → IsNamed w.plan.diagram e → made_by e ≡ None → releaser_refusal w.wiring s.part e ≡ None → IsOwnStep p s.seat.me.0 e
  own e named mine free = record {
    named = subst (λ (x : Plan). IsNamed x.diagram e) (sym here.1) named;
    mine = mine ∙ ap task_of (sym s.same.role);
    free = ap (λ (x : Role). role_refusal o x e) s.same.role ∙ ap (λ (x : Wiring). releaser_refusal x s.part e) (wiring_is w me here.1) ∙ free;
    put = subst (λ (x : Role). PutFits p x e) (sym s.same.role) tt;
  }

  address_is : (q : TableWord) → address_of (sizes w.layout) q ≡ address_of (sizes_of p.diagram) q
  address_is q = ap (λ (x : Sizes). address_of x q) (sizes_are w me here.1)

  -- ---- seen

  module _ (i : ℕ) (below : i < length w.plan.diagram.tasks) where
    aimed_few : (entry_in s.part i).aimed ≤ MAX_OCCURRENCES
    aimed_few =
        let inside = task_below i below in
        let t = whole.each_task i inside in
        omega (arith, shape.aimed i inside, whole.releases.aims_times s.part.place i, t.few, ap length t.times)

    pub seen_range : (x : ℕ) (new : Seated) → Makes (Seen i) (a_number x) me new → ((entry_in s.part i).known ≤ x) × (x ≤ (entry_in s.part i).aimed)
    seen_range x new makes = subst (λ (r : Role). RoleLoads o r (Seen i) (a_number x)) s.same.role makes.loads

    pub seen_load : (a slots : ℕ) → a ≡ 2 + 3 * i → (a < w.table.shared.table_id.words) × Allows (Keeps w.table.shared.key) slots s.seat.id me a (λ n. n) (Sees (step slots a 0 0 none) me)
    seen_load a slots at =
        may_load w me here.1 slots s.seat.id (Seen i) (own (Seen i) below refl refl) (ended i) (task_word i below) a at refl (λ n. Sees (step slots n 0 0 none) me)
        (λ x new one makes. record {
          one = one;
          small = omega (arith, aimed_few, (seen_range x new makes).1);
          makes = λ j named same. subst (λ (k : ℕ). Makes (Seen k) (a_number x) me new) (omega arith) makes;
        })

    pub seen_then : (x a slots : ℕ) (new : Seated) (part : ReleaserPart) → a ≡ 2 + 3 * i → Sees (step slots a 0 0 none) me x new → part ≡ releaser_after w.wiring s.part (Seen i) (a_number x) → IsReleaser new part
    seen_then x a slots new part at sees is =
        subst (IsReleaser new) (sym is) (releaser_then me new s.part (Seen i) (a_number x) s.same sees.one (seen_makes sees))
      where
        seen_makes : Sees (step slots a 0 0 none) me x new → Makes (Seen i) (a_number x) me new
        seen_makes sees = sees.makes i (let n = same_tasks w me here.1 in omega arith) at

    pub task_in_layout : i < length (sizes w.layout).tasks
    task_in_layout = let a = task_word i below in let b = ap (λ (x : Sizes). length x.tasks) (sizes_are w me here.1) in omega arith

    pub entry_there : i < length s.part.tasks
    entry_there = let a = task_below i below in let b = shape.entries in omega arith

    pub seen_known : (x a slots : ℕ) (new : Seated) → a ≡ 2 + 3 * i → Sees (step slots a 0 0 none) me x new → ((entry_in s.part i).known ≤ x) × (x ≤ (entry_in s.part i).aimed)
    seen_known x a slots new at sees = seen_range x new (sees.makes i (let n = same_tasks w me here.1 in omega arith) at)

  -- a place before an action of the list
  place_small : (action : Release) → slice_get o.releases s.part.place ≡ Some action → s.part.place + 1 < 2 ^ 32
  place_small action at = let below = slice_get_within o.releases s.part.place action at in let few = whole.few_releases in omega arith

  own_free : (e : Step) → releaser_refusal w.wiring s.part e ≡ None → releaser_refusal o s.part e ≡ None
  own_free e free = ap (λ (x : Wiring). releaser_refusal x s.part e) (wiring_is w me here.1) ∙ free

  -- ---- aim

  module _ (i slot : ℕ) (below : i < length w.plan.diagram.tasks) (free : releaser_refusal w.wiring s.part (Aim i slot) ≡ None) where
    aim_here : IsAllowedAim o s.part i slot
    aim_here = aim_allowed o s.part i slot (own_free (Aim i slot) free)

    pub aim_aimed : (entry_in s.part i).aimed + 1 < 2 ^ 32
    aim_aimed = let few = aimed_few i below in omega arith

    pub aim_place : s.part.place + 1 < 2 ^ 32
    aim_place = place_small (release.Aim i) aim_here.here

    aim_slot : slot < 2 ^ 32
    aim_slot = let a = aim_here.below in let b = slots_few p All i (let n = same_tasks w me here.1 in omega arith) in omega arith

    pub aim_store : (a slots x : ℕ) → a ≡ 3 + 3 * i → x ≡ order_value (record { slot = slot; number = (entry_in s.part i).aimed + 1 })
        → (a < w.table.shared.table_id.words) × Allows (Keeps w.table.shared.key) slots s.seat.id me a (λ _. x) (λ _. Aims (step slots a x 0 none) me x)
    aim_store a slots x at is =
        may_store w me here.1 slots s.seat.id (Aim i slot) (own (Aim i slot) below refl free) (aim i) (task_word i below) a at refl x
        (ap (λ (r : Role). number_stored p r (Aim i slot)) s.same.role ∙ sym is) (λ n. Aims (step slots n x 0 none) me x)
        (λ new one makes. record {
          one = one;
          makes = λ j named same.
              let here : i ≡ j = omega arith in
              let read : slot ≡ (order_of x).slot = sym (ap (λ (n : ℕ). (order_of n).slot) is ∙ ap (λ (r : Order). r.slot) (order_back (record { slot = slot; number = (entry_in s.part i).aimed + 1 }) aim_slot)) in
              subst (λ (y : ℕ × ℕ). Makes (Aim y.0 y.1) no_word me new) (λ z. (here z, read z)) makes;
        })

    pub aim_then : (x a slots : ℕ) (new : Seated) (part : ReleaserPart) → a ≡ 3 + 3 * i → x ≡ order_value (record { slot = slot; number = (entry_in s.part i).aimed + 1 }) → Aims (step slots a x 0 none) me x new
        → part ≡ releaser_after w.wiring s.part (Aim i slot) no_word → IsReleaser new part
    aim_then x a slots new part at number aims is =
        let read : (order_of x).slot ≡ slot = ap (λ (n : ℕ). (order_of n).slot) number ∙ ap (λ (r : Order). r.slot) (order_back (record { slot = slot; number = (entry_in s.part i).aimed + 1 }) aim_slot) in
        let makes : Makes (Aim i (order_of x).slot) no_word me new = aims.makes i (let n = same_tasks w me here.1 in omega arith) at in
        subst (IsReleaser new) (sym is) (releaser_then me new s.part (Aim i slot) no_word s.same aims.one (subst (λ (n : ℕ). Makes (Aim i n) no_word me new) read makes))

  -- ---- claim

  module _ (k : ℕ) (below : k < length w.plan.diagram.links) (free : releaser_refusal w.wiring s.part (Claim k) ≡ None) where
    link_below : k < length o.links
    link_below = let a = ap (λ (l : List Link). length l) whole.links in let b = same_links w me here.1 in omega arith

    pub claim_place : s.part.place + 1 < 2 ^ 32
    claim_place =
        let next = next_none broken.Place (release_kind (slice_get o.releases s.part.place)) 3 k (own_free (Claim k) free) in
        place_small (release.Claim k) (at_claim (slice_get o.releases s.part.place) k next.0 next.1)

    pub claim_writer : (link w.wiring k).writer < length s.part.tasks
    claim_writer = rw (← (wiring_is w me here.1)) (let a = whole.writer k link_below in let b = shape.entries in omega arith)

    pub claim_reader : (link w.wiring k).reader < length s.part.tasks
    claim_reader = rw (← (wiring_is w me here.1)) (let a = whole.reader k link_below in let b = shape.entries in omega arith)

    pub claim_kept : (link w.wiring k).delay < length (entry_in s.part (link w.wiring k).writer).kept + 1
    claim_kept = rw (← (wiring_is w me here.1)) (let a = whole.delay k link_below in let b = (shape.each_entry (link o k).writer (whole.writer k link_below)).kept in omega arith)

    pub claim_there : k < length s.part.links
    claim_there = let a = link_below in let b = shape.links in omega arith

    pub link_in_wiring : k < length w.wiring.links
    link_in_wiring = rw (← (wiring_is w me here.1)) link_below

    pub link_in_layout : k < (sizes w.layout).links
    link_in_layout = let a = ap (λ (x : Sizes). x.links) (sizes_are w me here.1) in let b = same_links w me here.1 in omega arith

    pub claim_store : (a slots x : ℕ) → a ≡ address_of (sizes w.layout) (claim k) → x ≡ order_value (claim_order (next_claim w.wiring s.part k))
        → (a < w.table.shared.table_id.words) × Allows (Keeps w.table.shared.key) slots s.seat.id me a (λ _. x) (λ _. Claims (step slots a x 0 none) me x)
    claim_store a slots x at is =
        may_store w me here.1 slots s.seat.id (Claim k) (own (Claim k) below refl free) (claim k) (let b = same_links w me here.1 in omega arith) a (at ∙ address_is (claim k)) refl x
        (ap (λ (r : Role). number_stored p r (Claim k)) s.same.role ∙ ap (λ (v : Wiring). order_value (claim_order (next_claim v s.part k))) (wiring_is w me here.1) ∙ sym is) (λ n. Claims (step slots n x 0 none) me x)
        (λ new one makes. record {
          one = one;
          makes = λ j named same. subst (λ (n : ℕ). Makes (Claim n) no_word me new) (omega arith) makes;
        })

    pub claim_then : (x a slots : ℕ) (new : Seated) (part : ReleaserPart) → a ≡ address_of (sizes w.layout) (claim k) → Claims (step slots a x 0 none) me x new
        → part ≡ releaser_after w.wiring s.part (Claim k) no_word → IsReleaser new part
    claim_then x a slots new part at claims is =
        let makes : Makes (Claim k) no_word me new = claims.makes k (let n = same_links w me here.1 in omega arith) (at ∙ address_is (claim k)) in
        let after : IsReleaser new (releaser_after o s.part (Claim k) no_word) = releaser_then me new s.part (Claim k) no_word s.same claims.one makes in
        subst (IsReleaser new) (ap (λ (v : Wiring). releaser_after v s.part (Claim k) no_word) (wiring_is w me here.1) ∙ sym is) after

  -- ---- open

  module _ (i : ℕ) (below : i < length w.plan.diagram.tasks) (free : releaser_refusal w.wiring s.part (OpenGate i) ≡ None) where
    pub open_place : s.part.place + 1 < 2 ^ 32
    open_place =
        let next = next_none broken.Place (release_kind (slice_get o.releases s.part.place)) 4 i (own_free (OpenGate i) free) in
        place_small (release.OpenGate i) (at_open (slice_get o.releases s.part.place) i next.0 next.1)

    pub open_store : (a slots x : ℕ) → a ≡ 1 + 3 * i → x ≡ (entry_in s.part i).aimed
        → (a < w.table.shared.table_id.words) × Allows (Keeps w.table.shared.key) slots s.seat.id me a (λ _. x) (λ _. Opens (step slots a x 0 none) me x)
    open_store a slots x at is =
        may_store w me here.1 slots s.seat.id (OpenGate i) (own (OpenGate i) below refl free) (gate i) (task_word i below) a at refl x
        (ap (λ (r : Role). number_stored p r (OpenGate i)) s.same.role ∙ sym is) (λ n. Opens (step slots n x 0 none) me x)
        (λ new one makes. record {
          one = one;
          makes = λ j named same. subst (λ (n : ℕ). Makes (OpenGate n) no_word me new) (omega arith) makes;
        })

    pub open_then : (x a slots : ℕ) (new : Seated) (part : ReleaserPart) → a ≡ 1 + 3 * i → Opens (step slots a x 0 none) me x new
        → part ≡ releaser_after w.wiring s.part (OpenGate i) no_word → IsReleaser new part
    open_then x a slots new part at opens is =
        let makes : Makes (OpenGate i) no_word me new = opens.makes i (let n = same_tasks w me here.1 in omega arith) at in
        subst (IsReleaser new) (sym is) (releaser_then me new s.part (OpenGate i) no_word s.same opens.one makes)

-- ---- refusals

module _ (w : SlotWords) where
  abbrev whole_wiring : IsWired w.plan (run_wiring w.plan)
  whole_wiring = wiring-whole w.plan All

  pub links_in : LinksFit w.wiring
  links_in = rw w.wired (links_fit w.plan (run_wiring w.plan) whole_wiring)

  pub named_in : (e : Step) → IsNamed w.plan.diagram e → IsNamedIn w.wiring e
  named_in e named =
      rw w.wired (subst (λ (y : ℕ × ℕ). IsNamedWithin y.0 y.1 e) (λ i. (sym whole_wiring.tasks i, sym (ap (λ (l : List Link). length l) whole_wiring.links) i)) named)

pub entries_in : (w : SlotWords) (s : ReleaserSeat) → ReleaserSits w s → length s.part.tasks ≡ length w.wiring.tasks
entries_in w s here = s.same.shape.entries ∙ ap (λ (x : Wiring). length x.tasks) (wiring_is w s.seat.me here.1)

pub claims_in : (w : SlotWords) (s : ReleaserSeat) → ReleaserSits w s → length s.part.links ≡ length w.wiring.links
claims_in w s here = s.same.shape.links ∙ ap (λ (x : Wiring). length x.links) (wiring_is w s.seat.me here.1)
