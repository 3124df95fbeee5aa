-- After the last firing of a scenario each slot of its task is in use: as many are named as there are, by stamps that differ.
use Rattle.std.proofs.Common.{◌≡◌, ◌≢◌, ℕ, ℤ, zero, suc, ◌+◌, ◌-◌, ◌*◌, ◌<◌, ◌≤◌, true, List, [], ◌∷◌, ◌++◌, length, map, take, slice_get, Some, refl, sym, ap, ◌∙◌, subst, inl, inr, arith, length-append}
use Rattle.std.specs.Prelude.{count_by, filter, nat_lt, slice_index_or}
use Rattle.std.specs.List.{range_with_len}
use Rattle.std.proofs.lemmas.Bool.{and_parts, both_ways, cases_lt, eqb-true}
use Rattle.std.proofs.lemmas.List.{length-map}
use Rattle.std.proofs.lemmas.List.FromFn.{get_or-range_with_len, length-map-range_with_len, length-range_with_len}
use Rattle.std.proofs.lemmas.List.Kept.{AllPairs-filter}
use Rattle.std.proofs.lemmas.List.Sums.{length-filter}
use Rattle.std.proofs.Math.Nat.{mul-le-mul_right}
use Rattle.std.proofs.lemmas.Option.{get_or_from_slice_get, same_Some, slice_get-get_or, slice_get_within}
use Rattle.dbp_plan.specs.declared.diagram.Diagram.{Diagram}
use Rattle.dbp_plan.specs.declared.diagram.Link.{Link}
use Rattle.dbp_plan.specs.declared.plan.Plan.{Plan}
use Rattle.dbp_plan.specs.declared.schedule.Batch.{Batch}
use Rattle.dbp_plan.specs.ListItems.{after_place, front_place, pair_at, same_places}
use Rattle.dbp_plan.specs.Lookups.{link_at, no_link}
use Rattle.dbp_plan.specs.Occurrences.{count_until, time_of, times_of}
use Rattle.dbp_plan.specs.Ranked.{IsRanked}
use Rattle.dbp_plan.proofs.Counts.{count-map}
use Rattle.dbp_plan.proofs.ListMaps.{from-map}
use Rattle.dbp_plan.proofs.Numbers.{number-is, rise}
use Rattle.dbp_plan.proofs.OwnSamples.{range-place}
use Rattle.dbp_plan.specs.Times.{count-come}
use Rattle.dbp_slots.specs.Slots.{counts_of, is_to_lower, longest_delay}
use Rattle.rank_order.specs.Instances.{Instance}
use Rattle.rank_order.specs.Order.{ServesByRank}
use Rattle.rank_order.specs.Service.{IsService}
use Rattle.rank_order.specs.ServiceOf.{service}
use Rattle.release_list.specs.Schedule.{aims, claims, seen_by}
use Rattle.release_list.proofs.BatchStarts.{aims_at_start, claims_at_start}
use Rattle.dbp_rules.specs.declared.state.State.{State}
use Rattle.dbp_rules.specs.declared.step.Count.TheVariants.{Ranked}
use Rattle.dbp_rules.specs.declared.wiring.TaskWiring.{TaskWiring}
use Rattle.dbp_rules.specs.declared.wiring.Wiring.{Wiring}
use Rattle.dbp_rules.specs.Lookups.{is_counted, link, link_entry, slot_at, task, task_entry, wired_task}
use Rattle.dbp_rules.specs.SoundParts.{last_passed}
use Rattle.dbp_rules.specs.TenParts.{HoldsInTenParts, IsStanding}
use Rattle.dbp_rules.specs.Wired.{wiring_of}
use Rattle.dbp_rules.proofs.WiringParts.{wired_is, wired_tasks}
use Rattle.instance_steps.specs.Releases.{HasReleased}
use Rattle.slot_need.specs.Bodies.{IsScenario}
use Rattle.slot_need.specs.Scenarios.{firing_count, firing_of_reader, firing_time, group_size, last_firing, lower_readers}
use Rattle.slot_need.specs.SlotsInUse.{IsInUse, claimed, current, kept}
use Rattle.slot_need.proofs.KeptItems.{stood}
use Rattle.slot_need.proofs.LiveRows.{IsLower, groups-apart, in-group, latest-last, lower-link, place_of, reader-instance, row-read, row_of}
use Rattle.slot_need.proofs.Pigeonholes.{AreDistinct, all-are-there}
use Rattle.slot_need.proofs.Readers.{some-firings}
use Rattle.slot_need.proofs.Served.{own-named}
use Rattle.slot_need.proofs.TaskFirings.{inside-scenario}

module _ (d : Diagram) (w : ℕ) (there : w < length d.tasks) (fixed : ServesByRank d) (ranked : IsRanked d) (p : Plan) (is : IsScenario d w p) (serves : IsService p (service p))
    (number : ℕ) (batch : Batch) (at : slice_get p.batches number ≡ Some batch) (then : batch.time ≡ last_firing d w)
    (s : State) (released : HasReleased p s (number + 1)) (rows : ℕ → ℕ → List ℤ) (sound : HoldsInTenParts p (wiring_of p Ranked) rows s)
    (unknown : (i : ℕ) → (j : ℕ) → slice_get (lower_readers d w) j ≡ Some i → (task_entry s i).known ≡ 0) where
  abbrev wiring : Wiring
  wiring = wiring_of p Ranked

  abbrev count : ℕ
  count = firing_count d w

  abbrev group : ℕ
  group = group_size d w

  named : w < length p.diagram.tasks
  named = own-named d w there fixed p is (service p) serves

  wired : w < length wiring.tasks
  wired = omega (arith, named, wired_tasks p Ranked)

  slots-are : (wired_task wiring w).slots ≡ (counts_of p.diagram w).sim
  slots-are = ap (λ (t : TaskWiring). t.slots) (wired_is p Ranked w named)

  kept-are : (wired_task wiring w).kept + 1 ≡ group
  kept-are =
      let own = ap (λ (t : TaskWiring). t.kept) (wired_is p Ranked w named) in
      let delays = ap (λ (e : Diagram). longest_delay e.links w) is.diagram in
      omega (arith, own, delays)

  -- how often a task has occurred by now
  occurred : (i : ℕ) → length (times_of (take (number + 1) p.batches) i) ≡ count_until (times_of p.batches i) (last_firing d w)
  occurred i =
      sym (number-is p.batches i number batch (rise p.batches p.rules.rising) (slice_get_within p.batches number batch at))
      ∙ ap (λ (b : Batch). count_until (times_of p.batches i) b.time) (get_or_from_slice_get p.batches number batch batch at)
      ∙ ap (count_until (times_of p.batches i)) then

  aimed : (task_entry s w).aimed ≡ count
  aimed =
      sound.numbers.aimed w wired
      ∙ ap (λ place. aims wiring.releases place w) released
      ∙ aims_at_start p.diagram.links p.batches p.rules.in_order (number + 1) w
      ∙ occurred w
      ∙ latest-last d w there fixed ranked p is serves

  -- ---- claims of the links to readers below

  abbrev places : List ℕ
  places = filter (λ k. is_to_lower d.ranks w (link_at d.links k)) (range_with_len 0 (length d.links))

  record IsClaim (k : ℕ) : Type 0 where
    pub below : k < length wiring.links
    pub from : (link wiring k).writer ≡ w
    pub lower : IsLower d w there fixed ranked p is serves (link_at d.links k)
    pub row : (link_entry s k).number ≡ row_of d w there fixed ranked p is serves (link_at d.links k)
    pub stands : IsStanding wiring s k
    pub stamp : (slot_at (task s w).words.slots (link_entry s k).slot).stamp ≡ (link_entry s k).number + 1
    pub apart : (link_entry s k).slot ≢ (task_entry s w).current

  claim-of : (k : ℕ) → k < length d.links → is_to_lower d.ranks w (link_at d.links k) ≡ true → IsClaim k
  claim-of k below passes =
      let l = link_at d.links k in
      let lower = lower-link d w there fixed ranked p is serves k l (slice_get-get_or d.links k no_link below) passes in
      let place = place_of d w there fixed ranked p is serves l in
      let x : Instance = record { task = l.reader; number = 1 } in
      let instance = reader-instance d w there fixed ranked p is serves place l.reader lower.reader in
      let links : p.diagram.links ≡ d.links = ap (λ (e : Diagram). e.links) is.diagram in
      let inside : k < length wiring.links = omega (arith, below, ap (λ (ls : List Link). length ls) links) in
      let link-is : link wiring k ≡ l = ap (λ ls. link_at ls k) links in
      let writer-is : l.writer ≡ w = eqb-true _ _ (and_parts _ _ passes).0 in
      let from : (link wiring k).writer ≡ w = ap (λ (m : Link). m.writer) link-is ∙ writer-is in
      let released-at : firing_time d w (firing_of_reader d w place) ≤ last_firing d w = mul-le-mul_right _ (omega (arith, inside-scenario d w place l.reader lower.reader)) in
      let once : count_until (firing_time d w (firing_of_reader d w place) ∷ []) (last_firing d w) ≡ 1 = count-come (firing_time d w (firing_of_reader d w place)) [] (last_firing d w) released-at in
      let one : (link_entry s k).instance ≡ 1 =
      sound.numbers.claimed k inside
      ∙ ap (λ place. claims wiring.releases place k) released
      ∙ claims_at_start p.diagram.links p.batches p.rules.in_order (number + 1) k inside
      ∙ ap (λ (m : Link). length (times_of (take (number + 1) p.batches) m.reader)) link-is
      ∙ occurred l.reader
      ∙ ap (λ ts. count_until ts (last_firing d w)) (is.readers place l.reader lower.reader)
      ∙ once in
      let row : (link_entry s k).number ≡ row_of d w there fixed ranked p is serves l =
      sound.numbers.number k inside
      ∙ ap (λ n. seen_by wiring.links p.batches k n - (link wiring k).delay) one
      ∙ ap (λ (m : Link). count_until (times_of p.batches m.writer) (time_of p.batches m.reader 1) - m.delay) link-is
      ∙ ap (λ i. count_until (times_of p.batches i) (time_of p.batches l.reader 1) - l.delay) writer-is
      ∙ sym (row-read d w there fixed ranked p is serves l x lower refl instance) in
      let counted : is_counted wiring k ≡ true =
      ap (λ (m : Link). nat_lt (wired_task wiring m.writer).rank (wired_task wiring m.reader).rank) link-is
      ∙ ap (λ i. nat_lt (wired_task wiring i).rank (wired_task wiring l.reader).rank) writer-is
      ∙ ap (λ r. nat_lt r (wired_task wiring l.reader).rank) (ap (λ (t : TaskWiring). t.rank) (wired_is p Ranked w named))
      ∙ ap (λ r. nat_lt (slice_index_or p.diagram.ranks w 0) r) (ap (λ (t : TaskWiring). t.rank) (wired_is p Ranked l.reader instance.task))
      ∙ ap (λ (e : Diagram). nat_lt (slice_index_or e.ranks w 0) (slice_index_or e.ranks l.reader 0)) is.diagram
      ∙ (and_parts _ _ passes).1 in
      let nothing : (task_entry s (link wiring k).reader).known ≡ 0 = ap (λ (m : Link). (task_entry s m.reader).known) link-is ∙ unknown l.reader place lower.reader in
      let passed = ap (λ b. last_passed b (task_entry s (link wiring k).reader).known (task s (link wiring k).reader).words.ended) counted in
      let stands : IsStanding wiring s k = omega (arith, passed, nothing, one) in
      let g = in-group d w there fixed ranked p is serves l lower in
      let writer_aims : (task_entry s (link wiring k).writer).aimed ≡ count = ap (λ i. (task_entry s i).aimed) from ∙ aimed in
      let early : (link_entry s k).number < count = omega (arith, row, g.within, g.before) in
      record {
        below = inside;
        from = from;
        lower = lower;
        row = row;
        stands = stands;
        stamp = elim (sound.claims k inside stands) [
          | inl found ↦ ap (λ i. (slot_at (task s i).words.slots (link_entry s k).slot).stamp) (sym from) ∙ found
          | inr here ↦ absurd (omega (arith, here.1, writer_aims, early))
        ];
        apart = λ same. elim (sound.on_current k inside stands (same ∙ ap (λ i. (task_entry s i).current) (sym from))) [
          | inl last ↦ omega (arith, last, writer_aims, early)
          | inr other ↦ both_ways (is_counted wiring k) other.0 counted
        ];
      }

  -- ---- the slots in use

  abbrev kept_slot : ℕ → ℕ
  kept_slot j = slice_index_or (task_entry s w).kept j 0

  abbrev claimed_slot : ℕ → ℕ
  claimed_slot k = (link_entry s k).slot

  abbrev kept_slots : List ℕ
  kept_slots = map kept_slot (range_with_len 0 (wired_task wiring w).kept)

  abbrev used : List ℕ
  used = (task_entry s w).current ∷ (kept_slots ++ map claimed_slot places)

  -- why a slot is in use, and its stamp, which tells it from the others
  data IsUsed (i slot : ℕ) : Type 0 where
    as_current : i ≡ 0 → slot ≡ (task_entry s w).current → IsUsed i slot
    as_kept : (j : ℕ) → i ≡ j + 1 → j < (wired_task wiring w).kept → slot ≡ kept_slot j → IsUsed i slot
    as_claimed : (n k : ℕ) → i ≡ (wired_task wiring w).kept + 1 + n → slice_get places n ≡ Some k → IsClaim k → slot ≡ claimed_slot k → IsUsed i slot

  used-cases : (i slot : ℕ) → slice_get used i ≡ Some slot → IsUsed i slot
  used-cases zero slot here = as_current refl (sym (same_Some (task_entry s w).current slot here))
  used-cases (suc i) slot here = elim (cases_lt i (wired_task wiring w).kept) [
    | inl front ↦
        let size = length-map-range_with_len kept_slot 0 (wired_task wiring w).kept in
        as_kept i (omega arith) front (same_Some slot (kept_slot i) (sym here ∙ front_place kept_slots (map claimed_slot places) i (omega (arith, front, size)) ∙ range-place kept_slot (wired_task wiring w).kept i front))
    | inr later ↦
        let size = length-map-range_with_len kept_slot 0 (wired_task wiring w).kept in
        let n = i - (wired_task wiring w).kept in
        let same : length kept_slots + n ≡ i = omega (arith, later, size) in
        let there : slice_get (map claimed_slot places) n ≡ Some slot = sym (after_place kept_slots (map claimed_slot places) n) ∙ ap (λ k. slice_get (kept_slots ++ map claimed_slot places) k) same ∙ here in
        let (k, at_k, own) = from-map claimed_slot places n slot there in
        let (m, stands, passes) = stood (λ k. is_to_lower d.ranks w (link_at d.links k)) (range_with_len 0 (length d.links)) n k at_k in
        let inside : m < length d.links = omega (arith, slice_get_within (range_with_len 0 (length d.links)) m k stands, length-range_with_len 0 (length d.links)) in
        let below : k < length d.links = omega (arith, inside, get_or-range_with_len 0 (length d.links) m 0 inside, get_or_from_slice_get (range_with_len 0 (length d.links)) m k 0 stands) in
        as_claimed n k (omega (arith, later)) at_k (claim-of k below passes) (sym own)
  ]

  all-links : map (link_at d.links) (range_with_len 0 (length d.links)) ≡ d.links
  all-links =
      same_places (map (link_at d.links) (range_with_len 0 (length d.links))) d.links (length-map-range_with_len (link_at d.links) 0 (length d.links)) (λ k a b at_a at_b.
      let inside = slice_get_within d.links k b at_b in
      same_Some a b (sym at_a ∙ range-place (link_at d.links) (length d.links) k inside ∙ ap (λ l. Some l) (get_or_from_slice_get d.links k b no_link at_b)))

  used-size : length used ≡ (counts_of p.diagram w).sim
  used-size =
      let lower = is_to_lower d.ranks w in
      let numbers = range_with_len 0 (length d.links) in
      let counted : count_by (λ k. lower (link_at d.links k)) numbers ≡ count_by lower d.links = sym (count-map lower (link_at d.links) numbers) ∙ ap (count_by lower) all-links in
      let slots = ap (λ (e : Diagram). (counts_of e w).sim) is.diagram in
      omega (
        arith,
        counted,
        slots,
        kept-are,
        length-append kept_slots (map claimed_slot places),
        length-map-range_with_len kept_slot 0 (wired_task wiring w).kept,
        length-map places claimed_slot,
        length-filter (λ k. lower (link_at d.links k)) numbers,
      )

  used-below : (i slot : ℕ) → slice_get used i ≡ Some slot → slot < (counts_of p.diagram w).sim
  used-below i slot here = below (used-cases i slot here)
    where
      below : IsUsed i slot → slot < (counts_of p.diagram w).sim
      below (as_current first own) = omega (arith, own, sound.slots.current w wired, slots-are)
      below (as_kept j first inside own) = omega (arith, own, sound.slots.kept_slots w j wired inside, slots-are)
      below (as_claimed n k first stands claim own) =
          omega (arith, own, sound.slots.claimed k claim.below, ap (λ i. (wired_task wiring i).slots) claim.from, slots-are)

  used-apart : AreDistinct used
  used-apart i j a b less at_a at_b = apart (used-cases i a at_a) (used-cases j b at_b)
    where
      few : 1 * group ≤ (length (lower_readers d w) + 1) * group
      few = mul-le-mul_right group (omega arith)

      row_stamp : (k : ℕ) → IsClaim k → (slot_at (task s w).words.slots (claimed_slot k)).stamp ≡ row_of d w there fixed ranked p is serves (link_at d.links k) + 1
      row_stamp k claim = omega (arith, claim.stamp, claim.row)

      rising : (m n k l : ℕ) → m < n → slice_get places m ≡ Some k → slice_get places n ≡ Some l → k < l
      rising m n k l before at_k at_l =
          pair_at (λ a b. a < b) places m n k l (AllPairs-filter (λ a b. a < b) (λ k. is_to_lower d.ranks w (link_at d.links k)) (range_with_len 0 (length d.links)) (λ e f c before inside.
          let most : f < length d.links = omega (arith, inside, length-range_with_len 0 (length d.links)) in
          omega (arith, before, get_or-range_with_len 0 (length d.links) e c (omega (arith, before, most)), get_or-range_with_len 0 (length d.links) f c most))) before at_k at_l

      apart : IsUsed i a → IsUsed j b → a ≢ b
      apart (as_current first own) (as_current second other) same = omega (arith, less, first, second)
      apart (as_current first own) (as_kept n second inside other) same = sound.kept.apart w n wired inside (omega (arith, aimed, some-firings d w)) (sym other ∙ sym same ∙ own)
      apart (as_current first own) (as_claimed n k second stands claim other) same = claim.apart (sym other ∙ sym same ∙ own)
      apart (as_kept m first before own) (as_current second other) same = omega (arith, less, second)
      apart (as_kept m first before own) (as_kept n second inside other) same =
          let stamps = ap (λ slot. (slot_at (task s w).words.slots slot).stamp) (sym own ∙ same ∙ other) in
          omega (arith, less, first, second, stamps, sound.kept.stamp w m wired before, sound.kept.stamp w n wired inside, aimed, kept-are, few)
      apart (as_kept m first before own) (as_claimed n k second stands claim other) same =
          let stamps = ap (λ slot. (slot_at (task s w).words.slots slot).stamp) (sym own ∙ same ∙ other) in
          let g = in-group d w there fixed ranked p is serves (link_at d.links k) claim.lower in
          omega (arith, stamps, sound.kept.stamp w m wired before, row_stamp k claim, g.within, g.before, aimed, kept-are, few)
      apart (as_claimed m l first here claim own) (as_current second other) same = omega (arith, less, second)
      apart (as_claimed m l first here claim own) (as_kept n second inside other) same = omega (arith, less, first, second, inside)
      apart (as_claimed m l first here claim own) (as_claimed n k second stands also other) same =
          let stamps = ap (λ slot. (slot_at (task s w).words.slots slot).stamp) (sym own ∙ same ∙ other) in
          let before : l < k = rising m n l k (omega (arith, less, first, second)) here stands in
          let at_l = slice_get-get_or d.links l no_link (omega (arith, claim.below, ap (λ (e : Diagram). length e.links) is.diagram)) in
          let at_k = slice_get-get_or d.links k no_link (omega (arith, also.below, ap (λ (e : Diagram). length e.links) is.diagram)) in
          let links = pair_at (λ x y. x ≢ y) d.links l k (link_at d.links l) (link_at d.links k) ranked.closed.one_link before at_l at_k in
          groups-apart d w there fixed ranked p is serves (link_at d.links l) (link_at d.links k) claim.lower also.lower links (omega (arith, stamps, row_stamp l claim, row_stamp k also))

  pub in-use : (slot : ℕ) → slot < (counts_of p.diagram w).sim → IsInUse wiring s w slot
  in-use slot inside =
      let (i, here) = all-are-there used (counts_of p.diagram w).sim used-apart used-below used-size slot inside in
      use_of (used-cases i slot here)
    where
      use_of : {i : ℕ} → IsUsed i slot → IsInUse wiring s w slot
      use_of (as_current first own) = subst (IsInUse wiring s w) (sym own) current
      use_of (as_kept j first below own) = subst (IsInUse wiring s w) (sym own) (kept j below)
      use_of (as_claimed n k first stands claim own) = subst (IsInUse wiring s w) (sym own) (claimed k claim.below claim.from claim.stands)
