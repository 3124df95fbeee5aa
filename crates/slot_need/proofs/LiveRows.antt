-- The rows of a scenario's task that matter after its last firing: as many as the task has slots.
use Rattle.std.proofs.Common.{◌≡◌, ◌≢◌, ℕ, ◌+◌, ◌-◌, ◌*◌, ◌<◌, ◌≤◌, ◌⊎◌, true, List, ◌++◌, length, map, get_or, slice_get, Some, refl, sym, ap, ◌∙◌, subst, inl, inr, arith, length-append}
use Rattle.std.specs.Prelude.{AllPairs, IsTrue, filter, nat_le, slice_index_or, ◌==◌, ◌&&◌}
use Rattle.std.specs.List.{list_any, position_or_len, range_with_len}
use Rattle.std.specs.Option.{option_map}
use Rattle.std.proofs.Math.Nat.{mul-le-mul_right}
use Rattle.std.proofs.lemmas.Bool.{and_parts, cases_lt, eq-eqb, eqb-true}
use Rattle.std.proofs.lemmas.List.{length-map}
use Rattle.std.proofs.lemmas.List.FromFn.{get_or-range_with_len, length-map-range_with_len, length-range_with_len}
use Rattle.std.proofs.lemmas.List.Kept.{AllPairs-filter}
use Rattle.std.proofs.lemmas.List.Sums.{count_by-le-length, length-filter, passes_at_first}
use Rattle.std.proofs.lemmas.Option.{same_Some, slice_get-get_or, slice_get-map, slice_get_within}
use Rattle.dbp_plan.specs.declared.diagram.Diagram.{Diagram}
use Rattle.dbp_plan.specs.declared.diagram.Link.{Link}
use Rattle.dbp_plan.specs.declared.plan.Plan.{Plan}
use Rattle.dbp_plan.specs.ListItems.{after_place, all_place, front_place, pair_at}
use Rattle.dbp_plan.specs.Lookups.{task_at}
use Rattle.dbp_plan.specs.Occurrences.{count_until, times_of}
use Rattle.dbp_plan.specs.Ranked.{IsRanked}
use Rattle.dbp_plan.specs.Times.{Rises, has_come, times-rise}
use Rattle.dbp_plan.proofs.FirstIndexes.{first-below}
use Rattle.dbp_plan.proofs.ListMaps.{from-map}
use Rattle.dbp_plan.proofs.OwnSamples.{range-place}
use Rattle.dbp_plan.proofs.TaskTimes.{come_counted}
use Rattle.dbp_slots.specs.Slots.{counts_of, is_to_lower, longest_delay}
use Rattle.dia_check.proofs.LinkLists.{any-at}
use Rattle.rank_order.specs.Instances.{Instance, IsInstance, release_of}
use Rattle.rank_order.specs.Order.{ServesByRank}
use Rattle.rank_order.specs.Service.{IsService}
use Rattle.rank_order.specs.ServiceOf.{service}
use Rattle.rank_order.proofs.InstanceEnds.{has_end}
use Rattle.slot_need.specs.Bodies.{IsScenario}
use Rattle.slot_need.specs.Live.{HasLiveRows, IsLive, latest, latest_row, read}
use Rattle.slot_need.specs.Scenarios.{firing_count, firing_of_reader, firing_time, group_size, is_lower_reader, last_firing, lower_readers}
use Rattle.slot_need.proofs.KeptItems.{delay-within, pairs-from, stays, stood}
use Rattle.slot_need.proofs.Readers.{some-firings}
use Rattle.slot_need.proofs.Served.{ends-late, instance-cases, own-count, cost-some}
use Rattle.slot_need.proofs.TaskFirings.{inside-scenario, is-reader, not-itself, readers-rise}

module _ (d : Diagram) (w : ℕ) (there : w < length d.tasks) (fixed : ServesByRank d) (ranked : IsRanked d) (p : Plan) (is : IsScenario d w p) (serves : IsService p (service p)) where
  abbrev count : ℕ
  count = firing_count d w

  abbrev cost : ℕ
  cost = (task_at d w).cost

  abbrev group : ℕ
  group = group_size d w

  abbrev readers : List ℕ
  readers = lower_readers d w

  some-cost : 1 ≤ cost
  some-cost = cost-some d w there fixed p is (service p) serves

  -- ---- the latest row at a firing

  times-count : length (times_of p.batches w) ≡ count
  times-count = own-count d w there fixed p is (service p) serves

  pub firing-at : (k : ℕ) → k < count → slice_get (times_of p.batches w) k ≡ Some (k * cost)
  firing-at k below = ap (λ (ts : List ℕ). slice_get ts k) is.task ∙ range-place (firing_time d w) count k below

  rises : Rises (times_of p.batches w)
  rises = times-rise p.batches w p.rules.rising

  latest-at : (k : ℕ) → k < count → latest_row p w (k * cost) ≡ k + 1
  latest-at k below =
      let times = times_of p.batches w in
      let least : k < count_until times (k * cost) = come_counted times k (k * cost) (k * cost) rises (firing-at k below) (omega arith) in
      elim (cases_lt (k + 1) (count_until times (k * cost))) [
        | inr most ↦ omega (arith, least, most)
        | inl more ↦
            let inside : k + 1 < count = omega (arith, more, count_by-le-length (λ t. nat_le t (k * cost)) times, times-count) in
            let come : (k + 1) * cost ≤ k * cost = has_come times (k + 1) ((k + 1) * cost) (k * cost) rises (firing-at (k + 1) inside) more in
            absurd (omega (arith, come, some-cost))
      ]

  -- ---- links to readers below

  abbrev lower : List Link
  lower = filter (is_to_lower d.ranks w) d.links

  -- the number of a link's reader
  abbrev pub place_of : Link → ℕ
  place_of l = position_or_len (λ r. r == l.reader) readers

  -- the row that its reader reads over the link
  abbrev pub row_of : Link → ℕ
  row_of l = (place_of l + 1) * group - l.delay

  pub record IsLower (l : Link) : Type 0 where
    pub index : ℕ
    pub at : slice_get d.links index ≡ Some l
    pub passes : is_to_lower d.ranks w l ≡ true
    pub reader : slice_get readers (place_of l) ≡ Some l.reader
    pub delay : l.delay ≤ longest_delay d.links w

  pub lower-link : (k : ℕ) (l : Link) → slice_get d.links k ≡ Some l → is_to_lower d.ranks w l ≡ true → IsLower l
  lower-link k l at passes =
      let (from, below) = and_parts (l.writer == w) _ passes in
      let ends = all_place (λ (l : Link). (l.writer < length d.tasks) × (l.reader < length d.tasks) × (l.writer ≢ l.reader)) d.links k l ranked.closed.ends at in
      let linked : list_any (λ m. (m.writer == w) && (m.reader == l.reader)) d.links ≡ true =
      any-at (λ m. (m.writer == w) && (m.reader == l.reader)) d.links k l at (rw (from, eq-eqb l.reader l.reader refl) refl) in
      let reads : is_lower_reader d w l.reader ≡ true = rw (below, linked) refl in
      let all = range_with_len 0 (length d.tasks) in
      let (j, stands) = stays (is_lower_reader d w) all l.reader l.reader (number-at (length d.tasks) l.reader ends.1) reads in
      let first : place_of l < length readers = first-below (λ r. r == l.reader) readers (any-at (λ r. r == l.reader) readers j l.reader stands (eq-eqb l.reader l.reader refl)) in
      let same : get_or readers (place_of l) 0 ≡ l.reader = eqb-true _ _ (passes_at_first (λ r. r == l.reader) readers 0 first) in
      let (i, own) = stays (λ (m : Link). m.writer == w) d.links k l at from in
      record {
        index = k;
        at = at;
        passes = passes;
        reader = slice_get-get_or readers (place_of l) 0 first ∙ ap (λ n. Some n) same;
        delay = delay-within (filter (λ (m : Link). m.writer == w) d.links) 0 i l own;
      }
    where
      number-at : (n i : ℕ) → i < n → slice_get (range_with_len 0 n) i ≡ Some i
      number-at n i below =
          let value : get_or (range_with_len 0 n) i 0 ≡ i = omega (arith, get_or-range_with_len 0 n i 0 below) in
          slice_get-get_or (range_with_len 0 n) i 0 (omega (arith, below, length-range_with_len 0 n)) ∙ ap (λ k. Some k) value

  -- ---- the rows

  abbrev front : List ℕ
  front = map (λ j. count - j) (range_with_len 0 group)

  abbrev rows : List ℕ
  rows = front ++ map row_of lower

  front-size : length front ≡ group
  front-size = length-map-range_with_len (λ j. count - j) 0 group

  -- a row is one of the latest, or one that a reader below reads
  record IsRead (i n : ℕ) : Type 0 where
    pub link : Link
    pub place : ℕ
    pub after : i ≡ group + place
    pub at : slice_get lower place ≡ Some link
    pub linked : IsLower link
    pub row : row_of link ≡ n

  row-cases : (i n : ℕ) → slice_get rows i ≡ Some n → ((i < group) × (n ≡ count - i)) ⊎ IsRead i n
  row-cases i n at = elim (cases_lt i group) [
    | inl early ↦ inl (early, same_Some n (count - i) (sym at ∙ front_place front (map row_of lower) i (omega (arith, early, front-size)) ∙ range-place (λ j. count - j) group i early))
    | inr later ↦
        let same : length front + (i - group) ≡ i = omega (arith, later, front-size) in
        let there : slice_get (map row_of lower) (i - group) ≡ Some n = sym (after_place front (map row_of lower) (i - group)) ∙ ap (λ k. slice_get rows k) same ∙ at in
        let (l, at_l, row) = from-map row_of lower (i - group) n there in
        let (k, at_k, passes) = stood (is_to_lower d.ranks w) d.links (i - group) l at_l in
        inr (record { link = l; place = i - group; after = omega (arith, later); at = at_l; linked = lower-link k l at_k passes; row = row })
  ]

  -- rows that a reader reads lie in its group, and before the latest ones
  pub record IsInGroup (l : Link) : Type 0 where
    pub above : place_of l * group < row_of l
    pub within : row_of l ≤ (place_of l + 1) * group
    pub before : (place_of l + 1) * group + group ≤ count

  pub in-group : (l : Link) → IsLower l → IsInGroup l
  in-group l is =
      let below : place_of l < length readers = slice_get_within readers (place_of l) l.reader is.reader in
      let most : (place_of l + 1) * group ≤ length readers * group = mul-le-mul_right group (omega (arith, below)) in
      let next : (place_of l + 1) * group ≡ place_of l * group + group = omega arith in
      let all : count ≡ length readers * group + group = omega arith in
      record { above = omega (arith, next, is.delay); within = omega arith; before = omega (arith, most, all) }

  pub groups-apart : (l m : Link) → IsLower l → IsLower m → l ≢ m → row_of l ≢ row_of m
  groups-apart l m is_l is_m other same =
      let g = in-group l is_l in
      let h = in-group m is_m in
      elim (cases_lt (place_of l) (place_of m)) [
        | inl less ↦ let least : (place_of l + 1) * group ≤ place_of m * group = mul-le-mul_right group (omega (arith, less)) in absurd (omega (arith, same, least, g.within, h.above))
        | inr le ↦ elim (cases_lt (place_of m) (place_of l)) [
          | inl less ↦ let least : (place_of m + 1) * group ≤ place_of l * group = mul-le-mul_right group (omega (arith, less)) in absurd (omega (arith, same, least, h.within, g.above))
          | inr ge ↦
              let one : place_of l ≡ place_of m = omega (arith, le, ge) in
              let reader : l.reader ≡ m.reader = same_Some l.reader m.reader (sym is_l.reader ∙ ap (λ k. slice_get readers k) one ∙ is_m.reader) in
              let lines : (place_of l + 1) * group ≡ (place_of m + 1) * group = ap (λ k. (k + 1) * group) one in
              let delay : l.delay ≡ m.delay = omega (arith, same, lines, is_l.delay, is_m.delay, g.above, h.above, g.within, h.within) in
              let writer : l.writer ≡ m.writer = eqb-true _ _ (and_parts _ _ is_l.passes).0 ∙ sym (eqb-true _ _ (and_parts _ _ is_m.passes).0) in
              other (one-link l m writer reader delay)
        ]
      ]
    where
      one-link : (l m : Link) → l.writer ≡ m.writer → l.reader ≡ m.reader → l.delay ≡ m.delay → l ≡ m
      one-link l m a b c =
          ap (λ (n : ℕ). let k : Link = record { writer = n; reader = l.reader; delay = l.delay } in k) a
          ∙ ap (λ (n : ℕ). let k : Link = record { writer = m.writer; reader = n; delay = l.delay } in k) b
          ∙ ap (λ (n : ℕ). let k : Link = record { writer = m.writer; reader = m.reader; delay = n } in k) c

  rows-apart : AllPairs (λ m n. m ≢ n) rows
  rows-apart = pairs-from (λ m n. m ≢ n) rows (λ i j m n less at_m at_n same. elim (row-cases i m at_m) [
    | inl first ↦ elim (row-cases j n at_n) [
      | inl second ↦ let few : 1 * group ≤ (length readers + 1) * group = mul-le-mul_right group (omega arith) in absurd (omega (arith, less, first.0, second.0, first.1, second.1, same, few))
      | inr second ↦ let g = in-group second.link second.linked in absurd (omega (arith, first.0, first.1, same, second.row, g.within, g.before))
    ]
    | inr first ↦ elim (row-cases j n at_n) [
      | inl second ↦ absurd (omega (arith, less, first.after, second.0))
      | inr second ↦
          let other : first.link ≢ second.link = pair_at (λ k l. k ≢ l) lower first.place second.place first.link second.link (AllPairs-filter (λ k l. k ≢ l) (is_to_lower d.ranks w) d.links ranked.closed.one_link) (omega (arith, less, first.after, second.after)) first.at second.at in
          groups-apart first.link second.link first.linked second.linked other (first.row ∙ same ∙ sym second.row)
    ]
  ])

  rows-size : length rows ≡ (counts_of p.diagram w).sim
  rows-size =
      let counted = ap (λ (e : Diagram). (counts_of e w).sim) is.diagram in
      omega (arith, counted, length-append front (map row_of lower), front-size, length-map lower row_of, length-filter (is_to_lower d.ranks w) d.links)

  -- ---- each of them matters, and no other

  abbrev last : ℕ
  last = last_firing d w

  pub latest-last : latest_row p w last ≡ count
  latest-last = let some = some-firings d w in omega (arith, some, latest-at (count - 1) (omega (arith, some)))

  -- the reader's one instance, and the latest row at its release
  pub reader-instance : (j i : ℕ) → slice_get readers j ≡ Some i → IsInstance p (record { task = i; number = 1 })
  reader-instance j i at = record {
    task = subst (λ (e : Diagram). i < length e.tasks) (sym is.diagram) (is-reader d w j i at).1;
    from_one = omega arith;
    within = omega (arith, ap (λ (ts : List ℕ). length ts) (is.readers j i at));
  }

  row-at-release : (j i : ℕ) → slice_get readers j ≡ Some i → latest_row p w (firing_time d w (firing_of_reader d w j)) ≡ (j + 1) * group
  row-at-release j i at =
      let some : 1 * group ≤ (j + 1) * group = mul-le-mul_right group (omega arith) in
      omega (arith, some, latest-at (firing_of_reader d w j) (inside-scenario d w j i at))

  live : (i n : ℕ) → slice_get rows i ≡ Some n → IsLive p w last n
  live i n at = elim (row-cases i n at) [
    | inl own ↦
        let within : i ≤ longest_delay d.links w = omega (arith, own.0) in
        subst (IsLive p w last) (ap (λ r. r - i) latest-last ∙ sym own.1) (latest i (subst (λ (e : Diagram). i ≤ longest_delay e.links w) (sym is.diagram) within))
    | inr r ↦
        let l = r.link in
        let at_reader = r.linked.reader in
        let x : Instance = record { task = l.reader; number = 1 } in
        let instance = reader-instance (place_of l) l.reader at_reader in
        let (e, end) = has_end p (service p) serves x instance in
        let release : release_of p x ≡ firing_time d w (firing_of_reader d w (place_of l)) = ap (λ (ts : List ℕ). slice_index_or ts 0 0) (is.readers (place_of l) l.reader at_reader) in
        let before = inside-scenario d w (place_of l) l.reader at_reader in
        let released : firing_of_reader d w (place_of l) * cost ≤ (count - 1) * cost = mul-le-mul_right cost (omega (arith, before)) in
        let late : count * cost < e = ends-late d w there fixed p is (service p) serves x (not-itself d w l.reader (is-reader d w (place_of l) l.reader at_reader).0) e end in
        let short : (count - 1) * cost ≤ count * cost = mul-le-mul_right cost (omega arith) in
        let row : latest_row p w (release_of p x) - l.delay ≡ n = ap (λ t. latest_row p w t - l.delay) release ∙ ap (λ m. m - l.delay) (row-at-release (place_of l) l.reader at_reader) ∙ r.row in
        subst (IsLive p w last) row (read r.linked.index e l x
        (subst (λ (e : Diagram). slice_get e.links r.linked.index ≡ Some l) (sym is.diagram) r.linked.at)
        (subst (λ (e : Diagram). IsTrue (is_to_lower e.ranks w l)) (sym is.diagram) r.linked.passes)
        refl instance (omega (arith, release, released)) end (omega (arith, late, short)))
  ]

  -- a reader stands at one place
  one-place : (i j r : ℕ) → slice_get readers i ≡ Some r → slice_get readers j ≡ Some r → i ≡ j
  one-place i j r at_i at_j = elim (cases_lt i j) [
    | inl less ↦ absurd (omega (arith, pair_at (λ a b. a < b) readers i j r r (readers-rise d w) less at_i at_j))
    | inr le ↦ elim (cases_lt j i) [
      | inl less ↦ absurd (omega (arith, pair_at (λ a b. a < b) readers j i r r (readers-rise d w) less at_j at_i))
      | inr ge ↦ omega (arith, le, ge)
    ]
  ]

  -- what a reader reads over a link
  pub row-read : (l : Link) (x : Instance) → IsLower l → l.reader ≡ x.task → IsInstance p x → row_of l ≡ latest_row p w (release_of p x) - l.delay
  row-read l x linked reader instance = elim (instance-cases d w there fixed p is (service p) serves x instance) [
    | inl same ↦ absurd (not-itself d w l.reader (is-reader d w (place_of l) l.reader linked.reader).0 (reader ∙ same))
    | inr r ↦
        let one : place_of l ≡ r.place = one-place (place_of l) r.place x.task (linked.reader ∙ ap (λ i. Some i) reader) r.at in
        ap (λ k. (k + 1) * group - l.delay) one ∙ ap (λ m. m - l.delay) (sym (row-at-release r.place x.task r.at)) ∙ ap (λ t. latest_row p w t - l.delay) (sym r.release)
  ]

  listed : (n : ℕ) → IsLive p w last n → (i : ℕ) × (slice_get rows i ≡ Some n)
  listed n (latest j within) =
      let below : j ≤ longest_delay d.links w = subst (λ (e : Diagram). j ≤ longest_delay e.links w) is.diagram within in
      (j, front_place front (map row_of lower) j (omega (arith, below, front-size)) ∙ range-place (λ i. count - i) group j (omega (arith, below)) ∙ ap (λ r. Some (r - j)) (sym latest-last))
  listed n (read k e l x at passes reader instance released end later) =
      let at_l : slice_get d.links k ≡ Some l = subst (λ (e : Diagram). slice_get e.links k ≡ Some l) is.diagram at in
      let passes_l : is_to_lower d.ranks w l ≡ true = subst (λ (e : Diagram). is_to_lower e.ranks w l ≡ true) is.diagram passes in
      let (i, stands) = stays (is_to_lower d.ranks w) d.links k l at_l passes_l in
      (length front + i, after_place front (map row_of lower) i ∙ slice_get-map row_of lower i ∙ ap (option_map row_of) stands ∙ ap (λ m. Some m) (row-read l x (lower-link k l at_l passes_l) reader instance))

  pub live-rows : HasLiveRows p w last (counts_of p.diagram w).sim
  live-rows = record {
    rows = rows;
    size = rows-size;
    apart = rows-apart;
    each = λ n. ((λ at. live at.0 n at.1), listed n);
  }
