-- The distances to the start, found in rounds.
use Rattle.std.proofs.Common.{◌≡◌, ◌≢◌, ℕ, suc, ◌+◌, ◌<◌, ◌≤◌, List, [], ◌∷◌, ◌++◌, length, set, refl, sym, ◌∙◌, ap, subst, arith, inl, inr}
use Rattle.std.specs.Prelude.{replicate, slice_index_or}
use Rattle.std.proofs.lemmas.Bool.{cases_eq, cases_lt}
use Rattle.std.proofs.lemmas.List.{length-set, length-replicate, get_or-set_same, get_or-set_other, get_or-replicate, get_or_past}
use Rattle.std.proofs.lemmas.List.Elements.{Contains-append_left, Contains-push, Contains-push_cases}
use Rattle.rank_find.specs.declared.distance.TheConstants.{FAR}
use Rattle.rank_find.specs.Distances.{AreDistances, AreLowered, AreReached, IsLowered, IsReached, Leads, distance_of}
use Rattle.rank_find.specs.Links.{IsWriter}
use Rattle.rank_find.proofs.Writers.{reader_inside}

-- ---- tasks that come nearer

pub lowered_none : (distance : ℕ) (old : List ℕ) → AreLowered [] distance old old
lowered_none distance old = record { size = refl; same = λ j. inl refl; each = λ j among. absurd (omega (arith, among.1)) }

more_lowered : (tasks : List ℕ) (distance : ℕ) (old new : List ℕ) (task j : ℕ) → IsLowered tasks distance old new j → IsLowered (tasks ++ task ∷ []) distance old new j
more_lowered tasks distance old new task j is = record { among = Contains-append_left tasks (task ∷ []) j is.among; now = is.now; before = is.before }

pub lowered_kept : (tasks : List ℕ) (distance : ℕ) (old new : List ℕ) (task : ℕ) → AreLowered tasks distance old new → distance_of new task ≤ distance → AreLowered (tasks ++ task ∷ []) distance old new
lowered_kept tasks distance old new task are near = record {
  size = are.size;
  same = λ j. elim (are.same j) [ inl same ↦ inl same | inr is ↦ inr (more_lowered tasks distance old new task j is) ];
  each = λ j among. elim (Contains-push_cases tasks task j among) [
    | inl before ↦ are.each j before
    | inr same ↦ subst (λ (k : ℕ). distance_of new k ≤ distance) same near
  ];
}

pub lowered_set : (tasks : List ℕ) (distance : ℕ) (old new : List ℕ) (task : ℕ) → AreLowered tasks distance old new → task < length new → distance < distance_of new task
    → AreLowered (tasks ++ task ∷ []) distance old (set new task distance)
lowered_set tasks distance old new task are inside far =
    let here : distance_of (set new task distance) task ≡ distance = get_or-set_same new task distance FAR inside in
    let there : (j : ℕ) → j ≢ task → distance_of (set new task distance) j ≡ distance_of new j = λ j apart. get_or-set_other new task j distance FAR apart in
    record {
      size = length-set new task distance ∙ are.size;
      same = λ j. elim (cases_eq j task) [
        | inl same ↦
            let before : distance < distance_of old task = elim (are.same task) [
              | inl kept ↦ omega (arith, far, kept)
              | inr is ↦ absurd (omega (arith, far, is.now))
            ] in
            inr
            (subst (λ (k : ℕ). IsLowered (tasks ++ task ∷ []) distance old (set new task distance) k) (sym same)
            (record { among = Contains-push tasks task; now = here; before = before }))
        | inr apart ↦ elim (are.same j) [
          | inl kept ↦ inl (there j apart ∙ kept)
          | inr is ↦ inr (record { among = Contains-append_left tasks (task ∷ []) j is.among; now = there j apart ∙ is.now; before = is.before })
        ]
      ];
      each = λ j among. elim (cases_eq j task) [
        | inl same ↦ let at : distance_of (set new task distance) j ≡ distance = ap (λ (k : ℕ). distance_of (set new task distance) k) same ∙ here in omega (arith, at)
        | inr apart ↦ elim (Contains-push_cases tasks task j among) [
          | inl before ↦ omega (arith, there j apart, are.each j before)
          | inr same ↦ absurd (apart (sym same))
        ]
      ];
    }

-- ---- one round

pub reached_none : (writers : List (List ℕ)) (distance : ℕ) (old : List ℕ) → AreReached writers 0 distance old old
reached_none writers distance old = record { size = refl; same = λ j. inl refl; each = λ t j below. absurd (omega arith) }

-- what is at the distance now was there before the round
at_before : (writers : List (List ℕ)) (count distance : ℕ) (old new : List ℕ) (j : ℕ) → AreReached writers count distance old new → distance_of new j ≡ distance → distance_of old j ≡ distance
at_before writers count distance old new j are at = elim (are.same j) [
  | inl same ↦ sym same ∙ at
  | inr is ↦ absurd (omega (arith, is.now))
]

-- and what was there is there still
at_after : (writers : List (List ℕ)) (count distance : ℕ) (old new : List ℕ) (j : ℕ) → AreReached writers count distance old new → distance_of old j ≡ distance → distance_of new j ≡ distance
at_after writers count distance old new j are at = elim (are.same j) [
  | inl same ↦ same ∙ at
  | inr is ↦ absurd (omega (arith, is.before))
]

more_reached : (writers : List (List ℕ)) (count distance : ℕ) (old new : List ℕ) (j : ℕ) → IsReached writers count distance old new j → IsReached writers (count + 1) distance old new j
more_reached writers count distance old new j is = record { over = is.over; first = omega (arith, is.first); at = is.at; writes = is.writes; now = is.now; before = is.before }

pub reached_kept : (writers : List (List ℕ)) (count distance : ℕ) (old new : List ℕ) → AreReached writers count distance old new → distance_of new count ≢ distance → AreReached writers (count + 1) distance old new
reached_kept writers count distance old new are elsewhere = record {
  size = are.size;
  same = λ j. elim (are.same j) [ inl same ↦ inl same | inr is ↦ inr (more_reached writers count distance old new j is) ];
  each = λ t j below at writes. elim (cases_lt t count) [
    | inl before ↦ are.each t j before at writes
    | inr last ↦
        let same : t ≡ count = omega arith in
        absurd (elsewhere (ap (λ (k : ℕ). distance_of new k) (sym same) ∙ at_after writers count distance old new t are at))
  ];
}

pub reached_more : (writers : List (List ℕ)) (count distance : ℕ) (old middle new : List ℕ) → AreReached writers count distance old middle → distance_of middle count ≡ distance
    → AreLowered (slice_index_or writers count []) (distance + 1) middle new → AreReached writers (count + 1) distance old new
reached_more writers count distance old middle new are here lowered = record {
  size = lowered.size ∙ are.size;
  same = λ j. elim (lowered.same j) [
    | inl kept ↦ elim (are.same j) [
      | inl same ↦ inl (kept ∙ same)
      | inr is ↦ inr (record { over = is.over; first = omega (arith, is.first); at = is.at; writes = is.writes; now = kept ∙ is.now; before = is.before })
    ]
    | inr low ↦
        let before : distance + 1 < distance_of old j = elim (are.same j) [
          | inl same ↦ omega (arith, low.before, same)
          | inr is ↦ absurd (omega (arith, low.before, is.now))
        ] in
        inr (record { over = count; first = omega arith; at = at_before writers count distance old middle count are here; writes = low.among; now = low.now; before = before })
  ];
  each = λ t j below at writes. elim (cases_lt t count) [
    | inl first ↦ elim (lowered.same j) [
      | inl kept ↦ omega (arith, kept, are.each t j first at writes)
      | inr low ↦ omega (arith, low.now)
    ]
    | inr last ↦
        let same : t ≡ count = omega arith in
        lowered.each j (subst (λ (k : ℕ). IsWriter writers j k) same writes)
  ];
}

-- ---- all rounds

-- the start alone is at 0
pub measured_none : (R : ℕ → ℕ → Type 0) (count start : ℕ) → start < count → AreDistances R start 0 (set (replicate count FAR) start 0)
measured_none R count start below =
    let there : (j : ℕ) → j ≢ start → distance_of (set (replicate count FAR) start 0) j ≡ FAR = λ j apart.
    get_or-set_other (replicate count FAR) start j 0 FAR apart ∙ elim (cases_lt j count) [
      | inl inside ↦ get_or-replicate count j FAR FAR inside
      | inr outside ↦ get_or_past (replicate count FAR) j FAR (omega (arith, length-replicate count FAR))
    ] in
    let here : distance_of (set (replicate count FAR) start 0) start ≡ 0 =
    get_or-set_same (replicate count FAR) start 0 FAR (omega (arith, length-replicate count FAR)) in
    let alone : (j : ℕ) → distance_of (set (replicate count FAR) start 0) j < FAR → j ≡ start = λ j near. elim (cases_eq j start) [
      | inl same ↦ same
      | inr apart ↦ absurd (omega (arith, near, there j apart))
    ] in
    let at : (j : ℕ) → distance_of (set (replicate count FAR) start 0) j < FAR → distance_of (set (replicate count FAR) start 0) j ≡ 0 = λ j near.
    ap (λ (k : ℕ). distance_of (set (replicate count FAR) start 0) k) (alone j near) ∙ here in
    record {
      within = λ j near. omega (arith, at j near);
      leads = λ j near. rw (at j near) (alone j near);
      least = λ j steps leads few.
          let none : steps ≡ 0 = omega arith in
          let same : j ≡ start = rw none at leads in
          let zero_there : distance_of (set (replicate count FAR) start 0) j ≡ 0 = ap (λ (k : ℕ). distance_of (set (replicate count FAR) start 0) k) same ∙ here in
          omega (arith, zero_there);
    }

module _ (writers : List (List ℕ)) (start bound : ℕ) (old new : List ℕ) (near : bound + 1 < FAR) (are : AreDistances (IsWriter writers) start bound old) (reached : AreReached writers (length writers) bound old new) where
  -- no distance grows
  falls : (j : ℕ) → distance_of new j ≤ distance_of old j
  falls j = elim (reached.same j) [ inl same ↦ omega (arith, same) | inr is ↦ omega (arith, is.now, is.before) ]

  one_more_step : (j : ℕ) → Leads (IsWriter writers) start (suc bound) j → distance_of new j ≤ bound + 1
  one_more_step j (t, writes, leads) =
      let within : distance_of old t ≤ bound = are.least t bound leads (omega arith) in
      elim (cases_eq (distance_of old t) bound) [
        | inl at ↦ reached.each t j (reader_inside writers j t writes) at writes
        | inr less ↦
            let shorter : Leads (IsWriter writers) start (suc (distance_of old t)) j = (t, writes, are.leads t (omega arith)) in
            omega (arith, falls j, are.least j (suc (distance_of old t)) shorter (omega arith))
      ]

  pub measured_more : AreDistances (IsWriter writers) start (bound + 1) new
  measured_more = record {
    within = λ j close. elim (reached.same j) [
      | inl same ↦ omega (arith, same, are.within j (omega (arith, same)))
      | inr is ↦ omega (arith, is.now)
    ];
    leads = λ j close. elim (reached.same j) [
      | inl same ↦ rw same (are.leads j (omega (arith, same)))
      | inr is ↦
          let next : distance_of new j ≡ suc bound = omega (arith, is.now) in
          let from : Leads (IsWriter writers) start bound is.over = rw (sym is.at) (are.leads is.over (omega (arith, is.at))) in
          rw next (is.over, is.writes, from)
    ];
    least = λ j steps leads few. elim (cases_lt steps (bound + 1)) [
      | inl short ↦ omega (arith, falls j, are.least j steps leads (omega arith))
      | inr full ↦
          let all : steps ≡ suc bound = omega arith in
          omega (arith, all, one_more_step j (subst (λ n. Leads (IsWriter writers) start n j) all leads))
    ];
  }
