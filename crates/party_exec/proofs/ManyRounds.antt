-- Jobs of each party in a row are rounds.
use Rattle.std.proofs.Common.{◌≡◌, ◌⊎◌, inl, inr, ℕ, zero, suc, ◌+◌, ◌<◌, List, [], ◌∷◌, length, get_or, refl, sym, ◌∙◌, subst, arith}
use Rattle.std.proofs.lemmas.List.{ext_get_or, get_or_default}
use Rattle.word_rule.specs.declared.seats.SlotWords.{SlotWords}
use Rattle.party_turns.specs.Parties.{HasFinished}
use Rattle.party_turns.specs.declared.party.Party.{Party}
use Rattle.party_exec.specs.Jobs.{HaveRounds, IsJob, IsNextJob, MakeJobs, MakesJobs, at_first, no_job, one_job, one_round}
use Rattle.party_exec.proofs.Chosen.{all_or_one, choose}

module _ (w : SlotWords) where
  none_made : (p : Party) (n : ℕ) (r : Party) → n ≡ 0 → MakesJobs w p n r → r ≡ p
  none_made p n r none no_job = refl
  none_made p n r none (one_job m q s before next) = (let no : ⊥ = omega (arith, none) in elim no [ ])

  -- the party before its last job
  last_job : (p : Party) (n : ℕ) (r : Party) (m : ℕ) → n ≡ m + 1 → MakesJobs w p n r → (q : Party) × (MakesJobs w p m q × IsNextJob w q r)
  last_job p n r m is no_job = (let no : ⊥ = omega (arith, is) in elim no [ ])
  last_job p n r m is (one_job made q s before next) = (q, (subst (λ (k : ℕ). MakesJobs w p k q) (omega (arith, is)) before, next))

  -- one that has finished may make a job without a turn
  job_of : (p q : Party) → IsNextJob w p q → IsJob w p q
  job_of p q next = elim next [
    | inl rests ↦ subst (λ (x : Party). IsJob w p x) (sym rests.1) (record { made = 0; idle = 0; turns = at_first; stops = inl rests.0 })
    | inr works ↦ works.1
  ]

  one_further : (d : Party) (ps qs rs : List Party) → length rs ≡ length qs → HaveRounds w ps qs → ((k : ℕ) (e : Party) → k < length qs → IsNextJob w (get_or qs k e) (get_or rs k e)) → HaveRounds w ps rs
  one_further d ps qs rs size before next =
      let rests : ℕ → Type 0 = λ k. get_or rs k d ≡ get_or qs k d in
      let works : ℕ → Type 0 = λ k. HasFinished w (get_or qs k d) → ⊥ in
      let each : (k : ℕ) → k < length qs → rests k ⊎ works k = λ k few. elim (next k d few) [
        | inl r ↦ inl r.1
        | inr j ↦ inr j.0
      ] in
      elim (all_or_one rests works (length qs) each) [
        | inl all ↦ subst (λ (xs : List Party). HaveRounds w ps xs) (sym (ext_get_or d rs qs size (λ i few. all i (omega (arith, few, size))))) before
        | inr one ↦ one_round qs rs before (λ done. one.2 (done one.0 d one.1)) (record { size = size; jobs = λ k e few. job_of (get_or qs k e) (get_or rs k e) (next k e few) })
      ]

  further : (d : Party) (n : ℕ) (before ps rs : List Party) → length rs ≡ length ps → HaveRounds w before ps → ((k : ℕ) (e : Party) → k < length ps → MakesJobs w (get_or ps k e) n (get_or rs k e)) → HaveRounds w before rs
  further d zero before ps rs size rounds jobs =
      subst (λ (xs : List Party). HaveRounds w before xs) (sym (ext_get_or d rs ps size (λ i few. none_made (get_or ps i d) 0 (get_or rs i d) refl (jobs i d (omega (arith, few, size)))))) rounds
  further d (suc n) before ps rs size rounds jobs =
      let P : ℕ → Party → Type 0 = λ k q. MakesJobs w (get_or ps k d) n q × IsNextJob w q (get_or rs k d) in
      let mid = choose P (length ps) (λ k few. last_job (get_or ps k d) (suc n) (get_or rs k d) n (omega arith) (jobs k d few)) in
      let qs = mid.items in
      let made : (k : ℕ) (e : Party) → k < length ps → MakesJobs w (get_or ps k e) n (get_or qs k e) =
      λ k e few. subst (λ (x : Party). MakesJobs w x n (get_or qs k e)) (get_or_default ps k d e few) (mid.each k e few).0 in
      let next : (k : ℕ) (e : Party) → k < length qs → IsNextJob w (get_or qs k e) (get_or rs k e) =
      λ k e few. subst (λ (x : Party). IsNextJob w (get_or qs k e) x) (get_or_default rs k d e (omega (arith, few, size, mid.size))) (mid.each k e (omega (arith, few, mid.size))).1 in
      one_further d before qs rs (size ∙ sym mid.size) (further d n before ps qs mid.size rounds made) next

  pub rounds_further : (n : ℕ) (before ps rs : List Party) → HaveRounds w before ps → MakeJobs w ps n rs → HaveRounds w before rs
  rounds_further n before [] rs rounds jobs = subst (λ (xs : List Party). HaveRounds w before xs) (empty rs jobs.size) rounds
    where
      empty : (rs : List Party) → length rs ≡ 0 → [] ≡ rs
      empty [] none = refl
      empty (r ∷ rs) none = (let no : ⊥ = omega (arith, none) in elim no [ ])
  rounds_further n before (p ∷ ps) rs rounds jobs = further p n before (p ∷ ps) rs jobs.size rounds jobs.jobs
