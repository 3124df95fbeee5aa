-- The ticks to the next event, processor by processor.
use Rattle.std.proofs.Common.{◌≡◌, ℕ, ◌+◌, ◌<◌, ◌≤◌, List, length, get_or, Option, Some, None, sym, ap, ◌∙◌, subst, inl, inr, arith}
use Rattle.std.proofs.lemmas.Bool.{cases_lt}
use Rattle.std.proofs.lemmas.Option.{same_Some}
use Rattle.dbp_plan.specs.declared.diagram.Task.{Task}
use Rattle.dbp_plan.specs.declared.plan.Plan.{Plan}
use Rattle.dbp_plan.specs.Lookups.{declared_task, no_read}
use Rattle.virtual_time.specs.Events.{IsNextEvent}
use Rattle.virtual_time.specs.State.{NoBatchBefore}
use Rattle.virtual_time.specs.declared.run.Run.{Run}
use Rattle.virtual_time.proofs.Running.{sooner}
use Rattle.cpu_sim.specs.Record.{cpu_count}
use Rattle.cpu_sim.specs.Simulations.{FitsBelow, IsJump, served_before}

module _ (p : Plan) (r : Run) (chosen : List (Option ℕ)) where
  pub none_below : (d : ℕ) → FitsBelow p r chosen 0 d
  none_below d = record { fits = λ c i less. absurd (omega (arith, less)); no_read = λ c i k less. absurd (omega (arith, less)) }

  -- nobody is chosen for the next one
  pub skips_one : (n d : ℕ) → get_or chosen n None ≡ None → FitsBelow p r chosen n d → FitsBelow p r chosen (n + 1) d
  skips_one n d none f = record {
    fits = λ c i less is. f.fits c i (before c i less is) is;
    no_read = λ c i k less is. f.no_read c i k (before c i less is) is;
  }
    where
      before : (c i : ℕ) → c < n + 1 → get_or chosen c None ≡ Some i → c < n
      before c i less is = elim (cases_lt c n) [
        | inl below ↦ below
        | inr over ↦
            let here : c ≡ n = omega (arith, less, over) in
            let z : None ≡ Some i = sym none ∙ ap (λ (k : ℕ). get_or chosen k None) (sym here) ∙ is in
            absurd (cc)
      ]

  -- an instance that has its next event after so many ticks
  pub fits_one : (n d e i : ℕ) (body : Task) → get_or chosen n None ≡ Some i → body ≡ declared_task p i → IsNextEvent body (served_before p r i) e → served_before p r i + get_or r.rest.items i 0 ≡ (declared_task p i).cost
      → (least : ℕ) → least ≤ d → least ≤ e → FitsBelow p r chosen n d → FitsBelow p r chosen (n + 1) least
  fits_one n d e i body there own next whole least le_d le_e f = record {
    fits = λ c j less is. elim (cases_lt c n) [
      | inl below ↦ omega (arith, f.fits c j below is, le_d)
      | inr over ↦
          let here : c ≡ n = omega (arith, less, over) in
          let same : j ≡ i = same_Some _ _ (sym is ∙ ap (λ (k : ℕ). get_or chosen k None) here ∙ there) in
          let rest = ap (λ (k : ℕ). get_or r.rest.items k 0) same in
          omega (arith, event.within, le_e, whole, rest)
    ];
    no_read = λ c j k less is inside after. elim (cases_lt c n) [
      | inl below ↦ let o = f.no_read c j k below is inside after in omega (arith, o, le_d)
      | inr over ↦
          let here : c ≡ n = omega (arith, less, over) in
          let same : j ≡ i = same_Some _ _ (sym is ∙ ap (λ (m : ℕ). get_or chosen m None) here ∙ there) in
          let size = ap (λ (m : ℕ). length (declared_task p m).reads) same in
          let read = ap (λ (m : ℕ). (get_or (declared_task p m).reads k no_read).at) same in
          let served = ap (served_before p r) same in
          let o = event.no_sooner k (omega (arith, inside, size)) (omega (arith, after, read, served)) in
          omega (arith, o, read, served, le_e)
    ];
  }
    where
      event : IsNextEvent (declared_task p i) (served_before p r i) e
      event = subst (λ (t : Task). IsNextEvent t (served_before p r i) e) own next

  pub is_jump : (d most : ℕ) → 0 < d → d ≤ most → NoBatchBefore p r.released (r.time + most) → FitsBelow p r chosen cpu_count d → IsJump p r chosen d
  is_jump d most some le until f = record {
    some = some;
    until = sooner p r.released (r.time + most) (r.time + d) until (omega (arith, le));
    fits = f.fits;
    no_read = f.no_read;
  }
