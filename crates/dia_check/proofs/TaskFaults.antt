-- Going over tasks and their bodies in order, to the first line that has a fault.
use Rattle.std.proofs.Common.{◌≡◌, ℕ, ◌+◌, ◌-◌, ◌<◌, ◌≤◌, List, [], ◌∷◌, ◌++◌, length, take, drop, get_or, Some, None, refl, sym, ap, ◌∙◌, arith, length-drop}
use Rattle.std.specs.Prelude.{sum_by}
use Rattle.std.proofs.lemmas.List.{take_all}
use Rattle.std.proofs.lemmas.List.Sums.{sum_by-cons}
use Rattle.dia_read.specs.declared.document.Body.{Body}
use Rattle.dia_read.specs.declared.document.RawTask.{RawTask}
use Rattle.dia_check.specs.declared.fail.LineFault.{LineFault}
use Rattle.dia_check.specs.Faults.{task_faults, task_fault, part_fault}
use Rattle.dbp_plan.specs.FirstFault.{faults_after, first_fault}
use Rattle.dbp_plan.proofs.ListParts.{at-any, split-at, take-next, nothing-after}
use Rattle.dbp_plan.proofs.FirstFaults.{first-append, first-front}

-- the rest of a slice
pub rest-is : (n : ℕ) (xs : List ℕ) → take (length xs - n) (drop n xs) ≡ drop n xs
rest-is n xs = take_all (length xs - n) (drop n xs) (omega (arith, length-drop n xs))

module _ (body : Body) (ts : List RawTask) (ns ps : List ℕ) where
  -- what stands from a task on decides, if these are the lines of the bodies
  pub record TasksFrom (k : ℕ) (rest : List ℕ) : Type 0 where
    pub so_far : first_fault (task_faults body [] ts ns ps) ≡ first_fault (task_faults body (take k ts) (drop k ts) (drop k ns) rest)
    pub enough : sum_by (λ t. length t.parts) (drop k ts) ≤ length rest

  pub tasks-start : sum_by (λ t. length t.parts) ts ≤ length ps → TasksFrom 0 ps
  tasks-start h = record { so_far = refl; enough = h }

  module _ (k : ℕ) (rest : List ℕ) (from : TasksFrom k rest) (t : RawTask) (below : k < length ts) (is : t ≡ get_or ts k t) where
    pub body-fits : length t.parts ≤ length rest
    body-fits = omega (arith, from.enough, ap (sum_by (λ u. length u.parts)) (split-at ts k t below is), sum_by-cons (λ (u : RawTask). length u.parts) t (drop (k + 1) ts))

    here : (n : ℕ) → k < length ns → n ≡ get_or ns k n → task_faults body (take k ts) (drop k ts) (drop k ns) rest
        ≡ (n, task_fault body (take k ts) t) ∷ (faults_after (part_fault body t) [] t.parts rest ++ task_faults body (take (k + 1) ts) (drop (k + 1) ts) (drop (k + 1) ns) (drop (length t.parts) rest))
    here n in_ns is_n = rw (split-at ts k t below is, split-at ns k n in_ns is_n, take-next ts k t below is) refl

    pub task-line-fault : (n : ℕ) (code : LineFault) → k < length ns → n ≡ get_or ns k n → Some code ≡ task_fault body (take k ts) t → Some (n, code) ≡ first_fault (task_faults body [] ts ns ps)
    task-line-fault n code in_ns is_n fault = sym (from.so_far ∙ ap first_fault (here n in_ns is_n ∙ ap (λ f. (n, f) ∷ (faults_after (part_fault body t) [] t.parts rest ++ task_faults body (take (k + 1) ts) (drop (k + 1) ts) (drop (k + 1) ns) (drop (length t.parts) rest))) (sym fault)))

    -- without a fault of the task's line
    after-line : k < length ns → None ≡ task_fault body (take k ts) t → first_fault (task_faults body [] ts ns ps)
        ≡ first_fault (faults_after (part_fault body t) [] t.parts rest ++ task_faults body (take (k + 1) ts) (drop (k + 1) ts) (drop (k + 1) ns) (drop (length t.parts) rest))
    after-line in_ns none =
        let n : ℕ = get_or ns k 0 in
        from.so_far ∙ ap first_fault (here n in_ns (at-any ns k 0 in_ns) ∙ ap (λ f. (n, f) ∷ (faults_after (part_fault body t) [] t.parts rest ++ task_faults body (take (k + 1) ts) (drop (k + 1) ts) (drop (k + 1) ns) (drop (length t.parts) rest))) (sym none))

    pub body-line-fault : (f : ℕ × LineFault) → k < length ns → None ≡ task_fault body (take k ts) t → first_fault (faults_after (part_fault body t) [] t.parts rest) ≡ Some f
        → Some f ≡ first_fault (task_faults body [] ts ns ps)
    body-line-fault f in_ns none fault = sym (after-line in_ns none ∙ first-front (faults_after (part_fault body t) [] t.parts rest) _ f fault)

    pub tasks-later : k < length ns → None ≡ task_fault body (take k ts) t → first_fault (faults_after (part_fault body t) [] t.parts rest) ≡ None → TasksFrom (k + 1) (drop (length t.parts) rest)
    tasks-later in_ns none bodies = record {
      so_far = after-line in_ns none ∙ first-append (faults_after (part_fault body t) [] t.parts rest) _ bodies;
      enough = omega (arith, from.enough, ap (sum_by (λ u. length u.parts)) (split-at ts k t below is), sum_by-cons (λ (u : RawTask). length u.parts) t (drop (k + 1) ts), length-drop (length t.parts) rest);
    }

  pub tasks-none : (k : ℕ) (rest : List ℕ) → TasksFrom k rest → length ts ≤ k → None ≡ first_fault (task_faults body [] ts ns ps)
  tasks-none k rest from end = sym (from.so_far ∙ ap (λ us. first_fault (task_faults body (take k ts) us (drop k ns) rest)) (nothing-after ts k end))
