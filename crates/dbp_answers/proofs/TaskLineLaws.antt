-- The lines of the first tasks, and one more.
use Rattle.std.proofs.Common.{◌≡◌, ℕ, ◌+◌, ◌<◌, ◌≤◌, List, [], ◌∷◌, ◌++◌, length, take, get_or, slice_get, Some, sym, ◌∙◌, ap, arith}
use Rattle.std.specs.List.{enumerate_from, flat_map}
use Rattle.std.proofs.lemmas.Grind.{flat_map-append}
use Rattle.std.proofs.lemmas.List.{append-nil, take_all}
use Rattle.std.proofs.lemmas.List.FromFn.{get_or-enumerate_from, length-enumerate_from}
use Rattle.std.proofs.lemmas.Option.{slice_get-get_or}
use Rattle.dbp_plan.specs.declared.diagram.Diagram.{Diagram}
use Rattle.dbp_plan.specs.declared.diagram.Task.{Task}
use Rattle.dbp_plan.proofs.ListParts.{take_push}
use Rattle.dbp_answers.specs.TaskLines.{task_lines}

module _ (line : ℕ → Task → List ℕ) (d : Diagram) where
  abbrev line_of : ℕ × Task → List ℕ
  line_of (i, task) = line i task

  abbrev pub lines_to : ℕ → List ℕ
  lines_to n = flat_map line_of (take n (enumerate_from 0 d.tasks))

  pub lines_more : (i : ℕ) (task : Task) → i < length d.tasks → task ≡ get_or d.tasks i task → lines_to (i + 1) ≡ lines_to i ++ line i task
  lines_more i task below is =
      let inside : i < length (enumerate_from 0 d.tasks) = omega (arith, length-enumerate_from 0 d.tasks) in
      let read : get_or (enumerate_from 0 d.tasks) i (0, task) ≡ (i, task) = get_or-enumerate_from 0 d.tasks i (0, task) below ∙ ap (λ (n : ℕ). (n, get_or d.tasks i task)) (omega arith) ∙ ap (λ (t : Task). (i, t)) (sym is) in
      let here : slice_get (enumerate_from 0 d.tasks) i ≡ Some (i, task) = slice_get-get_or (enumerate_from 0 d.tasks) i (0, task) inside ∙ ap (λ (x : ℕ × Task). Some x) read in
      ap (flat_map line_of) (take_push (enumerate_from 0 d.tasks) i (i, task) here)
      ∙ flat_map-append line_of (take i (enumerate_from 0 d.tasks)) ((i, task) ∷ [])
      ∙ ap (λ (xs : List ℕ). lines_to i ++ xs) (append-nil (line i task))

  pub lines_all : (i : ℕ) → length d.tasks ≤ i → lines_to i ≡ task_lines line d
  lines_all i all = ap (flat_map line_of) (take_all i (enumerate_from 0 d.tasks) (omega (arith, length-enumerate_from 0 d.tasks)))
