-- Items and the lines that they come from.
use Rattle.std.proofs.Common.{◌≡◌, List, [], ◌∷◌, ◌++◌, length, refl, sym, ap, ◌∙◌, subst, append_assoc, arith}
use Rattle.std.proofs.lemmas.List.{append-nil}
use Rattle.dia_lines.specs.declared.item.Part.{Part}
use Rattle.dia_lines.specs.Statements.{Statement}
use Rattle.dia_lines.specs.Held.{IsTaskLine, IsPart}
use Rattle.dia_read.specs.declared.document.RawTask.{RawTask}
use Rattle.dia_read.specs.Documents.{Fit, none, another, first_line, AreTasks, no_task, a_task}
use Rattle.dia_read.specs.Drafts.{with_part}

pub fit-more : {A B : Type 0} (Is : A → B → Type 0) (xs : List A) (ys : List B) (a : A) (b : B) → Fit Is xs ys → Is a b → Fit Is (xs ++ a ∷ []) (ys ++ b ∷ [])
fit-more Is xs ys a b none h = another a b [] [] h none
fit-more Is xs ys a b (another x y us vs g f) h = another x y (us ++ a ∷ []) (vs ++ b ∷ []) g (fit-more Is us vs a b f h)

pub fit-length : {A B : Type 0} (Is : A → B → Type 0) (xs : List A) (ys : List B) → Fit Is xs ys → length xs ≡ length ys
fit-length Is xs ys none = refl
fit-length Is xs ys (another x y us vs g f) = let e = fit-length Is us vs f in omega arith

-- a line that begins a task after others
pub task-more : (ss : List Statement) (ts : List RawTask) (s : Statement) (t : RawTask) → AreTasks ss ts → IsTaskLine s (first_line t) → t.parts ≡ [] → AreTasks (ss ++ s ∷ []) (ts ++ t ∷ [])
task-more ss ts s t no_task h e = a_task s [] [] t [] h (subst (Fit IsPart []) (sym e) none) no_task
task-more ss ts s t (a_task u body rest v us g f d) h e =
    subst (λ l. AreTasks (u ∷ l) (v ∷ us ++ t ∷ [])) (sym (append_assoc body rest (s ∷ []))) (a_task u body (rest ++ s ∷ []) v (us ++ t ∷ []) g f (task-more rest us s t d h e))

-- a line of the body of the latest task
pub part-more : (ss : List Statement) (us ts : List RawTask) (t : RawTask) (s : Statement) (p : Part) → us ≡ ts ++ t ∷ [] → AreTasks ss us → IsPart s p → AreTasks (ss ++ s ∷ []) (ts ++ with_part p t ∷ [])
part-more ss us [] t s p e no_task h = absurd cc
part-more ss us (x ∷ ts) t s p e no_task h = absurd cc
part-more ss us [] t s p e (a_task u body rest v vs g f no_task) h =
    let is : v ≡ t = cc in
    let first : IsTaskLine u (first_line (with_part p t)) = subst (λ w. IsTaskLine u (first_line w)) is g in
    let fits : Fit IsPart (body ++ s ∷ []) (with_part p t).parts = fit-more IsPart body t.parts s p (subst (λ w. Fit IsPart body w.parts) is f) h in
    subst (λ l. AreTasks (u ∷ l) (with_part p t ∷ [])) (append-nil (body ++ s ∷ []) ∙ ap (λ l. l ++ s ∷ []) (sym (append-nil body))) (a_task u (body ++ s ∷ []) [] (with_part p t) [] first fits no_task)
part-more ss us [] t s p e (a_task u body rest v vs g f (a_task u' body' rest' v' vs' g' f' d')) h = absurd cc
part-more ss us (x ∷ ts) t s p e (a_task u body rest v vs g f d) h =
    let is : v ≡ x = cc in
    let more : vs ≡ ts ++ t ∷ [] = cc in
    subst (λ w. AreTasks (u ∷ (body ++ rest ++ s ∷ [])) (w ∷ ts ++ with_part p t ∷ [])) is
    (subst (λ l. AreTasks (u ∷ l) (v ∷ ts ++ with_part p t ∷ [])) (sym (append_assoc body rest (s ∷ []))) (a_task u body (rest ++ s ∷ []) v (ts ++ with_part p t ∷ []) g f (part-more rest vs ts t s p more d h)))
