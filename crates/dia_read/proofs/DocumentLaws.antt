-- A text spells one document at most.
use Rattle.std.proofs.Common.{◌≡◌, ℕ, ℤ, pos, List, [], ◌∷◌, ◌++◌, reverse, Option, Some, None, refl, sym, ◌∙◌, subst}
use Rattle.std.specs.Coded.{Coded}
use Rattle.std.specs.Option.{option_map}
use Rattle.dbp_plan.specs.declared.expr.Expr.{Expr}
use Rattle.dbp_plan.specs.declared.node.Node.{Node}
use Rattle.dbp_plan.specs.contracts.node.Node as node
use Rattle.dbp_plan.specs.contracts.name.Name as name
use Rattle.dbp_plan.specs.Expr.{IsExprOf, same_expr}
use Rattle.dbp_plan.specs.Tree.{Tree}
use Rattle.dia_lines.specs.declared.item.Decl.{Decl}
use Rattle.dia_lines.specs.declared.item.Decl.TheVariants.{Input, Event}
use Rattle.dia_lines.specs.declared.item.Part.{Part}
use Rattle.dia_lines.specs.declared.item.Part.TheVariants as part
use Rattle.dia_lines.specs.declared.item.RawClock.{RawClock}
use Rattle.dia_lines.specs.declared.item.RawClock.TheVariants.{Every, On}
use Rattle.dia_lines.specs.declared.item.TaskLine.{TaskLine}
use Rattle.dia_lines.specs.Statements.{Statement, Clock, every, on, input, event, task, state, sense, read, a_let, a_next, out}
use Rattle.dia_lines.specs.Delays.{delay_of}
use Rattle.dia_lines.specs.Held.{IsDecl, IsClock, cpu_of, IsTaskLine, IsPart}
use Rattle.dia_lines.specs.Lines.{Content}
use Rattle.dia_lines.specs.Text.{lines_of}
use Rattle.dia_read.specs.declared.document.Body.{Body}
use Rattle.dia_read.specs.declared.document.Doc.{Doc}
use Rattle.dia_read.specs.declared.document.DocLines.{DocLines}
use Rattle.dia_read.specs.declared.document.RawTask.{RawTask}
use Rattle.dia_read.specs.Documents.{Fit, none, another, first_line, AreTasks, no_task, a_task, IsBody, AreItemLines, Spells}
use Rattle.dia_read.proofs.RunLaws.{run-one}

-- ---- items

node-coded : Coded (Node (List ℕ))
node-coded = (node.the_row name.the_row).coded

same-pos : (m n : ℕ) (z : ℤ) → z ≡ pos m → z ≡ pos n → m ≡ n
same-pos m n z a b = let e : pos m ≡ pos n = sym a ∙ b in cc

decl-one : (s : Statement) (d e : Decl) → IsDecl s d → IsDecl s e → d ≡ e
decl-one (input m v) (Input n w) (Input k x) (a, b) (c, d) = cc
decl-one (event m) (Event n) (Event k) a b = cc
decl-one (input m v) (Event n) e a b = absurd a
decl-one (input m v) (Input n w) (Event k) a b = absurd b
decl-one (event m) (Input n w) e a b = absurd a
decl-one (event m) (Event n) (Input k w) a b = absurd b
decl-one s d e a b = absurd a

expr-one : (x : Tree (List ℕ)) (e f : Expr (List ℕ)) → IsExprOf e x → IsExprOf f x → e ≡ f
expr-one x e f a b = same_expr node-coded e f (a ∙ sym b)

part-one : (s : Statement) (p q : Part) → IsPart s p → IsPart s q → p ≡ q
part-one (state m v) (part.State n w) (part.State k x) (a, b) (c, d) = cc
part-one (sense m v) (part.Sense n w) (part.Sense k x) (a, b) (c, d) = cc
part-one (read m d w q t) (part.Read n e x r u) (part.Read k f y s v) (a, b, c, g, h) (a', b', c', g', h') =
    let delay = same-pos e f (delay_of d) b b' in
    let time = same-pos u v t h h' in
    cc
part-one (a_let m x) (part.Let n e) (part.Let k f) (a, b) (c, d) = let same = expr-one x e f b d in cc
part-one (a_next m x) (part.Next n e) (part.Next k f) (a, b) (c, d) = let same = expr-one x e f b d in cc
part-one (out m v x) (part.Out n w e) (part.Out k y f) (a, b, c) (a', b', c') = let same = expr-one x e f c c' in cc
part-one (state m v) (part.State n w) q a b = absurd b
part-one (sense m v) (part.Sense n w) q a b = absurd b
part-one (read m d w q t) (part.Read n e x r u) y a b = absurd b
part-one (a_let m x) (part.Let n e) q a b = absurd b
part-one (a_next m x) (part.Next n e) q a b = absurd b
part-one (out m v x) (part.Out n w e) q a b = absurd b
part-one s p q a b = absurd a

fit-one : {A B : Type 0} (Is : A → B → Type 0) → ((a : A) (b c : B) → Is a b → Is a c → b ≡ c) → (xs : List A) (ys zs : List B) → Fit Is xs ys → Fit Is xs zs → ys ≡ zs
fit-one Is one xs ys zs none none = refl
fit-one Is one xs ys zs (another a b us vs h f) (another a' c us' ws g e) =
    let head : b ≡ c = one a b c h g in
    let tail : vs ≡ ws = fit-one Is one us vs ws f e in
    cc

-- ---- tasks

option-one : (o p : Option ℕ) (z : Option ℤ) → z ≡ option_map pos o → z ≡ option_map pos p → o ≡ p
option-one None None z a b = refl
option-one None (Some n) z a b = absurd (let e : option_map pos None ≡ option_map pos (Some n) = sym a ∙ b in cc)
option-one (Some m) None z a b = absurd (let e : option_map pos (Some m) ≡ option_map pos None = sym a ∙ b in cc)
option-one (Some m) (Some n) z a b = let e : option_map pos (Some m) ≡ option_map pos (Some n) = sym a ∙ b in cc

clock-one : (k : Clock) (c d : RawClock) → IsClock k c → IsClock k d → c ≡ d
clock-one (every p o) (Every q a) (Every r b) (x, y) (x', y') =
    let period = same-pos q r p x x' in
    let offset = same-pos a b o y y' in
    cc
clock-one (on m) (On n) (On k) a b = cc
clock-one (every p o) (Every q a) (On n) x y = absurd y
clock-one (every p o) (On n) d x y = absurd x
clock-one (on m) (On n) (Every q a) x y = absurd y
clock-one (on m) (Every q a) d x y = absurd x

task-line-one : (s : Statement) (t u : TaskLine) → IsTaskLine s t → IsTaskLine s u → t ≡ u
task-line-one (task h) t u (a, b, w, c, e, f, p) (a', b', w', c', e', f', p') =
    let the_name : t.name ≡ u.name = sym a ∙ a' in
    let the_clock : t.clock ≡ u.clock = clock-one h.clock t.clock u.clock b b' in
    let the_when : t.when ≡ u.when = sym w ∙ w' in
    let the_prio : t.prio ≡ u.prio = option-one t.prio u.prio h.prio c c' in
    let the_deadline : t.deadline ≡ u.deadline = option-one t.deadline u.deadline h.deadline e e' in
    let the_cost : t.cost ≡ u.cost = same-pos t.cost u.cost h.cost f f' in
    let the_cpu : t.cpu ≡ u.cpu = same-pos t.cpu u.cpu (cpu_of h.cpu) p p' in
    λ i. record { name = the_name i; clock = the_clock i; when = the_when i; prio = the_prio i; deadline = the_deadline i; cost = the_cost i; cpu = the_cpu i }
task-line-one s t u a b = absurd a

-- no line begins a task and is one of a body
apart : (s : Statement) (t : TaskLine) (p : Part) → IsTaskLine s t → IsPart s p → ⊥
apart (task h) t p a b = b
apart s t p a b = a

-- the lines of a body end where the next task begins
cut-one : (xs ys us vs : List Statement) (ps qs : List Part) (ts ws : List RawTask) → Fit IsPart xs ps → Fit IsPart ys qs → AreTasks us ts → AreTasks vs ws → xs ++ us ≡ ys ++ vs → (xs ≡ ys) × (us ≡ vs)
cut-one xs ys us vs ps qs ts ws none none d e same = (refl, same)
cut-one xs ys us vs ps qs ts ws none (another s p ys' qs' h f) no_task e same = absurd cc
cut-one xs ys us vs ps qs ts ws none (another s p ys' qs' h f) (a_task z body rest t ts' g b d) e same =
    let head : z ≡ s = cc in
    absurd (apart s (first_line t) p (subst (λ x. IsTaskLine x (first_line t)) head g) h)
cut-one xs ys us vs ps qs ts ws (another s p xs' ps' h f) none d no_task same = absurd cc
cut-one xs ys us vs ps qs ts ws (another s p xs' ps' h f) none d (a_task z body rest t ts' g b e) same =
    let head : z ≡ s = cc in
    absurd (apart s (first_line t) p (subst (λ x. IsTaskLine x (first_line t)) head g) h)
cut-one xs ys us vs ps qs ts ws (another s p xs' ps' h f) (another z q ys' qs' g e) d c same =
    let head : s ≡ z = cc in
    let tail : xs' ++ us ≡ ys' ++ vs = cc in
    let rest = cut-one xs' ys' us vs ps' qs' ts ws f e d c tail in
    (let front = rest.0 in cc, rest.1)

raw-task-one : (t u : RawTask) → first_line t ≡ first_line u → t.parts ≡ u.parts → t ≡ u
raw-task-one t u line parts =
    λ i. record { name = (line i).name; clock = (line i).clock; when = (line i).when; prio = (line i).prio; deadline = (line i).deadline; cost = (line i).cost; cpu = (line i).cpu; parts = parts i }

tasks-one : (ss : List Statement) (ts us : List RawTask) → AreTasks ss ts → AreTasks ss us → ts ≡ us
tasks-one ss ts us d e = go ss ss ts us refl d e
  where
    go : (ss rs : List Statement) (ts us : List RawTask) → ss ≡ rs → AreTasks ss ts → AreTasks rs us → ts ≡ us
    go ss rs ts us same no_task no_task = refl
    go ss rs ts us same no_task (a_task s body rest t ws h f d) = absurd cc
    go ss rs ts us same (a_task s body rest t ws h f d) no_task = absurd cc
    go ss rs ts us same (a_task s body rest t ws h f d) (a_task z body' rest' u vs g b e) =
        let head : z ≡ s = cc in
        let tail : body ++ rest ≡ body' ++ rest' = cc in
        let cut = cut-one body body' rest rest' t.parts u.parts ws vs f b d e tail in
        let the_line : first_line t ≡ first_line u = task-line-one s (first_line t) (first_line u) h (subst (λ x. IsTaskLine x (first_line u)) head g) in
        let the_parts : t.parts ≡ u.parts = fit-one IsPart part-one body t.parts u.parts f (subst (λ x. Fit IsPart x u.parts) (sym cut.0) b) in
        let the_task : t ≡ u = raw-task-one t u the_line the_parts in
        let others : ws ≡ vs = go rest rest' ws vs cut.1 d e in
        cc

-- ---- documents

body-one : (lines : List Content) (a b : Body) → IsBody lines a → IsBody lines b → a ≡ b
body-one lines a b x y =
    let the_version : a.version ≡ b.version = (let e : a.version ∷ [] ≡ b.version ∷ [] = sym x.header_line ∙ y.header_line in cc) in
    let the_policy : a.policy ≡ b.policy = (let e : a.policy ∷ [] ≡ b.policy ∷ [] = sym x.policy_line ∙ y.policy_line in cc) in
    let the_until : a.until ≡ b.until = (let e : pos a.until ∷ [] ≡ pos b.until ∷ [] = sym x.until_line ∙ y.until_line in cc) in
    let the_decls : a.decls ≡ b.decls = fit-one IsDecl decl-one _ a.decls b.decls x.decls y.decls in
    let the_tasks : a.tasks ≡ b.tasks = tasks-one _ a.tasks b.tasks x.tasks y.tasks in
    let the_trace : a.trace ≡ b.trace = x.traced ∙ sym y.traced in
    let the_script : a.script ≡ b.script = x.scripted ∙ sym y.scripted in
    λ i. record { version = the_version i; policy = the_policy i; until = the_until i; decls = the_decls i; tasks = the_tasks i; trace = the_trace i; script = the_script i }

item-lines-one : (lines : List Content) (a b : DocLines) → AreItemLines lines a → AreItemLines lines b → a ≡ b
item-lines-one lines a b x y =
    let the_until : a.until_at ≡ b.until_at = (let e : a.until_at ∷ [] ≡ b.until_at ∷ [] = sym x.until_line ∙ y.until_line in cc) in
    let the_done : a.done_at ≡ b.done_at = (let e : a.done_at ∷ [] ≡ b.done_at ∷ [] = sym x.done_line ∙ y.done_line in cc) in
    let the_trace : a.trace_at ≡ b.trace_at = sym x.trace_line ∙ y.trace_line in
    let the_decls : a.decls ≡ b.decls = sym x.decl_lines ∙ y.decl_lines in
    let the_tasks : a.tasks ≡ b.tasks = sym x.task_lines ∙ y.task_lines in
    let the_parts : a.parts ≡ b.parts = sym x.part_lines ∙ y.part_lines in
    let the_rows : a.trace ≡ b.trace = sym x.row_lines ∙ y.row_lines in
    let the_steps : a.script ≡ b.script = sym x.step_lines ∙ y.step_lines in
    λ i. record { until_at = the_until i; done_at = the_done i; trace_at = the_trace i; decls = the_decls i; tasks = the_tasks i; parts = the_parts i; trace = the_rows i; script = the_steps i }

pub one-document : (bytes : List ℕ) (d e : Doc) → Spells bytes d → Spells bytes e → d ≡ e
one-document bytes d e x y =
    let same : y.said ≡ x.said = run-one [] y.said x.said (lines_of bytes) y.run x.run in
    let the_body : d.body ≡ e.body = body-one (reverse x.said) d.body e.body x.body (subst (λ said. IsBody (reverse said) e.body) same y.body) in
    let the_lines : d.lines ≡ e.lines = item-lines-one (reverse x.said) d.lines e.lines x.lines (subst (λ said. AreItemLines (reverse said) e.lines) same y.lines) in
    λ i. record { body = the_body i; lines = the_lines i }
