-- Names among those of many items, by a test of each item.
use Rattle.std.proofs.Common.{◌≡◌, ℕ, Bool, true, false, List, [], ◌∷◌, ◌++◌, map, refl, ap, ◌∙◌}
use Rattle.std.specs.Prelude.{◌||◌}
use Rattle.std.specs.List.{flat_map, list_any}
use Rattle.std.specs.Str.{bytes_eq}
use Rattle.std.proofs.lemmas.List.Folds.{list_any-append}
use Rattle.std.proofs.Math.Bool.{or-false}
use Rattle.dbp_plan.specs.NameLists.{is_among}
use Rattle.dbp_plan.proofs.NameLaws.{among_flat_map, among_map}
use Rattle.dia_lines.specs.declared.item.Decl.{Decl}
use Rattle.dia_lines.specs.declared.item.Decl.TheVariants.{Input, Event}
use Rattle.dia_lines.specs.declared.item.Part.{Part}
use Rattle.dia_lines.specs.declared.item.Part.TheVariants.{State, Sense, Read, Let, Next, Out}
use Rattle.dia_read.specs.declared.document.RawTask.{RawTask}
use Rattle.dia_check.specs.Names.{next_name, declared_name, input_name, event_name, decl_name, task_names, state_name, sense_name, read_name, let_name, out_name, env_names}
use Rattle.dia_check.specs.Tests.{is_input, is_event, is_decl, is_task, is_state, is_out, is_next, binds, is_declared}

among-inputs-each : (n : List ℕ) (d : Decl) → is_among (input_name d) n ≡ is_input n d
among-inputs-each n (Input m v) = or-false (bytes_eq m n)
among-inputs-each n (Event m) = refl

pub among_inputs : (n : List ℕ) (ds : List Decl) → is_among (flat_map input_name ds) n ≡ list_any (is_input n) ds
among_inputs n = among_flat_map input_name n (is_input n) (among-inputs-each n)

among-events-each : (n : List ℕ) (d : Decl) → is_among (event_name d) n ≡ is_event n d
among-events-each n (Input m v) = refl
among-events-each n (Event m) = or-false (bytes_eq m n)

pub among_events : (n : List ℕ) (ds : List Decl) → is_among (flat_map event_name ds) n ≡ list_any (is_event n) ds
among_events n = among_flat_map event_name n (is_event n) (among-events-each n)

among-states-each : (n : List ℕ) (p : Part) → is_among (state_name p) n ≡ is_state n p
among-states-each n (State m v) = or-false (bytes_eq m n)
among-states-each n (Sense m i) = refl
among-states-each n (Read m d w q a) = refl
among-states-each n (Let m e) = refl
among-states-each n (Next m e) = refl
among-states-each n (Out m v e) = refl

pub among_states : (n : List ℕ) (ps : List Part) → is_among (flat_map state_name ps) n ≡ list_any (is_state n) ps
among_states n = among_flat_map state_name n (is_state n) (among-states-each n)

among-outs-each : (n : List ℕ) (p : Part) → is_among (out_name p) n ≡ is_out n p
among-outs-each n (State m v) = refl
among-outs-each n (Sense m i) = refl
among-outs-each n (Read m d w q a) = refl
among-outs-each n (Let m e) = refl
among-outs-each n (Next m e) = refl
among-outs-each n (Out m v e) = or-false (bytes_eq m n)

pub among_outs : (n : List ℕ) (ps : List Part) → is_among (flat_map out_name ps) n ≡ list_any (is_out n) ps
among_outs n = among_flat_map out_name n (is_out n) (among-outs-each n)

among-nexts-each : (n : List ℕ) (p : Part) → is_among (next_name p) n ≡ is_next n p
among-nexts-each n (State m v) = refl
among-nexts-each n (Sense m i) = refl
among-nexts-each n (Read m d w q a) = refl
among-nexts-each n (Let m e) = refl
among-nexts-each n (Next m e) = or-false (bytes_eq m n)
among-nexts-each n (Out m v e) = refl

pub among_nexts : (n : List ℕ) (ps : List Part) → is_among (flat_map next_name ps) n ≡ list_any (is_next n) ps
among_nexts n = among_flat_map next_name n (is_next n) (among-nexts-each n)

among-declared-each : (n : List ℕ) (p : Part) → is_among (declared_name p) n ≡ is_declared n p
among-declared-each n (State m v) = or-false (bytes_eq m n)
among-declared-each n (Sense m i) = or-false (bytes_eq m n)
among-declared-each n (Read m d w q a) = or-false (bytes_eq m n)
among-declared-each n (Let m e) = or-false (bytes_eq m n)
among-declared-each n (Next m e) = refl
among-declared-each n (Out m v e) = or-false (bytes_eq m n)

pub among_declared : (n : List ℕ) (ps : List Part) → is_among (flat_map declared_name ps) n ≡ list_any (is_declared n) ps
among_declared n = among_flat_map declared_name n (is_declared n) (among-declared-each n)

-- ---- the environment

-- one more name at the front of the one or the other of four lists
first : (x a b c d : Bool) → (x || a || b || c || d) ≡ (x || (a || b || c || d))
first true a b c d = refl
first false a b c d = refl

second : (x a b c d : Bool) → (a || (x || b) || c || d) ≡ (x || (a || b || c || d))
second true true b c d = refl
second true false b c d = refl
second false a b c d = refl

third : (x a b c d : Bool) → (a || b || (x || c) || d) ≡ (x || (a || b || c || d))
third true true b c d = refl
third true false true c d = refl
third true false false c d = refl
third false a b c d = refl

fourth : (x a b c d : Bool) → (a || b || c || (x || d)) ≡ (x || (a || b || c || d))
fourth true true b c d = refl
fourth true false true c d = refl
fourth true false false true d = refl
fourth true false false false d = refl
fourth false a b c d = refl

abbrev four : List ℕ → List Part → Bool
four n ps = is_among (flat_map state_name ps) n || is_among (flat_map sense_name ps) n || is_among (flat_map read_name ps) n || is_among (flat_map let_name ps) n

env-four : (n : List ℕ) (ps : List Part) → is_among (env_names ps) n ≡ four n ps
env-four n ps =
    let test = λ (m : List ℕ). bytes_eq m n in
    let ss = flat_map state_name ps in
    let es = flat_map sense_name ps in
    let rs = flat_map read_name ps in
    list_any-append test (ss ++ es ++ rs) (flat_map let_name ps) ∙ rw (list_any-append test (ss ++ es) rs, list_any-append test ss es) refl

four-is : (n : List ℕ) (ps : List Part) → four n ps ≡ list_any (binds n) ps
four-is n [] = refl
four-is n (State m v ∷ ps) =
    first (bytes_eq m n) (is_among (flat_map state_name ps) n) (is_among (flat_map sense_name ps) n) (is_among (flat_map read_name ps) n) (is_among (flat_map let_name ps) n) ∙ ap (λ b. bytes_eq m n || b) (four-is n ps)
four-is n (Sense m i ∷ ps) =
    second (bytes_eq m n) (is_among (flat_map state_name ps) n) (is_among (flat_map sense_name ps) n) (is_among (flat_map read_name ps) n) (is_among (flat_map let_name ps) n) ∙ ap (λ b. bytes_eq m n || b) (four-is n ps)
four-is n (Read m d w q a ∷ ps) =
    third (bytes_eq m n) (is_among (flat_map state_name ps) n) (is_among (flat_map sense_name ps) n) (is_among (flat_map read_name ps) n) (is_among (flat_map let_name ps) n) ∙ ap (λ b. bytes_eq m n || b) (four-is n ps)
four-is n (Let m e ∷ ps) =
    fourth (bytes_eq m n) (is_among (flat_map state_name ps) n) (is_among (flat_map sense_name ps) n) (is_among (flat_map read_name ps) n) (is_among (flat_map let_name ps) n) ∙ ap (λ b. bytes_eq m n || b) (four-is n ps)
four-is n (Next m e ∷ ps) = four-is n ps
four-is n (Out m v e ∷ ps) = four-is n ps

pub among_env : (n : List ℕ) (ps : List Part) → is_among (env_names ps) n ≡ list_any (binds n) ps
among_env n ps = env-four n ps ∙ four-is n ps

-- ---- names of items

pub among_decls : (n : List ℕ) (ds : List Decl) → is_among (map decl_name ds) n ≡ list_any (is_decl n) ds
among_decls n ds = among_map decl_name n ds

pub among_tasks : (n : List ℕ) (ts : List RawTask) → is_among (task_names ts) n ≡ list_any (is_task n) ts
among_tasks n ts = among_map (λ t. t.name) n ts

pub among_both : (n : List ℕ) (ds : List Decl) (ts : List RawTask) → is_among (map decl_name ds ++ task_names ts) n ≡ (list_any (is_decl n) ds || list_any (is_task n) ts)
among_both n ds ts = list_any-append (λ m. bytes_eq m n) (map decl_name ds) (task_names ts) ∙ rw (among_decls n ds, among_tasks n ts) refl
