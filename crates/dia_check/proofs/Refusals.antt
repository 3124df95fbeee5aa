-- Refusals for exactly one fault.
use Rattle.std.proofs.Common.{◌≡◌, ℕ, Option, Some, None, Err, refl, sym, ap, ◌∙◌}
use Rattle.std.specs.Prelude.{IfSome, IsErrOf}
use Rattle.std.proofs.lemmas.Option.{none-some, same_Some}
use Rattle.dbp_plan.specs.FirstFault.{first_fault}
use Rattle.dia_read.specs.declared.document.Doc.{Doc}
use Rattle.dia_check.specs.declared.fail.CheckFail.{CheckFail}
use Rattle.dia_check.specs.declared.fail.LineFault.{LineFault}
use Rattle.dia_check.specs.declared.fail.RankFault.{RankFault}
use Rattle.dia_check.specs.declared.shaped.Shaped.{Shaped}
use Rattle.dia_check.specs.Faults.{line_faults, line_refusal, of_a_line}
use Rattle.dia_check.specs.RankFaults.{rank_faults, rank_refusal, IsRankRefusal}
use Rattle.dia_check.specs.Shapes.{IsShapeRefusal}

pub line-refused : (doc : Doc) (f : ℕ × LineFault) → first_fault (line_faults doc) ≡ Some f → IsShapeRefusal doc (line_refusal f)
line-refused doc (line, fault) found = of_a_line line fault found

pub rank-refused : (s : Shaped) (f : ℕ × RankFault) → first_fault (rank_faults s) ≡ Some f → IsRankRefusal s (rank_refusal f)
rank-refused s (line, fault) found = (fault, found, refl)

-- the refusal is that of the fault which is found
pub exactly : {A : Type 0} (T : Type 0) (refusal : A → CheckFail) (o : Option A) (x : A) (fail : CheckFail) → o ≡ Some x → fail ≡ refusal x → IfSome o (λ y. IsErrOf {T = T} (Err fail) (refusal y))
exactly T refusal None x fail found is = absurd (none-some x found)
exactly T refusal (Some y) x fail found is = ap (λ e. Err e) (is ∙ ap refusal (sym (same_Some y x found)))

-- without a fault there is no such refusal
pub none-found : {A : Type 0} (o : Option A) (P : A → Type 0) → o ≡ None → IfSome o P
none-found None P none = tt
none-found (Some x) P none = absurd (none-some x (sym none))
