-- Refusals that are told by the same line.
use Rattle.std.proofs.Common.{◌≡◌, ℕ, refl, ap}
use Rattle.dia_check.specs.declared.fail.CheckCode.{CheckCode}
use Rattle.dia_check.specs.Faults as checking
use Rattle.trace_io.specs.declared.code.Code.{Code}
use Rattle.trace_io.specs.declared.code.Code.TheVariants.{Reading, Checking, Tracing}
use Rattle.trace_io.specs.Texts.{IsSameCode}
use Rattle.dbp_answers.specs.Refusals.{code_text, refusal_line}
use Rattle.dbp_answers.specs.declared.refusal.Refusal.TheVariants.{Document}

same-name : (a b : CheckCode) → checking.IsSameCode a b → code_text (Checking a) ≡ code_text (Checking b)
same-name a b (checking.same code) = refl
same-name a b (checking.cycles names others) = refl

-- the names of a cycle stand in no line
pub same-text : (a b : Code) → IsSameCode a b → code_text a ≡ code_text b
same-text (Reading a) (Reading b) same = ap (λ c. code_text (Reading c)) same
same-text (Reading a) (Checking b) same = absurd same
same-text (Reading a) (Tracing b) same = absurd same
same-text (Checking a) (Reading b) same = absurd same
same-text (Checking a) (Checking b) same = same-name a b same
same-text (Checking a) (Tracing b) same = absurd same
same-text (Tracing a) (Reading b) same = absurd same
same-text (Tracing a) (Checking b) same = absurd same
same-text (Tracing a) (Tracing b) same = ap (λ c. code_text (Tracing c)) same

pub same-line : (line other : ℕ) (a b : Code) → line ≡ other → code_text a ≡ code_text b → refusal_line (Document line a) ≡ refusal_line (Document other b)
same-line line other a b lines texts = rw (lines, texts) refl
