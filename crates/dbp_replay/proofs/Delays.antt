-- The number of a written delay.
use Rattle.std.proofs.Common.{◌≡◌, ℕ, ℤ, pos, negsuc, true, false, List, Option, Some, None, refl, sym}
use Rattle.dia_lines.specs.Delays.{delay_of}
use Rattle.dia_lines.specs.Limits.{delay_fits}
use Rattle.dbp_replay.specs.declared.form.Operand.TheVariants as operand
use Rattle.dbp_replay.specs.StepForms.{link_of, small_delay}

small-is : (delay : Option ℤ) (n : ℕ) → delay_of delay ≡ pos n → small_delay delay ≡ n
small-is None n e = cc (e)
small-is (Some (pos m)) n e = cc (e)
small-is (Some (negsuc m)) n e = absurd (cc (e))

pub link-some : (delay : Option ℤ) (n : ℕ) (writer : List ℕ) → delay_of delay ≡ pos n → true ≡ delay_fits delay → Some (operand.Link n writer) ≡ link_of delay writer
link-some delay n writer value fits = rw (sym fits, small-is delay n value) refl

pub link-none : (delay : Option ℤ) (writer : List ℕ) → false ≡ delay_fits delay → None ≡ link_of delay writer
link-none delay writer fits = rw (sym fits) refl
