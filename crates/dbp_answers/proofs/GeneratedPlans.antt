-- The plan of a generated document is never refused.
use Rattle.std.proofs.Common.{◌≡◌, ℕ, List, refl}
use Rattle.dbp_plan.specs.declared.plan.Plan.{Plan}
use Rattle.trace_io.specs.declared.code.Code.{Code}
use Rattle.trace_io.specs.Texts.{Accepts, Refuses}
use Rattle.dbp_answers.specs.Stops.{IsFaultOf}
use Rattle.dbp_answers.specs.declared.refusal.Refusal.TheVariants.{Document, Script, Illegal, OfCommand}
use Rattle.dbp_answers.specs.declared.stop.Stop.{Stop}
use Rattle.dbp_answers.specs.declared.stop.Stop.TheVariants.{Refused, Overrun, NoMemory}

-- a text that is accepted stops only if memory runs out
pub never-refused : ((text : List ℕ) (p : Plan) (line : ℕ) (code : Code) → Accepts text p → Refuses text line code → ⊥)
    → (text : List ℕ) (p : Plan) (stop : Stop) → Accepts text p → IsFaultOf text stop → stop ≡ NoMemory
never-refused none text p (Refused (Document line code)) accepted fault = absurd (none text p line code accepted fault)
never-refused none text p (Refused (Script line code)) accepted fault = absurd fault
never-refused none text p (Refused (Illegal step why)) accepted fault = absurd fault
never-refused none text p (Refused (OfCommand code)) accepted fault = absurd fault
never-refused none text p (Overrun line) accepted fault = absurd fault
never-refused none text p NoMemory accepted fault = refl
