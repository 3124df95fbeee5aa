use Rattle.cpu_sim.proofs.OneCpuRecord.{record-leads, record-moves}
use Rattle.cpu_sim.proofs.laws.a_record_on_processors_is_lawful.Goals as goal

pub returns-clause-leads : goal.returns-clause-leads
returns-clause-leads c = λ p script is. (is.state, record-leads p script is)

pub returns-clause-moves : goal.returns-clause-moves
returns-clause-moves c = λ p front e rest is. let (u, leads, moves) = record-moves p front e rest is in (u, leads, moves.open_, moves.ready)
