use Rattle.rank_order.specs.ServiceOf.{service}
use Rattle.rank_order.proofs.SomeService.{service_is}
use Rattle.virtual_sim.proofs.EndEvents.{end_is_there, end_or_none, end_stands}
use Rattle.virtual_sim.proofs.laws.recorded_ends_stand_at_their_times.Goals as goal

pub returns-clause-there : goal.returns-clause-there
returns-clause-there c = λ p script x e record_is end. end_is_there p script record_is x e end

pub returns-clause-whole : goal.returns-clause-whole
returns-clause-whole c = λ p script x e record_is end. end_stands p script record_is x e end

pub returns-clause-only : goal.returns-clause-only
returns-clause-only c = λ p. end_or_none p (service p) (service_is p)
