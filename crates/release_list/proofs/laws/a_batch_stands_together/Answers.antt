-- The law, from its proof.
use Rattle.std.proofs.Common.{refl}
use Rattle.release_list.proofs.BatchStarts.{item_of_batch, start_at_end, start_next}
use Rattle.release_list.proofs.laws.a_batch_stands_together.Goals as goal

pub returns-clause-first : goal.returns-clause-first
returns-clause-first c = λ links batches. refl

pub returns-clause-next : goal.returns-clause-next
returns-clause-next c = start_next

pub returns-clause-end : goal.returns-clause-end
returns-clause-end c = start_at_end

pub returns-clause-item : goal.returns-clause-item
returns-clause-item c = λ links batches number index batch action there item. item_of_batch links batches number batch there index action item
