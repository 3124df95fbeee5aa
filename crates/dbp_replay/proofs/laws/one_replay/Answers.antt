use Rattle.dbp_replay.proofs.OneReplay.{text-once, text-not-refused, refused-once}
use Rattle.dbp_replay.proofs.laws.one_replay.Goals as goal

pub returns-clause-one : goal.returns-clause-one
returns-clause-one c = text-once

pub returns-clause-none : goal.returns-clause-none
returns-clause-none c = text-not-refused

pub returns-clause-one_refusal : goal.returns-clause-one_refusal
returns-clause-one_refusal c = refused-once
