use Rattle.std.proofs.Common.{true}
use Rattle.dia_tokens.proofs.SpellingLaws.{relexed, spelled-again}
use Rattle.dia_tokens.proofs.laws.spelled_again.Goals as goal

pub returns-clause-tokens : goal.returns-clause-tokens
returns-clause-tokens c = relexed true

pub returns-clause-again : goal.returns-clause-again
returns-clause-again c = spelled-again
