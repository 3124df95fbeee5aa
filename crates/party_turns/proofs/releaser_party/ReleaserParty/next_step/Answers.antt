use Rattle.party_turns.proofs.Releasers.{is_book, next_here}
use Rattle.party_turns.proofs.releaser_party.ReleaserParty.next_step.Goals as goal

pub next-requires : goal.next-requires
next-requires c = is_book c.args.words.now c.args.self.now c.requires c.plan.result.now c.plan.ensures

pub returns : goal.returns
returns c = next_here c.args.words.now c.args.self.now c.requires c.plan.result.now c.plan.ensures c.next.result c.next.ensures.next
