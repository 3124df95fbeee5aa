use Rattle.std.proofs.Common.{◌∙◌, ap}
use Rattle.dbp_rules.specs.SharedWords.{order_value}
use Rattle.word_rule.proofs.ReleaserCalls.{claim_kept, claim_place, claim_reader, claim_store, claim_then}
use Rattle.word_rule.proofs.seats.SlotWords.claim.Goals as goal

pub claim-order-requires-clause-reader : goal.claim-order-requires-clause-reader
claim-order-requires-clause-reader c = claim_reader c.args.self.now c.args.seat.now c.requires.here c.args.link c.requires.link c.requires.allowed

pub claim-order-requires-clause-kept : goal.claim-order-requires-clause-kept
claim-order-requires-clause-kept c = claim_kept c.args.self.now c.args.seat.now c.requires.here c.args.link c.requires.link c.requires.allowed

pub claim-order-requires-clause-place : goal.claim-order-requires-clause-place
claim-order-requires-clause-place c = claim_place c.args.self.now c.args.seat.now c.requires.here c.args.link c.requires.link c.requires.allowed

pub store-requires : goal.store-requires
store-requires c = let store = claim_store c.args.self.now c.args.seat.now c.requires.here c.args.link c.requires.link c.requires.allowed _ _ _ c.claim-address.ensures (c.to_word.ensures ∙ ap order_value c.claim-order.ensures.order) in (c.requires.here.0, store.0, store.1)

pub invariant_of-seat : goal.invariant_of-seat
invariant_of-seat c = record { same = claim_then c.args.self.now c.args.seat.now c.requires.here c.args.link c.requires.link c.requires.allowed _ _ _ c.store.new.seat.me c.claim-order.new.self c.claim-address.ensures c.store.ensures.2 c.claim-order.ensures.next }
