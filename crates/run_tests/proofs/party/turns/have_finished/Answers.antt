use Rattle.std.proofs.Common.{◌≡◌, ℕ, IsTrue, Some, slice_get, sym, subst, rules}
use Rattle.std.specs.Prelude.{slice_index_or}
use Rattle.std.proofs.lemmas.Option.{get_or_from_slice_get}
use borrow.Author.Count.{below_more}
use Rattle.dbp_plan.specs.ListItems.{read_place}
use Rattle.party_turns.specs.Parties.{HasFinished}
use Rattle.party_turns.specs.declared.party.Party.{Party}
use Rattle.party_turns.proofs.Places.{belongs}
use Rattle.run_tests.proofs.party.turns.have_finished.Goals as goal

pub has_finished-requires : goal.has_finished-requires
has_finished-requires c =
    let w = c.args.words.now in
    let party = c.party-item.result in
    belongs w c.loop-party.party-index party (c.requires.each c.loop-party.party-index party (read_place c.args.parties.now c.loop-party.party-index party c.loop-party-test.true c.party-item.is))

pub loop-party-preserved : goal.loop-party-preserved
loop-party-preserved c =
    let w = c.args.words.now in
    let ps = c.args.parties.now in
    let place = c.loop-party.party-index in
    let party = c.party-item.result in
    let yes : IsTrue c.has_finished.result = search rules in
    let at : slice_get c.args.parties.now c.loop-party.party-index ≡ Some c.party-item.result = read_place ps place party c.loop-party-test.true c.party-item.is in
    let here = λ (d : Party). subst (HasFinished w) (sym (get_or_from_slice_get ps place party d at)) (c.has_finished.ensures.0 yes) in
    λ k d less. below_more (λ (n : ℕ). (e : Party) → HasFinished w (slice_index_or ps n e)) place (λ n few e. c.loop-party.invariant n e few) here k less d
