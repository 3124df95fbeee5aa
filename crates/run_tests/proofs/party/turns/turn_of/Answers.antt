use Rattle.std.proofs.Common.{get_or, subst}
use Rattle.std.proofs.lemmas.Option.{slice_get-get_or}
use Rattle.dbp_plan.specs.ListItems.{read_place}
use Rattle.party_turns.specs.Parties.{Belongs}
use Rattle.party_turns.proofs.Places.{belongs, still_parties}
use Rattle.run_tests.proofs.party.turns.turn_of.Goals as goal

pub turn-requires : goal.turn-requires
turn-requires c =
    let w = c.args.words.now in
    let party = c.index-parties-place.result in
    let read = c.index-parties-place.is in
    subst (Belongs w) read (belongs w c.args.place party (c.requires.each c.args.place party (read_place c.args.parties.now c.args.place party c.if-place-parties.true read)))

pub returns-then-place-parties : goal.returns-then-place-parties
returns-then-place-parties c =
    let ps = c.args.parties.now in
    let d = c.index-parties-place.result in
    still_parties c.args.words.now ps c.args.place (get_or ps c.args.place d) c.turn.new.self c.turn.result c.requires (slice_get-get_or ps c.args.place d c.if-place-parties.true) c.turn.ensures.turn
