use Rattle.std.proofs.Common.{ap, length, sym, subst, ◌∙◌}
use Rattle.sync_meaning.proofs.Sets.{refill_all}
use Rattle.party_turns.specs.Parties.{HaveFinished}
use Rattle.dbp_top.proofs.run.run_parties.Goals as goal

pub table_of-requires : goal.table_of-requires
table_of-requires g c =
    let size = c.run.ensures.same.size ∙ ap length c.items_mut.ensures.value in
    subst (HaveFinished c.args.words.now) (sym (refill_all c.args.parties.now c.run.new.parties size)) c.run.ensures.finished
