use Rattle.dbp_replay.proofs.Delays.{link-none, link-some}
use Rattle.dbp_replay.proofs.form.link_of.Goals as goal

pub returns-in-Some : goal.returns-in-Some
returns-in-Some c = link-some c.args.delay c.in-Some.delay c.args.writer c.in-Some.ensures.value c.in-Some.ensures.exact

pub returns-in-None : goal.returns-in-None
returns-in-None c = link-none c.args.delay c.args.writer c.in-None.ensures.exact
