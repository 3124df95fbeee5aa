use Rattle.std.proofs.Common.{◌≡◌, ℕ, ◌<◌, ◌∙◌, List, [], length, get_or, sym, ap, arith}
use Rattle.std.specs.Prelude.{nat_lt}
use Rattle.std.proofs.lemmas.List.{get_or_read}
use Rattle.dbp_plan.specs.declared.diagram.Link.{Link}
use Rattle.dbp_plan.specs.Lookups.{link_at, no_link}
use Rattle.dbp_core.specs.Steppers.{state_in}
use Rattle.dbp_rules.specs.Lookups.{link_entry}
use Rattle.cpu_sim.proofs.BlockingReads.{direct_blocks, ends-there, together}
use Rattle.cpu_sim.proofs.blocking.waits_for_writer.Goals as goal

pub returns-then-wired-eq0 : goal.returns-then-wired-eq0
returns-then-wired-eq0 c =
    let p = c.args.plan.now in
    let run = c.args.run.now in
    let k = c.args.link in
    let own : get_or c.items.result.now k no_link ≡ link_at p.diagram.links k = ap (λ (l : List Link). get_or l k no_link) c.items.ensures.value in
    let writer = (get_or c.items.result.now k no_link).writer in
    let there : writer < length run.ends = omega (arith, ap (λ (l : Link). l.writer) own, (ends-there p c.args.core.now run.released run.time run.rest.items run.ends (together p c.args.core.now run c.requires.together) k c.requires.link c.requires.some).0, c.requires.together.at.at.lists) in
    let read = get_or_read run.ends writer c.index-items-wired.result there (c.index-items-wired.is ∙ ap (λ (l : List (List ℕ)). get_or l writer c.index-items-wired.result) c.items-2.ensures.value) [] in
    let ended : c.len-ended.result ≡ length (get_or run.ends (link_at p.diagram.links k).writer []) =
    c.len-ended.ensures ∙ ap (length {A = ℕ}) read ∙ ap (λ (l : Link). length (get_or run.ends l.writer [])) own in
    ap (nat_lt c.len-ended.result) c.claimed_number.ensures
    ∙ ap (λ (n : ℕ). nat_lt n (link_entry (state_in c.args.core.now) k).number) ended
    ∙ direct_blocks p c.args.core.now run.released run.time run.rest.items run.ends (together p c.args.core.now run c.requires.together) k c.requires.link c.requires.some (ap (λ (l : Link). l.delay) (sym own) ∙ c.if-wired-eq0.true)
