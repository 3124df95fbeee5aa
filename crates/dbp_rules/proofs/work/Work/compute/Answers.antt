use Rattle.std.proofs.Common.{◌≡◌, length, slice_get, sym, ◌∙◌, ap}
use Rattle.dbp_rules.proofs.Computing.{computed_is}
use Rattle.dbp_rules.proofs.work.Work.compute.Goals as goal

pub returns : goal.returns
returns c =
    let now : c.args.self.now.now ≡ c.self.inside.env.now = sym (ap (λ w. w.now) c.self.view_is) in
    computed_is c.args.task.now c.args.self.now.now (record { now = c.work.new.env.now; later = c.work.new.env.later; row = c.work.new.outs })
    c.requires.closed c.requires.now (c.work.ensures.now ∙ ap length (sym now)) (λ j below. c.work.ensures.given j below ∙ ap (λ xs. slice_get xs j) (sym now))
    c.work.ensures.lets c.work.ensures.later c.work.ensures.outs
