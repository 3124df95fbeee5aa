use Rattle.std.proofs.Common.{◌≡◌, ◌∙◌, None, sym, subst}
use Rattle.dbp_rules.specs.Rules.{refusal}
use Rattle.dbp_rules.specs.Shapes.{IsShape}
use Rattle.dbp_rules.specs.declared.wiring.Wiring.{Wiring}
use Rattle.dbp_core.proofs.dispatch.advance.Goals as goal

pub make-requires-clause-shape : goal.make-requires-clause-shape
make-requires-clause-shape c = subst (λ (w : Wiring). IsShape c.args.plan.now w c.args.state.now) (sym c.requires.listed) c.requires.shape

pub make-requires-clause-allowed : goal.make-requires-clause-allowed
make-requires-clause-allowed c =
    subst (λ (w : Wiring). refusal w c.args.state.now c.args.step ≡ None) (sym c.requires.listed) (sym c.refusal.ensures ∙ c.in_default.is)
