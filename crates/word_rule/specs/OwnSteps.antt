-- A step of a seat's own party, and what it makes of the view and of the state that is shown.
use Rattle.std.specs.Prelude.{◌≡◌, ℕ, ◌+◌, None}
use Rattle.dbp_plan.specs.declared.plan.Plan.{Plan}
use Rattle.dbp_rules.specs.PartyRules.{Loaded}
use Rattle.dbp_rules.specs.Rules.{IsNamed, next}
use Rattle.dbp_rules.specs.SharedWords.{made_by}
use Rattle.dbp_rules.specs.declared.state.State.{State}
use Rattle.dbp_rules.specs.declared.step.Step.{Step}
use Rattle.word_rule.specs.Roles.{PutFits, role_after, role_refusal, run_wiring, task_of}
use Rattle.word_rule.specs.Showing.{Keeps, TableState}
use Rattle.word_rule.specs.declared.views.View.{View}

-- the step is one of the seat's party, which its own part allows; a put stores a word of 64 bits
pub record IsOwnStep (p : Plan) (v : View) (e : Step) : Type 0 where
  pub named : IsNamed p.diagram e
  pub mine : made_by e ≡ task_of v.role
  pub free : role_refusal (run_wiring p) v.role e ≡ None
  pub put : PutFits p v.role e

-- the view after the step, which loaded l
abbrev pub view_after : Plan → View → Step → Loaded → View
view_after p v e l = record v { role = role_after (run_wiring p) v.role e l; steps = v.steps + 1 }

-- After the step the rule holds again, of the state that the step makes of s: the words and views showed s before, when so many
-- seats were split off.
pub record KeepsNext (p : Plan) (split : ℕ) (s : State) (e : Step) (t : TableState) : Type 0 where
  pub after : Keeps p t
  pub split_off : after.split ≡ split
  pub next_state : after.state ≡ next p (run_wiring p) s e
