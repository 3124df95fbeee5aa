-- Whatever steps are made from the start, each of them allowed, the state is sound.
use Rattle.std.proofs.Common.{ℕ, ℤ, List, [], ◌∷◌, sym, subst}
use Rattle.dbp_plan.specs.declared.plan.Plan.{Plan}
use Rattle.dbp_plan.specs.declared.table.Table.{Table}
use Rattle.sync_meaning.proofs.OneMeaning.{meaning_solves}
use Rattle.sync_meaning.specs.Meaning.{IsMeaning}
use Rattle.sync_meaning.specs.SomeMeaning.{meaning_of, meaning_of-is}
use Rattle.sync_meaning.specs.SomeMeaningRows.{Solves}
use Rattle.dbp_plan.specs.Table.{table_row}
use Rattle.dbp_rules.specs.Lawful.{Leads}
use Rattle.dbp_rules.specs.Rules as rule
use Rattle.dbp_rules.specs.Sound.{Sound}
use Rattle.dbp_rules.specs.Start.{start_of}
use Rattle.dbp_rules.specs.Wired.{wiring_of}
use Rattle.dbp_rules.specs.declared.state.State.{State}
use Rattle.dbp_rules.specs.declared.step.Count.{Count}
use Rattle.dbp_rules.specs.declared.step.Step.{Step}
use Rattle.dbp_rules.specs.declared.wiring.Wiring.{Wiring}
use Rattle.dbp_rules.proofs.SoundKept.{step_sound}
use Rattle.dbp_rules.proofs.SoundOwn.{IsOwn, own_wiring}
use Rattle.dbp_rules.proofs.SoundStart.{start_sound}

steps_sound : (p : Plan) (w : Wiring) (rows : ℕ → ℕ → List ℤ) (es : List Step) (s new : State) → IsOwn p w → Solves p.diagram p.samples p.batches rows → Sound p w rows s → Leads p w s es new → Sound p w rows new
steps_sound p w rows [] s new own solves sound same = subst (λ (x : State). Sound p w rows x) (sym same) sound
steps_sound p w rows (e ∷ es) s new own solves sound leads = steps_sound p w rows es (rule.next p w s e) new own solves (step_sound p w rows s own solves sound e leads.0 leads.1) leads.2

pub reached_meaning : (p : Plan) (count : Count) (table : Table) (es : List Step) (s : State) → IsMeaning p.diagram p.samples p.batches table → Leads p (wiring_of p count) (start_of p (wiring_of p count)) es s
    → Sound p (wiring_of p count) (table_row table) s
reached_meaning p count table es s meaning leads =
    let solves : Solves p.diagram p.samples p.batches (table_row table) = meaning_solves p.diagram p.samples p.batches table p.rules meaning in
    steps_sound p (wiring_of p count) (table_row table) es (start_of p (wiring_of p count)) s (own_wiring p count) solves (start_sound p (wiring_of p count) (table_row table) (own_wiring p count).whole solves) leads

-- the rows of the plan's meaning
abbrev pub rows_of : Plan → ℕ → ℕ → List ℤ
rows_of p = table_row (meaning_of p)

pub reached_sound : (p : Plan) (count : Count) (es : List Step) (s : State) → Leads p (wiring_of p count) (start_of p (wiring_of p count)) es s → Sound p (wiring_of p count) (rows_of p) s
reached_sound p count es s leads = reached_meaning p count (meaning_of p) es s (meaning_of-is p) leads
