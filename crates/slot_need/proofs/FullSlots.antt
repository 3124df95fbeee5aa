-- In each recorded list of a scenario's plan all slots of the task are in use after the batch at the last firing.
use Rattle.std.proofs.Common.{◌≡◌, ℕ, zero, suc, ◌+◌, ◌-◌, ◌<◌, true, List, [], ◌∷◌, length, slice_get, Some, None, sym, ap, ◌∙◌, subst, arith}
use Rattle.std.specs.Prelude.{filter, slice_index_or}
use Rattle.std.specs.Option.{option_map}
use Rattle.std.proofs.lemmas.Option.{none-some, same_Some, slice_get-map}
use Rattle.dbp_plan.specs.declared.diagram.Diagram.{Diagram}
use Rattle.dbp_plan.specs.declared.plan.Plan.{Plan}
use Rattle.dbp_plan.specs.declared.schedule.Batch.{Batch}
use Rattle.dbp_plan.specs.declared.table.Table.{Table}
use Rattle.dbp_plan.specs.Numbers.{is_in}
use Rattle.dbp_plan.specs.Occurrences.{names, time_of, times_of}
use Rattle.dbp_plan.specs.Table.{table_row}
use Rattle.dbp_plan.proofs.ListMaps.{from-map}
use Rattle.dia_read.specs.declared.document.Body.{Body}
use Rattle.dia_read.specs.declared.document.Doc.{Doc}
use Rattle.dia_read.specs.Canonical.{SpellsBody, canonical_text}
use Rattle.dia_read.specs.Documents.{Spells}
use Rattle.dia_read.specs.Printable.{HasItemLines, IsPrintable}
use Rattle.rank_order.specs.Service.{IsService}
use Rattle.rank_order.specs.ServiceOf.{service}
use Rattle.trace_io.specs.Texts.{Accepts}
use Rattle.sync_meaning.specs.Meaning.{IsMeaning}
use Rattle.dbp_rules.specs.declared.state.State.{State}
use Rattle.dbp_rules.specs.declared.step.Count.TheVariants.{Ranked}
use Rattle.dbp_rules.specs.declared.step.Step.{Step}
use Rattle.dbp_rules.specs.Lawful.{Leads}
use Rattle.dbp_rules.specs.Lookups.{task_entry}
use Rattle.dbp_rules.specs.Sound.{Sound}
use Rattle.dbp_rules.specs.Start.{start_of}
use Rattle.dbp_rules.specs.TenParts.{HoldsInTenParts}
use Rattle.dbp_rules.specs.Wired.{wiring_of}
use Rattle.instance_steps.specs.Events.{Event}
use Rattle.instance_steps.specs.Plays.{Plays}
use Rattle.virtual_sim.specs.Record.{IsRecord, StandsAfterBatch, events_so_far}
use Rattle.slot_need.specs.Bodies.{IsCheckedDiagramOf, IsScenario, scenario_body}
use Rattle.slot_need.specs.Faults.{need_fault}
use Rattle.slot_need.specs.Scenarios.{firing_count, last_firing, lower_readers}
use Rattle.slot_need.specs.SlotsInUse.{UsesAllSlots}
use Rattle.slot_need.proofs.Accepted.{accepted, ranked-diagram}
use Rattle.slot_need.proofs.KeptItems.{stays, stood}
use Rattle.slot_need.proofs.KnownEnds.{none-known}
use Rattle.slot_need.proofs.LiveRows.{firing-at}
use Rattle.slot_need.proofs.NeedFaults.{by-rank}
use Rattle.slot_need.proofs.Readers.{some-firings}
use Rattle.slot_need.proofs.UsedSlots.{in-use}

only-time : (t u m : ℕ) → slice_get (t ∷ []) m ≡ Some u → u ≡ t
only-time t u zero at = sym (same_Some t u at)
only-time t u (suc m) at = absurd (none-some u at)

-- a task that occurs once is in no batch but the one of its time
one-batch : (p : Plan) (i t : ℕ) → times_of p.batches i ≡ t ∷ [] → (k : ℕ) (b : Batch) → slice_get p.batches k ≡ Some b → is_in b.tasks i ≡ true → b.time ≡ time_of p.batches i 1
one-batch p i t times k b at named =
    let (m, there) = stays (names i) p.batches k b at named in
    let own : slice_get (times_of p.batches i) m ≡ Some b.time = slice_get-map (λ (c : Batch). c.time) (filter (names i) p.batches) m ∙ ap (option_map (λ (c : Batch). c.time)) there in
    only-time t b.time m (ap (λ (ts : List ℕ). slice_get ts m) (sym times) ∙ own) ∙ ap (λ (ts : List ℕ). slice_index_or ts 0 0) (sym times)

-- the laws of the crates below
pub record Laws : Type 0 where
  pub spells : (body : Body) → IsPrintable body → SpellsBody (canonical_text body) body
  pub lines : (text : List ℕ) (doc : Doc) → Spells text doc → HasItemLines doc
  pub serves : (p : Plan) → IsService p (service p)
  pub one : (text : List ℕ) (p q : Plan) → Accepts text p → Accepts text q → p ≡ q
  pub stands : (p : Plan) (script : List Step) (number : ℕ) (batch : Batch) → IsRecord p script → slice_get p.batches number ≡ Some batch → StandsAfterBatch p script number batch.time
  pub leads : (p : Plan) (events : List Event) (steps : List Step) (s t : State) → Plays p (wiring_of p Ranked) s events steps t → Leads p (wiring_of p Ranked) s steps t
  pub means : (p : Plan) → (table : Table) × IsMeaning p.diagram p.samples p.batches table
  pub sound : (p : Plan) (table : Table) (steps : List Step) (s : State) → IsMeaning p.diagram p.samples p.batches table → Leads p (wiring_of p Ranked) (start_of p (wiring_of p Ranked)) steps s → Sound p (wiring_of p Ranked) (table_row table) s
  pub parts : (p : Plan) (table : Table) (s : State) → Sound p (wiring_of p Ranked) (table_row table) s → HoldsInTenParts p (wiring_of p Ranked) (table_row table) s

module _ (laws : Laws) (body : Body) (d : Diagram) (w : ℕ) (of : IsCheckedDiagramOf body d) (printable : IsPrintable body) (there : w < length d.tasks) (none : need_fault d w ≡ None) where
  uses-all : (p : Plan) → IsScenario d w p → (script : List Step) → IsRecord p script → UsesAllSlots p script w (last_firing d w)
  uses-all p is script record_is =
      let fixed = by-rank d w none in
      let ranked = ranked-diagram body d of printable in
      let serves = laws.serves p in
      let last = firing-at d w there fixed ranked p is serves (firing_count d w - 1) (omega (arith, some-firings d w)) in
      let (batch, named, then) = from-map (λ (b : Batch). b.time) (filter (names w) p.batches) (firing_count d w - 1) (last_firing d w) last in
      let (number, at, passes) = stood (names w) p.batches (firing_count d w - 1) batch named in
      let after = laws.stands p script number batch record_is at in
      let leads = laws.leads p (events_so_far p (service p) (number + 1) batch.time) after.front (start_of p (wiring_of p Ranked)) after.state after.plays in
      let (table, means) = laws.means p in
      let sound = laws.parts p table after.state (laws.sound p table after.front after.state means leads) in
      let unknown : (i j : ℕ) → slice_get (lower_readers d w) j ≡ Some i → (task_entry after.state i).known ≡ 0 =
      λ i j reader. none-known i p (service p) (one-batch p i _ (is.readers j i reader)) (wiring_of p Ranked) (number + 1) batch.time after.front after.state after.plays in
      record {
        number = number;
        batch = batch;
        at = at;
        then = then;
        after = after;
        used = in-use d w there fixed ranked p is serves number batch at then after.state after.released (table_row table) sound unknown;
      }

  pub all-used : (p : Plan) → Accepts (canonical_text (scenario_body body d w)) p → (script : List Step) → IsRecord p script → UsesAllSlots p script w (last_firing d w)
  all-used p accepts =
      let (q, also, is, needs) = accepted laws.spells laws.lines body d w of printable there none laws.serves in
      uses-all p (subst (IsScenario d w) (laws.one (canonical_text (scenario_body body d w)) q p also accepts) is)
