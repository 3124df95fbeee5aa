use Rattle.std.proofs.Common.{◌≡◌, ◌<◌, ◌+◌, ◌++◌, ◌∙◌, ℕ, ℤ, List, Some, length, take, get_or, slice_get, ap, sym, subst, arith, refl}
use Rattle.std.proofs.lemmas.List.{length-map}
use Rattle.std.specs.Prelude.{slice_index}
use Rattle.dbp_plan.specs.declared.diagram.Link.{Link}
use Rattle.expr_eval.specs.Values.{value_of}
use Rattle.sync_meaning.specs.Meaning.{AreStatesAfter, IsRead}
use Rattle.sync_meaning.specs.Shape.{AreWritten, IsEnvOf}
use Rattle.sync_meaning.proofs.Sets.{item_at}
use Rattle.sync_meaning.specs.Nexts.{length-later}
use Rattle.sync_meaning.proofs.ExactRuns.{IsInstance, env_exact, states_later, states_kept, streams_more, time_more}
use Rattle.sync_meaning.proofs.Runs.{is_next, next_reads, next_fits, next_more, next_writers, advanced}
use Rattle.sync_meaning.proofs.run.Run.compute.Goals as goal

pub set_reads-requires-clause-reads : goal.set_reads-requires-clause-reads
set_reads-requires-clause-reads c =
    let next = is_next c.args.plan.now c.args.task c.index-items-place.result c.items.result.now c.args.self.now c.items.ensures.value c.requires.task c.index-items-place.is c.requires.run c.requires.due c.requires.few in
    rw (c.items-2.ensures.value, c.deref-2.ensures.value) (next_reads c.args.plan.now.diagram c.args.task c.index-items-place.result c.args.self.now next)

pub set_reads-requires-clause-writers : goal.set_reads-requires-clause-writers
set_reads-requires-clause-writers c =
    let next = is_next c.args.plan.now c.args.task c.index-items-place.result c.items.result.now c.args.self.now c.items.ensures.value c.requires.task c.index-items-place.is c.requires.run c.requires.due c.requires.few in
    rw (c.items-2.ensures.value, c.deref-2.ensures.value) (next_writers c.args.plan.now.diagram c.args.task c.index-items-place.result c.args.self.now next)

pub push_row-requires : goal.push_row-requires
push_row-requires c =
    let next = is_next c.args.plan.now c.args.task c.index-items-place.result c.items.result.now c.args.self.now c.items.ensures.value c.requires.task c.index-items-place.is c.requires.run c.requires.due c.requires.few in
    let below : c.args.task < length c.args.self.now.table.tasks = omega (arith, c.requires.task, c.requires.run.rows.size) in
    let at = item_at c.args.self.now.table.tasks c.items_mut.result.now c.args.task c.index-items_mut-place.result c.items_mut.ensures.value below c.index-items_mut-place.is in
    let t = c.index-items-place.result in
    let outs : length c.work.new.outs ≡ length t.outs = ap length c.work.ensures.outs ∙ length-map t.outs (λ o. value_of o.expr c.work.new.env.now) in
    rw (sym c.index-items_mut-place.is) (next_fits c.args.plan.now.diagram c.args.task t c.args.self.now c.index-items_mut-place.result c.work.new.outs next at outs)

pub returns-clause-run : goal.returns-clause-run
returns-clause-run c =
    let next = is_next c.args.plan.now c.args.task c.index-items-place.result c.items.result.now c.args.self.now c.items.ensures.value c.requires.task c.index-items-place.is c.requires.run c.requires.due c.requires.few in
    let t = c.index-items-place.result in
    let below : c.args.task < length c.args.self.now.envs.items = omega (arith, c.requires.task, c.requires.run.envs.size) in
    let old = c.requires.run.envs.each c.args.task t c.index_mut-env.result.now next.task (item_at c.args.self.now.envs.items c.args.self.now.envs.items c.args.task c.index_mut-env.result.now refl below c.index_mut-env.ensures.value) in
    let size = c.work.ensures.now ∙ c.set_reads.ensures.now.size ∙ c.set_senses.ensures.now.size ∙ old.now in
    let worked : IsEnvOf t c.work.new.env = record { now = size; later = length-later t c.work.new.env.now c.work.new.env.later size c.work.ensures.later } in
    let outs : length c.work.new.outs ≡ length t.outs = ap length c.work.ensures.outs ∙ length-map t.outs (λ o. value_of o.expr c.work.new.env.now) in
    let fits = advanced c.index-items-place.result c.work.new.env c.advance.new.self worked c.advance.ensures.now c.advance.ensures.later in
    next_more c.args.plan.now.diagram c.args.task c.index_mut.result.now c.index-items-place.result c.args.self.now _ c.advance.new.self c.items_mut.result.now c.index-items_mut-place.result c.push_row.new.rows c.work.new.outs
    next fits c.items_mut.ensures.value c.index-items_mut-place.is c.in_ok-push_row.ensures.ports c.in_ok-push_row.ensures.words outs c.index_mut.ensures.value refl refl refl refl refl

pub returns-clause-time : goal.returns-clause-time
returns-clause-time c =
    let next = is_next c.args.plan.now c.args.task c.index-items-place.result c.items.result.now c.args.self.now c.items.ensures.value c.requires.task c.index-items-place.is c.requires.run c.requires.due c.requires.few in
    time_more c.args.plan.now.diagram c.args.plan.now.samples c.args.plan.now.batches c.args.task c.index_mut.result.now c.index-items-place.result c.args.self.now _ next c.requires.time c.index_mut.ensures.value refl refl refl

pub returns-clause-streams : goal.returns-clause-streams
returns-clause-streams c =
    let plan = c.args.plan.now in
    let d = plan.diagram in
    let run = c.args.self.now in
    let next = is_next plan c.args.task c.index-items-place.result c.items.result.now run c.items.ensures.value c.requires.task c.index-items-place.is c.requires.run c.requires.due c.requires.few in
    let t = c.index-items-place.result in
    let below : c.args.task < length run.envs.items = omega (arith, c.requires.task, c.requires.run.envs.size) in
    let before = c.index_mut-env.result.now in
    let at = item_at run.envs.items run.envs.items c.args.task before refl below c.index_mut-env.ensures.value in
    let old = c.requires.run.envs.each c.args.task t before next.task at in
    let env : List ℤ = c.work.new.env.now in
    let senses = subst (λ (l : List ℤ). AreWritten (length t.states) t.senses (λ s value. slice_get l s.input ≡ Some value) before.now c.set_senses.new.env.now) c.deref.ensures.value c.set_senses.ensures.now in
    let links = subst (λ (l : List Link). AreWritten (length t.states + length t.senses) t.reads (IsRead l (slice_index c.deref-2.result.now) run.table) c.set_senses.new.env.now c.set_reads.new.env.now) c.items-2.ensures.value c.set_reads.ensures.now in
    let reads = subst (λ (l : List ℕ). AreWritten (length t.states + length t.senses) t.reads (IsRead d.links (slice_index l) run.table) c.set_senses.new.env.now c.set_reads.new.env.now) c.deref-2.ensures.value links in
    let work : IsInstance d run.table t run.inputs.values.items run.named.items before.now c.set_senses.new.env.now c.set_reads.new.env.now env = record {
      places = old.now;
      senses = senses;
      reads = reads;
      size = c.work.ensures.now;
      given = c.work.ensures.given;
      lets = c.work.ensures.lets;
    } in
    let is = env_exact d plan.samples plan.batches run.table t c.requires.time.time run.inputs.values.items run.named.items before.now c.set_senses.new.env.now c.set_reads.new.env.now env work c.requires.time.inputs c.requires.time.counts
    (next_writers d c.args.task t run next) in
    let kept = states_kept d run.table t run.inputs.values.items run.named.items before.now c.set_senses.new.env.now c.set_reads.new.env.now env work in
    let size = c.work.ensures.now ∙ c.set_reads.ensures.now.size ∙ c.set_senses.ensures.now.size ∙ old.now in
    let after = states_later t c.work.new.env.later env c.advance.new.self.now (length-later t env c.work.new.env.later size c.work.ensures.later) c.advance.ensures.now in
    let states = subst (λ (l : List ℤ). AreStatesAfter t env (take (length t.states) before.now) l) (sym after)
    (subst (λ (l : List ℤ). AreStatesAfter t env l c.work.new.env.later) kept c.work.ensures.later) in
    let words = c.in_ok-push_row.ensures.words ∙ ap (λ (l : List ℤ). (get_or c.items_mut.result.now c.args.task c.index-items_mut-place.result).words ++ l) c.work.ensures.outs in
    streams_more d plan.samples plan.batches c.args.task c.index_mut.result.now t run _ before c.advance.new.self env c.items_mut.result.now c.index-items_mut-place.result c.push_row.new.rows
    next c.requires.time c.requires.streams at is states c.items_mut.ensures.value c.index-items_mut-place.is c.in_ok-push_row.ensures.ports words c.index_mut.ensures.value refl refl refl
