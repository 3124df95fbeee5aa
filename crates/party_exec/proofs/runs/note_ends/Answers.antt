use Rattle.std.proofs.Common.{◌≡◌, ◌<◌, ◌∙◌, length, get_or, set, ap, arith, length-set}
use Rattle.std.proofs.lemmas.List.Edits.{fill_by_more}
use Rattle.std.proofs.lemmas.List.FromFn.{fill_by_all}
use Rattle.sync_meaning.proofs.Sets.{refill_all}
use Rattle.party_exec.specs.Entries.{task_end}
use Rattle.party_exec.specs.declared.crew_entry.TaskEnd.{TaskEnd}
use Rattle.party_exec.proofs.Ends.{end_is, no_releaser, task_there}
use Rattle.party_exec.proofs.runs.note_ends.Goals as goal

pub unreachable-requires : goal.unreachable-requires
unreachable-requires c =
    let few : c.loop-i.i < length c.args.words.now.plan.diagram.tasks = omega (arith, c.loop-i-test.true, ap length c.items_mut-ends.ensures.value, c.requires.size) in
    no_releaser c.args.words.now c.args.parties.now c.requires.finished c.loop-i.i few c.index-parties-i.result c.index-parties-i.is c.in-Releaser.field-0 c.in-Releaser.is

pub end_of-requires : goal.end_of-requires
end_of-requires c =
    let few : c.loop-i.i < length c.args.words.now.plan.diagram.tasks = omega (arith, c.loop-i-test.true, ap length c.items_mut-ends.ensures.value, c.requires.size) in
    (task_there c.args.words.now c.args.parties.now c.requires.finished c.loop-i.i few c.index-parties-i.result c.index-parties-i.is c.in-Task.party c.in-Task.is).here

pub loop-i-preserved : goal.loop-i-preserved
loop-i-preserved c =
    let p = c.args.words.now.plan in
    let i = c.loop-i.i in
    let few : c.loop-i.i < length c.args.words.now.plan.diagram.tasks = omega (arith, c.loop-i-test.true, ap length c.items_mut-ends.ensures.value, c.requires.size) in
    let ended = task_there c.args.words.now c.args.parties.now c.requires.finished c.loop-i.i few c.index-parties-i.result c.index-parties-i.is c.in-Task.party c.in-Task.is in
    let end : c.end_of.result ≡ task_end p i = end_is c.args.words.now i c.in-Task.party c.end_of.result ended c.end_of.ensures.ended c.end_of.ensures.occurrences in
    record {
      size = length-set c.loop-i.ends i c.end_of.result ∙ c.loop-i.invariant.size;
      noted = λ k d below.
          ap (λ (e : TaskEnd). get_or (set c.loop-i.ends i e) k d) end
          ∙ fill_by_more (task_end p) c.loop-i.ends i d (omega (arith, few, c.loop-i.invariant.size)) (λ j few_j. c.loop-i.invariant.noted j d few_j) k below;
    }

pub returns : goal.returns
returns c =
    let p = c.args.words.now.plan in
    let size = c.loop-i.invariant.size in
    let all : length p.diagram.tasks ≡ length c.items_mut-ends.result.now = omega (arith, ap length c.items_mut-ends.ensures.value, c.requires.size) in
    refill_all c.args.ends.now c.loop-i.ends (omega (arith, size, c.requires.size))
    ∙ fill_by_all (task_end p) c.loop-i.ends (length p.diagram.tasks) (task_end p 0) size (λ k below. c.loop-i.invariant.noted k (task_end p 0) (omega (arith, below, all, c.loop-i-test.false)))
