use Rattle.std.specs.List.{list_any}
use Rattle.std.proofs.Common.{◌≡◌, ◌<◌, ◌-◌, ◌∙◌, ℕ, true, false, List, get_or, slice_get, take, Some, sym, ap, subst, arith}
use Rattle.std.proofs.lemmas.List.{get_or_default, get_or_read, take_all}
use Rattle.dbp_plan.specs.declared.diagram.Read.{Read}
use Rattle.dbp_plan.specs.declared.diagram.Task.{Task}
use Rattle.dbp_plan.specs.Lookups.{declared_task, no_declared_task}
use Rattle.cpu_sim.specs.Choices.{last_of}
use Rattle.cpu_sim.specs.Processors.{read_blocks, served_on}
use Rattle.cpu_sim.specs.Services.{services}
use Rattle.cpu_sim.proofs.BlockingReads.{any_there, due_blocks, link_there, none_more, not_due, read_here, reader_is}
use Rattle.cpu_sim.proofs.blocking.is_blocked.Goals as goal
use Rattle.cpu_sim.proofs.blocking.is_blocked.Goals.{else-read-served-via-then-read-served+else-waits_for_writer, else-read-served-via-else-read-served}

pub waits_for_writer-requires-clause-link : goal.waits_for_writer-requires-clause-link
waits_for_writer-requires-clause-link c =
    let p = c.args.plan.now in
    let run = c.args.run.now in
    let i = c.args.task in
    let h = c.requires.together.at in
    let body = c.index-items-task.result in
    let r = c.read-item.result in
    let n = c.loop-read.read-index in
    let own : body ≡ declared_task p i = c.index-items-task.is ∙ ap (λ (l : List Task). get_or l i body) c.items.ensures.value ∙ get_or_default p.diagram.tasks i body no_declared_task c.requires.task in
    let rest : c.index.result.now ≡ get_or run.rest.items i 0 = get_or_read run.rest.items i c.index.result.now (omega (arith, c.requires.task, h.at.rests)) c.index.ensures 0 in
    let here : slice_get (declared_task p i).reads n ≡ Some r = read_here p i n body c.items-read-items.result.now r own c.items-read-items.ensures.value c.loop-read-test.true c.read-item.is in
    let served : body.cost - c.index.result.now ≡ (declared_task p i).cost - get_or run.rest.items i 0 = omega (arith, ap (λ (t : Task). t.cost) own, rest) in
    let test = read_blocks p (served_on p (services p) run.time) (last_of p run.released i) in
    link_there p run.released run.time run.rest.items run.ends h.at i c.requires.task c.requires.some r n here

pub waits_for_writer-requires-clause-some : goal.waits_for_writer-requires-clause-some
waits_for_writer-requires-clause-some c =
    let p = c.args.plan.now in
    let run = c.args.run.now in
    let i = c.args.task in
    let h = c.requires.together.at in
    let body = c.index-items-task.result in
    let r = c.read-item.result in
    let n = c.loop-read.read-index in
    let own : body ≡ declared_task p i = c.index-items-task.is ∙ ap (λ (l : List Task). get_or l i body) c.items.ensures.value ∙ get_or_default p.diagram.tasks i body no_declared_task c.requires.task in
    let rest : c.index.result.now ≡ get_or run.rest.items i 0 = get_or_read run.rest.items i c.index.result.now (omega (arith, c.requires.task, h.at.rests)) c.index.ensures 0 in
    let here : slice_get (declared_task p i).reads n ≡ Some r = read_here p i n body c.items-read-items.result.now r own c.items-read-items.ensures.value c.loop-read-test.true c.read-item.is in
    let served : body.cost - c.index.result.now ≡ (declared_task p i).cost - get_or run.rest.items i 0 = omega (arith, ap (λ (t : Task). t.cost) own, rest) in
    let test = read_blocks p (served_on p (services p) run.time) (last_of p run.released i) in
    subst (λ (j : ℕ). 0 < get_or run.rest.items j 0) (sym (reader_is p run.released run.time run.rest.items run.ends h.at i c.requires.task c.requires.some r n here)) c.requires.some

pub returns-then-waits_for_writer : goal.returns-then-waits_for_writer
returns-then-waits_for_writer c =
    let p = c.args.plan.now in
    let run = c.args.run.now in
    let i = c.args.task in
    let h = c.requires.together.at in
    let body = c.index-items-task.result in
    let r = c.read-item.result in
    let n = c.loop-read.read-index in
    let own : body ≡ declared_task p i = c.index-items-task.is ∙ ap (λ (l : List Task). get_or l i body) c.items.ensures.value ∙ get_or_default p.diagram.tasks i body no_declared_task c.requires.task in
    let rest : c.index.result.now ≡ get_or run.rest.items i 0 = get_or_read run.rest.items i c.index.result.now (omega (arith, c.requires.task, h.at.rests)) c.index.ensures 0 in
    let here : slice_get (declared_task p i).reads n ≡ Some r = read_here p i n body c.items-read-items.result.now r own c.items-read-items.ensures.value c.loop-read-test.true c.read-item.is in
    let served : body.cost - c.index.result.now ≡ (declared_task p i).cost - get_or run.rest.items i 0 = omega (arith, ap (λ (t : Task). t.cost) own, rest) in
    let test = read_blocks p (served_on p (services p) run.time) (last_of p run.released i) in
    let blocks : test r ≡ true = due_blocks p run.released run.time run.rest.items run.ends h.at i c.requires.task c.requires.some r n here (c.if-read-served.true ∙ served) c.waits_for_writer.result c.waits_for_writer.ensures ∙ c.if-waits_for_writer.true in
    let reads : c.items-read-items.result.now ≡ (declared_task p i).reads = c.items-read-items.ensures.value ∙ ap (λ (t : Task). t.reads) own in
    sym (subst (λ (l : List Read). list_any test l ≡ true) reads (any_there test c.items-read-items.result.now n r c.loop-read-test.true (ap test (sym c.read-item.is) ∙ blocks)))

pub loop-read-preserved : goal.loop-read-preserved
loop-read-preserved c =
    let p = c.args.plan.now in
    let run = c.args.run.now in
    let i = c.args.task in
    let h = c.requires.together.at in
    let body = c.index-items-task.result in
    let r = c.read-item.result in
    let n = c.loop-read.read-index in
    let own : body ≡ declared_task p i = c.index-items-task.is ∙ ap (λ (l : List Task). get_or l i body) c.items.ensures.value ∙ get_or_default p.diagram.tasks i body no_declared_task c.requires.task in
    let rest : c.index.result.now ≡ get_or run.rest.items i 0 = get_or_read run.rest.items i c.index.result.now (omega (arith, c.requires.task, h.at.rests)) c.index.ensures 0 in
    let here : slice_get (declared_task p i).reads n ≡ Some r = read_here p i n body c.items-read-items.result.now r own c.items-read-items.ensures.value c.loop-read-test.true c.read-item.is in
    let served : body.cost - c.index.result.now ≡ (declared_task p i).cost - get_or run.rest.items i 0 = omega (arith, ap (λ (t : Task). t.cost) own, rest) in
    let test = read_blocks p (served_on p (services p) run.time) (last_of p run.released i) in
    let free : test r ≡ false = elim c.else-read-served.branch [
      | else-read-served-via-then-read-served+else-waits_for_writer w ↦ due_blocks p run.released run.time run.rest.items run.ends h.at i c.requires.task c.requires.some r n here (w.if-read-served.true ∙ served) w.waits_for_writer.result w.waits_for_writer.ensures ∙ w.if-waits_for_writer.false
      | else-read-served-via-else-read-served w ↦ not_due p run.released run.time run.rest.items run.ends h.at i c.requires.task c.requires.some r n here (λ e. w.if-read-served.false (e ∙ sym served))
    ] in
    none_more test c.items-read-items.result.now n r c.loop-read-test.true c.loop-read.invariant (ap test (sym c.read-item.is) ∙ free)

pub returns : goal.returns
returns c =
    let p = c.args.plan.now in
    let run = c.args.run.now in
    let i = c.args.task in
    let body = c.index-items-task.result in
    let own : body ≡ declared_task p i = c.index-items-task.is ∙ ap (λ (l : List Task). get_or l i body) c.items.ensures.value ∙ get_or_default p.diagram.tasks i body no_declared_task c.requires.task in
    let reads : c.items-read-items.result.now ≡ (declared_task p i).reads = c.items-read-items.ensures.value ∙ ap (λ (t : Task). t.reads) own in
    let test = read_blocks p (served_on p (services p) run.time) (last_of p run.released i) in
    let all : take c.loop-read.read-index c.items-read-items.result.now ≡ (declared_task p i).reads = take_all c.loop-read.read-index c.items-read-items.result.now (omega (arith, c.loop-read-test.false)) ∙ reads in
    sym (subst (λ (l : List Read). list_any test l ≡ false) all c.loop-read.invariant)
