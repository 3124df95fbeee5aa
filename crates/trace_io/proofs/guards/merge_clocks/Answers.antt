use Rattle.std.proofs.Common.{rules, ◌≡◌, ◌<◌, length, get_or, slice_get, Some, sym, ap, subst, ◌∙◌, arith}
use Rattle.std.proofs.lemmas.List.{length_push}
use Rattle.std.proofs.lemmas.List.Elements.{All-push}
use Rattle.std.proofs.lemmas.Option.{slice_get-get_or}
use Rattle.dbp_plan.specs.declared.diagram.Task.{Task}
use Rattle.dbp_plan.specs.ListItems.{read_place}
use Rattle.dbp_plan.specs.Lookups.{no_declared_task}
use Rattle.trace_io.specs.Counts.{IsClockOf}
use Rattle.trace_io.specs.Guards.{AreAlike}
use Rattle.trace_io.proofs.MergeClocks.{clocks-more, merge-again, merge-more, more-again}
use Rattle.trace_io.proofs.Plans.{clock_fits_at}
use Rattle.trace_io.proofs.guards.merge_clocks.Goals as goal
use Rattle.trace_io.proofs.guards.merge_clocks.Goals.{in-Some, in-None+in_ok-clock-in-None}

pub index-requires : goal.index-requires
index-requires c =
    let len : c.loop-i.clocks.len ≡ length c.loop-i.clocks.items = search rules in
    omega (arith, c.in-Some.ensures.0, c.loop-i.invariant.places, len)

pub loop-i-preserved : goal.loop-i-preserved
loop-i-preserved c =
    let d = c.args.diagram.now in
    let i = c.loop-i.i in
    let inside : i < length d.tasks = omega (arith, c.loop-i-test.true) in
    let initial = c.args.events.now.items in
    let now = c.loop-i.events.items in
    let inv = c.loop-i.invariant in
    elim c.match-alike_before.branch [
      | in-Some w ↦
          let j = w.in-Some.j in
          let found : (j < i) × AreAlike d.tasks j i = rw c.items.ensures.value at w.in-Some.ensures in
          let read = w.index.result.now in
          let before : j < length c.loop-i.clocks.items = omega (arith, found.0, inv.places) in
          let at : slice_get c.loop-i.clocks.items j ≡ Some c.match-alike_before.clock = read_place c.loop-i.clocks.items j read before w.index.ensures ∙ ap Some (sym w.clock-is) in
          let fits : IsClockOf (length now) c.match-alike_before.clock = subst (IsClockOf (length now)) (sym (w.clock-is ∙ w.index.ensures)) (inv.clocks j read before) in
          rw (c.in_ok-push.ensures.items, w.events-is) (record {
            more = inv.more;
            few = omega (arith, inv.few);
            table = inv.table;
            places = omega (arith, length_push c.loop-i.clocks.items c.match-alike_before.clock, inv.places);
            clocks = All-push (IsClockOf (length now)) c.loop-i.clocks.items c.match-alike_before.clock inv.clocks fits;
            times = λ samples its. merge-again d samples initial now c.loop-i.clocks.items c.match-alike_before.clock i j found.1 found.0 inside at (inv.times samples its);
          })
      | in-None+in_ok-clock-in-None w ↦
          let t : Task = get_or d.tasks i no_declared_task in
          let at : slice_get d.tasks i ≡ Some t = slice_get-get_or d.tasks i no_declared_task inside in
          let more = w.merge_clock.new.events.items in
          let fits : IsClockOf (length initial) t.clock = rw c.requires.events (clock_fits_at d c.requires.ranked.closed i t at) in
          let told = w.in_ok-clock-in-None.ensures in
          rw (c.in_ok-push.ensures.items, w.events-is, w.clock-is) (record {
            more = more-again initial now more inv.more told.more;
            few = omega (arith, told.few, inv.few);
            table = told.table;
            places = omega (arith, length_push c.loop-i.clocks.items w.in_ok-clock-in-None.clock, inv.places);
            clocks = All-push (IsClockOf (length more)) c.loop-i.clocks.items w.in_ok-clock-in-None.clock (clocks-more (length now) (length more) c.loop-i.clocks.items told.more.longer inv.clocks) told.clock;
            times = λ samples its.
                merge-more d samples initial now more c.loop-i.clocks.items w.in_ok-clock-in-None.clock i t at fits inv.more told.more inv.clocks (told.times samples t at (its i no_declared_task inside)) (inv.times samples its);
          })
    ]
