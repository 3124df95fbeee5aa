use Rattle.std.proofs.Common.{◌≡◌, ◌+◌, ◌*◌, ◌-◌, ◌≤◌, true, false, All, take, length, refl, sym, ap, ◌∙◌, arith}
use Rattle.std.specs.Prelude.{nat_le, slice_index_or, sum_by}
use Rattle.std.proofs.lemmas.Bool.Decides.{nat_tests}
use Rattle.std.proofs.lemmas.List.{take_all}
use Rattle.std.proofs.lemmas.List.Sums.{sum_by_more}
use Rattle.rta_check.specs.declared.higher.Higher.{Higher}
use Rattle.rta_check.specs.Levels.{IsHigher, higher_request}
use Rattle.rta_check.specs.Requests.{div_ceil}
use Rattle.rta_check.proofs.HigherTasks.{asked_by, used_by, utilization_within}
use Rattle.rta_check.proofs.Starts.{asked, asked_within, later, not_all_used, used, whole-is}
use Rattle.rta_check.proofs.level.Level.start_by_utilization.Goals.{then-higher-longest, else-higher-longest, then-asked-from-via-then-asked-from, then-asked-from-via-else-asked-from+then-utilization-ge-WHOLE}
use Rattle.rta_check.proofs.level.Level.start_by_utilization.Goals as goal

abbrev no_higher : Higher
no_higher = record { period = 0; cost = 0; utilization = 0 }

pub overflow_add-utilization : goal.overflow_add-utilization
overflow_add-utilization c =
    let items = c.as_slice-higher-items.result.now in
    let each : All IsHigher items = rw c.as_slice-higher-items.ensures.value c.requires.level.each in
    let few : length items ≤ 32 = omega (arith, ap length c.as_slice-higher-items.ensures.value, c.requires.level.few) in
    let next = utilization_within (slice_index_or items c.loop-higher.higher-index no_higher) (each c.loop-higher.higher-index no_higher c.loop-higher-test.true) in
    omega (arith, c.loop-higher.invariant.used_few, next, whole-is, few, c.loop-higher-test.true)

pub loop-higher-preserved : goal.loop-higher-preserved
loop-higher-preserved c =
    let items = c.as_slice-higher-items.result.now in
    let i = c.loop-higher.higher-index in
    let h = slice_index_or items i no_higher in
    let each : All IsHigher items = rw c.as_slice-higher-items.ensures.value c.requires.level.each in
    let within = utilization_within h (each i no_higher c.loop-higher-test.true) in
    let more_asked = sum_by_more (asked_by c.args.ticks c.args.longest) items i no_higher c.loop-higher-test.true in
    let more_used = sum_by_more (used_by c.args.longest) items i no_higher c.loop-higher-test.true in
    let before = c.loop-higher.invariant in
    elim c.if-higher-longest.branch [
      | then-higher-longest w ↦
          let short : nat_le h.period c.args.longest ≡ true = grind (arith, nat_tests, w.if-higher-longest.true) in
          let none : asked_by c.args.ticks c.args.longest h ≡ 0 = rw short refl in
          let all : used_by c.args.longest h ≡ h.utilization = rw short refl in
          record {
            asked = omega (arith, w.asked-is, before.asked, more_asked, none);
            used = omega (arith, w.utilization-is, before.used, more_used, all);
            asked_few = omega (arith, w.asked-is, before.asked_few);
            used_few = omega (arith, w.utilization-is, before.used_few, within, whole-is);
          }
      | else-higher-longest w ↦
          let long : nat_le h.period c.args.longest ≡ false = grind (arith, nat_tests, w.if-higher-longest.false) in
          let all : asked_by c.args.ticks c.args.longest h ≡ higher_request c.args.ticks h = rw long refl in
          let none : used_by c.args.longest h ≡ 0 = rw long refl in
          let request = w.from-asked-else-higher-longest.ensures in
          record {
            asked = omega (arith, w.asked-is, before.asked, more_asked, all, request, w.request.ensures.value);
            used = omega (arith, w.utilization-is, before.used, more_used, none);
            asked_few = omega (arith, w.asked-is, before.asked_few, request, w.request.ensures.within);
            used_few = omega (arith, w.utilization-is, before.used_few);
          }
    ]

pub returns-then-asked-from-clause-start : goal.returns-then-asked-from-clause-start
returns-then-asked-from-clause-start c = λ s some within enough.
    let l = c.args.self.now in
    let items = c.as_slice-higher-items.result.now in
    let from = c.requires.start s some within enough in
    let all : take c.loop-higher.higher-index items ≡ l.higher.items = take_all c.loop-higher.higher-index items c.loop-higher-test.false ∙ c.as_slice-higher-items.ensures.value in
    let before = c.loop-higher.invariant in
    let asked_is : c.loop-higher.asked ≡ asked l c.args.ticks c.args.longest s c.requires.level from enough = before.asked ∙ ap (λ hs. l.cost + sum_by (asked_by c.args.ticks c.args.longest) hs) all in
    let used_is : c.loop-higher.utilization ≡ used l c.args.ticks c.args.longest s c.requires.level from enough = before.used ∙ ap (sum_by (used_by c.args.longest)) all in
    elim c.then-asked-from.branch [
      | then-asked-from-via-then-asked-from w ↦
          absurd (omega (arith, w.if-asked-from.true, c.from.ensures, asked_is, asked_within l c.args.ticks c.args.longest s c.requires.level from enough, within))
      | then-asked-from-via-else-asked-from+then-utilization-ge-WHOLE w ↦
          absurd (not_all_used l c.args.ticks c.args.longest s c.requires.level from enough (omega (arith, w.if-utilization-ge-WHOLE.true, used_is, whole-is)))
    ]

pub returns-clause-start : goal.returns-clause-start
returns-clause-start c = λ s some within enough.
    let l = c.args.self.now in
    let items = c.as_slice-higher-items.result.now in
    let from = c.requires.start s some within enough in
    let all : take c.loop-higher.higher-index items ≡ l.higher.items = take_all c.loop-higher.higher-index items c.loop-higher-test.false ∙ c.as_slice-higher-items.ensures.value in
    let before = c.loop-higher.invariant in
    let asked_is : asked l c.args.ticks c.args.longest s c.requires.level from enough ≡ c.loop-higher.asked = sym (before.asked ∙ ap (λ hs. l.cost + sum_by (asked_by c.args.ticks c.args.longest) hs) all) in
    let used_is : used l c.args.ticks c.args.longest s c.requires.level from enough ≡ c.loop-higher.utilization = sym (before.used ∙ ap (sum_by (used_by c.args.longest)) all) in
    let bound = later l c.args.ticks c.args.longest s c.requires.level from enough (omega (arith, c.if-utilization-ge-WHOLE.false, used_is, whole-is)) in
    let counted : div_ceil (c.loop-higher.asked * 18446744073709551616) (18446744073709551616 - c.loop-higher.utilization) ≤ s = rw (asked_is, used_is, whole-is) at bound in
    omega (arith, c.min.ensures, c.div_ceil-ticks.ensures, counted)
