use Rattle.std.proofs.Common.{◌≡◌, ◌<◌, ℕ, All, List, length, get_or, slice_get, Some, take, sum_by, sym, ap, ◌∙◌, arith, inl, inr}
use Rattle.std.proofs.lemmas.Bool.{cases_lt}
use Rattle.std.proofs.lemmas.List.{get_or-set_other, get_or-set_same, length-set, take_all}
use Rattle.std.proofs.lemmas.List.Sums.{sum_by_more}
use Rattle.std.proofs.lemmas.Option.{same_Some, slice_get-get_or}
use Rattle.dbp_plan.specs.declared.diagram.Task.{Task}
use Rattle.dbp_plan.specs.declared.schedule.Sample.{Sample}
use Rattle.dbp_plan.specs.ListItems.{at_place}
use Rattle.dbp_plan.specs.Lookups.{no_declared_task}
use Rattle.trace_io.specs.Batches.{times_in}
use Rattle.trace_io.specs.Guards.{AreAlike, HasItsSamples}
use Rattle.trace_io.proofs.MergeClocks.{alike-times}
use Rattle.trace_io.proofs.guards.total.Goals as goal
use Rattle.trace_io.proofs.guards.total.Goals.{in-Some, in-None}

-- how often the task at this place occurs, and that the count fits
record IsCounted (c : goal.After-row_known-1) (count : ℕ) : Type 0 where
  is : (samples : List Sample) → All (HasItsSamples samples c.args.own.now) c.args.diagram.now.tasks → (t : Task) → slice_get c.args.diagram.now.tasks c.loop-i.i ≡ Some t → count ≡ length (times_in c.args.diagram.now samples c.args.events.now t)
  fits : count < 4294967296

counted : (c : goal.After-row_known-1) → IsCounted c c.match-alike_before.count
counted c =
    let d = c.args.diagram.now in
    let i = c.loop-i.i in
    let inside : i < length d.tasks = omega (arith, c.loop-i-test.true) in
    elim c.match-alike_before.branch [
      | in-Some w ↦
          let j = w.in-Some.j in
          let found : (j < i) × AreAlike d.tasks j i = rw c.items.ensures.value at w.in-Some.ensures in
          let (a, at_a) = at_place d.tasks j (omega (arith, found.0, inside)) in
          record {
            is = λ samples its t at. w.count-is ∙ c.loop-i.invariant.each samples its j a found.0 at_a ∙ ap (λ (ts : List ℕ). length ts) (alike-times d samples c.args.events.now i j a t found.1 at_a at);
            fits = omega (arith, w.count-is, c.loop-i.invariant.fits j found.0);
          }
      | in-None w ↦
          record {
            is = λ samples its t at. w.count-is ∙ w.task_count-count.ensures.is samples t at (rw (same_Some t (get_or d.tasks i t) (sym at ∙ slice_get-get_or d.tasks i t inside)) (its i t inside));
            fits = omega (arith, w.count-is, w.task_count-count.ensures.fits);
          }
    ]

pub loop-i-preserved : goal.loop-i-preserved
loop-i-preserved c =
    let d = c.args.diagram.now in
    let i = c.loop-i.i in
    let counts = c.loop-i.counts in
    let count = c.match-alike_before.count in
    let inv = c.loop-i.invariant in
    let inside : i < length d.tasks = omega (arith, c.loop-i-test.true) in
    let room : i < length counts = omega (arith, inside, inv.size, c.requires.ranked.closed.tasks) in
    let here = counted c in
    record {
      is = λ samples its.
          let times : Task → ℕ = λ t. length (times_in d samples c.args.events.now t) in
          let t = get_or d.tasks i no_declared_task in
          omega (arith, sum_by_more times d.tasks i no_declared_task inside, here.is samples its t (slice_get-get_or d.tasks i no_declared_task inside), inv.is samples its);
      each = λ samples its j t less at. elim (cases_lt j i) [
        | inl before ↦ get_or-set_other counts i j count 0 (λ e. absurd (omega (arith, e, before))) ∙ inv.each samples its j t before at
        | inr not_before ↦ let same : j ≡ i = omega (arith, less, not_before) in rw same (get_or-set_same counts i count 0 room) ∙ here.is samples its t (rw same at at)
      ];
      size = length-set counts i count ∙ inv.size;
      fits = λ j less. elim (cases_lt j i) [
        | inl before ↦ rw (get_or-set_other counts i j count 0 (λ e. absurd (omega (arith, e, before)))) (inv.fits j before)
        | inr not_before ↦ let same : j ≡ i = omega (arith, less, not_before) in rw (same, get_or-set_same counts i count 0 room) here.fits
      ];
      small = omega (arith, here.fits, inv.small);
    }

pub returns : goal.returns
returns c samples its =
    let d = c.args.diagram.now in
    let all : take c.loop-i.i d.tasks ≡ d.tasks = take_all c.loop-i.i d.tasks (omega (arith, c.loop-i-test.false)) in
    c.loop-i.invariant.is samples its ∙ ap (sum_by (λ t. length (times_in d samples c.args.events.now t))) all
