use Rattle.std.proofs.Common.{◌≡◌, ◌<◌, ◌≤◌, ◌+◌, ℕ, ℤ, List, length, get_or, set, slice_get, Some, arith, ap, ◌∙◌, rules, w64, pos, length-drop}
use Rattle.std.proofs.lemmas.Int.{to_z-of_z}
use Rattle.std.proofs.lemmas.Option.{get_or_from_slice_get}
use Rattle.dbp_plan.specs.declared.diagram.Input.{Input}
use Rattle.dbp_plan.specs.declared.schedule.Sample.{Sample}
use Rattle.dbp_plan.specs.ListItems.{at_place}
use Rattle.sync_meaning.specs.Taken.{AreTaken}
use Rattle.sync_meaning.proofs.ExactInputs.{rest_later, taken_all, taken_more}
use Rattle.sync_meaning.proofs.inputs.Inputs.take_until.Goals as goal
use mir.Val.{to_z, of_z}

-- one sample more, as the code reads it
read_more : (inputs : List Input) (samples read : List Sample) (time k : ℕ) (d : Sample) (values : List ℤ) → read ≡ samples → k < length read → (get_or read k d).time ≤ time → AreTaken inputs samples time k values
    → AreTaken inputs samples time (k + 1) (set values (get_or read k d).input (get_or read k d).value)
read_more inputs samples read time k d values same below come taken =
    let at : (s : Sample) × (slice_get samples k ≡ Some s) = at_place samples k (omega (arith, ap length same)) in
    let is : get_or read k d ≡ at.0 = ap (λ (l : List Sample). get_or l k d) same ∙ get_or_from_slice_get samples k at.0 d at.1 in
    rw is (taken_more inputs samples time k at.0 values at.1 (rw is at come) taken)

-- all later samples come after the time
none_left : (samples read : List Sample) (time k : ℕ) (d : Sample) → read ≡ samples → time < (get_or read k d).time → (s : Sample) → slice_get samples k ≡ Some s → time < s.time
none_left samples read time k d same later s at =
    let is : get_or read k d ≡ s = ap (λ (l : List Sample). get_or l k d) same ∙ get_or_from_slice_get samples k s d at in
    rw is at later

pub loop-self-preserved : goal.loop-self-preserved
loop-self-preserved c =
    let s : Sample = get_or c.items-samples.result.now c.loop-self.self.taken (record { time = 0; input = 0; value = pos 0 }) in
    let shown : to_z w64 (of_z w64 s.value) ≡ s.value = search (rules, to_z-of_z) in
    rw shown (read_more _ c.args.plan.now.samples c.items-samples.result.now c.args.time c.loop-self.self.taken _ c.loop-self.self.values.items c.items-samples.ensures.value c.loop-self-test.true c.if-samples-self.true c.loop-self.invariant)

pub returns-else-samples-self-clause-values : goal.returns-else-samples-self-clause-values
returns-else-samples-self-clause-values c =
    let samples = c.args.plan.now.samples in
    let k : ℕ = c.loop-self.self.taken in
    taken_all c.args.plan.now.diagram.inputs samples c.args.time k c.loop-self.self.values.items c.loop-self.invariant
    (rest_later samples c.args.time k c.args.plan.now.rules.sample_order (none_left samples c.items-samples.result.now c.args.time k _ c.items-samples.ensures.value c.if-samples-self.false))

pub returns-after-loop-self-clause-values : goal.returns-after-loop-self-clause-values
returns-after-loop-self-clause-values c =
    let samples = c.args.plan.now.samples in
    let k : ℕ = c.loop-self.self.taken in
    taken_all c.args.plan.now.diagram.inputs samples c.args.time k c.loop-self.self.values.items c.loop-self.invariant
    (λ j d below. absurd (omega (arith, below, c.loop-self-test.false, ap length c.items-samples.ensures.value, length-drop k samples)))
