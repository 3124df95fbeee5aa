use Rattle.std.specs.Prelude.{pos}
use Rattle.std.proofs.Common.{All, ◌≡◌, ◌<◌, ◌++◌, ◌∷◌, [], List, length, map, take, get_or, set, sym, ap, subst, ◌∙◌, arith}
use Rattle.std.specs.List.{range_with_len}
use Rattle.std.proofs.lemmas.List.{length-set, take_all}
use Rattle.dbp_plan.specs.declared.schedule.Sample.{Sample}
use Rattle.dbp_plan.specs.Samples.{own_samples}
use Rattle.dbp_plan.proofs.ListParts.{refilled}
use Rattle.dbp_plan.proofs.OwnSamples.{added-few, added-inside, added-more, no-samples}
use Rattle.dbp_plan.proofs.samples.samples_by_input.Goals as goal

abbrev nobody : Sample
nobody = record { time = 0; input = 0; value = pos 0 }

pub loop-sample-init : goal.loop-sample-init
loop-sample-init c = c.in_ok-by_input.ensures ∙ no-samples 0 c.args.inputs

pub bounds-items_mut-sample : goal.bounds-items_mut-sample
bounds-items_mut-sample c =
    let named = subst (λ (ss : List Sample). All (λ s. s.input < c.args.inputs) ss) (sym c.items-sample-items.ensures.value) c.requires in
    rw c.items_mut.ensures.value (added-inside c.items-sample-items.result.now c.args.inputs named c.loop-sample.sample-index nobody c.loop-sample-test.true c.loop-sample.by_input c.loop-sample.invariant)

pub push-requires : goal.push-requires
push-requires c =
    let named = subst (λ (ss : List Sample). All (λ s. s.input < c.args.inputs) ss) (sym c.items-sample-items.ensures.value) c.requires in
    let small : length c.items-sample-items.result.now < 4294967296 = rw c.items-sample-items.ensures.value c.items-sample-items.ensures.fits in
    rw c.items_mut.ensures.value (added-few c.items-sample-items.result.now c.args.inputs named c.loop-sample.sample-index nobody c.loop-sample-test.true c.loop-sample.by_input c.loop-sample.invariant c.index-items_mut-sample.result small)

pub loop-sample-preserved : goal.loop-sample-preserved
loop-sample-preserved c =
    let all : List Sample = c.items-sample-items.result.now in
    let named = subst (λ (ss : List Sample). All (λ s. s.input < c.args.inputs) ss) (sym c.items-sample-items.ensures.value) c.requires in
    let own = c.index-items_mut-sample.result in
    let now : List (List Sample) = c.loop-sample.by_input in
    let added : Sample = get_or all c.loop-sample.sample-index nobody in
    let written : List (List Sample) = set c.items_mut.result.now added.input c.push.new.self in
    let is : written ≡ set now added.input (get_or now added.input own ++ added ∷ []) =
    rw c.items_mut.ensures.value (ap (λ (ss : List Sample). set now added.input ss) (rw c.items_mut.ensures.value at c.in_ok-push.ensures.ok)) in
    let size : length written ≡ length now = ap (λ (ss : List (List Sample)). length ss) is ∙ length-set now added.input (get_or now added.input own ++ added ∷ []) in
    refilled (length now) now written (omega arith) size ∙ is
    ∙ added-more all c.args.inputs named c.loop-sample.sample-index nobody c.loop-sample-test.true now c.loop-sample.invariant own

pub returns : goal.returns
returns c =
    let all : List Sample = c.items-sample-items.result.now in
    let whole : take c.loop-sample.sample-index all ≡ c.args.samples.now = take_all c.loop-sample.sample-index all c.loop-sample-test.false ∙ c.items-sample-items.ensures.value in
    c.loop-sample.invariant ∙ ap (λ (ss : List Sample). map (λ input. own_samples input ss) (range_with_len 0 c.args.inputs)) whole
