use Rattle.std.proofs.Common.{◌≡◌, ◌∙◌, ◌+◌, ◌∷◌, ◌++◌, [], get_or, slice_get, length, length-append, take, Some, Ok, Err, refl, ap, arith, rules}
use Rattle.std.specs.Prelude.{zip}
use Rattle.std.proofs.lemmas.Option.{slice_get-get_or}
use Rattle.dbp_core.specs.Cores.{count_in, plan_in, state_in}
use Rattle.dbp_plan.specs.ListItems.{all_place}
use Rattle.dbp_rules.specs.declared.step.Step.TheVariants.{Seen}
use Rattle.dbp_rules.specs.Rules.{IsNamed}
use Rattle.dbp_replay.specs.NamedItems.{IsThere}
use Rattle.dbp_replay.proofs.Taken.{heard-more, taken-all, taken-none, taken-more, refused-at, same-step}
use Rattle.dbp_replay.proofs.walk.walk.Goals as goal

pub loop-place-init : goal.loop-place-init
loop-place-init c = record {
  plan = refl;
  count = refl;
  so_far = taken-none (plan_in c.args.core.now) (count_in c.args.core.now) c.args.steps.now (state_in c.args.core.now) (zip (take 0 c.args.steps.now) c.args.room.items) c.requires.start refl;
  size = ap length c.requires.empty;
  filled = c.requires.none;
  room = c.requires.room;
}

pub returns-in-Err-clause-illegal : goal.returns-in-Err-clause-illegal
returns-in-Err-clause-illegal c =
    let steps = c.args.steps.now in
    let e = get_or steps c.loop-place.place (Seen 0) in
    let i = c.loop-place.invariant in
    let here : slice_get steps c.loop-place.place ≡ Some e = slice_get-get_or steps c.loop-place.place (Seen 0) c.loop-place-test.true in
    refused-at (plan_in c.args.core.now) (count_in c.args.core.now) steps c.loop-place.place (state_in c.loop-place.core) (state_in c.step.new.self) (zip (take c.loop-place.place steps) c.loop-place.all_heard.items) e c.in-Err.why i.so_far here
    (same-step (plan_in c.loop-place.core) (plan_in c.args.core.now) (count_in c.loop-place.core) (count_in c.args.core.now) (state_in c.loop-place.core) (state_in c.step.new.self) e (Err c.in-Err.why) i.plan i.count c.in-Err.ensures.step)

pub loop-place-preserved : goal.loop-place-preserved
loop-place-preserved c =
    let p = plan_in c.args.core.now in
    let steps = c.args.steps.now in
    let k = c.loop-place.place in
    let e = get_or steps k (Seen 0) in
    let h = c.in-Ok.heard in
    let i = c.loop-place.invariant in
    let here : slice_get steps k ≡ Some e = slice_get-get_or steps k (Seen 0) c.loop-place-test.true in
    let named : IsNamed p.diagram e = (all_place (IsThere p.diagram) steps k e c.requires.there here).named in
    let added : c.push.new.self.items ≡ c.loop-place.all_heard.items ++ h ∷ [] = search rules in
    record {
      plan = c.in-Ok.ensures.plan ∙ i.plan;
      count = c.in-Ok.ensures.count ∙ i.count;
      so_far = taken-more p (count_in c.args.core.now) steps k (state_in c.loop-place.core) (state_in c.step.new.self) (zip (take k steps) c.loop-place.all_heard.items) (zip (take (k + 1) steps) c.push.new.self.items) e h i.so_far here named
          (same-step (plan_in c.loop-place.core) (plan_in c.args.core.now) (count_in c.loop-place.core) (count_in c.args.core.now) (state_in c.loop-place.core) (state_in c.step.new.self) e (Ok h) i.plan i.count c.in-Ok.ensures.step)
          (heard-more steps k c.loop-place.all_heard.items c.push.new.self.items e h here i.size added);
      size = omega (arith, i.size, ap length added, length-append c.loop-place.all_heard.items (h ∷ []));
      filled = search rules;
      room = search rules;
    }

pub returns-clause-taken : goal.returns-clause-taken
returns-clause-taken c =
    let end : c.loop-place.place ≡ length c.args.steps.now = omega (arith, c.loop-place-test.false, c.loop-place.auto) in
    taken-all (plan_in c.args.core.now) (count_in c.args.core.now) c.args.steps.now c.loop-place.place (state_in c.loop-place.core) c.loop-place.all_heard.items c.loop-place.invariant.so_far end

pub returns-clause-size : goal.returns-clause-size
returns-clause-size c = omega (arith, c.loop-place.invariant.size, c.loop-place-test.false, c.loop-place.auto.place-end)
