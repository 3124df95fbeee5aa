use Rattle.std.proofs.Common.{unwrap_or, filter, ap, ◌∙◌, rules, tests}
use Rattle.std.specs.Prelude.{◌==◌}
use Rattle.std.specs.Iterator.Adapters.{filter_callee}
use Rattle.std.proofs.lemmas.Iterator.{YieldsList-from_slice, YieldsList-from_map}
use Rattle.std.proofs.lemmas.Iterator.Consumers.{YieldsList-from_filter, reduce_from_yields_List}
use Rattle.std.proofs.lemmas.List.Folds.{max_of_map}
use Rattle.dbp_plan.specs.declared.diagram.Link.{Link}
use Rattle.dbp_slots.proofs.counting.longest_delay.Goals as goal

pub returns : goal.returns
returns c =
    let links = c.args.diagram.now.links in
    c.unwrap_or.ensures
    ∙ ap (λ o. unwrap_or o 0)
    (reduce_from_yields_List _ c.map.result _ c.max.ensures.ran
    (YieldsList-from_map _ (λ (l : Link). l.delay)
    (YieldsList-from_filter _ (λ (l : Link). l.writer == c.args.task) (YieldsList-from_slice links cc) (ap filter_callee c.map.ensures.source ∙ c.filter.ensures.closure) (λ x b q k. search (rules, tests)))
    c.map.ensures.closure (λ x b q k. search (rules, tests))))
    ∙ max_of_map (λ (l : Link). l.delay) (filter (λ (l : Link). l.writer == c.args.task) links)
