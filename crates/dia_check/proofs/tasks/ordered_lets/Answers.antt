use Rattle.std.proofs.Common.{◌≡◌, ◌<◌, ◌+◌, ◌-◌, ℕ, All, List, length, sym, ap, subst, arith, rules}
use Rattle.std.proofs.lemmas.Result.{err_from_is_err_and}
use Rattle.dbp_plan.specs.declared.diagram.Let.{Let}
use Rattle.dbp_plan.specs.LetOrder.{VariablesBelow, IsLetOrder}
use Rattle.expr_eval.specs.LetOrders.{IsFrontOrder, IsFailOf}
use Rattle.dia_check.specs.Diagrams.{lets_of}
use Rattle.dia_check.specs.Faults.{base_of}
use Rattle.dia_check.proofs.ClosedTasks.{few-names}
use Rattle.dia_check.proofs.TaskParts.{lets-are, counts-add, few-lets, variables-below}
use Rattle.dia_check.proofs.tasks.ordered_lets.Goals as goal

pub lets_of-requires-clause-names : goal.lets_of-requires-clause-names
lets_of-requires-clause-names c = omega (arith, ap (λ (ns : List (List ℕ)). length ns) c.requires.names, few-names c.args.raw.now.parts, c.requires.few)

pub overflow_cast-names : goal.overflow_cast-names
overflow_cast-names c =
    let few : length c.args.names.now < 4294967296 = omega (arith, ap (λ (ns : List (List ℕ)). length ns) c.requires.names, few-names c.args.raw.now.parts, c.requires.few) in
    search rules

pub overflow_sub-names : goal.overflow_sub-names
overflow_sub-names c = omega (arith, c.len.ensures, counts-add c.args.raw.now c.args.names.now c.in_ok-lets.lets c.requires.names (rw c.items.ensures.value at c.in_ok-lets.ensures))

pub order_lets-requires-clause-few : goal.order_lets-requires-clause-few
order_lets-requires-clause-few c = (few-lets c.args.raw.now c.args.names.now c.in_ok-lets.lets c.requires.names (rw c.items.ensures.value at c.in_ok-lets.ensures) c.requires.few).0

pub order_lets-requires-clause-variables : goal.order_lets-requires-clause-variables
order_lets-requires-clause-variables c =
    let lets = c.in_ok-lets.lets in
    let names = c.args.names.now in
    subst (λ (n : ℕ). All (λ l. VariablesBelow (length names - n + length lets) l.expr.nodes) lets) (sym c.len.ensures)
    (variables-below c.args.raw.now names lets c.requires.names (rw c.items.ensures.value at c.in_ok-lets.ensures) c.args.body.now c.requires.faultless)

pub returns-in_err-order-clause-fail : goal.returns-in_err-order-clause-fail
returns-in_err-order-clause-fail c =
    let t = c.args.raw.now in
    let are = rw c.items.ensures.value at c.in_ok-lets.ensures in
    let same : c.in_ok-lets.lets ≡ lets_of t = lets-are t c.args.names.now c.in_ok-lets.lets c.requires.names are in
    let base : length c.args.names.now - c.len.result ≡ base_of t = omega (arith, c.len.ensures, counts-add t c.args.names.now c.in_ok-lets.lets c.requires.names are) in
    let p = err_from_is_err_and c.from_residual-in_err-order.result c.from_residual-in_err-order.ensures.1 in
    rw (p.1, p.2)
    (subst (λ (b : ℕ). IsFailOf b (lets_of t) c.in_err-order.field-0.0) base (subst (λ (ls : List Let). IsFailOf (length c.args.names.now - c.len.result) ls c.in_err-order.field-0.0) same c.in_err-order.ensures.fail))

pub returns-clause-lets : goal.returns-clause-lets
returns-clause-lets c =
    let t = c.args.raw.now in
    let are = rw c.items.ensures.value at c.in_ok-lets.ensures in
    let same : c.in_ok-lets.lets ≡ lets_of t = lets-are t c.args.names.now c.in_ok-lets.lets c.requires.names are in
    let base : length c.args.names.now - c.len.result ≡ base_of t = omega (arith, c.len.ensures, counts-add t c.args.names.now c.in_ok-lets.lets c.requires.names are) in
    record {
      lets = same;
      order = subst (λ (b : ℕ). IsFrontOrder b (lets_of t) c.in_ok-order.order) base (subst (λ (ls : List Let). IsFrontOrder (length c.args.names.now - c.len.result) ls c.in_ok-order.order) same c.in_ok-order.ensures.front);
    }

pub returns-clause-whole : goal.returns-clause-whole
returns-clause-whole c =
    let t = c.args.raw.now in
    let are = rw c.items.ensures.value at c.in_ok-lets.ensures in
    let same : c.in_ok-lets.lets ≡ lets_of t = lets-are t c.args.names.now c.in_ok-lets.lets c.requires.names are in
    let base : length c.args.names.now - c.len.result ≡ base_of t = omega (arith, c.len.ensures, counts-add t c.args.names.now c.in_ok-lets.lets c.requires.names are) in
    let order = subst (λ (b : ℕ). IsLetOrder b (lets_of t) c.in_ok-order.order) base (subst (λ (ls : List Let). IsLetOrder (length c.args.names.now - c.len.result) ls c.in_ok-order.order) same c.in_ok-order.ensures.order) in
    λ cycle is. c.no_order_of_a_cycle.ensures (base_of t) (lets_of t) c.in_ok-order.order cycle order is
