use Rattle.std.proofs.Common.{rules, arith, ◌≡◌, ◌<◌, ◌≤◌, length, ℕ, ◌+◌, ◌-◌, List, slice_index_or, get_or, w64, pos, to_z, of_z, sym, subst, ap, length-set}
use Rattle.std.proofs.lemmas.Int.{to_z-of_z}
use Rattle.dbp_plan.specs.declared.node.Node.{Node}
use Rattle.dbp_plan.specs.declared.node.Node.TheVariants.{Num, Var, Un, Bin, Pick}
use Rattle.dbp_plan.specs.LetOrder.{VariablesBelow}
use Rattle.expr_eval.proofs.StackRuns.{runs_all, runs_none, runs_number, runs_variable, runs_unary, runs_binary, runs_choice, some_left, some_choice, first_and_rest, variables_after, first_variable}
use Rattle.expr_eval.proofs.eval_in.Goals as goal

pub loop-nodes-init : goal.loop-nodes-init
loop-nodes-init c =
    record {
      runs = runs_all _ c.args.expr.now _ _ c.items-nodes.ensures.value;
      room = omega (arith, ap length c.items-nodes.ensures.value);
      variables = subst (λ (l : List (Node ℕ)). VariablesBelow (length c.args.env.now) l) (sym c.items-nodes.ensures.value) c.requires.variables;
    }

pub loop-nodes-preserved-in-Num : goal.loop-nodes-preserved-in-Num
loop-nodes-preserved-in-Num c =
    let is = first_and_rest c.loop-nodes.nodes.now (Num (pos 0)) (Num c.in-Num.value) c.in-len1-up.len_at_least c.in-Num.is in
    let shown : to_z w64 (of_z w64 c.in-Num.value) ≡ c.in-Num.value = search (rules, to_z-of_z) in
    let within : c.loop-nodes.height < length c.loop-nodes.stack = omega (arith, ap length is) in
    record {
      runs = rw shown (runs_number _ _ _ _ _ _ _ _ is within c.loop-nodes.invariant.runs);
      room = omega (arith, ap length is, length-set c.loop-nodes.stack c.loop-nodes.height (to_z w64 c.loop-nodes.last-bits));
      variables = variables_after _ _ _ _ is c.loop-nodes.invariant.variables;
    }

pub bounds-env-place : goal.bounds-env-place
bounds-env-place c = first_variable _ _ _ _ (first_and_rest c.loop-nodes.nodes.now (Num (pos 0)) (Var c.in-Var.place) c.in-len1-up.len_at_least c.in-Var.is) c.loop-nodes.invariant.variables

pub loop-nodes-preserved-in-Var : goal.loop-nodes-preserved-in-Var
loop-nodes-preserved-in-Var c =
    let is = first_and_rest c.loop-nodes.nodes.now (Num (pos 0)) (Var c.in-Var.place) c.in-len1-up.len_at_least c.in-Var.is in
    let shown : to_z w64 (of_z w64 (slice_index_or c.args.env.now c.in-Var.place (pos 0))) ≡ slice_index_or c.args.env.now c.in-Var.place (pos 0) = search (rules, to_z-of_z) in
    let within : c.loop-nodes.height < length c.loop-nodes.stack = omega (arith, ap length is) in
    record {
      runs = rw shown (runs_variable _ _ _ _ _ _ _ _ is within c.loop-nodes.invariant.runs);
      room = omega (arith, ap length is, length-set c.loop-nodes.stack c.loop-nodes.height (to_z w64 c.loop-nodes.last-bits));
      variables = variables_after _ _ _ _ is c.loop-nodes.invariant.variables;
    }

pub loop-nodes-preserved-in-Un : goal.loop-nodes-preserved-in-Un
loop-nodes-preserved-in-Un c =
    let is = first_and_rest c.loop-nodes.nodes.now (Num (pos 0)) (Un c.in-Un.operator c.in-Un.field-1) c.in-len1-up.len_at_least c.in-Un.is in
    let shown : to_z w64 (of_z w64 c.unary-last.result) ≡ c.unary-last.result = search (rules, to_z-of_z) in
    record {
      runs = rw (shown, c.unary-last.ensures) (runs_unary _ _ _ _ _ _ _ _ is c.loop-nodes.invariant.runs);
      room = omega (arith, ap length is);
      variables = variables_after _ _ _ _ is c.loop-nodes.invariant.variables;
    }

pub overflow_sub-height : goal.overflow_sub-height
overflow_sub-height c = some_left _ _ _ _ _ _ _ _ _ _ (first_and_rest c.loop-nodes.nodes.now (Num (pos 0)) (Bin c.in-Bin.operator c.in-Bin.field-1 c.in-Bin.field-2) c.in-len1-up.len_at_least c.in-Bin.is) c.loop-nodes.invariant.runs

pub loop-nodes-preserved-in-Bin : goal.loop-nodes-preserved-in-Bin
loop-nodes-preserved-in-Bin c =
    let is = first_and_rest c.loop-nodes.nodes.now (Num (pos 0)) (Bin c.in-Bin.operator c.in-Bin.field-1 c.in-Bin.field-2) c.in-len1-up.len_at_least c.in-Bin.is in
    let shown : to_z w64 (of_z w64 c.binary-last.result) ≡ c.binary-last.result = search (rules, to_z-of_z) in
    let some = some_left _ _ _ _ _ _ _ _ _ _ is c.loop-nodes.invariant.runs in
    let size : c.loop-nodes.height - 1 + 1 ≡ c.loop-nodes.height = omega arith in
    let within : c.loop-nodes.height ≤ length c.loop-nodes.stack = omega arith in
    let left : to_z w64 (of_z w64 (get_or c.loop-nodes.stack (c.loop-nodes.height - 1) (pos 0))) ≡ get_or c.loop-nodes.stack (c.loop-nodes.height - 1) (pos 0) = search (rules, to_z-of_z) in
    record {
      runs = rw (shown, c.binary-last.ensures, left) (runs_binary _ _ _ _ _ _ _ _ _ _ _ is size within c.loop-nodes.invariant.runs);
      room = omega (arith, ap length is);
      variables = variables_after _ _ _ _ is c.loop-nodes.invariant.variables;
    }

pub overflow_sub-height-in-Pick : goal.overflow_sub-height-in-Pick
overflow_sub-height-in-Pick c = some_choice _ _ _ _ _ _ _ _ _ _ (first_and_rest c.loop-nodes.nodes.now (Num (pos 0)) (Pick c.in-Pick.field-0 c.in-Pick.field-1 c.in-Pick.field-2) c.in-len1-up.len_at_least c.in-Pick.is) c.loop-nodes.invariant.runs

pub slice_copy_out-choice-in-Pick : goal.slice_copy_out-choice-in-Pick
slice_copy_out-choice-in-Pick c = omega (arith, some_choice _ _ _ _ _ _ _ _ _ _ (first_and_rest c.loop-nodes.nodes.now (Num (pos 0)) (Pick c.in-Pick.field-0 c.in-Pick.field-1 c.in-Pick.field-2) c.in-len1-up.len_at_least c.in-Pick.is) c.loop-nodes.invariant.runs)

pub loop-nodes-preserved : goal.loop-nodes-preserved
loop-nodes-preserved c =
    let is = first_and_rest c.loop-nodes.nodes.now (Num (pos 0)) (Pick c.in-Pick.field-0 c.in-Pick.field-1 c.in-Pick.field-2) c.in-len1-up.len_at_least c.in-Pick.is in
    let shown : to_z w64 (of_z w64 c.choice-last.result) ≡ c.choice-last.result = search (rules, to_z-of_z) in
    let some = some_choice _ _ _ _ _ _ _ _ _ _ is c.loop-nodes.invariant.runs in
    let size : c.loop-nodes.height - 2 + 2 ≡ c.loop-nodes.height = omega arith in
    let within : c.loop-nodes.height ≤ length c.loop-nodes.stack = omega arith in
    let condition : to_z w64 (of_z w64 (get_or c.loop-nodes.stack (c.loop-nodes.height - 2) (pos 0))) ≡ get_or c.loop-nodes.stack (c.loop-nodes.height - 2) (pos 0) = search (rules, to_z-of_z) in
    let yes : to_z w64 (of_z w64 (get_or c.loop-nodes.stack (c.loop-nodes.height - 2 + 1) (pos 0))) ≡ get_or c.loop-nodes.stack (c.loop-nodes.height - 2 + 1) (pos 0) = search (rules, to_z-of_z) in
    record {
      runs = rw (shown, c.choice-last.ensures, condition, yes) (runs_choice _ _ _ _ _ _ _ _ _ _ _ is size within c.loop-nodes.invariant.runs);
      room = omega (arith, ap length is);
      variables = variables_after _ _ _ _ is c.loop-nodes.invariant.variables;
    }

pub returns : goal.returns
returns c =
    let none : length c.loop-nodes.nodes.now ≡ 0 = omega arith in
    runs_none _ _ _ _ _ none c.loop-nodes.invariant.runs
