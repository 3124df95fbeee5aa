use Rattle.std.proofs.Common.{◌≡◌, [], ◌∷◌, ◌++◌, ◌∙◌, subst, arith, rules}
use Rattle.std.specs.Prelude.{OnOk}
use Rattle.dbp_plan.specs.ListItems.{read_place}
use Rattle.dia_tokens.specs.declared.token.Token.TheVariants.{Keyword, Symbol}
use Rattle.dia_tokens.specs.declared.token.Keyword.TheVariants.{If, Then, Else}
use Rattle.dia_tokens.specs.declared.token.Symbol.TheVariants.{Open, Close, Comma}
use Rattle.dia_exprs.specs.Grammar.{operator_token}
use Rattle.dia_print.specs.ExpressionTokens.{tokens_of, operand_tokens, enclosed, prefix_token}
use Rattle.dia_print.specs.Printed.{with_tokens}
use Rattle.dia_print.proofs.PrintedTokens.{after, OnOk-map}
use Rattle.dia_print.proofs.TreePlaces.{within, found, compound-at, at-number, at-variable, at-unary, at-binary, at-choice}
use Rattle.dia_print.proofs.expression.+tree.Goals as goal

pub push_tree-bounds-nodes-place : goal.push_tree-bounds-nodes-place
push_tree-bounds-nodes-place t c = within c.args.nodes.now c.args.place c.requires.0 c.requires.1

pub push_operand-bounds-nodes-place : goal.push_operand-bounds-nodes-place
push_operand-bounds-nodes-place t c = within c.args.nodes.now c.args.place c.requires.0 c.requires.1

pub push_tree-push_operand-requires : goal.push_tree-push_operand-requires
push_tree-push_operand-requires t c =
    let nodes = c.args.nodes.now in
    let place = c.args.place in
    let n = at-unary nodes place c.requires.0 c.in-Un.op c.in-Un.operand (found nodes place c.requires.0 _ _ c.requires.1 c.index-nodes-place.is c.in-Un.is) c.requires.1 in
    (omega (arith, n.2), (n.0, n.3))

pub push_tree-push_call-requires : goal.push_tree-push_call-requires
push_tree-push_call-requires t c =
    let nodes = c.args.nodes.now in
    let place = c.args.place in
    let n = at-binary nodes place c.requires.0 c.in-Bin.op c.in-Bin.left c.in-Bin.right (found nodes place c.requires.0 _ _ c.requires.1 c.index-nodes-place.is c.in-Bin.is) c.requires.1 in
    (omega (arith, n.3, n.4), ((n.0, n.5), (n.1, n.6)))

pub push_tree-push_operand-requires-in-Bin : goal.push_tree-push_operand-requires-in-Bin
push_tree-push_operand-requires-in-Bin t c =
    let nodes = c.args.nodes.now in
    let place = c.args.place in
    let n = at-binary nodes place c.requires.0 c.in-Bin.op c.in-Bin.left c.in-Bin.right (found nodes place c.requires.0 _ _ c.requires.1 c.index-nodes-place.is c.in-Bin.is) c.requires.1 in
    (omega (arith, n.3), (n.0, n.5))

pub push_tree-push_operand-requires-in-Bin-2 : goal.push_tree-push_operand-requires-in-Bin-2
push_tree-push_operand-requires-in-Bin-2 t c =
    let nodes = c.args.nodes.now in
    let place = c.args.place in
    let n = at-binary nodes place c.requires.0 c.in-Bin.op c.in-Bin.left c.in-Bin.right (found nodes place c.requires.0 _ _ c.requires.1 c.index-nodes-place.is c.in-Bin.is) c.requires.1 in
    (omega (arith, n.4), (n.1, n.6))

pub push_tree-push_choice-requires : goal.push_tree-push_choice-requires
push_tree-push_choice-requires t c =
    let nodes = c.args.nodes.now in
    let place = c.args.place in
    let n = at-choice nodes place c.requires.0 c.in-Pick.condition c.in-Pick.one c.in-Pick.other (found nodes place c.requires.0 _ _ c.requires.1 c.index-nodes-place.is c.in-Pick.is) c.requires.1 in
    (omega (arith, n.4, n.5, n.6), ((n.0, n.7), ((n.1, n.8), (n.2, n.9))))

pub push_tree-returns-in-Num : goal.push_tree-returns-in-Num
push_tree-returns-in-Num t c x s =
    let e = at-number c.args.nodes.now c.args.place x c.in-Num.value (found c.args.nodes.now c.args.place x _ _ s c.index-nodes-place.is c.in-Num.is) s in
    rw e (search rules)

pub push_tree-returns-in-Var : goal.push_tree-returns-in-Var
push_tree-returns-in-Var t c x s =
    let e = at-variable c.args.nodes.now c.args.place x c.in-Var.name (found c.args.nodes.now c.args.place x _ _ s c.index-nodes-place.is c.in-Var.is) s in
    rw e c.push_name.ensures

pub push_tree-returns-in_ok-push-in-Un : goal.push_tree-returns-in_ok-push-in-Un
push_tree-returns-in_ok-push-in-Un t c x s =
    let n = at-unary c.args.nodes.now c.args.place x c.in-Un.op c.in-Un.operand (found c.args.nodes.now c.args.place x _ _ s c.index-nodes-place.is c.in-Un.is) s in
    let token = c.prefix_token.ensures in
    let first = rw token at (c.in_ok-push-in-Un.ensures) in
    rw n.1 (OnOk-map c.push_operand.result (c.push_operand.ensures n.0 n.3) (λ e. after _ _ _ (prefix_token c.in-Un.op ∷ []) (operand_tokens n.0) first e))

pub push_tree-returns-then-is_call : goal.push_tree-returns-then-is_call
push_tree-returns-then-is_call t c x s =
    let n = at-binary c.args.nodes.now c.args.place x c.in-Bin.op c.in-Bin.left c.in-Bin.right (found c.args.nodes.now c.args.place x _ _ s c.index-nodes-place.is c.in-Bin.is) s in
    let call = c.if-is_call.ensures in
    rw (n.2, ← call) (c.push_call.ensures n.0 n.1 n.5 n.6)

pub push_tree-returns-in_ok-push-in-Bin : goal.push_tree-returns-in_ok-push-in-Bin
push_tree-returns-in_ok-push-in-Bin t c x s =
    let n = at-binary c.args.nodes.now c.args.place x c.in-Bin.op c.in-Bin.left c.in-Bin.right (found c.args.nodes.now c.args.place x _ _ s c.index-nodes-place.is c.in-Bin.is) s in
    let call = c.if-is_call.ensures in
    let first = c.in_ok-push_operand-in-Bin.ensures n.0 n.5 in
    let second = rw c.operator_token.ensures at (c.in_ok-push-in-Bin.ensures) in
    rw (n.2, ← call) (OnOk-map c.push_operand-in-Bin-2.result (c.push_operand-in-Bin-2.ensures n.1 n.6) (λ e.
    after _ _ _ (operand_tokens n.0) (operator_token c.in-Bin.op ∷ operand_tokens n.1) first (after _ _ _ (operator_token c.in-Bin.op ∷ []) (operand_tokens n.1) second e)))

pub push_tree-returns-in-Pick : goal.push_tree-returns-in-Pick
push_tree-returns-in-Pick t c x s =
    let n = at-choice c.args.nodes.now c.args.place x c.in-Pick.condition c.in-Pick.one c.in-Pick.other (found c.args.nodes.now c.args.place x _ _ s c.index-nodes-place.is c.in-Pick.is) s in
    rw n.3 (c.push_choice.ensures n.0 n.1 n.2 n.7 n.8 n.9)

pub push_call-returns : goal.push_call-returns
push_call-returns t c x y s u =
    let first = rw c.operator_token.ensures at (c.in_ok-push.ensures) in
    OnOk-map c.push-4.result c.push-4.ensures (λ e.
    after _ _ _ (operator_token c.args.op ∷ []) (Symbol Open ∷ (tokens_of x ++ Symbol Comma ∷ (tokens_of y ++ Symbol Close ∷ []))) first
    (after _ _ _ (Symbol Open ∷ []) (tokens_of x ++ Symbol Comma ∷ (tokens_of y ++ Symbol Close ∷ [])) (c.in_ok-push-2.ensures)
    (after _ _ _ (tokens_of x) (Symbol Comma ∷ (tokens_of y ++ Symbol Close ∷ [])) (c.in_ok-push_tree.ensures x s)
    (after _ _ _ (Symbol Comma ∷ []) (tokens_of y ++ Symbol Close ∷ []) (c.in_ok-push-3.ensures)
    (after _ _ _ (tokens_of y) (Symbol Close ∷ []) (c.in_ok-push_tree-2.ensures y u) e)))))

pub push_choice-returns : goal.push_choice-returns
push_choice-returns t c d x y s u v =
    let last = operand_tokens y in
    let second = operand_tokens x in
    OnOk-map c.push_operand-3.result (c.push_operand-3.ensures y v) (λ e.
    after _ _ _ (Keyword If ∷ []) (operand_tokens d ++ Keyword Then ∷ (second ++ Keyword Else ∷ last)) (c.in_ok-push.ensures)
    (after _ _ _ (operand_tokens d) (Keyword Then ∷ (second ++ Keyword Else ∷ last)) (c.in_ok-push_operand.ensures d s)
    (after _ _ _ (Keyword Then ∷ []) (second ++ Keyword Else ∷ last) (c.in_ok-push-2.ensures)
    (after _ _ _ second (Keyword Else ∷ last) (c.in_ok-push_operand-2.ensures x u)
    (after _ _ _ (Keyword Else ∷ []) last (c.in_ok-push-3.ensures) e)))))

pub push_operand-returns-then-not-is_compound : goal.push_operand-returns-then-not-is_compound
push_operand-returns-then-not-is_compound t c x s =
    let place = read_place c.args.nodes.now c.args.place c.index-nodes-place.result (within c.args.nodes.now c.args.place x s) c.index-nodes-place.is in
    let plain = c.if-not-is_compound.ensures ∙ compound-at c.args.nodes.now c.args.place x c.index-nodes-place.result s place in
    subst (λ b. OnOk c.push_tree.result (c.push_tree.new.printer ≡ with_tokens c.args.printer.now (enclosed b (tokens_of x)))) plain (c.push_tree.ensures x s)

pub push_operand-returns : goal.push_operand-returns
push_operand-returns t c x s =
    let place = read_place c.args.nodes.now c.args.place c.index-nodes-place.result (within c.args.nodes.now c.args.place x s) c.index-nodes-place.is in
    let compound = c.if-not-is_compound.ensures ∙ compound-at c.args.nodes.now c.args.place x c.index-nodes-place.result s place in
    subst (λ b. OnOk c.push-2.result (c.push-2.new.self ≡ with_tokens c.args.printer.now (enclosed b (tokens_of x)))) compound
    (OnOk-map c.push-2.result c.push-2.ensures (λ e.
    after _ _ _ (Symbol Open ∷ []) (tokens_of x ++ Symbol Close ∷ []) (c.in_ok-push.ensures)
    (after _ _ _ (tokens_of x) (Symbol Close ∷ []) (c.in_ok-push_tree.ensures x s) e)))
