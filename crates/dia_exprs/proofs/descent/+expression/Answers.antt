use Rattle.std.proofs.Common.{◌≡◌, true, rules, subst, sym, Some, None, arith}
use Rattle.std.proofs.lemmas.Result.{err_from_is_err_and}
use Rattle.dbp_plan.specs.Tree.{binary, unary, choice}
use Rattle.dia_exprs.specs.declared.level.Level.{Level}
use Rattle.dia_exprs.specs.declared.level.Level.TheVariants.{Factor}
use Rattle.dia_exprs.specs.Parsing.{is_lone, HasRead, HasNone, of_level, of_inside, of_call}
use Rattle.dia_exprs.proofs.Steps.{unary-nodes, binary-nodes, choice-nodes, first-refused, first-read, next-refused, next-read, last-read, compared-refused, compared-alone, compared-next-refused, compared-read, unprefixed-refused, unprefixed-read, prefix-refused, prefix-read, unchosen-refused, unchosen-read, choosing-refused, choosing-read, choice-refused, no-then, first-part-refused, no-else, second-part-refused, choice-read, no-open, first-argument-refused, no-comma, second-argument-refused, no-close, call-read, inside-refused, unclosed, closed-read, nothing-read, number-read, name-read, parentheses-read, called-read, symbol-refused, keyword-refused, refused, ok_map, err_map, pushed}
use Rattle.dia_exprs.proofs.Lone.{lone-read, lone-refused}
use Rattle.dia_exprs.proofs.descent.+expression.Goals as goal

pub call-returns-in_default-clause-none : goal.call-returns-in_default-clause-none
call-returns-in_default-clause-none t c = no-open c.args.op c.args.tokens.now c.in_default.ensures.value

pub call-returns-in_err-first_end-clause-none : goal.call-returns-in_err-first_end-clause-none
call-returns-in_err-first_end-clause-none t c =
    let p = err_from_is_err_and c.from_residual.result c.from_residual.ensures.1 in
    rw (p.1, p.2) (first-argument-refused c.args.op c.args.tokens.now c.in-Some.first.now c.in_err-first_end.field-0.0 c.in-Some.ensures.value (search rules) c.in_err-first_end.ensures.none)

pub call-returns-in_default-split_comma-clause-none : goal.call-returns-in_default-split_comma-clause-none
call-returns-in_default-split_comma-clause-none t c =
    let r = c.in_ok-first_end.ensures.found in
    no-comma c.args.op c.args.tokens.now c.in-Some.first.now c.in_ok-first_end.first_end.now r.0 c.in-Some.ensures.value (search rules) r.2 c.in_default-split_comma.ensures.value

pub call-returns-in_err-second_end-clause-none : goal.call-returns-in_err-second_end-clause-none
call-returns-in_err-second_end-clause-none t c =
    let p = err_from_is_err_and c.from_residual-in_err-second_end.result c.from_residual-in_err-second_end.ensures.1 in
    let r = c.in_ok-first_end.ensures.found in
    rw (p.1, p.2) (second-argument-refused c.args.op c.args.tokens.now c.in-Some.first.now c.in_ok-first_end.first_end.now c.in-Some-split_comma.second.now r.0 c.in_err-second_end.field-0.0 c.in-Some.ensures.value (search rules) r.2
    c.in-Some-split_comma.ensures.value (search rules) c.in_err-second_end.ensures.none)

pub call-returns-in_default-split_close-clause-none : goal.call-returns-in_default-split_close-clause-none
call-returns-in_default-split_close-clause-none t c =
    let r = c.in_ok-first_end.ensures.found in
    let s = c.in_ok-second_end.ensures.found in
    no-close c.args.op c.args.tokens.now c.in-Some.first.now c.in_ok-first_end.first_end.now c.in-Some-split_comma.second.now c.in_ok-second_end.second_end.now r.0 s.0 c.in-Some.ensures.value (search rules) r.2
    c.in-Some-split_comma.ensures.value (search rules) s.2 c.in_default-split_close.ensures.value

pub call-returns-clause-found : goal.call-returns-clause-found
call-returns-clause-found t c =
    let r = c.in_ok-first_end.ensures.found in
    let s = c.in_ok-second_end.ensures.found in (
      binary c.args.op r.0 s.0,
      binary-nodes c.args.out.now c.whole.new.out c.whole-2.new.out c.push.new.self c.args.op r.0 s.0 _ _ r.1 (search rules) s.1 (search rules) c.in_ok-push.ensures.ok,
      call-read c.args.op c.args.tokens.now c.in-Some.first.now c.in_ok-first_end.first_end.now c.in-Some-split_comma.second.now c.in_ok-second_end.second_end.now c.in-Some-split_close.rest.now r.0 s.0 c.in-Some.ensures.value (search rules) r.2
          c.in-Some-split_comma.ensures.value (search rules) s.2 c.in-Some-split_close.ensures.value,
    )

pub choice-returns-in_err-end-clause-none : goal.choice-returns-in_err-end-clause-none
choice-returns-in_err-end-clause-none t c =
    let p = err_from_is_err_and c.from_residual.result c.from_residual.ensures.1 in
    rw (p.1, p.2) (choice-refused c.args.tokens.now c.in_err-end.field-0.0 c.in_err-end.ensures.none)

pub choice-returns-in_default-clause-none : goal.choice-returns-in_default-clause-none
choice-returns-in_default-clause-none t c = let r = c.in_ok-end.ensures.found in no-then c.args.tokens.now c.in_ok-end.end.now r.0 r.2 c.in_default.ensures.value

pub choice-returns-in_err-first_end-clause-none : goal.choice-returns-in_err-first_end-clause-none
choice-returns-in_err-first_end-clause-none t c =
    let p = err_from_is_err_and c.from_residual-in_err-first_end.result c.from_residual-in_err-first_end.ensures.1 in
    let r = c.in_ok-end.ensures.found in
    rw (p.1, p.2) (first-part-refused c.args.tokens.now c.in_ok-end.end.now c.in-Some.first.now r.0 c.in_err-first_end.field-0.0 r.2 c.in-Some.ensures.value (search rules) c.in_err-first_end.ensures.none)

pub choice-returns-in_default-split_else-clause-none : goal.choice-returns-in_default-split_else-clause-none
choice-returns-in_default-split_else-clause-none t c =
    let r = c.in_ok-end.ensures.found in
    let s = c.in_ok-first_end.ensures.found in
    no-else c.args.tokens.now c.in_ok-end.end.now c.in-Some.first.now c.in_ok-first_end.first_end.now r.0 s.0 r.2 c.in-Some.ensures.value (search rules) s.2 c.in_default-split_else.ensures.value

pub choice-returns-in_err-rest-clause-none : goal.choice-returns-in_err-rest-clause-none
choice-returns-in_err-rest-clause-none t c =
    let p = err_from_is_err_and c.from_residual-in_err-rest.result c.from_residual-in_err-rest.ensures.1 in
    let r = c.in_ok-end.ensures.found in
    let s = c.in_ok-first_end.ensures.found in
    rw (p.1, p.2) (second-part-refused c.args.tokens.now c.in_ok-end.end.now c.in-Some.first.now c.in_ok-first_end.first_end.now c.in-Some-split_else.second.now r.0 s.0 c.in_err-rest.field-0.0 r.2 c.in-Some.ensures.value (search rules) s.2
    c.in-Some-split_else.ensures.value (search rules) c.in_err-rest.ensures.none)

pub choice-returns-clause-found : goal.choice-returns-clause-found
choice-returns-clause-found t c =
    let r = c.in_ok-end.ensures.found in
    let s = c.in_ok-first_end.ensures.found in
    let u = c.in_ok-rest.ensures.found in (
      choice r.0 s.0 u.0,
      choice-nodes c.args.out.now c.whole.new.out c.whole-2.new.out c.whole-3.new.out c.push.new.self r.0 s.0 u.0 _ _ _ r.1 (search rules) s.1 (search rules) u.1 (search rules) c.in_ok-push.ensures.ok,
      choice-read c.args.tokens.now c.in_ok-end.end.now c.in-Some.first.now c.in_ok-first_end.first_end.now c.in-Some-split_else.second.now c.in_ok-rest.rest.now r.0 s.0 u.0 r.2 c.in-Some.ensures.value (search rules) s.2
          c.in-Some-split_else.ensures.value (search rules) u.2,
    )

pub compared-returns-in_err-end-clause-none : goal.compared-returns-in_err-end-clause-none
compared-returns-in_err-end-clause-none t c =
    let p = err_from_is_err_and c.from_residual.result c.from_residual.ensures.1 in
    rw (p.1, p.2) (compared-refused c.args.tokens.now c.in_err-end.field-0.0 c.in_err-end.ensures.none)

pub compared-returns-in_default-clause-found : goal.compared-returns-in_default-clause-found
compared-returns-in_default-clause-found t c = compared-alone c.args.out.now c.joined.new.out c.args.tokens.now c.in_ok-end.end.now c.in_default.ensures.value c.in_ok-end.ensures.found

pub compared-returns-in_err-rest-clause-none : goal.compared-returns-in_err-rest-clause-none
compared-returns-in_err-rest-clause-none t c =
    let p = err_from_is_err_and c.from_residual-in_err-rest.result c.from_residual-in_err-rest.ensures.1 in
    let r = c.in_ok-end.ensures.found in
    rw (p.1, p.2) (compared-next-refused c.args.tokens.now c.in_ok-end.end.now c.in-Some.after.now r.0 c.in-Some.op c.in_err-rest.field-0.0 r.2 c.in-Some.ensures.value (search rules) c.in_err-rest.ensures.none)

pub compared-returns-clause-found : goal.compared-returns-clause-found
compared-returns-clause-found t c =
    let r = c.in_ok-end.ensures.found in
    let s = c.in_ok-rest.ensures.found in (
      binary c.in-Some.op r.0 s.0,
      binary-nodes c.args.out.now c.joined.new.out c.joined-2.new.out c.push.new.self c.in-Some.op r.0 s.0 _ _ r.1 (search rules) s.1 (search rules) c.in_ok-push.ensures.ok,
      compared-read c.args.tokens.now c.in_ok-end.end.now c.in-Some.after.now c.in_ok-rest.rest.now r.0 s.0 c.in-Some.op r.2 c.in-Some.ensures.value (search rules) s.2,
    )

pub inside-returns-in_err-end-clause-none : goal.inside-returns-in_err-end-clause-none
inside-returns-in_err-end-clause-none t c =
    let p = err_from_is_err_and c.from_residual.result c.from_residual.ensures.1 in
    rw (p.1, p.2) (inside-refused c.args.tokens.now c.in_err-end.field-0.0 c.in_err-end.ensures.none)

pub inside-returns-in-Some-clause-found : goal.inside-returns-in-Some-clause-found
inside-returns-in-Some-clause-found t c =
    let r = c.in_ok-end.ensures.found in
    (r.0, r.1, closed-read c.args.tokens.now c.in_ok-end.end.now c.in-Some.rest.now r.0 r.2 c.in-Some.ensures.value)

pub inside-returns-in-None-clause-none : goal.inside-returns-in-None-clause-none
inside-returns-in-None-clause-none t c = let r = c.in_ok-end.ensures.found in unclosed c.args.tokens.now c.in_ok-end.end.now r.0 r.2 c.in-None.ensures.value

pub joined-returns-in_err-rest-clause-none : goal.joined-returns-in_err-rest-clause-none
joined-returns-in_err-rest-clause-none t c =
    let p = err_from_is_err_and c.from_residual.result c.from_residual.ensures.1 in
    rw (p.1, p.2) (first-refused c.args.level c.next_level.result c.args.tokens.now c.in_err-rest.field-0.0 c.requires.joined c.next_level.ensures c.in_err-rest.ensures.none)

pub joined-loop-op-init : goal.joined-loop-op-init
joined-loop-op-init t c =
    let r = c.in_ok-rest.ensures.found in
    record {
      x = r.0;
      adds = r.1;
      so_far = first-read c.args.level c.next_level.result c.args.out.now c.at_level.new.out c.args.tokens.now c.in_ok-rest.rest.now c.requires.joined c.next_level.ensures r;
      fits = c.in_ok-rest.ensures.fits;
      grows = c.in_ok-rest.ensures.grows;
      shorter = c.in_ok-rest.ensures.shorter;
    }

pub joined-returns-in_err-rest-2-clause-none : goal.joined-returns-in_err-rest-2-clause-none
joined-returns-in_err-rest-2-clause-none t c =
    let p = err_from_is_err_and c.from_residual-in_err-rest-2.result c.from_residual-in_err-rest-2.ensures.1 in
    rw (p.1, p.2) (next-refused c.args.level c.next_level-in-Some.result c.args.tokens.now c.loop-op.rest.now c.in-Some.after.now c.loop-op.invariant.x c.in-Some.op c.in_err-rest-2.field-0.0 c.next_level-in-Some.ensures c.loop-op.invariant.so_far
    c.in-Some.ensures.value (search rules) c.in_err-rest-2.ensures.none)

pub joined-loop-op-preserved : goal.joined-loop-op-preserved
joined-loop-op-preserved t c =
    let r = c.in_ok-rest-2.ensures.found in
    record {
      x = binary c.in-Some.op c.loop-op.invariant.x r.0;
      adds = binary-nodes c.args.out.now c.loop-op.out c.at_level-in-Some.new.out c.push.new.self c.in-Some.op c.loop-op.invariant.x r.0 _ _ c.loop-op.invariant.adds (search rules) r.1 (search rules) c.in_ok-push.ensures.ok;
      so_far = next-read c.args.level c.next_level-in-Some.result c.args.tokens.now c.loop-op.rest.now c.in-Some.after.now c.in_ok-rest-2.rest.now c.loop-op.invariant.x r.0 c.in-Some.op c.next_level-in-Some.ensures c.loop-op.invariant.so_far
          c.in-Some.ensures.value (search rules) (search rules) (search rules) r.2;
      fits = let size = pushed c.at_level-in-Some.new.out c.push.new.self _ c.in_ok-push.ensures.ok in omega (arith, size, c.loop-op.invariant.fits, c.in-Some.ensures.counts, c.in_ok-rest-2.ensures.fits);
      grows = let size = pushed c.at_level-in-Some.new.out c.push.new.self _ c.in_ok-push.ensures.ok in omega (arith, size, c.loop-op.invariant.grows, c.in_ok-rest-2.ensures.grows);
      shorter = search rules;
    }

pub joined-returns-clause-found : goal.joined-returns-clause-found
joined-returns-clause-found t c = last-read c.args.level c.args.out.now c.loop-op.out c.args.tokens.now c.loop-op.rest.now c.in_default.ensures.value c.loop-op.invariant

pub prefixed-returns-in_default-clause-found : goal.prefixed-returns-in_default-clause-found
prefixed-returns-in_default-clause-found t c =
    ok_map _ _ c.factor.result (λ rest r. unprefixed-read c.args.out.now c.factor.new.out c.args.tokens.now rest.now c.in_default.ensures.value r) c.factor.ensures.found

pub prefixed-returns-in_default-clause-none : goal.prefixed-returns-in_default-clause-none
prefixed-returns-in_default-clause-none t c = err_map _ _ c.factor.result (λ e r. unprefixed-refused c.args.tokens.now e c.in_default.ensures.value r) c.factor.ensures.none

pub prefixed-returns-in_err-rest-clause-none : goal.prefixed-returns-in_err-rest-clause-none
prefixed-returns-in_err-rest-clause-none t c =
    let p = err_from_is_err_and c.from_residual.result c.from_residual.ensures.1 in
    rw (p.1, p.2) (prefix-refused c.args.tokens.now c.in-Some.after.now c.in-Some.op c.in_err-rest.field-0.0 c.in-Some.ensures.value (search rules) c.in_err-rest.ensures.none)

pub prefixed-returns-clause-found : goal.prefixed-returns-clause-found
prefixed-returns-clause-found t c =
    let r = c.in_ok-rest.ensures.found in (
      unary c.in-Some.op r.0,
      unary-nodes c.args.out.now c.prefixed.new.out c.push.new.self c.in-Some.op r.0 _ r.1 (search rules) c.in_ok-push.ensures.ok,
      prefix-read c.args.tokens.now c.in-Some.after.now c.in_ok-rest.rest.now r.0 c.in-Some.op c.in-Some.ensures.value (search rules) r.2,
    )

pub at_level-returns-in-Whole-clause-found : goal.at_level-returns-in-Whole-clause-found
at_level-returns-in-Whole-clause-found t c =
    ok_map _ _ c.whole.result (λ rest r. subst (λ (l : Level). HasRead (of_level l) c.args.out.now c.args.tokens.now c.whole.new.out rest.now) (sym c.in-Whole.is) r) c.whole.ensures.found

pub whole-returns-in-Some-clause-found : goal.whole-returns-in-Some-clause-found
whole-returns-in-Some-clause-found t c =
    ok_map _ _ c.choice.result (λ rest r. choosing-read c.args.out.now c.choice.new.out c.args.tokens.now c.in-Some.rest.now rest.now c.in-Some.ensures.value r) c.choice.ensures.found

pub whole-returns-in-Some-clause-none : goal.whole-returns-in-Some-clause-none
whole-returns-in-Some-clause-none t c = err_map _ _ c.choice.result (λ e r. choosing-refused c.args.tokens.now c.in-Some.rest.now e c.in-Some.ensures.value r) c.choice.ensures.none

pub whole-returns-in-None-clause-found : goal.whole-returns-in-None-clause-found
whole-returns-in-None-clause-found t c =
    ok_map _ _ c.at_level.result (λ rest r. unchosen-read c.args.out.now c.at_level.new.out c.args.tokens.now rest.now c.in-None.ensures.value r) c.at_level.ensures.found

pub whole-returns-in-None-clause-none : goal.whole-returns-in-None-clause-none
whole-returns-in-None-clause-none t c = err_map _ _ c.at_level.result (λ e r. unchosen-refused c.args.tokens.now e c.in-None.ensures.value r) c.at_level.ensures.none

pub factor-returns-in-Some-clause-found : goal.factor-returns-in-Some-clause-found
factor-returns-in-Some-clause-found t c =
    ok_map _ _ c.inside.result (λ rest r. (r.0, r.1, parentheses-read c.args.tokens.now c.in-Some.rest.now (Some (r.0, rest.now)) c.in-Some.ensures.value r.2)) c.inside.ensures.found

pub factor-returns-in-Some-clause-none : goal.factor-returns-in-Some-clause-none
factor-returns-in-Some-clause-none t c =
    err_map _ _ c.inside.result (λ e r. refused of_inside (of_level Factor) c.in-Some.rest.now c.args.tokens.now e (parentheses-read c.args.tokens.now c.in-Some.rest.now None c.in-Some.ensures.value) r) c.inside.ensures.none

pub factor-returns-in_ok-push-in-Number-clause-found : goal.factor-returns-in_ok-push-in-Number-clause-found
factor-returns-in_ok-push-in-Number-clause-found t c =
    number-read c.args.out.now c.push.new.self c.args.tokens.now c.in-Some-split_token.rest.now c.in-Some-split_token.token.now c.in-Number.value c.in-Some-split_token.ensures.some c.in-Number.is (search rules)

pub factor-returns-in_ok-push-in-Name-clause-found : goal.factor-returns-in_ok-push-in-Name-clause-found
factor-returns-in_ok-push-in-Name-clause-found t c =
    name-read c.args.out.now c.push-in-Name.new.self c.args.tokens.now c.in-Some-split_token.rest.now c.in-Some-split_token.token.now c.in-Name.name c.in-Some-split_token.ensures.some c.in-Name.is c.in_ok-push-in-Name.ensures.ok

pub factor-returns-in_default-split_token-clause-none : goal.factor-returns-in_default-split_token-clause-none
factor-returns-in_default-split_token-clause-none t c = nothing-read c.args.tokens.now (search rules)

pub factor-returns-in-Symbol-clause-none : goal.factor-returns-in-Symbol-clause-none
factor-returns-in-Symbol-clause-none t c =
    symbol-refused c.args.tokens.now c.in-Some-split_token.rest.now c.in-Some-split_token.token.now c.in-Symbol.field-0 c.in-Some-split_token.ensures.some c.in-Symbol.is c.in_default.ensures.value

pub factor-returns-in-Some-called-clause-found : goal.factor-returns-in-Some-called-clause-found
factor-returns-in-Some-called-clause-found t c =
    ok_map _ _ c.call.result
    (λ rest r. (r.0, r.1, called-read c.args.tokens.now c.in-Some-split_token.rest.now c.in-Some-split_token.token.now c.in-Some-called.op (Some (r.0, rest.now)) c.in-Some-split_token.ensures.some (sym c.in-Some-called.ensures) r.2))
    c.call.ensures.found

pub factor-returns-in-Some-called-clause-none : goal.factor-returns-in-Some-called-clause-none
factor-returns-in-Some-called-clause-none t c =
    err_map _ _ c.call.result
    (λ e r. refused (of_call c.in-Some-called.op) (of_level Factor) c.in-Some-split_token.rest.now c.args.tokens.now e
    (called-read c.args.tokens.now c.in-Some-split_token.rest.now c.in-Some-split_token.token.now c.in-Some-called.op None c.in-Some-split_token.ensures.some (sym c.in-Some-called.ensures)) r)
    c.call.ensures.none

pub factor-returns-in-None-clause-none : goal.factor-returns-in-None-clause-none
factor-returns-in-None-clause-none t c =
    keyword-refused c.args.tokens.now c.in-Some-split_token.rest.now c.in-Some-split_token.token.now c.in-Keyword.field-0 c.in-Some-split_token.ensures.some c.in-Keyword.is (sym c.in-None.ensures)

pub at_level-returns-in-Product-clause-found : goal.at_level-returns-in-Product-clause-found
at_level-returns-in-Product-clause-found t c =
    let lone : is_lone c.args.tokens.now ≡ true = search rules in
    ok_map _ _ c.factor-in-Product.result
    (λ rest r. subst (λ (l : Level). HasRead (of_level l) c.args.out.now c.args.tokens.now c.factor-in-Product.new.out rest.now) (sym c.in-Product.is)
    (lone-read c.args.out.now c.factor-in-Product.new.out c.args.tokens.now rest.now lone r))
    c.factor-in-Product.ensures.found

pub at_level-returns-in-Product-clause-none : goal.at_level-returns-in-Product-clause-none
at_level-returns-in-Product-clause-none t c =
    let lone : is_lone c.args.tokens.now ≡ true = search rules in
    err_map _ _ c.factor-in-Product.result
    (λ e r. subst (λ (l : Level). HasNone (of_level l) c.args.tokens.now e) (sym c.in-Product.is) (lone-refused c.args.tokens.now e lone r))
    c.factor-in-Product.ensures.none
