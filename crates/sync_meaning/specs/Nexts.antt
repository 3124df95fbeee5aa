-- The states after an instance, one `next` after another.
use Rattle.std.proofs.Common.{◌≡◌, ◌≢◌, ℕ, ℤ, ◌<◌, ◌≤◌, ◌+◌, List, length, take, slice_get, set, Some, refl, sym, ◌∙◌, ap, arith, inl, inr, length-take}
use Rattle.std.specs.Prelude.{AllPairs}
use Rattle.std.proofs.lemmas.Bool.{cases_eq}
use Rattle.std.proofs.lemmas.List.{length-set}
use Rattle.std.proofs.lemmas.Option.{get_or_from_slice_get, slice_get_within, same_Some}
use Rattle.dbp_plan.specs.declared.diagram.Next.{Next}
use Rattle.dbp_plan.specs.declared.diagram.Task.{Task}
use Rattle.dbp_plan.specs.Closed.{place_count}
use Rattle.expr_eval.specs.Values.{value_of}
use Rattle.sync_meaning.specs.Meaning.{AreStatesAfter}
use Rattle.dbp_plan.specs.ListItems.{pair_at, set_here, set_other}

-- the states with the first `next`s
pub record NextsUpTo (m : ℕ) (nexts : List Next) (env before after : List ℤ) : Type 0 where
  pub size : length after ≡ length before
  pub next : (k : ℕ) (n : Next) → k < m → slice_get nexts k ≡ Some n → slice_get after n.state ≡ Some (value_of n.expr env)
  pub kept : (j : ℕ) → ((k : ℕ) (n : Next) → k < m → slice_get nexts k ≡ Some n → n.state ≢ j) → slice_get after j ≡ slice_get before j

pub nexts_none : (nexts : List Next) (env before : List ℤ) → NextsUpTo 0 nexts env before before
nexts_none nexts env before = record {
  size = refl;
  next = λ k n below. absurd (omega arith);
  kept = λ j other. refl;
}

pub nexts_more : (m : ℕ) (n : Next) (nexts : List Next) (env before after : List ℤ) → AllPairs (λ a b. a.state ≢ b.state) nexts → slice_get nexts m ≡ Some n → n.state < length after
    → NextsUpTo m nexts env before after → NextsUpTo (m + 1) nexts env before (set after n.state (value_of n.expr env))
nexts_more m n nexts env before after apart at inside done = record {
  size = length-set after n.state (value_of n.expr env) ∙ done.size;
  next = λ k o below at_o. elim (cases_eq k m) [
    | inl same ↦
        let one : n ≡ o = same_Some _ _ (sym at ∙ ap (λ p. slice_get nexts p) (sym same) ∙ at_o) in
        ap (λ (p : Next). slice_get (set after n.state (value_of n.expr env)) p.state) (sym one) ∙ set_here after n.state (value_of n.expr env) inside ∙ ap (λ (p : Next). Some (value_of p.expr env)) one
    | inr other ↦
        let lower : k < m = omega arith in
        let states : o.state ≢ n.state = pair_at (λ (a b : Next). a.state ≢ b.state) nexts k m o n apart lower at_o at in
        set_other after n.state o.state (value_of n.expr env) states ∙ done.next k o lower at_o
  ];
  kept = λ j none.
      let other : j ≢ n.state = λ e. none m n (omega arith) at (sym e) in
      set_other after n.state j (value_of n.expr env) other ∙ done.kept j (λ k o below at_o. none k o (omega arith) at_o);
}

pub nexts_all : (m : ℕ) (t : Task) (env before after : List ℤ) → length t.nexts ≤ m → NextsUpTo m t.nexts env before after → AreStatesAfter t env before after
nexts_all m t env before after all done = record {
  size = done.size;
  next = λ k n at. done.next k n (omega (arith, slice_get_within t.nexts k n at)) at;
  kept = λ j none. done.kept j (λ k n below at e. none k n (slice_get_within t.nexts k n at) (ap (λ (o : Next). o.state) (get_or_from_slice_get t.nexts k n n at) ∙ e));
}

-- the states after an instance are as many as the task's
pub length-later : (t : Task) (now later : List ℤ) → length now ≡ place_count t → AreStatesAfter t now (take (length t.states) now) later → length later ≡ length t.states
length-later t now later size after = after.size ∙ omega (arith, length-take (length t.states) now, size)
