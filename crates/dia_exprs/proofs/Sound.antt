-- What is read is spelled so.
use Rattle.std.proofs.Common.{◌≡◌, ℕ, zero, suc, List, [], ◌∷◌, ◌++◌, length, Option, Some, None, refl, sym, ap, subst, ◌∙◌, append_assoc, ◌⊎◌, inl, inr}
use Rattle.dbp_plan.specs.declared.node.BinOp.{BinOp}
use Rattle.dbp_plan.specs.Tree.{unary, binary, choice}
use Rattle.dia_tokens.specs.declared.token.Token.{Token}
use Rattle.dia_tokens.specs.declared.token.Token.TheVariants as token
use Rattle.dia_tokens.specs.declared.token.Keyword.TheVariants as keyword
use Rattle.dia_tokens.specs.declared.token.Symbol.TheVariants as symbol
use Rattle.dia_exprs.specs.declared.level.Level.{Level}
use Rattle.dia_exprs.specs.declared.level.Level.TheVariants.{Whole, Disjunction, Conjunction, Comparison, Sum, Product, Prefixed, Factor}
use Rattle.dia_exprs.specs.Grammar.{Expression, tighter, operator, comparison, prefix, called, Spells, a_number, a_name, in_parentheses, a_call, as_tighter, prefixed, joined, compared, a_choice}
use Rattle.dia_exprs.specs.Reading.{◌>>=◌, Place, Reader, then_at, else_at, open_at, comma_at, close_at, more, level_at, compare_rest, compared_at, prefixed_at, inside_at, call_at, factor_of, disjunction_in, choice_at, whole_at}

pub bind_some : {A B : Type 0} (r : Option A) (f : A → Option B) (y : B) → (r >>= f) ≡ Some y → (x : A) × (r ≡ Some x) × (f x ≡ Some y)
bind_some (Some x) f y e = (x, refl, e)
bind_some None f y e = absurd cc

abbrev pub given : Place → Option Place
given p = Some p

pub some_is : (p q : Place) → given p ≡ given q → p ≡ q
some_is p q e = cc

then_is : (ts us : List Token) → then_at ts ≡ Some us → ts ≡ token.Keyword keyword.Then ∷ us
then_is (token.Keyword keyword.Then ∷ ts) us e = ap (λ (vs : List Token). token.Keyword keyword.Then ∷ vs) cc
then_is _ us e = absurd cc

else_is : (ts us : List Token) → else_at ts ≡ Some us → ts ≡ token.Keyword keyword.Else ∷ us
else_is (token.Keyword keyword.Else ∷ ts) us e = ap (λ (vs : List Token). token.Keyword keyword.Else ∷ vs) cc
else_is _ us e = absurd cc

open_is : (ts us : List Token) → open_at ts ≡ Some us → ts ≡ token.Symbol symbol.Open ∷ us
open_is (token.Symbol symbol.Open ∷ ts) us e = ap (λ (vs : List Token). token.Symbol symbol.Open ∷ vs) cc
open_is _ us e = absurd cc

comma_is : (ts us : List Token) → comma_at ts ≡ Some us → ts ≡ token.Symbol symbol.Comma ∷ us
comma_is (token.Symbol symbol.Comma ∷ ts) us e = ap (λ (vs : List Token). token.Symbol symbol.Comma ∷ vs) cc
comma_is _ us e = absurd cc

close_is : (ts us : List Token) → close_at ts ≡ Some us → ts ≡ token.Symbol symbol.Close ∷ us
close_is (token.Symbol symbol.Close ∷ ts) us e = ap (λ (vs : List Token). token.Symbol symbol.Close ∷ vs) cc
close_is _ us e = absurd cc

pub cases : {A : Type 0} (o : Option A) → (o ≡ None) ⊎ ((x : A) × (o ≡ Some x))
cases None = inl refl
cases (Some x) = inr (x, refl)

-- what was read of the tokens is spelled by those at the front
pub record Reads (l : Level) (ts : List Token) (p : Place) : Type 0 where
  pub front : List Token
  pub parts : ts ≡ front ++ p.1
  pub spells : Spells l front p.0

abbrev pub Sound : Level → Reader → Type 0
Sound l r = (ts : List Token) (p : Place) → r ts ≡ Some p → Reads l ts p

looser : (l : Level) (ts : List Token) (p : Place) → Reads (tighter l) ts p → Reads l ts p
looser l ts p r = record { front = r.front; parts = r.parts; spells = as_tighter l r.front p.0 r.spells }

Sound-more : (l : Level) (r : Reader) → Sound (tighter l) r → (n : ℕ) (a : List Token) (x : Expression) → Spells l a x → (ts : List Token) (p : Place) → more l r n x ts ≡ Some p → Reads l (a ++ ts) p
unfolding more
Sound-more l r s zero a x d ts p e = subst (Reads l (a ++ ts)) (some_is _ _ e) (record { front = a; parts = refl; spells = d })
Sound-more l r s (suc n) a x d [] p e = subst (Reads l (a ++ [])) (some_is _ _ e) (record { front = a; parts = refl; spells = d })
Sound-more l r s (suc n) a x d (t ∷ ts) p e =
    elim (cases (operator l t)) [
      | inl none ↦
          let stop : more l r (suc n) x (t ∷ ts) ≡ Some (x, t ∷ ts) = rw (none, more) refl in
          subst (Reads l (a ++ t ∷ ts)) (some_is _ _ (sym stop ∙ e)) (record { front = a; parts = refl; spells = d })
      | inr o ↦
          let go : more l r (suc n) x (t ∷ ts) ≡ (r ts >>= λ p. more l r n (binary o.0 x p.0) p.1) = rw (o.1, more) refl in
          let b = bind_some (r ts) (λ p. more l r n (binary o.0 x p.0) p.1) p (sym go ∙ e) in
          let right : Reads (tighter l) ts b.0 = s ts b.0 b.1 in
          let whole : (a ++ t ∷ right.front) ++ b.0.1 ≡ a ++ t ∷ ts = append_assoc a (t ∷ right.front) b.0.1 ∙ ap (λ (us : List Token). a ++ t ∷ us) (sym right.parts) in
          subst (λ (us : List Token). Reads l us p) whole (Sound-more l r s n (a ++ t ∷ right.front) (binary o.0 x b.0.0) (joined l a t right.front o.0 x b.0.0 d o.1 right.spells) b.0.1 p b.2)
    ]

Sound-level : (l : Level) (r : Reader) → Sound (tighter l) r → Sound l (level_at l r)
unfolding level_at
Sound-level l r s ts p e =
    let b = bind_some (r ts) (λ p. more l r (length p.1) p.0 p.1) p e in
    let f : Reads (tighter l) ts b.0 = s ts b.0 b.1 in
    subst (λ (us : List Token). Reads l us p) (sym f.parts) (Sound-more l r s (length b.0.1) f.front b.0.0 (as_tighter l f.front b.0.0 f.spells) b.0.1 p b.2)

Sound-rest : (r : Reader) → Sound Sum r → (a : List Token) (x : Expression) → Spells Sum a x → (ts : List Token) (p : Place) → compare_rest r x ts ≡ Some p → Reads Comparison (a ++ ts) p
unfolding compare_rest
Sound-rest r s a x d [] p e = subst (Reads Comparison (a ++ [])) (some_is _ _ e) (record { front = a; parts = refl; spells = as_tighter Comparison a x d })
Sound-rest r s a x d (t ∷ ts) p e =
    elim (cases (comparison t)) [
      | inl none ↦
          let stop : compare_rest r x (t ∷ ts) ≡ Some (x, t ∷ ts) = rw (none, compare_rest) refl in
          subst (Reads Comparison (a ++ t ∷ ts)) (some_is _ _ (sym stop ∙ e)) (record { front = a; parts = refl; spells = as_tighter Comparison a x d })
      | inr o ↦
          let go : compare_rest r x (t ∷ ts) ≡ (r ts >>= λ p. given (binary o.0 x p.0, p.1)) = rw (o.1, compare_rest) refl in
          let b = bind_some (r ts) (λ p. given (binary o.0 x p.0, p.1)) p (sym go ∙ e) in
          let right : Reads Sum ts b.0 = s ts b.0 b.1 in
          let made : Reads Comparison (a ++ t ∷ ts) (binary o.0 x b.0.0, b.0.1) =
          record {
            front = a ++ t ∷ right.front;
            parts = ap (λ (us : List Token). a ++ t ∷ us) right.parts ∙ sym (append_assoc a (t ∷ right.front) b.0.1);
            spells = compared a t right.front o.0 x b.0.0 d o.1 right.spells;
          } in
          subst (Reads Comparison (a ++ t ∷ ts)) (some_is _ _ b.2) made
    ]

Sound-compared : (r : Reader) → Sound Sum r → Sound Comparison (compared_at r)
unfolding compared_at
Sound-compared r s ts p e =
    let b = bind_some (r ts) (λ p. compare_rest r p.0 p.1) p e in
    let f : Reads Sum ts b.0 = s ts b.0 b.1 in
    subst (λ (us : List Token). Reads Comparison us p) (sym f.parts) (Sound-rest r s f.front b.0.0 f.spells b.0.1 p b.2)

Sound-prefixed : (r : Reader) → Sound Factor r → Sound Prefixed (prefixed_at r)
unfolding prefixed_at
Sound-prefixed r s [] p e = looser Prefixed [] p (s [] p e)
Sound-prefixed r s (t ∷ ts) p e =
    elim (cases (prefix t)) [
      | inl none ↦
          let stop : prefixed_at r (t ∷ ts) ≡ r (t ∷ ts) = rw (none, prefixed_at) refl in
          looser Prefixed (t ∷ ts) p (s (t ∷ ts) p (sym stop ∙ e))
      | inr o ↦
          let go : prefixed_at r (t ∷ ts) ≡ (prefixed_at r ts >>= λ p. given (unary o.0 p.0, p.1)) = rw (o.1, prefixed_at) refl in
          let b = bind_some (prefixed_at r ts) (λ p. given (unary o.0 p.0, p.1)) p (sym go ∙ e) in
          let f : Reads Prefixed ts b.0 = Sound-prefixed r s ts b.0 b.1 in
          let made : Reads Prefixed (t ∷ ts) (unary o.0 b.0.0, b.0.1) =
          record { front = t ∷ f.front; parts = ap (λ (us : List Token). t ∷ us) f.parts; spells = prefixed t o.0 f.front b.0.0 o.1 f.spells } in
          subst (Reads Prefixed (t ∷ ts)) (some_is _ _ b.2) made
    ]

Sound-inside : (r : Reader) → Sound Whole r → (ts : List Token) (p : Place) → inside_at r ts ≡ Some p → Reads Factor (token.Symbol symbol.Open ∷ ts) p
unfolding inside_at
Sound-inside r s ts p e =
    let b = bind_some (r ts) (λ p. close_at p.1 >>= λ rest. given (p.0, rest)) p e in
    let c = bind_some (close_at b.0.1) (λ rest. given (b.0.0, rest)) p b.2 in
    let f : Reads Whole ts b.0 = s ts b.0 b.1 in
    let made : Reads Factor (token.Symbol symbol.Open ∷ ts) (b.0.0, c.0) =
    record {
      front = token.Symbol symbol.Open ∷ (f.front ++ token.Symbol symbol.Close ∷ []);
      parts = ap (λ (us : List Token). token.Symbol symbol.Open ∷ us) (f.parts ∙ ap (λ (us : List Token). f.front ++ us) (close_is b.0.1 c.0 c.1) ∙ sym (append_assoc f.front (token.Symbol symbol.Close ∷ []) c.0));
      spells = in_parentheses f.front b.0.0 f.spells;
    } in
    subst (Reads Factor (token.Symbol symbol.Open ∷ ts)) (some_is _ _ c.2) made

Sound-call : (r : Reader) → Sound Whole r → (t : Token) (o : BinOp) → called t ≡ Some o → (ts : List Token) (p : Place) → call_at o r ts ≡ Some p → Reads Factor (t ∷ ts) p
unfolding call_at
Sound-call r s t o at ts p e =
    let a = bind_some (open_at ts) (λ a. r a >>= λ x. comma_at x.1 >>= λ b. r b >>= λ y. close_at y.1 >>= λ rest. given (binary o x.0 y.0, rest)) p e in
    let x = bind_some (r a.0) (λ x. comma_at x.1 >>= λ b. r b >>= λ y. close_at y.1 >>= λ rest. given (binary o x.0 y.0, rest)) p a.2 in
    let b = bind_some (comma_at x.0.1) (λ b. r b >>= λ y. close_at y.1 >>= λ rest. given (binary o x.0.0 y.0, rest)) p x.2 in
    let y = bind_some (r b.0) (λ y. close_at y.1 >>= λ rest. given (binary o x.0.0 y.0, rest)) p b.2 in
    let c = bind_some (close_at y.0.1) (λ rest. given (binary o x.0.0 y.0.0, rest)) p y.2 in
    let f : Reads Whole a.0 x.0 = s a.0 x.0 x.1 in
    let g : Reads Whole b.0 y.0 = s b.0 y.0 y.1 in
    let one : x.0.1 ≡ token.Symbol symbol.Comma ∷ (g.front ++ (token.Symbol symbol.Close ∷ c.0)) =
    comma_is x.0.1 b.0 b.1 ∙ ap (λ (us : List Token). token.Symbol symbol.Comma ∷ us) (g.parts ∙ ap (λ (us : List Token). g.front ++ us) (close_is y.0.1 c.0 c.1)) in
    let whole : a.0 ≡ (f.front ++ token.Symbol symbol.Comma ∷ (g.front ++ token.Symbol symbol.Close ∷ [])) ++ c.0 =
    f.parts ∙ ap (λ (us : List Token). f.front ++ us) one ∙ ap (λ (us : List Token). f.front ++ token.Symbol symbol.Comma ∷ us) (sym (append_assoc g.front (token.Symbol symbol.Close ∷ []) c.0))
    ∙ sym (append_assoc f.front (token.Symbol symbol.Comma ∷ (g.front ++ token.Symbol symbol.Close ∷ [])) c.0) in
    let made : Reads Factor (t ∷ ts) (binary o x.0.0 y.0.0, c.0) =
    record {
      front = t ∷ token.Symbol symbol.Open ∷ (f.front ++ token.Symbol symbol.Comma ∷ (g.front ++ token.Symbol symbol.Close ∷ []));
      parts = ap (λ (us : List Token). t ∷ us) (open_is ts a.0 a.1 ∙ ap (λ (us : List Token). token.Symbol symbol.Open ∷ us) whole);
      spells = a_call t o f.front g.front x.0.0 y.0.0 at f.spells g.spells;
    } in
    subst (Reads Factor (t ∷ ts)) (some_is _ _ c.2) made

Sound-factor : (r : Reader) → Sound Whole r → Sound Factor (factor_of r)
unfolding factor_of
Sound-factor r s (token.Number value ∷ ts) p e = subst (Reads Factor (token.Number value ∷ ts)) (some_is _ _ e) (record { front = token.Number value ∷ []; parts = refl; spells = a_number value })
Sound-factor r s (token.Name name ∷ ts) p e = subst (Reads Factor (token.Name name ∷ ts)) (some_is _ _ e) (record { front = token.Name name ∷ []; parts = refl; spells = a_name name })
Sound-factor r s (token.Symbol symbol.Open ∷ ts) p e = Sound-inside r s ts p e
Sound-factor r s (token.Keyword w ∷ ts) p e =
    elim (cases (called (token.Keyword w))) [
      | inl none ↦
          let stop : factor_of r (token.Keyword w ∷ ts) ≡ None = rw (none, factor_of) refl in
          let wrong : None ≡ given p = sym stop ∙ e in
          absurd cc
      | inr o ↦
          let go : factor_of r (token.Keyword w ∷ ts) ≡ call_at o.0 r ts = rw (o.1, factor_of) refl in
          Sound-call r s (token.Keyword w) o.0 o.1 ts p (sym go ∙ e)
    ]
Sound-factor r s _ p e = absurd cc

Sound-disjunction : (r : Reader) → Sound Whole r → Sound Disjunction (disjunction_in r)
Sound-disjunction r s = Sound-level Disjunction _ (Sound-level Conjunction _ (Sound-compared _ (Sound-level Sum _ (Sound-level Product _ (Sound-prefixed _ (Sound-factor r s))))))

Sound-choice : (r : Reader) → Sound Whole r → (ts : List Token) (p : Place) → choice_at r ts ≡ Some p → Reads Whole (token.Keyword keyword.If ∷ ts) p
unfolding choice_at
Sound-choice r s ts p e =
    let c = bind_some (r ts) (λ c. then_at c.1 >>= λ a. r a >>= λ x. else_at x.1 >>= λ b. r b >>= λ y. given (choice c.0 x.0 y.0, y.1)) p e in
    let a = bind_some (then_at c.0.1) (λ a. r a >>= λ x. else_at x.1 >>= λ b. r b >>= λ y. given (choice c.0.0 x.0 y.0, y.1)) p c.2 in
    let x = bind_some (r a.0) (λ x. else_at x.1 >>= λ b. r b >>= λ y. given (choice c.0.0 x.0 y.0, y.1)) p a.2 in
    let b = bind_some (else_at x.0.1) (λ b. r b >>= λ y. given (choice c.0.0 x.0.0 y.0, y.1)) p x.2 in
    let y = bind_some (r b.0) (λ y. given (choice c.0.0 x.0.0 y.0, y.1)) p b.2 in
    let f : Reads Whole ts c.0 = s ts c.0 c.1 in
    let g : Reads Whole a.0 x.0 = s a.0 x.0 x.1 in
    let h : Reads Whole b.0 y.0 = s b.0 y.0 y.1 in
    let one : c.0.1 ≡ token.Keyword keyword.Then ∷ (g.front ++ (token.Keyword keyword.Else ∷ (h.front ++ y.0.1))) =
    then_is c.0.1 a.0 a.1 ∙ ap (λ (us : List Token). token.Keyword keyword.Then ∷ us) (g.parts ∙ ap (λ (us : List Token). g.front ++ us) (else_is x.0.1 b.0 b.1 ∙ ap (λ (us : List Token). token.Keyword keyword.Else ∷ us) h.parts)) in
    let whole : ts ≡ (f.front ++ token.Keyword keyword.Then ∷ (g.front ++ token.Keyword keyword.Else ∷ h.front)) ++ y.0.1 =
    f.parts ∙ ap (λ (us : List Token). f.front ++ us) one ∙ ap (λ (us : List Token). f.front ++ token.Keyword keyword.Then ∷ us) (sym (append_assoc g.front (token.Keyword keyword.Else ∷ h.front) y.0.1))
    ∙ sym (append_assoc f.front (token.Keyword keyword.Then ∷ (g.front ++ token.Keyword keyword.Else ∷ h.front)) y.0.1) in
    let made : Reads Whole (token.Keyword keyword.If ∷ ts) (choice c.0.0 x.0.0 y.0.0, y.0.1) =
    record {
      front = token.Keyword keyword.If ∷ (f.front ++ token.Keyword keyword.Then ∷ (g.front ++ token.Keyword keyword.Else ∷ h.front));
      parts = ap (λ (us : List Token). token.Keyword keyword.If ∷ us) whole;
      spells = a_choice f.front g.front h.front c.0.0 x.0.0 y.0.0 f.spells g.spells h.spells;
    } in
    subst (Reads Whole (token.Keyword keyword.If ∷ ts)) (some_is _ _ y.2) made

pub Sound-whole : (n : ℕ) → Sound Whole (whole_at n)
unfolding whole_at
Sound-whole zero ts p e = absurd cc
Sound-whole (suc n) (token.Keyword keyword.If ∷ ts) p e = Sound-choice (whole_at n) (Sound-whole n) ts p e
Sound-whole (suc n) ts p e = looser Whole ts p (Sound-disjunction (whole_at n) (Sound-whole n) ts p e)
