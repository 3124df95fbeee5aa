-- A line reads in one way at most, and has no fault then; a line has one first fault at most.
use Rattle.std.proofs.Common.{◌≡◌, ℕ, true, false, List, [], ◌∷◌, Some, None, refl, sym, ap, subst, ◌∙◌}
use Rattle.std.proofs.lemmas.Option.{same_Some}
use Rattle.dia_tokens.specs.declared.token.Token.{Token}
use Rattle.dia_tokens.specs.declared.token.Token.TheVariants as token
use Rattle.dia_tokens.specs.declared.token.Keyword.TheVariants as keyword
use Rattle.dia_tokens.specs.Line.{Spells as SpellsTokens}
use Rattle.dia_tokens.specs.Spelling.{joined}
use Rattle.dia_tokens.proofs.LexLaws.{Lexes-one}
use Rattle.dia_tokens.proofs.OneLine.{one-list, no-fault, one-fault}
use Rattle.dia_lines.specs.declared.fault.ReadCode.{ReadCode}
use Rattle.dia_lines.specs.declared.place.Place.{Place}
use Rattle.dia_lines.specs.declared.place.Place.TheVariants.{Trace, Script}
use Rattle.dia_lines.specs.Statements.{Statement}
use Rattle.dia_lines.specs.Lines.{Content, says, step, place_after, statements, version_after, keeps_lines, token_fault, code_of, limit_fault, MayStand, SaysStatement, SaysInScript, no_step, script_ends, a_step, Reads, of_the_diagram, of_the_trace, of_the_script, HasTextFault, HasDiagramFault, of_the_text, of_the_tokens, no_statement, past_a_limit, HasFault, in_the_diagram, in_the_trace, in_the_script}
use Rattle.dia_lines.proofs.FormLaws.{one-statement}
use Rattle.dia_lines.proofs.TraceLaws.{one-in-trace, no-fault-in-trace}

-- ---- lines of the script section

one-in-script : (line : List ℕ) (a b : Content) → SaysInScript line a → SaysInScript line b → a ≡ b
one-in-script line a b (no_step l s) (no_step m t) = refl
one-in-script line a b (no_step l s) (script_ends m t) = let e = one-list l _ _ s t in absurd cc
one-in-script line a b (no_step l s) (a_step m k ts t n o h) = let e = one-list l _ _ s t in absurd (n (sym e))
one-in-script line a b (script_ends l s) (no_step m t) = let e = one-list l _ _ s t in absurd cc
one-in-script line a b (script_ends l s) (script_ends m t) = refl
one-in-script line a b (script_ends l s) (a_step m k ts t n o h) = let e = one-list l _ _ s t in absurd (o (sym e))
one-in-script line a b (a_step l k ts s n o h) (no_step m t) = let e = one-list l _ _ s t in absurd (n e)
one-in-script line a b (a_step l k ts s n o h) (script_ends m t) = let e = one-list l _ _ s t in absurd (o e)
one-in-script line a b (a_step l k ts s n o h) (a_step m k' ts' t n' o' h') =
    let same : h.0 ≡ h'.0 = Lexes-one true l h.0 h'.0 h.1 h'.1 in
    ap step (h.2 ∙ ap joined same ∙ sym h'.2)

no-text-fault : (line : List ℕ) (ts : List Token) (code : ReadCode) → SpellsTokens line ts → HasTextFault line code → ⊥
no-text-fault line ts code s f = no-fault line ts f.0 s f.1

one-text-fault : (line : List ℕ) (c d : ReadCode) → HasTextFault line c → HasTextFault line d → c ≡ d
one-text-fault line c d f g = same_Some c d (sym f.2 ∙ ap code_of (one-fault line f.0 g.0 f.1 g.1) ∙ g.2)

tokens-in-script : (line : List ℕ) (a : Content) → SaysInScript line a → (ts : List Token) × SpellsTokens line ts
tokens-in-script line a (no_step l s) = ([], s)
tokens-in-script line a (script_ends l s) = (token.Keyword keyword.Done ∷ [], s)
tokens-in-script line a (a_step l k ts s n o h) = (ts, s)

no-fault-in-script : (line : List ℕ) (a : Content) (code : ReadCode) → SaysInScript line a → HasTextFault line code → ⊥
no-fault-in-script line a code s f = let t = tokens-in-script line a s in no-text-fault line t.0 code t.1 f

-- ---- lines of the diagram

one-standing : (version : ℕ) (place : Place) (ts : List Token) (s u : Statement) → MayStand version place ts s → MayStand version place ts u → s ≡ u
one-standing version place ts s u a b = one-statement ts s u a.form b.form

one-in-diagram : (before : List Content) (line : List ℕ) (s u : Statement) → SaysStatement before line s → SaysStatement before line u → s ≡ u
one-in-diagram before line s u a b =
    let same : b.tokens ≡ a.tokens = one-list line b.tokens a.tokens b.spelled a.spelled in
    one-standing (version_after before) (place_after before) a.tokens s u a.stands (subst (λ ts. MayStand (version_after before) (place_after before) ts u) same b.stands)

no-fault-in-diagram : (before : List Content) (line : List ℕ) (s : Statement) (code : ReadCode) → SaysStatement before line s → HasDiagramFault before line code → ⊥
no-fault-in-diagram before line s code a (of_the_text c f) = no-text-fault line a.tokens c a.spelled f
no-fault-in-diagram before line s code a (of_the_tokens ts c t f) =
    let same : ts ≡ a.tokens = one-list line ts a.tokens t a.spelled in
    let there : token_fault (place_after before) a.tokens ≡ Some c = ap (token_fault (place_after before)) (sym same) ∙ f in
    let free = a.faultless in cc
no-fault-in-diagram before line s code a (no_statement ts t f n) =
    let same : a.tokens ≡ ts = one-list line a.tokens ts a.spelled t in
    n s (subst (λ us. MayStand (version_after before) (place_after before) us s) same a.stands)
no-fault-in-diagram before line s code a (past_a_limit ts u c t f m l) =
    let same : a.tokens ≡ ts = one-list line a.tokens ts a.spelled t in
    let is : s ≡ u = one-standing (version_after before) (place_after before) ts s u (subst (λ us. MayStand (version_after before) (place_after before) us s) same a.stands) m in
    let there : limit_fault (statements before) s ≡ Some c = ap (limit_fault (statements before)) is ∙ l in
    let free = a.within in cc

one-fault-in-diagram : (before : List Content) (line : List ℕ) (c d : ReadCode) → HasDiagramFault before line c → HasDiagramFault before line d → c ≡ d
one-fault-in-diagram before line c d (of_the_text _ f) (of_the_text _ g) = one-text-fault line c d f g
one-fault-in-diagram before line c d (of_the_text _ f) (of_the_tokens ts _ t g) = absurd (no-text-fault line ts c t f)
one-fault-in-diagram before line c d (of_the_text _ f) (no_statement ts t g n) = absurd (no-text-fault line ts c t f)
one-fault-in-diagram before line c d (of_the_text _ f) (past_a_limit ts u _ t g m l) = absurd (no-text-fault line ts c t f)
one-fault-in-diagram before line c d (of_the_tokens ts _ t f) (of_the_text _ g) = absurd (no-text-fault line ts d t g)
one-fault-in-diagram before line c d (of_the_tokens ts _ t f) (of_the_tokens us _ u g) =
    same_Some c d (sym f ∙ ap (token_fault (place_after before)) (one-list line ts us t u) ∙ g)
one-fault-in-diagram before line c d (of_the_tokens ts _ t f) (no_statement us u g n) =
    let e : token_fault (place_after before) ts ≡ None = ap (token_fault (place_after before)) (one-list line ts us t u) ∙ g in absurd cc
one-fault-in-diagram before line c d (of_the_tokens ts _ t f) (past_a_limit us w _ u g m l) =
    let e : token_fault (place_after before) ts ≡ None = ap (token_fault (place_after before)) (one-list line ts us t u) ∙ g in absurd cc
one-fault-in-diagram before line c d (no_statement ts t f n) (of_the_text _ g) = absurd (no-text-fault line ts d t g)
one-fault-in-diagram before line c d (no_statement ts t f n) (of_the_tokens us _ u g) =
    let e : token_fault (place_after before) us ≡ None = ap (token_fault (place_after before)) (one-list line us ts u t) ∙ f in absurd cc
one-fault-in-diagram before line c d (no_statement ts t f n) (no_statement us u g o) = refl
one-fault-in-diagram before line c d (no_statement ts t f n) (past_a_limit us w _ u g m l) =
    absurd (n w (subst (λ vs. MayStand (version_after before) (place_after before) vs w) (one-list line us ts u t) m))
one-fault-in-diagram before line c d (past_a_limit ts s _ t f m l) (of_the_text _ g) = absurd (no-text-fault line ts d t g)
one-fault-in-diagram before line c d (past_a_limit ts s _ t f m l) (of_the_tokens us _ u g) =
    let e : token_fault (place_after before) us ≡ None = ap (token_fault (place_after before)) (one-list line us ts u t) ∙ f in absurd cc
one-fault-in-diagram before line c d (past_a_limit ts s _ t f m l) (no_statement us u g n) =
    absurd (n s (subst (λ vs. MayStand (version_after before) (place_after before) vs s) (one-list line ts us t u) m))
one-fault-in-diagram before line c d (past_a_limit ts s _ t f m l) (past_a_limit us w _ u g n k) =
    let is : s ≡ w = one-standing (version_after before) (place_after before) us s w (subst (λ vs. MayStand (version_after before) (place_after before) vs s) (one-list line ts us t u) m) n in
    same_Some c d (sym l ∙ ap (limit_fault (statements before)) is ∙ k)

-- ---- any line

-- the three kinds of places are apart
apart : {p : Place} {q : Place} → keeps_lines p ≡ false → p ≡ q → keeps_lines q ≡ true → ⊥
apart {p} {q} e same f = let g : keeps_lines p ≡ keeps_lines q = ap keeps_lines same in cc

pub one-reading : (before : List Content) (line : List ℕ) (a b : Content) → Reads before line a → Reads before line b → a ≡ b
one-reading before line a b (of_the_diagram l s e x) (of_the_diagram m u f y) = ap says (one-in-diagram before l s u x y)
one-reading before line a b (of_the_diagram l s e x) (of_the_trace m _ f y) = absurd (apart e f refl)
one-reading before line a b (of_the_diagram l s e x) (of_the_script m _ f y) = absurd (apart e f refl)
one-reading before line a b (of_the_trace l _ e x) (of_the_diagram m u f y) = absurd (apart f e refl)
one-reading before line a b (of_the_trace l _ e x) (of_the_trace m _ f y) = one-in-trace l a b x y
one-reading before line a b (of_the_trace l _ e x) (of_the_script m _ f y) = absurd (let g : Trace ≡ Script = sym e ∙ f in cc)
one-reading before line a b (of_the_script l _ e x) (of_the_diagram m u f y) = absurd (apart f e refl)
one-reading before line a b (of_the_script l _ e x) (of_the_trace m _ f y) = absurd (let g : Script ≡ Trace = sym e ∙ f in cc)
one-reading before line a b (of_the_script l _ e x) (of_the_script m _ f y) = one-in-script l a b x y

pub no-line-fault : (before : List Content) (line : List ℕ) (a : Content) (code : ReadCode) → Reads before line a → HasFault before line code → ⊥
no-line-fault before line a code (of_the_diagram l s e x) (in_the_diagram c f y) = no-fault-in-diagram before l s c x y
no-line-fault before line a code (of_the_diagram l s e x) (in_the_trace f y) = apart e f refl
no-line-fault before line a code (of_the_diagram l s e x) (in_the_script c f y) = apart e f refl
no-line-fault before line a code (of_the_trace l _ e x) (in_the_diagram c f y) = apart f e refl
no-line-fault before line a code (of_the_trace l _ e x) (in_the_trace f y) = no-fault-in-trace l a x y
no-line-fault before line a code (of_the_trace l _ e x) (in_the_script c f y) = let g : Trace ≡ Script = sym e ∙ f in cc
no-line-fault before line a code (of_the_script l _ e x) (in_the_diagram c f y) = apart f e refl
no-line-fault before line a code (of_the_script l _ e x) (in_the_trace f y) = let g : Script ≡ Trace = sym e ∙ f in cc
no-line-fault before line a code (of_the_script l _ e x) (in_the_script c f y) = no-fault-in-script l a c x y

pub one-line-fault : (before : List Content) (line : List ℕ) (c d : ReadCode) → HasFault before line c → HasFault before line d → c ≡ d
one-line-fault before line c d (in_the_diagram _ e x) (in_the_diagram _ f y) = one-fault-in-diagram before line c d x y
one-line-fault before line c d (in_the_diagram _ e x) (in_the_trace f y) = absurd (apart e f refl)
one-line-fault before line c d (in_the_diagram _ e x) (in_the_script _ f y) = absurd (apart e f refl)
one-line-fault before line c d (in_the_trace e x) (in_the_diagram _ f y) = absurd (apart f e refl)
one-line-fault before line c d (in_the_trace e x) (in_the_trace f y) = refl
one-line-fault before line c d (in_the_trace e x) (in_the_script _ f y) = absurd (let g : Trace ≡ Script = sym e ∙ f in cc)
one-line-fault before line c d (in_the_script _ e x) (in_the_diagram _ f y) = absurd (apart f e refl)
one-line-fault before line c d (in_the_script _ e x) (in_the_trace f y) = absurd (let g : Script ≡ Trace = sym e ∙ f in cc)
one-line-fault before line c d (in_the_script _ e x) (in_the_script _ f y) = one-text-fault line c d x y
