-- Which statements a line's tokens are, by their form.
use Rattle.std.proofs.Common.{◌≡◌, ℕ, ℤ, pos, Bool, true, false, cond, List, [], ◌∷◌, ◌++◌, Option, Some, None, refl, sym, ap, subst, ◌∙◌, ◌≤◌, arith, append_assoc}
use Rattle.std.specs.Option.{option_map}
use Rattle.std.specs.Ordering.{int_eq}
use Rattle.std.proofs.lemmas.Bool.Decides.{Decides-int_eq}
use Rattle.std.proofs.lemmas.Option.{same_Some}
use Rattle.dbp_plan.specs.declared.diagram.Policy.TheVariants.{Fp}
use Rattle.dbp_plan.specs.Tree.{Tree, number}
use Rattle.dia_tokens.specs.declared.token.Token.{Token}
use Rattle.dia_tokens.specs.declared.token.Token.TheVariants.{Name, Number, Symbol, Keyword}
use Rattle.dia_tokens.specs.declared.token.Symbol.TheVariants.{Assign, Point}
use Rattle.dia_tokens.specs.declared.token.Keyword as keywords
use Rattle.dia_tokens.specs.declared.token.Keyword.TheVariants as keyword
use Rattle.dia_exprs.proofs.AllTokens.{one-spelled}
use Rattle.dia_exprs.specs.Counts.{node_count, depth_of}
use Rattle.dia_lines.specs.declared.place.Place.{Place}
use Rattle.dia_lines.specs.declared.place.Place.TheVariants.{Header, Policy, Until, Declarations, Body, Trace, Script, Ended}
use Rattle.dia_lines.specs.Statements.{Statement, TaskHeader, Clock, IsStatement, SpellsClock, SpellsWhen, SpellsOption, SpellsAt}
use Rattle.dia_lines.specs.Statements as st
use Rattle.dia_lines.specs.Delays.{SpellsDelay, direct, delayed, delayed_by, delay_at}
use Rattle.dia_lines.specs.Places.{leads, is_of_version}
use Rattle.dia_lines.specs.PolicyKeywords.{policy_of, keyword_of}
use Rattle.dia_lines.specs.Lines.{expression_of}
use Rattle.dia_lines.specs.Forms.{Shape, plain, of_let, of_next, of_out, Completes, tokens_of, example_of, offset_at, clock_at, when_at, prio_at, deadline_at, cost_end, tick_alone, keyword_alone, ending_at, header_at, policy_at, until_at, input_at, event_at, options_at, task_at, state_at, sense_at, port_read_at, read_at, let_at, next_at, out_at, declared_at, line_at, shape_at}

-- the statement is of the form that was found
abbrev pub Inverts : Statement → Option Shape → Type 0
Inverts s None = ⊥
Inverts s (Some f) = Completes s f

-- ---- the parts of a task's line

-- Which of the optional parts the tokens begin with. They stand in the order of these numbers.
abbrev part_of : List Token → ℕ
part_of (Keyword keyword.From ∷ ts) = 0
part_of (Keyword keyword.When ∷ ts) = 1
part_of (Keyword keyword.Prio ∷ ts) = 2
part_of (Keyword keyword.Deadline ∷ ts) = 3
part_of _ = 4

-- before the tokens of a later part a part is left out
no-offset : (ts : List Token) → 1 ≤ part_of ts → offset_at ts ≡ (pos 0, ts)
no-offset (Keyword keyword.From ∷ Number offset ∷ ts) later = absurd (omega arith)
no-offset ts later = refl

no-when : (ts : List Token) → 2 ≤ part_of ts → when_at ts ≡ (None, ts)
no-when (Keyword keyword.When ∷ Name name ∷ ts) later = absurd (omega arith)
no-when ts later = refl

no-prio : (ts : List Token) → 3 ≤ part_of ts → prio_at ts ≡ (None, ts)
no-prio (Keyword keyword.Prio ∷ Number value ∷ ts) later = absurd (omega arith)
no-prio ts later = refl

no-deadline : (ts : List Token) → 4 ≤ part_of ts → deadline_at ts ≡ (None, ts)
no-deadline (Keyword keyword.Deadline ∷ Number value ∷ ts) later = absurd (omega arith)
no-deadline ts later = refl

-- each part is found at the front of tokens of later parts, and stands before them
clock-found : (cs ts : List Token) (clock : Clock) → SpellsClock cs clock → 1 ≤ part_of ts → clock_at (cs ++ ts) ≡ Some (clock, ts)
clock-found cs ts clock (st.from_zero period) later = rw (no-offset ts later) refl
clock-found cs ts clock (st.from_offset period offset) later = refl
clock-found cs ts clock (st.with_event event) later = refl

when-found : (ws ts : List Token) (when : Option (List ℕ)) → SpellsWhen ws when → 2 ≤ part_of ts → (when_at (ws ++ ts) ≡ (when, ts)) × (1 ≤ part_of (ws ++ ts))
when-found ws ts when st.always later = (no-when ts later, omega arith)
when-found ws ts when (st.guarded name) later = (refl, omega arith)

prio-found : (ps ts : List Token) (prio : Option ℤ) → SpellsOption keyword.Prio ps prio → 3 ≤ part_of ts → (prio_at (ps ++ ts) ≡ (prio, ts)) × (2 ≤ part_of (ps ++ ts))
prio-found ps ts prio st.left_out later = (no-prio ts later, omega arith)
prio-found ps ts prio (st.given value) later = (refl, omega arith)

deadline-found : (ds ts : List Token) (deadline : Option ℤ) → SpellsOption keyword.Deadline ds deadline → 4 ≤ part_of ts
    → (deadline_at (ds ++ ts) ≡ (deadline, ts)) × (3 ≤ part_of (ds ++ ts))
deadline-found ds ts deadline st.left_out later = (no-deadline ts later, omega arith)
deadline-found ds ts deadline (st.given value) later = (refl, omega arith)

cost-found : (cost : ℤ) (us : List Token) (cpu : Option ℤ) → SpellsOption keyword.Cpu us cpu → cost_end (Keyword keyword.Cost ∷ Number cost ∷ us) ≡ Some (cost, cpu)
cost-found cost us cpu st.left_out = refl
cost-found cost us cpu (st.given value) = refl

pub in_five : (a b c d e : List Token) → a ++ (b ++ (c ++ (d ++ e))) ≡ a ++ b ++ c ++ d ++ e
in_five a b c d e = simp append_assoc

task-found : (h : TaskHeader) (cs ws ps ds us : List Token) → SpellsClock cs h.clock → SpellsWhen ws h.when → SpellsOption keyword.Prio ps h.prio → SpellsOption keyword.Deadline ds h.deadline
    → SpellsOption keyword.Cpu us h.cpu → task_at (Name h.name ∷ (cs ++ ws ++ ps ++ ds ++ Keyword keyword.Cost ∷ Number h.cost ∷ us)) ≡ Some (plain (st.task h))
unfolding task_at options_at
task-found h cs ws ps ds us c w p d u =
    let last = Keyword keyword.Cost ∷ Number h.cost ∷ us in
    let deadline = deadline-found ds last h.deadline d (omega arith) in
    let prio = prio-found ps (ds ++ last) h.prio p deadline.1 in
    let when = when-found ws (ps ++ (ds ++ last)) h.when w prio.1 in
    let clock = clock-found cs (ws ++ (ps ++ (ds ++ last))) h.clock c when.1 in
    rw (← in_five cs ws ps ds last, clock, when.0, prio.0, deadline.0, cost-found h.cost us h.cpu u) refl

-- each statement of the tokens has their form
pub Inverts-shape : (ts : List Token) (s : Statement) → IsStatement ts s → Inverts s (shape_at ts)
unfolding shape_at line_at declared_at header_at until_at input_at event_at options_at task_at state_at sense_at port_read_at read_at let_at next_at out_at
Inverts-shape ts s st.a_blank_line = refl
Inverts-shape ts s st.in_version_1 = refl
Inverts-shape ts s st.in_version_2 = refl
Inverts-shape ts s (st.a_policy Fp) = refl
Inverts-shape ts s (st.a_policy _) = refl
Inverts-shape ts s (st.an_until end) = refl
Inverts-shape ts s (st.an_input name first) = refl
Inverts-shape ts s (st.an_event name) = refl
Inverts-shape ts s (st.a_task h cs ws ps ds us c w p d u) = rw (task-found h cs ws ps ds us c w p d u) refl
Inverts-shape ts s (st.a_state name first) = refl
Inverts-shape ts s (st.a_sense name from) = refl
Inverts-shape ts s (st.a_read name writer port pre ats delay at d a) = at_read d a
  where
    at_read : {pre ats : List Token} {delay : Option ℤ} {at : ℤ} → SpellsDelay pre delay → SpellsAt ats at
        → Inverts (st.read name delay writer port at) (read_at (Name name ∷ Symbol Assign ∷ (pre ++ Name writer ∷ Symbol Point ∷ Name port ∷ ats)))
    at_read direct st.at_once = refl
    at_read direct (st.at_tick value) = refl
    at_read delayed st.at_once = refl
    at_read delayed (st.at_tick value) = refl
    at_read (delayed_by given) st.at_once = refl
    at_read (delayed_by given) (st.at_tick value) = refl
Inverts-shape ts s (st.a_let_line name us x d) = (x, refl, d)
Inverts-shape ts s (st.a_next_line name us x d) = (x, refl, d)
Inverts-shape ts s (st.an_out name first us x d) = (x, refl, d)
Inverts-shape ts s st.a_trace = refl
Inverts-shape ts s st.a_script = refl
Inverts-shape ts s st.an_end = refl

-- ---- building

-- what the tokens are if they have the form
abbrev pub Builds : List Token → Option Shape → Type 0
Builds ts None = Unit {0}
Builds ts (Some (plain u)) = IsStatement ts u
Builds ts (Some (of_let name us)) = ts ≡ Keyword keyword.Let ∷ Name name ∷ Symbol Assign ∷ us
Builds ts (Some (of_next name us)) = ts ≡ Keyword keyword.Next ∷ Name name ∷ Symbol Assign ∷ us
Builds ts (Some (of_out name first us)) = ts ≡ Keyword keyword.Out ∷ Name name ∷ Symbol Assign ∷ Number first ∷ Keyword keyword.Then ∷ us

Builds-header : (ts : List Token) → Builds (Keyword keyword.Dbp ∷ ts) (header_at ts)
unfolding header_at
Builds-header (Number value ∷ []) = by_value (int_eq value (pos 1)) (int_eq value (pos 2)) refl refl
  where
    by_value : (one two : Bool) → int_eq value (pos 1) ≡ one → int_eq value (pos 2) ≡ two
        → Builds (Keyword keyword.Dbp ∷ Number value ∷ []) (option_map (λ version. plain (st.header version)) (cond one (Some 1) (cond two (Some 2) None)))
    by_value true two e f = subst (λ (v : ℤ). IsStatement (Keyword keyword.Dbp ∷ Number v ∷ []) (st.header 1)) (sym ((Decides-int_eq value (pos 1)).0 e)) st.in_version_1
    by_value false true e f = subst (λ (v : ℤ). IsStatement (Keyword keyword.Dbp ∷ Number v ∷ []) (st.header 2)) (sym ((Decides-int_eq value (pos 2)).0 f)) st.in_version_2
    by_value false false e f = tt
Builds-header _ = tt

policy-keyword : (w : _) (p : _) → policy_of w ≡ Some p → keyword_of p ≡ w
policy-keyword keyword.Fp p is = cc
policy-keyword _ p is = cc

Builds-policy : (ts : List Token) → Builds (Keyword keyword.Policy ∷ ts) (policy_at ts)
Builds-policy (Keyword w ∷ []) = by_keyword (policy_of w) refl
  where
    by_keyword : (found : _) → policy_of w ≡ found → Builds (Keyword keyword.Policy ∷ Keyword w ∷ []) (option_map (λ p. plain (st.policy p)) found)
    by_keyword None none = tt
    by_keyword (Some p) is = subst (λ v. IsStatement (Keyword keyword.Policy ∷ Keyword v ∷ []) (st.policy p)) (policy-keyword w p is) (st.a_policy p)
Builds-policy _ = tt

Builds-until : (ts : List Token) → Builds (Keyword keyword.Until ∷ ts) (until_at ts)
unfolding until_at
Builds-until (Number end ∷ []) = st.an_until end
Builds-until _ = tt

Builds-input : (ts : List Token) → Builds (Keyword keyword.Input ∷ ts) (input_at ts)
unfolding input_at
Builds-input (Name name ∷ Symbol Assign ∷ Number first ∷ []) = st.an_input name first
Builds-input _ = tt

Builds-event : (ts : List Token) → Builds (Keyword keyword.Event ∷ ts) (event_at ts)
unfolding event_at
Builds-event (Name name ∷ []) = st.an_event name
Builds-event _ = tt

Builds-state : (ts : List Token) → Builds (Keyword keyword.State ∷ ts) (state_at ts)
unfolding state_at
Builds-state (Name name ∷ Symbol Assign ∷ Number first ∷ []) = st.a_state name first
Builds-state _ = tt

Builds-sense : (ts : List Token) → Builds (Keyword keyword.Sense ∷ ts) (sense_at ts)
unfolding sense_at
Builds-sense (Name name ∷ Symbol Assign ∷ Name from ∷ []) = st.a_sense name from
Builds-sense _ = tt

Builds-let : (ts : List Token) → Builds (Keyword keyword.Let ∷ ts) (let_at ts)
unfolding let_at
Builds-let (Name name ∷ Symbol Assign ∷ us) = refl
Builds-let _ = tt

Builds-next : (ts : List Token) → Builds (Keyword keyword.Next ∷ ts) (next_at ts)
unfolding next_at
Builds-next (Name name ∷ Symbol Assign ∷ us) = refl
Builds-next _ = tt

Builds-out : (ts : List Token) → Builds (Keyword keyword.Out ∷ ts) (out_at ts)
unfolding out_at
Builds-out (Name name ∷ Symbol Assign ∷ Number first ∷ Keyword keyword.Then ∷ us) = refl
Builds-out _ = tt

Builds-alone : (w : keywords.Keyword) → Builds (Keyword w ∷ []) (keyword_alone w)
Builds-alone keyword.Trace = st.a_trace
Builds-alone keyword.Script = st.a_script
Builds-alone keyword.Done = st.an_end
Builds-alone _ = tt

Builds-ending : (w : keywords.Keyword) (ts : List Token) → Builds (Keyword w ∷ ts) (ending_at w ts)
Builds-ending w [] = Builds-alone w
Builds-ending w (t ∷ ts) = tt

-- ---- the line of a task

offset-split : (period : ℤ) (ts : List Token)
    → (cs : List Token) × (Keyword keyword.Every ∷ Number period ∷ ts ≡ cs ++ (offset_at ts).1) × SpellsClock cs (st.every period (offset_at ts).0)
offset-split period (Keyword keyword.From ∷ Number offset ∷ ts) = (Keyword keyword.Every ∷ Number period ∷ Keyword keyword.From ∷ Number offset ∷ [], refl, st.from_offset period offset)
offset-split period ts = (Keyword keyword.Every ∷ Number period ∷ [], refl, st.from_zero period)

when-split : (ts : List Token) → (ws : List Token) × (ts ≡ ws ++ (when_at ts).1) × SpellsWhen ws (when_at ts).0
when-split (Keyword keyword.When ∷ Name name ∷ ts) = (Keyword keyword.When ∷ Name name ∷ [], refl, st.guarded name)
when-split ts = ([], refl, st.always)

prio-split : (ts : List Token) → (ps : List Token) × (ts ≡ ps ++ (prio_at ts).1) × SpellsOption keyword.Prio ps (prio_at ts).0
prio-split (Keyword keyword.Prio ∷ Number value ∷ ts) = (Keyword keyword.Prio ∷ Number value ∷ [], refl, st.given value)
prio-split ts = ([], refl, st.left_out)

deadline-split : (ts : List Token) → (ds : List Token) × (ts ≡ ds ++ (deadline_at ts).1) × SpellsOption keyword.Deadline ds (deadline_at ts).0
deadline-split (Keyword keyword.Deadline ∷ Number value ∷ ts) = (Keyword keyword.Deadline ∷ Number value ∷ [], refl, st.given value)
deadline-split ts = ([], refl, st.left_out)

end-split : (ts : List Token) (end : ℤ × Option ℤ) → cost_end ts ≡ Some end → (us : List Token) × (ts ≡ Keyword keyword.Cost ∷ Number end.0 ∷ us) × SpellsOption keyword.Cpu us end.1
end-split (Keyword keyword.Cost ∷ Number cost ∷ []) end e =
    let same : (cost, None) ≡ end = same_Some _ end e in
    subst (λ (o : ℤ × Option ℤ). (us : List Token) × (Keyword keyword.Cost ∷ Number cost ∷ [] ≡ Keyword keyword.Cost ∷ Number o.0 ∷ us) × SpellsOption keyword.Cpu us o.1) same ([], refl, st.left_out)
end-split (Keyword keyword.Cost ∷ Number cost ∷ Keyword keyword.Cpu ∷ Number cpu ∷ []) end e =
    let same : (cost, Some cpu) ≡ end = same_Some _ end e in
    subst (λ (o : ℤ × Option ℤ). (us : List Token) × (Keyword keyword.Cost ∷ Number cost ∷ Keyword keyword.Cpu ∷ Number cpu ∷ [] ≡ Keyword keyword.Cost ∷ Number o.0 ∷ us) × SpellsOption keyword.Cpu us o.1) same
    (Keyword keyword.Cpu ∷ Number cpu ∷ [], refl, st.given cpu)
end-split _ end e = absurd cc

Builds-options : (name : List ℕ) (cs : List Token) (clock : Clock) → SpellsClock cs clock → (ts : List Token) → Builds (Keyword keyword.Task ∷ Name name ∷ (cs ++ ts)) (options_at name clock ts)
unfolding options_at
Builds-options name cs clock c ts = by_end (cost_end d.1) refl
  where
    w : Option (List ℕ) × List Token
    w = when_at ts

    p : Option ℤ × List Token
    p = prio_at w.1

    d : Option ℤ × List Token
    d = deadline_at p.1

    -- the line with this end
    line_of : ℤ × Option ℤ → TaskHeader
    line_of end = record { name = name; clock = clock; when = w.0; prio = p.0; deadline = d.0; cost = end.0; cpu = end.1 }

    by_end : (o : Option (ℤ × Option ℤ)) → cost_end d.1 ≡ o → Builds (Keyword keyword.Task ∷ Name name ∷ (cs ++ ts)) (option_map (λ end. plain (st.task (line_of end))) o)
    by_end None e = tt
    by_end (Some end) e =
        let ws = when-split ts in
        let ps = prio-split w.1 in
        let ds = deadline-split p.1 in
        let us = end-split d.1 end e in
        let last = Keyword keyword.Cost ∷ Number end.0 ∷ us.0 in
        let all : ts ≡ ws.0 ++ (ps.0 ++ (ds.0 ++ last)) =
        ws.1 ∙ ap (λ (us : List Token). ws.0 ++ us) (ps.1 ∙ ap (λ (us : List Token). ps.0 ++ us) (ds.1 ∙ ap (λ (us : List Token). ds.0 ++ us) us.1)) in
        let whole : cs ++ ws.0 ++ ps.0 ++ ds.0 ++ last ≡ cs ++ ts = sym (ap (λ (us : List Token). cs ++ us) all ∙ in_five cs ws.0 ps.0 ds.0 last) in
        subst (λ (us : List Token). IsStatement (Keyword keyword.Task ∷ Name name ∷ us) (st.task (line_of end))) whole
        (st.a_task (line_of end) cs ws.0 ps.0 ds.0 us.0 c ws.2 ps.2 ds.2 us.2)

Builds-task : (ts : List Token) → Builds (Keyword keyword.Task ∷ ts) (task_at ts)
unfolding task_at
Builds-task (Name name ∷ Keyword keyword.Every ∷ Number period ∷ ts) =
    let cs = offset-split period ts in
    subst (λ (us : List Token). Builds (Keyword keyword.Task ∷ Name name ∷ us) (options_at name (st.every period (offset_at ts).0) (offset_at ts).1)) (sym cs.1)
    (Builds-options name cs.0 (st.every period (offset_at ts).0) cs.2 (offset_at ts).1)
Builds-task (Name name ∷ Keyword keyword.On ∷ Name event ∷ ts) = Builds-options name (Keyword keyword.On ∷ Name event ∷ []) (st.on event) (st.with_event event) ts
Builds-task _ = tt

-- ---- the line of a read value

delay-split : (ts : List Token) → (pre : List Token) × (ts ≡ pre ++ (delay_at ts).1) × SpellsDelay pre (delay_at ts).0
delay-split (Keyword keyword.Pre ∷ Number value ∷ ts) = (Keyword keyword.Pre ∷ Number value ∷ [], refl, delayed_by value)
delay-split (Keyword keyword.Pre ∷ ts) = (Keyword keyword.Pre ∷ [], refl, delayed)
delay-split ts = ([], refl, direct)

tick-spelled : (ts : List Token) (at : ℤ) → tick_alone ts ≡ Some at → SpellsAt ts at
tick-spelled [] at e = let same : pos 0 ≡ at = cc in subst (SpellsAt []) same st.at_once
tick-spelled (Keyword keyword.At ∷ Number value ∷ []) at e = let same : value ≡ at = cc in subst (SpellsAt (Keyword keyword.At ∷ Number value ∷ [])) same (st.at_tick value)
tick-spelled _ at e = absurd cc

Builds-port : (name : List ℕ) (pre : List Token) (delay : Option ℤ) → SpellsDelay pre delay → (ts : List Token)
    → Builds (Keyword keyword.Read ∷ Name name ∷ Symbol Assign ∷ (pre ++ ts)) (port_read_at name delay ts)
unfolding port_read_at
Builds-port name pre delay d (Name writer ∷ Symbol Point ∷ Name port ∷ ts) = by_tick (tick_alone ts) refl
  where
    by_tick : (o : Option ℤ) → tick_alone ts ≡ o
        → Builds (Keyword keyword.Read ∷ Name name ∷ Symbol Assign ∷ (pre ++ Name writer ∷ Symbol Point ∷ Name port ∷ ts)) (option_map (λ at. plain (st.read name delay writer port at)) o)
    by_tick None e = tt
    by_tick (Some at) e = st.a_read name writer port pre ts delay at d (tick-spelled ts at e)
Builds-port name pre delay d _ = tt

Builds-read : (ts : List Token) → Builds (Keyword keyword.Read ∷ ts) (read_at ts)
unfolding read_at
Builds-read (Name name ∷ Symbol Assign ∷ ts) =
    let d = delay-split ts in
    subst (λ (us : List Token). Builds (Keyword keyword.Read ∷ Name name ∷ Symbol Assign ∷ us) (port_read_at name (delay_at ts).0 (delay_at ts).1)) (sym d.1)
    (Builds-port name d.0 (delay_at ts).0 d.2 (delay_at ts).1)
Builds-read _ = tt

-- ---- all lines

Builds-declared : (w : keywords.Keyword) (ts : List Token) → Builds (Keyword w ∷ ts) (declared_at w ts)
unfolding declared_at
Builds-declared keyword.Dbp ts = Builds-header ts
Builds-declared keyword.Policy ts = Builds-policy ts
Builds-declared keyword.Until ts = Builds-until ts
Builds-declared keyword.Input ts = Builds-input ts
Builds-declared keyword.Event ts = Builds-event ts
Builds-declared _ ts = tt

Builds-line : (w : keywords.Keyword) (ts : List Token) → Builds (Keyword w ∷ ts) (line_at w ts)
unfolding line_at
Builds-line keyword.Task ts = Builds-task ts
Builds-line keyword.State ts = Builds-state ts
Builds-line keyword.Sense ts = Builds-sense ts
Builds-line keyword.Read ts = Builds-read ts
Builds-line keyword.Let ts = Builds-let ts
Builds-line keyword.Next ts = Builds-next ts
Builds-line keyword.Out ts = Builds-out ts
Builds-line keyword.Trace ts = Builds-ending keyword.Trace ts
Builds-line keyword.Script ts = Builds-ending keyword.Script ts
Builds-line keyword.Done ts = Builds-ending keyword.Done ts
Builds-line w ts = Builds-declared w ts

pub Builds-shape : (ts : List Token) → Builds ts (shape_at ts)
unfolding shape_at
Builds-shape [] = st.a_blank_line
Builds-shape (Keyword w ∷ ts) = Builds-line w ts
Builds-shape _ = tt

-- what completes the form of the tokens is their statement
pub completed : (ts : List Token) (f : Shape) → shape_at ts ≡ Some f → (s : Statement) → Completes s f → IsStatement ts s
completed ts f e = of_form f (subst (Builds ts) e (Builds-shape ts))
  where
    of_form : (f : Shape) → Builds ts (Some f) → (s : Statement) → Completes s f → IsStatement ts s
    of_form (plain u) b s c = subst (IsStatement ts) (sym c) b
    of_form (of_let name us) b s c = subst (λ (ts : List Token). IsStatement ts s) (sym b) (subst (IsStatement _) (sym c.1) (st.a_let_line name us c.0 c.2))
    of_form (of_next name us) b s c = subst (λ (ts : List Token). IsStatement ts s) (sym b) (subst (IsStatement _) (sym c.1) (st.a_next_line name us c.0 c.2))
    of_form (of_out name first us) b s c = subst (λ (ts : List Token). IsStatement ts s) (sym b) (subst (IsStatement _) (sym c.1) (st.an_out name first us c.0 c.2))

-- the statement of the tokens completes their form
pub inverted : (ts : List Token) (f : Shape) → shape_at ts ≡ Some f → (s : Statement) → IsStatement ts s → Completes s f
inverted ts f e s d = let i : Inverts s (Some f) = subst (Inverts s) e (Inverts-shape ts s d) in i

-- tokens of no form are no statement
pub none-inverted : (ts : List Token) → shape_at ts ≡ None → (s : Statement) → IsStatement ts s → ⊥
none-inverted ts e s d = let i : Inverts s None = subst (Inverts s) e (Inverts-shape ts s d) in i

-- the tokens of the form's expression are those of the line
pub expression-fits : (ts : List Token) (f : Shape) → shape_at ts ≡ Some f
    → (node_count (tokens_of f) ≤ node_count (expression_of ts)) × (depth_of (tokens_of f) ≤ depth_of ts)
expression-fits ts f e = of_form f (subst (Builds ts) e (Builds-shape ts))
  where
    of_form : (f : Shape) → Builds ts (Some f) → (node_count (tokens_of f) ≤ node_count (expression_of ts)) × (depth_of (tokens_of f) ≤ depth_of ts)
    of_form (plain u) b = (omega arith, omega arith)
    of_form (of_let name us) b = subst (λ (ts : List Token). (node_count us ≤ node_count (expression_of ts)) × (depth_of us ≤ depth_of ts)) (sym b) (omega arith, omega arith)
    of_form (of_next name us) b = subst (λ (ts : List Token). (node_count us ≤ node_count (expression_of ts)) × (depth_of us ≤ depth_of ts)) (sym b) (omega arith, omega arith)
    of_form (of_out name first us) b = subst (λ (ts : List Token). (node_count us ≤ node_count (expression_of ts)) × (depth_of us ≤ depth_of ts)) (sym b) (omega arith, omega arith)

-- the tokens of a line are one statement at most
pub one-statement : (ts : List Token) (s u : Statement) → IsStatement ts s → IsStatement ts u → s ≡ u
one-statement ts s u d e = at_shape (shape_at ts) (Inverts-shape ts s d) (Inverts-shape ts u e)
  where
    at_shape : (o : Option Shape) → Inverts s o → Inverts u o → s ≡ u
    at_shape None i j = absurd i
    at_shape (Some (plain v)) i j = i ∙ sym j
    at_shape (Some (of_let n us)) i j = i.1 ∙ ap (λ (x : Tree (List ℕ)). st.a_let n x) (one-spelled us i.0 j.0 i.2 j.2) ∙ sym j.1
    at_shape (Some (of_next n us)) i j = i.1 ∙ ap (λ (x : Tree (List ℕ)). st.a_next n x) (one-spelled us i.0 j.0 i.2 j.2) ∙ sym j.1
    at_shape (Some (of_out n v us)) i j = i.1 ∙ ap (λ (x : Tree (List ℕ)). st.out n v x) (one-spelled us i.0 j.0 i.2 j.2) ∙ sym j.1

-- ---- where a statement may stand

leads-let : (place : Place) (name : List ℕ) (x y : Tree (List ℕ)) → leads place (st.a_let name x) ≡ leads place (st.a_let name y)
leads-let Header name x y = refl
leads-let Policy name x y = refl
leads-let Until name x y = refl
leads-let Declarations name x y = refl
leads-let Body name x y = refl
leads-let Trace name x y = refl
leads-let Script name x y = refl
leads-let Ended name x y = refl

leads-next : (place : Place) (name : List ℕ) (x y : Tree (List ℕ)) → leads place (st.a_next name x) ≡ leads place (st.a_next name y)
leads-next Header name x y = refl
leads-next Policy name x y = refl
leads-next Until name x y = refl
leads-next Declarations name x y = refl
leads-next Body name x y = refl
leads-next Trace name x y = refl
leads-next Script name x y = refl
leads-next Ended name x y = refl

leads-out : (place : Place) (name : List ℕ) (first : ℤ) (x y : Tree (List ℕ)) → leads place (st.out name first x) ≡ leads place (st.out name first y)
leads-out Header name first x y = refl
leads-out Policy name first x y = refl
leads-out Until name first x y = refl
leads-out Declarations name first x y = refl
leads-out Body name first x y = refl
leads-out Trace name first x y = refl
leads-out Script name first x y = refl
leads-out Ended name first x y = refl

-- a statement of the form leads where each does
pub leads-example : (place : Place) (f : Shape) (s : Statement) → Completes s f → leads place s ≡ leads place (example_of f)
leads-example place (plain u) s c = ap (leads place) c
leads-example place (of_let name us) s c = ap (leads place) c.1 ∙ leads-let place name c.0 (number (pos 0))
leads-example place (of_next name us) s c = ap (leads place) c.1 ∙ leads-next place name c.0 (number (pos 0))
leads-example place (of_out name first us) s c = ap (leads place) c.1 ∙ leads-out place name first c.0 (number (pos 0))

-- and is of the versions that each is of
pub version-example : (version : ℕ) (f : Shape) (s : Statement) → Completes s f → is_of_version version s ≡ is_of_version version (example_of f)
version-example version (plain u) s c = ap (is_of_version version) c
version-example version (of_let name us) s c = ap (is_of_version version) c.1
version-example version (of_next name us) s c = ap (is_of_version version) c.1
version-example version (of_out name first us) s c = ap (is_of_version version) c.1
