-- A printed step spells tokens that name the step.
use Rattle.std.proofs.Common.{◌≡◌, ℕ, pos, zero, suc, ◌<◌, ◌≤◌, ◌^◌, All, false, List, [], ◌∷◌, ◌++◌, Some, Ok, refl, sym, ap, ◌∙◌, subst, arith}
use Rattle.std.specs.Prelude.{◌==◌, codes}
use Rattle.std.specs.Fmt.{decimal}
use Rattle.std.proofs.lemmas.Bool.{lt-ltb}
use Rattle.std.proofs.lemmas.Bool.Decides.{nat_tests}
use Rattle.std.proofs.lemmas.List.Elements.{All-cons, All-nil}
use Rattle.dbp_rules.specs.declared.step.Step.{Step}
use Rattle.dbp_rules.specs.declared.step.Step.TheVariants as step
use Rattle.dbp_plan.specs.declared.diagram.Diagram.{Diagram}
use Rattle.dbp_plan.specs.Limits.{max_delay, max_delay-le}
use Rattle.dbp_plan.specs.Lookups.{link_at, no_link, task_at}
use Rattle.dia_lines.specs.Delays.{delay_at, delay_tokens}
use Rattle.dia_lines.proofs.DelayLaws.{given_delay, longer-tokens, short-given}
use Rattle.dia_tokens.specs.declared.edge.Edge.TheVariants.{Loose}
use Rattle.dia_tokens.specs.declared.token.Token.{Token}
use Rattle.dia_tokens.specs.declared.token.Token.TheVariants as token
use Rattle.dia_tokens.specs.declared.token.Keyword.TheVariants.{Pre}
use Rattle.dia_tokens.specs.KeepsSigns.{KeepsSigns}
use Rattle.dia_tokens.specs.Line.{Spells}
use Rattle.dia_tokens.specs.Printable.{IsPrintableName, IsPrintableToken}
use Rattle.dia_tokens.specs.TokenText.{line_text, text_after}
use Rattle.dia_tokens.proofs.LineSpells.{line-spells}
use Rattle.dbp_replay.specs.declared.form.Operand.{Operand}
use Rattle.dbp_replay.specs.declared.form.Operand.TheVariants as operand
use Rattle.dbp_replay.specs.declared.kind.Takes.{Takes}
use Rattle.dbp_replay.specs.declared.kind.Takes.TheVariants.{Nothing, Slot, Writer, Read, Port}
use Rattle.dbp_replay.specs.Names.{HasNames, HasSlotNumber}
use Rattle.dbp_replay.specs.NamedItems.{IsThere, port_name, read_name, task_of}
use Rattle.dbp_replay.specs.Scripts.{Says}
use Rattle.dbp_replay.specs.StepForms.{form_of, named_step, number_of, step_numbered, of_kind, of_task, operand_of, small_delay, step_with, with_operand, writer_of}
use Rattle.dbp_replay.specs.Texts.{delay_words, operand_words, spaced_words, step_text}
use Rattle.dbp_rules.specs.StepKinds.{kind_of}
use Rattle.dbp_replay.proofs.FirstPlaces.{link-place, port-place, port-printable, read-place, read-printable, task-place, task-printable}
use Rattle.dbp_replay.proofs.StepWords.{first-printable, first-text, first-unsigned, first_token, kind-again}

-- ---- the words after the task

-- these words are the operand that their kind takes
record IsOperand (takes : Takes) (words : List (List ℕ)) (o : Operand) : Type 0 where
  tokens : List Token
  text : spaced_words words ≡ text_after Loose tokens
  printable : All IsPrintableToken tokens
  unsigned : KeepsSigns false tokens
  read : operand_of takes tokens ≡ Some o

-- of a step: and in the diagram the operand is the number that the step has
record HasOperandWords (d : Diagram) (e : Step) : Type 0 where
  given : Operand
  words : IsOperand (form_of (kind_of e)).1 (operand_words d e) given
  number : ℕ
  found : number_of d (task_of d e) given ≡ Some number
  again : step_with (kind_of e) (task_of d e) number ≡ e

nothing : IsOperand Nothing [] operand.Nothing
nothing = record { tokens = []; text = refl; printable = All-nil IsPrintableToken; unsigned = tt; read = refl }

one-name : (takes : Takes) (n : List ℕ) (o : Operand) → IsPrintableName n → operand_of takes (token.Name n ∷ []) ≡ Some o → IsOperand takes (n ∷ []) o
one-name takes n o printable read = record {
  tokens = token.Name n ∷ [];
  text = refl;
  printable = All-cons IsPrintableToken (token.Name n) [] printable (All-nil IsPrintableToken);
  unsigned = (λ _. tt, tt);
  read = read;
}

-- the words of a delay above 1; its comparisons don't compute
longer-words : (d : ℕ) → delay_words (suc (suc d)) ≡ codes "pre" ∷ decimal (suc (suc d)) ∷ []
longer-words d =
    let some : (suc (suc d) == 0) ≡ false = grind (arith, nat_tests) in
    let more : (suc (suc d) == 1) ≡ false = grind (arith, nat_tests) in
    rw (some, more) refl

-- the tokens of a delay before a name
delay-text : (d : ℕ) (n : List ℕ) → spaced_words (delay_words d ++ n ∷ []) ≡ text_after Loose (delay_tokens d ++ token.Name n ∷ [])
delay-text zero n = refl
delay-text (suc zero) n = refl
delay-text (suc (suc d)) n = rw (longer-words d, longer-tokens d) refl

delay-again : (d : ℕ) (n : List ℕ) → delay_at (delay_tokens d ++ token.Name n ∷ []) ≡ (given_delay d, token.Name n ∷ [])
delay-again zero n = refl
delay-again (suc zero) n = refl
delay-again (suc (suc d)) n = rw (longer-tokens d) refl

small-given : (d : ℕ) → small_delay (given_delay d) ≡ d
small-given zero = refl
small-given (suc d) = refl

delay-printable : (d : ℕ) (n : List ℕ) → d ≤ max_delay → IsPrintableName n → All IsPrintableToken (delay_tokens d ++ token.Name n ∷ [])
delay-printable zero n short printable = All-cons IsPrintableToken (token.Name n) [] printable (All-nil IsPrintableToken)
delay-printable (suc zero) n short printable = All-cons IsPrintableToken (token.Keyword Pre) (token.Name n ∷ []) tt (All-cons IsPrintableToken (token.Name n) [] printable (All-nil IsPrintableToken))
delay-printable (suc (suc d)) n short printable =
    let number : IsPrintableToken (token.Number (pos (suc (suc d)))) = omega (arith, short, max_delay-le) in
    rw (longer-tokens d) (All-cons IsPrintableToken (token.Keyword Pre) (token.Number (pos (suc (suc d))) ∷ token.Name n ∷ []) tt
    (All-cons IsPrintableToken (token.Number (pos (suc (suc d)))) (token.Name n ∷ []) number (All-cons IsPrintableToken (token.Name n) [] printable (All-nil IsPrintableToken))))

delay-unsigned : (d : ℕ) (n : List ℕ) → KeepsSigns false (delay_tokens d ++ token.Name n ∷ [])
delay-unsigned zero n = (λ _. tt, tt)
delay-unsigned (suc zero) n = (λ _. tt, (λ _. tt, tt))
delay-unsigned (suc (suc d)) n = rw (longer-tokens d) (λ _. tt, (λ _. tt, (λ _. tt, tt)))

writer : (delay : ℕ) (n : List ℕ) → delay ≤ max_delay → IsPrintableName n → IsOperand Writer (delay_words delay ++ n ∷ []) (operand.Link delay n)
writer delay n short printable = record {
  tokens = delay_tokens delay ++ token.Name n ∷ [];
  text = delay-text delay n;
  printable = delay-printable delay n short printable;
  unsigned = delay-unsigned delay n;
  read = ap writer_of (delay-again delay n) ∙ rw (short-given delay short, small-given delay) refl;
}

slot-number : (slot : ℕ) → slot < 2 ^ 32 → IsOperand Slot (decimal slot ∷ []) (operand.Slot slot)
slot-number slot small = record {
  tokens = token.Number (pos slot) ∷ [];
  text = refl;
  printable = All-cons IsPrintableToken (token.Number (pos slot)) [] (omega (arith, small)) (All-nil IsPrintableToken);
  unsigned = (λ _. tt, tt);
  read = rw (lt-ltb slot (2 ^ 32) small) refl;
}

bare : (d : Diagram) (e : Step) → operand_words d e ≡ [] → (form_of (kind_of e)).1 ≡ Nothing → step_with (kind_of e) (task_of d e) 0 ≡ e → HasOperandWords d e
bare d e none takes again = record {
  given = operand.Nothing;
  words = subst (λ ws. IsOperand (form_of (kind_of e)).1 ws operand.Nothing) (sym none) (subst (λ t. IsOperand t [] operand.Nothing) (sym takes) nothing);
  number = 0;
  found = refl;
  again = again;
}

operand-words : (d : Diagram) (e : Step) → HasNames d → IsThere d e → HasSlotNumber e → HasOperandWords d e
operand-words d (step.Aim i slot) names there small = record { given = operand.Slot slot; words = slot-number slot small; number = slot; found = refl; again = refl }
operand-words d (step.Claim k) names there small =
    let l = link_at d.links k in
    record {
      given = operand.Link l.delay (task_at d l.writer).name;
      words = writer l.delay (task_at d l.writer).name (names.delays k no_link there.named) (task-printable d names l.writer there.operand);
      number = k;
      found = link-place d names k there.named there.operand;
      again = refl;
    }
operand-words d (step.Look i r) names there small = record {
  given = operand.Read (read_name d i r);
  words = one-name Read (read_name d i r) (operand.Read (read_name d i r)) (read-printable d names i r there.task there.operand) refl;
  number = r;
  found = read-place d names i r there.task there.operand;
  again = refl;
}
operand-words d (step.Take i r) names there small = record {
  given = operand.Read (read_name d i r);
  words = one-name Read (read_name d i r) (operand.Read (read_name d i r)) (read-printable d names i r there.task there.operand) refl;
  number = r;
  found = read-place d names i r there.task there.operand;
  again = refl;
}
operand-words d (step.Put i p) names there small = record {
  given = operand.Port (port_name d i p);
  words = one-name Port (port_name d i p) (operand.Port (port_name d i p)) (port-printable d names i p there.task there.operand) refl;
  number = p;
  found = port-place d names i p there.task there.operand;
  again = refl;
}
operand-words d e names there small = bare d e refl refl refl

-- ---- the line

pub says-step : (d : Diagram) (e : Step) → HasNames d → IsThere d e → HasSlotNumber e → Says d (step_text d e) (Ok e)
says-step d e names there small =
    let kind = kind_of e in
    let i = task_of d e in
    let n = (task_at d i).name in
    let o = operand-words d e names there small in
    let rest = token.Name n ∷ o.words.tokens in
    let tokens = first_token kind ∷ rest in
    let after : step_text d e ≡ (form_of kind).0 ++ text_after Loose rest = ap (λ ws. (form_of kind).0 ++ (32 ∷ n ++ ws)) o.words.text in
    let text : step_text d e ≡ line_text tokens = after ∙ first-text kind rest in
    let printable : All IsPrintableToken tokens =
    All-cons IsPrintableToken (first_token kind) rest (first-printable kind) (All-cons IsPrintableToken (token.Name n) o.words.tokens (task-printable d names i there.task) o.words.printable) in
    record {
      tokens = tokens;
      spelled = subst (λ line. Spells line tokens) (sym text) (line-spells tokens printable (λ _. first-unsigned kind, (λ _. tt, o.words.unsigned)));
      says = ap (λ k. named_step d (of_kind k n o.words.tokens)) (kind-again kind) ∙ ap (λ p. named_step d (with_operand kind n p)) o.words.read
          ∙ ap (of_task d (record { kind = kind; task = n; operand = o.given })) (task-place d names i there.task) ∙ ap (step_numbered kind i) o.found ∙ ap (λ f. Ok f) o.again;
    }
