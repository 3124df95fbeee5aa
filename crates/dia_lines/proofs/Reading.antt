-- What is read of a line is what it says.
use Rattle.std.proofs.Common.{◌≡◌, ℕ, true, false, List, [], ◌∷◌, Some, None, Result, Ok, Err, IfOk, IfErr, refl, sym, ap, subst, ◌∙◌}
use Rattle.std.specs.Prelude.{codes}
use Rattle.std.specs.List.{list_all}
use Rattle.dia_tokens.specs.declared.token.Token.{Token}
use Rattle.dia_tokens.specs.declared.token.Keyword.TheVariants as keyword
use Rattle.dia_tokens.specs.Line.{Spells as SpellsTokens, Refuses as RefusesTokens}
use Rattle.dia_tokens.specs.Spelling.{IsSpelling}
use Rattle.dia_tokens.specs.declared.line.LineFail.{LineFail}
use Rattle.dia_tokens.specs.declared.line.LineFail.TheVariants as text_fail
use Rattle.dia_tokens.proofs.KeywordsAlone.{nothing-spelled, keyword-spelled, spells-nothing, spells-keyword}
use Rattle.dia_exprs.specs.Answers.{SpellsNone}
use Rattle.dia_exprs.specs.declared.fail.ExpressionFail.{ExpressionFail}
use Rattle.dia_exprs.specs.declared.fail.ExpressionFail.TheVariants as of_expression
use Rattle.dia_lines.specs.declared.item.Line.{Line}
use Rattle.dia_lines.specs.declared.item.Line.TheVariants as line
use Rattle.dia_lines.specs.declared.fault.Limit.{Limit}
use Rattle.dia_lines.specs.declared.fault.Limit.TheVariants.{Number}
use Rattle.dia_lines.specs.declared.fault.LineError.{LineError}
use Rattle.dia_lines.specs.declared.fault.LineError.TheVariants.{Refused, NoMemory}
use Rattle.dia_lines.specs.declared.fault.ReadCode.{ReadCode}
use Rattle.dia_lines.specs.declared.fault.ReadCode.TheVariants.{BadByte, BadToken, BadLine, LimitHit}
use Rattle.dia_lines.specs.declared.place.Place.{Place}
use Rattle.dia_lines.specs.declared.place.Place.TheVariants.{Trace, Script, Ended}
use Rattle.dia_lines.specs.declared.position.Counts.{Counts}
use Rattle.dia_lines.specs.declared.position.Position.{Position}
use Rattle.dia_lines.specs.Answers.{error_of_text, error_of_expression, Refuses, RefusesText, RefusesInDiagram, RefusesStatement, RefusesExpression}
use Rattle.dia_lines.specs.Counting.{Counted, with_line}
use Rattle.dia_lines.specs.Limits.{numbers_fit}
use Rattle.dia_lines.specs.Positions.{AreCounts, IsAfter}
use Rattle.dia_lines.specs.Statements.{Statement, nothing, header, script, done}
use Rattle.dia_lines.specs.Lines.{Content, says, step, place_after, version_after, statements, keeps_lines, token_fault, limit_fault, MayStand, SaysStatement, SaysInTrace, an_empty_row, trace_ends, script_begins, a_row, SaysInScript, no_step, script_ends, a_step, Reads, of_the_diagram, of_the_trace, of_the_script, HasDiagramFault, of_the_text, of_the_tokens, no_statement, past_a_limit, HasFault, in_the_diagram, in_the_trace, in_the_script}
use Rattle.dia_lines.specs.Places.{leads}
use Rattle.dia_lines.specs.Sections.{is_trace_byte}
use Rattle.dia_lines.proofs.CountLaws.{counted-line}
use Rattle.dia_lines.proofs.PlaceLaws.{leads-line}
use Rattle.dia_lines.specs.Held.{IsHeld, IsKept}
use Rattle.dia_lines.specs.Moves.{kept_in_trace, place_after_line, version_after_line}
use Rattle.dia_lines.specs.declared.trace.TraceLine.{TraceLine}
use Rattle.dia_lines.specs.declared.trace.TraceLine.TheVariants as trace_line

-- ---- refusals of other types

pub text-error : (text : List ℕ) (fail : LineFail) → RefusesTokens text fail → RefusesText text (error_of_text fail)
text-error text text_fail.BadByte r = (text_fail.BadByte, r, refl)
text-error text text_fail.BadToken r = (text_fail.BadToken, r, refl)
text-error text text_fail.NumberTooWide r = (text_fail.NumberTooWide, r, refl)
text-error text text_fail.NameTooLong r = (text_fail.NameTooLong, r, refl)
text-error text text_fail.NoMemory r = tt

pub byte-error : {A : Type 0} (r : Result A LineError) (fail : LineFail) (e : LineError) → r ≡ Err e → e ≡ error_of_text fail → fail ≡ text_fail.BadByte → r ≡ Err (Refused BadByte)
byte-error r fail e is told same = is ∙ ap (λ (x : LineError). Err x) (told ∙ ap error_of_text same)

pub token-error : {A : Type 0} (r : Result A LineError) (fail : LineFail) (e : LineError) → r ≡ Err e → e ≡ error_of_text fail → fail ≡ text_fail.BadToken → r ≡ Err (Refused BadToken)
token-error r fail e is told same = is ∙ ap (λ (x : LineError). Err x) (told ∙ ap error_of_text same)

pub expression-error : (ts : List Token) (fail : ExpressionFail) → (fail ≡ of_expression.NoExpression → SpellsNone ts) → RefusesExpression ts (error_of_expression fail)
expression-error ts of_expression.NoExpression none = none refl
expression-error ts of_expression.NoMemory none = tt

-- ---- lines of the script section

module _ (text kept : List ℕ) (ts : List Token) (spelled : SpellsTokens text ts) (spelling : IsSpelling text kept) where
  pub script-nothing : kept ≡ [] → SaysInScript text (says nothing)
  script-nothing e = no_step text (subst (SpellsTokens text) (spells-nothing text kept ts spelled spelling e) spelled)

  pub script-done : kept ≡ codes "done" → SaysInScript text (says done)
  script-done e = script_ends text (subst (SpellsTokens text) (spells-keyword keyword.Done text kept ts spelled spelling e) spelled)

  pub script-step : (kept ≡ [] → ⊥) → (kept ≡ codes "done" → ⊥) → SaysInScript text (step kept)
  script-step some no_end =
      a_step text kept ts spelled
      (λ e. some (nothing-spelled text kept (subst (SpellsTokens text) e spelled) spelling))
      (λ e. no_end (keyword-spelled keyword.Done text kept (subst (SpellsTokens text) e spelled) spelling))
      spelling

-- ---- lines of the diagram

module _ (before : List Content) (position : Position) (after : IsAfter before position) (text : List ℕ) (ts : List Token) (spelled : SpellsTokens text ts) where
  -- if the tokens have no fault except in their form
  module _ (free : token_fault position.place ts ≡ None) where
    faultless : token_fault (place_after before) ts ≡ None
    faultless = rw (← after.place) free

    -- a statement that may stand at the position may stand after the lines, and none other
    there : (s : Statement) → MayStand position.version position.place ts s → MayStand (version_after before) (place_after before) ts s
    there s m = rw (← after.version, ← after.place) m

    back : (s : Statement) → MayStand (version_after before) (place_after before) ts s → MayStand position.version position.place ts s
    back s m = rw (after.version, after.place) m

    pub diagram-found : (l : Line) (counts : Counts) → (s : Statement) × MayStand position.version position.place ts s × (numbers_fit s ≡ true) × IsKept s l → with_line position.counts l ≡ Ok counts
        → (s : Statement) × SaysStatement before text s × IsKept s l × AreCounts (s ∷ statements before) counts
    diagram-found l counts (s, stands, fits, kept) counted =
        let answer : Counted (statements before) s (Ok counts) = subst (Counted (statements before) s) counted (counted-line (statements before) s l position.counts after.counts kept) in
        let within : limit_fault (statements before) s ≡ None = rw (fits, answer.0) refl in
        (s, record { tokens = ts; spelled = spelled; faultless = faultless; stands = there s stands; within = within }, kept, answer.1)

    pub diagram-passed : (l : Line) (limit : Limit) → (s : Statement) × MayStand position.version position.place ts s × (numbers_fit s ≡ true) × IsKept s l → with_line position.counts l ≡ Err limit
        → HasDiagramFault before text (LimitHit limit)
    diagram-passed l limit (s, stands, fits, kept) counted =
        let passed : Counted (statements before) s (Err limit) = subst (Counted (statements before) s) counted (counted-line (statements before) s l position.counts after.counts kept) in
        let past : limit_fault (statements before) s ≡ Some (LimitHit limit) = rw (fits, passed) refl in
        past_a_limit ts s (LimitHit limit) spelled faultless (there s stands) past

    pub diagram-refused : (e : LineError) → RefusesStatement position.version position.place ts e → RefusesInDiagram before text e
    diagram-refused NoMemory r = tt
    diagram-refused (Refused BadLine) r = no_statement ts spelled faultless (λ s stands. r s (back s stands))
    diagram-refused (Refused (LimitHit Number)) (s, stands, over) =
        let past : limit_fault (statements before) s ≡ Some (LimitHit Number) = rw over refl in
        past_a_limit ts s (LimitHit Number) spelled faultless (there s stands) past
    diagram-refused (Refused _) r = absurd r

  pub diagram-faulty : (code : ReadCode) → token_fault position.place ts ≡ Some code → HasDiagramFault before text code
  diagram-faulty code f = of_the_tokens ts code spelled (rw (← after.place) f)

pub text-refused : (before : List Content) (text : List ℕ) (e : LineError) → RefusesText text e → RefusesInDiagram before text e
text-refused before text NoMemory r = tt
text-refused before text (Refused code) r = of_the_text code r

-- ---- any line

-- the header alone names a version
version-kept : (before : List Content) (said : Content) (l : Line) → IsHeld said l → version_after_line (version_after before) l ≡ version_after (said ∷ before)
version-kept before (says (header v)) (line.Header w) k = sym k
version-kept before (says (header v)) l k = absurd k
version-kept before said (line.Header w) k = absurd k
version-kept before said l k = refl

-- no line of the trace section names one
pub trace-version : (l : TraceLine) (version : ℕ) → version ≡ version_after_line version (kept_in_trace l)
trace-version trace_line.Blank version = refl
trace-version trace_line.Row version = refl
trace-version trace_line.Script version = refl
trace-version trace_line.Done version = refl

-- a statement that passes no count leaves the counts
kept-counts : (before : List Content) (s : Statement) (l : Line) (counts : Counts) → AreCounts (statements before) counts → IsKept s l → with_line counts l ≡ Ok counts → AreCounts (s ∷ statements before) counts
kept-counts before s l counts a k e = (subst (Counted (statements before) s) e (counted-line (statements before) s l counts a k)).1

counts-in-trace : (before : List Content) (text : List ℕ) (said : Content) (counts : Counts) → AreCounts (statements before) counts → SaysInTrace text said → AreCounts (statements (said ∷ before)) counts
counts-in-trace before text said counts a (an_empty_row t e) = kept-counts before nothing line.Nothing counts a tt refl
counts-in-trace before text said counts a (trace_ends t e) = kept-counts before done line.Done counts a tt refl
counts-in-trace before text said counts a (script_begins t e) = kept-counts before script line.Script counts a tt refl
counts-in-trace before text said counts a (a_row t e k) = a

counts-in-script : (before : List Content) (text : List ℕ) (said : Content) (counts : Counts) → AreCounts (statements before) counts → SaysInScript text said → AreCounts (statements (said ∷ before)) counts
counts-in-script before text said counts a (no_step t e) = kept-counts before nothing line.Nothing counts a tt refl
counts-in-script before text said counts a (script_ends t e) = kept-counts before done line.Done counts a tt refl
counts-in-script before text said counts a (a_step t k ts s n o h) = a

module _ (before : List Content) (position : Position) (after : IsAfter before position) (text : List ℕ) where
  pub trace-found : (l : Line) → position.place ≡ Trace → (said : Content) × SaysInTrace text said × IsHeld said l
      → (said : Content) × Reads before text said × IsHeld said l × AreCounts (statements (said ∷ before)) position.counts
  trace-found l here (said, says_so, held) = (said, of_the_trace text said (sym after.place ∙ here) says_so, held, counts-in-trace before text said position.counts after.counts says_so)

  pub script-found : (l : Line) → position.place ≡ Script → (said : Content) × SaysInScript text said × IsHeld said l
      → (said : Content) × Reads before text said × IsHeld said l × AreCounts (statements (said ∷ before)) position.counts
  script-found l here (said, says_so, held) = (said, of_the_script text said (sym after.place ∙ here) says_so, held, counts-in-script before text said position.counts after.counts says_so)

  in-the-diagram : (position.place ≡ Trace → ⊥) → (position.place ≡ Script → ⊥) → keeps_lines (place_after before) ≡ false
  in-the-diagram no_trace no_script = rw (← after.place) (other position.place no_trace no_script)
    where
      other : (p : Place) → (p ≡ Trace → ⊥) → (p ≡ Script → ⊥) → keeps_lines p ≡ false
      other Trace n m = absurd (n refl)
      other Script n m = absurd (m refl)
      other p n m = refl

  pub line-found : (r : Result (Line × Counts) LineError) → (position.place ≡ Trace → ⊥) → (position.place ≡ Script → ⊥)
      → IfOk r (λ r. (s : Statement) × SaysStatement before text s × IsKept s r.0 × AreCounts (s ∷ statements before) r.1)
      → IfOk r (λ r. (said : Content) × Reads before text said × IsHeld said r.0 × AreCounts (statements (said ∷ before)) r.1)
  line-found (Ok r) no_trace no_script (s, says_so, kept, counts) = (says s, of_the_diagram text s (in-the-diagram no_trace no_script) says_so, kept, counts)
  line-found (Err e) no_trace no_script found = tt

  pub line-refused : (r : Result (Line × Counts) LineError) → (position.place ≡ Trace → ⊥) → (position.place ≡ Script → ⊥)
      → IfErr r (λ e. RefusesInDiagram before text e) → IfErr r (λ e. Refuses before text e)
  line-refused (Ok r) no_trace no_script fault = tt
  line-refused (Err NoMemory) no_trace no_script fault = tt
  line-refused (Err (Refused code)) no_trace no_script fault = in_the_diagram code (in-the-diagram no_trace no_script) fault

  pub script-refused : (e : LineError) → position.place ≡ Script → RefusesText text e → Refuses before text e
  script-refused NoMemory here r = tt
  script-refused (Refused code) here r = in_the_script code (sym after.place ∙ here) r

  pub trace-refused : (code : ReadCode) → position.place ≡ Trace → (code ≡ BadByte) × (list_all is_trace_byte text ≡ false) → HasFault before text code
  trace-refused code here (is, bad) = rw is (in_the_trace (sym after.place ∙ here) bad)

  -- the version and the place after a line that was read
  pub after-found : (l : Line) (counts : Counts) (version : ℕ) (place : Place) → version ≡ version_after_line position.version l → place ≡ place_after_line position.place l
      → (said : Content) × Reads before text said × IsHeld said l × AreCounts (statements (said ∷ before)) counts
      → (said : Content) × Reads before text said × IsHeld said l × IsAfter (said ∷ before) (record { version = version; place = place; counts = counts })
  after-found l counts version place named is (said, reads, held, right) =
      (said, reads, held, record { version = named ∙ ap (λ (v : ℕ). version_after_line v l) after.version ∙ version-kept before said l held; place = is ∙ led said l reads held; counts = right })
    where
      kept : (s : Statement) (l : Line) (q : Place) → leads (place_after before) s ≡ Some q → IsKept s l → place_after_line position.place l ≡ place_after (says s ∷ before)
      kept s l q e k = rw (e, after.place) (sym (leads-line (place_after before) q s l e k))

      led : (said : Content) (l : Line) → Reads before text said → IsHeld said l → place_after_line position.place l ≡ place_after (said ∷ before)
      led said l (of_the_diagram t s e says_so) k = kept s l says_so.stands.next says_so.stands.stands k
      led said l (of_the_trace t s here (an_empty_row u e)) k = kept nothing l Trace (rw here refl) k
      led said l (of_the_trace t s here (trace_ends u e)) k = kept done l Ended (rw here refl) k
      led said l (of_the_trace t s here (script_begins u e)) k = kept script l Script (rw here refl) k
      led said line.Row (of_the_trace t s here (a_row u e f)) k = after.place
      led said l (of_the_trace t s here (a_row u e f)) k = absurd k
      led said l (of_the_script t s here (no_step u e)) k = kept nothing l Script (rw here refl) k
      led said l (of_the_script t s here (script_ends u e)) k = kept done l Ended (rw here refl) k
      led said (line.Step kept) (of_the_script t s here (a_step u v ts e n o h)) k = after.place
      led said l (of_the_script t s here (a_step u v ts e n o h)) k = absurd k
