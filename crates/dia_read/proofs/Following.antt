-- Reading a text line by line, if each line is known.
use Rattle.std.proofs.Common.{◌≡◌, ℕ, ◌+◌, Bool, true, false, cond, List, [], ◌∷◌, ◌++◌, codes, length, filter, Some, None, refl, sym, ap, subst, ◌∙◌, arith, append_assoc, length-append}
use Rattle.std.specs.List.{list_all}
use Rattle.std.specs.Option.{option_map}
use Rattle.std.proofs.lemmas.Bool.{and_parts, and_from}
use Rattle.std.proofs.lemmas.Bool.Decides.{nat_tests}
use Rattle.dia_tokens.specs.declared.token.Token.{Token}
use Rattle.dia_tokens.specs.Kinds.{is_allowed}
use Rattle.dia_tokens.specs.Line.{Spells as SpellsTokens}
use Rattle.dia_tokens.specs.TokenText.{line_text}
use Rattle.dia_tokens.proofs.LineSpells.{line-spells, indented-spells}
use Rattle.dia_lines.specs.declared.fault.ReadCode.TheVariants.{LimitHit}
use Rattle.dia_lines.specs.declared.fault.Limit.TheVariants.{Number as NumberLimit}
use Rattle.dia_lines.specs.declared.item.Line.{Line}
use Rattle.dia_lines.specs.declared.item.Line.TheVariants as line
use Rattle.dia_lines.specs.declared.place.Place.{Place}
use Rattle.dia_lines.specs.declared.position.Position.{Position}
use Rattle.dia_lines.specs.Statements.{Statement}
use Rattle.dia_lines.specs.Places.{is_body, leads, is_of_version}
use Rattle.dia_lines.specs.Limits.{numbers_fit, is_input, is_event, is_task, is_read, is_out, of_this_task, passed_count}
use Rattle.dia_lines.specs.Lines.{Content, says, statements, place_after, version_after, keeps_lines, Reads, of_the_diagram}
use Rattle.dia_lines.specs.Held.{IsKept, IsHeld}
use Rattle.dia_lines.specs.Positions.{IsAfter}
use Rattle.dia_lines.specs.Sections.{is_trace_byte}
use Rattle.dia_lines.specs.Text.{is_inside}
use Rattle.dia_lines.proofs.TextLaws.{lines_of-line}
use Rattle.dia_print.proofs.ItemLaws.{IsLine}
use Rattle.dia_read.specs.declared.draft.Draft.{Draft}
use Rattle.dia_read.specs.Documents.{kept_text}
use Rattle.dia_read.specs.Drafts.{empty_draft, drafted}
use Rattle.dia_read.proofs.Holding.{version-said}
use Rattle.dia_read.proofs.Printing.{Prints, PrintsAll}
use Rattle.dia_read.proofs.Reaching.{Reached, reached-start, reached-more}

-- ---- bytes of a line

pub all-inside : (p : ℕ → Bool) → ((b : ℕ) → p b ≡ true → is_inside b ≡ true) → (text : List ℕ) → list_all p text ≡ true → list_all is_inside text ≡ true
all-inside p f [] h = refl
all-inside p f (b ∷ bs) h = let both = and_parts (p b) (list_all p bs) h in and_from _ _ (f b both.0) (all-inside p f bs both.1)

pub allowed-inside : (b : ℕ) → is_allowed b ≡ true → is_inside b ≡ true
allowed-inside b e = grind (arith, nat_tests)

row-inside : (b : ℕ) → is_trace_byte b ≡ true → is_inside b ≡ true
row-inside b e = grind (arith, nat_tests)

pub spelled-inside : (text : List ℕ) (ts : List Token) → SpellsTokens text ts → list_all is_inside text ≡ true
spelled-inside text ts s = all-inside is_allowed allowed-inside text s.allowed

pub trace-inside : (text : List ℕ) → list_all is_trace_byte text ≡ true → list_all is_inside text ≡ true
trace-inside text h = all-inside is_trace_byte row-inside text h

-- ---- a draft without the numbers of its lines

abbrev pub bare : Draft → Draft
bare d = record d { lines = empty_draft.lines }

bare-drafted : (d : Draft) (n : ℕ) (text : List ℕ) (l : Line) → bare (drafted d n text l) ≡ bare (drafted (bare d) 0 text l)
bare-drafted d n text line.Nothing = refl
bare-drafted d n text (line.Header v) = refl
bare-drafted d n text (line.Policy p) = refl
bare-drafted d n text (line.Until end) = refl
bare-drafted d n text (line.Decl x) = refl
bare-drafted d n text (line.Task t) = refl
bare-drafted d n text (line.Part p) = refl
bare-drafted d n text line.Trace = refl
bare-drafted d n text line.Script = refl
bare-drafted d n text line.Done = refl
bare-drafted d n text line.Row = refl
bare-drafted d n text (line.Step kept) = refl

abbrev pub position_at : List Content → Position
position_at before = record {
  version = version_after before;
  place = place_after before;
  counts = record {
    inputs = length (filter is_input (statements before));
    events = length (filter is_event (statements before));
    tasks = length (filter is_task (statements before));
    links = length (filter is_read (statements before));
    body = length (filter is_body (of_this_task (statements before)));
    reads = length (filter is_read (of_this_task (statements before)));
    outs = length (filter is_out (of_this_task (statements before)));
  };
}

pub after-there : (before : List Content) → IsAfter before (position_at before)
after-there before = record { version = refl; place = refl; counts = record { inputs = refl; events = refl; tasks = refl; links = refl; body = refl; reads = refl; outs = refl } }

-- ---- where a reader stands

-- the text was read up to the rest, its lines lead to the place, and they say this together
pub record At (bytes rest : List ℕ) (place : Place) (content : Draft) : Type 0 where
  pub number : ℕ
  pub position : Position
  pub draft : Draft
  pub reached : Reached bytes rest number position draft
  pub here : position.place ≡ place
  pub holds : bare draft ≡ content

pub at-start : (bytes : List ℕ) → At bytes bytes (place_after []) (bare empty_draft)
at-start bytes = record { number = 0; position = position_at []; draft = empty_draft; reached = reached-start bytes (position_at []) (after-there []); here = refl; holds = refl }

pub at-same : (bytes xs ys : List ℕ) (place : Place) (content : Draft) → xs ≡ ys → At bytes xs place content → At bytes ys place content
at-same bytes xs ys place content e at = subst (λ rest. At bytes rest place content) e at

-- after a line
pub next-line : (bytes text rest : List ℕ) (place q : Place) (content : Draft) (said : Content) (l : Line) → list_all is_inside text ≡ true → IsHeld said l
    → ((before : List Content) → place_after before ≡ place → place_after (said ∷ before) ≡ q)
    → ((before : List Content) (d : Draft) → place_after before ≡ place → version_after before ≡ content.version → bare d ≡ content → PrintsAll (statements before) d → Reads before text said)
    → At bytes (text ++ 10 ∷ rest) place content → At bytes rest q (bare (drafted content 0 (kept_text said) l))
next-line bytes text rest place q content said l inside held stands reads at =
    let r = at.reached in
    let there : place_after r.before ≡ place = sym r.after.place ∙ at.here in
    let named : version_after r.before ≡ content.version = version-said r.before ∙ r.holds.ends.version ∙ ap (λ (d : Draft). d.version) at.holds in
    let next = position_at (said ∷ r.before) in
    let size = length-append text (10 ∷ rest) in
    record {
      number = at.number + 1;
      position = next;
      draft = drafted at.draft (at.number + 1) (kept_text said) l;
      reached = reached-more bytes (text ++ 10 ∷ rest) at.number at.position at.draft r text rest (lines_of-line text rest inside) (omega (arith, size)) (omega (arith, size)) l next
          (said, reads r.before at.draft there named at.holds r.printing, held, after-there (said ∷ r.before));
      here = stands r.before there;
      holds = bare-drafted at.draft (at.number + 1) (kept_text said) l ∙ ap (λ (d : Draft). bare (drafted d 0 (kept_text said) l)) at.holds;
    }

-- no limit is passed
within-limits : (ss : List Statement) (s : Statement) → numbers_fit s ≡ true → passed_count ss s ≡ None → cond (numbers_fit s) (option_map LimitHit (passed_count ss s)) (Some (LimitHit NumberLimit)) ≡ None
within-limits ss s e f = rw (e, f) refl

-- after a line of the diagram
pub diagram-line : (bytes text rest : List ℕ) (place q : Place) (content : Draft) (ts : List Token) (s : Statement) (l : Line) → IsLine place ts s → SpellsTokens text ts
    → keeps_lines place ≡ false → leads place s ≡ Some q → is_of_version content.version s ≡ true → numbers_fit s ≡ true
    → ((ss : List Statement) (d : Draft) → bare d ≡ content → Prints ss d → passed_count ss s ≡ None) → IsKept s l
    → At bytes (text ++ 10 ∷ rest) place content → At bytes rest q (bare (drafted content 0 [] l))
diagram-line bytes text rest place q content ts s l is spelled diagram stands known numbers room kept at =
    next-line bytes text rest place q content (says s) l (spelled-inside text ts spelled) kept
    (λ before here. rw (here, stands) refl)
    (λ before d here named holds prints. of_the_diagram text s (rw here diagram) (record {
      tokens = ts;
      spelled = spelled;
      faultless = rw here is.faultless;
      stands = record { form = is.form; next = q; stands = rw here stands; known = rw named known };
      within = within-limits (statements before) s numbers (room (statements before) d holds prints.items);
    }))
    at

-- the same, if the line is that of its tokens
pub token-line : (bytes rest : List ℕ) (place q : Place) (content : Draft) (ts : List Token) (s : Statement) (l : Line) → IsLine place ts s
    → keeps_lines place ≡ false → leads place s ≡ Some q → is_of_version content.version s ≡ true → numbers_fit s ≡ true
    → ((ss : List Statement) (d : Draft) → bare d ≡ content → Prints ss d → passed_count ss s ≡ None) → IsKept s l
    → At bytes (line_text ts ++ 10 ∷ [] ++ rest) place content → At bytes rest q (bare (drafted content 0 [] l))
token-line bytes rest place q content ts s l is diagram stands known numbers room kept at =
    diagram-line bytes (line_text ts) rest place q content ts s l is (line-spells ts is.printable is.signs) diagram stands known numbers room kept
    (at-same bytes _ _ place content (append_assoc (line_text ts) (10 ∷ []) rest) at)

-- after two spaces
pub indented-line : (bytes rest : List ℕ) (place q : Place) (content : Draft) (ts : List Token) (s : Statement) (l : Line) → IsLine place ts s
    → keeps_lines place ≡ false → leads place s ≡ Some q → is_of_version content.version s ≡ true → numbers_fit s ≡ true
    → ((ss : List Statement) (d : Draft) → bare d ≡ content → Prints ss d → passed_count ss s ≡ None) → IsKept s l
    → At bytes (codes "  " ++ (line_text ts ++ 10 ∷ []) ++ rest) place content → At bytes rest q (bare (drafted content 0 [] l))
indented-line bytes rest place q content ts s l is diagram stands known numbers room kept at =
    diagram-line bytes (32 ∷ 32 ∷ line_text ts) rest place q content ts s l is (indented-spells ts is.printable is.signs) diagram stands known numbers room kept
    (at-same bytes _ _ place content (ap (λ (xs : List ℕ). 32 ∷ 32 ∷ xs) (append_assoc (line_text ts) (10 ∷ []) rest)) at)
