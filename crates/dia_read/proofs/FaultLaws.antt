-- A text that spells a document has no fault, and any other has one first fault at most.
use Rattle.std.proofs.Common.{◌≡◌, ℕ, ◌+◌, Bool, true, false, List, [], ◌∷◌, refl, sym, ap, subst, ◌∙◌}
use Rattle.std.specs.List.{list_all}
use Rattle.std.proofs.lemmas.Bool.{and_parts}
use Rattle.dia_tokens.specs.declared.token.Token.{Token}
use Rattle.dia_tokens.specs.Blanks.{is_blank_line}
use Rattle.dia_tokens.proofs.BlankLaws.{blank-texts}
use Rattle.dia_tokens.specs.Pieces.{Piece}
use Rattle.dia_tokens.specs.Values.{HaveValues, none, another}
use Rattle.dia_lines.specs.declared.fault.ReadCode.{ReadCode}
use Rattle.dia_lines.specs.declared.place.Place.TheVariants.{Header, Trace, Script, Ended}
use Rattle.dia_lines.specs.Statements.{nothing, IsStatement, a_blank_line}
use Rattle.dia_lines.specs.Lines.{Content, place_after, Reads, of_the_diagram, of_the_trace, of_the_script}
use Rattle.dia_lines.specs.Text.{lines_of}
use Rattle.dia_lines.proofs.FormLaws.{one-statement}
use Rattle.dia_read.specs.declared.document.Doc.{Doc}
use Rattle.dia_read.specs.Documents.{Run, no_line, a_line, Spells, IsFirstFault, at_a_line, in_the_first_line, no_header, no_end}
use Rattle.dia_read.proofs.RunLaws.{run-one, no-fault-in-run, one-first-line}

-- ---- blank lines

no-values : (ps : List Piece) (ts : List Token) → HaveValues ps ts → ps ≡ [] → ts ≡ []
no-values ps ts none e = refl
no-values ps ts (another p t qs us h d) e = absurd cc

blank-reads : (before : List Content) (line : List ℕ) (said : Content) → place_after before ≡ Header → is_blank_line line ≡ true → Reads before line said → place_after (said ∷ before) ≡ Header
blank-reads before line said here blank (of_the_diagram l s e x) =
    let texts : x.spelled.texts ≡ [] = blank-texts true l x.spelled.texts x.spelled.lexes blank in
    let tokens : x.tokens ≡ [] = no-values x.spelled.texts x.tokens x.spelled.values texts in
    let is : s ≡ nothing = one-statement [] s nothing (subst (λ ts. IsStatement ts s) tokens x.stands.form) a_blank_line in
    rw (is, here) refl
blank-reads before line said here blank (of_the_trace l s e x) = absurd (let n : Header ≡ Trace = sym here ∙ e in cc)
blank-reads before line said here blank (of_the_script l s e x) = absurd (let n : Header ≡ Script = sym here ∙ e in cc)

blank-run : (before after : List Content) (lines : List (List ℕ)) → Run before lines after → place_after before ≡ Header → list_all is_blank_line lines ≡ true → place_after after ≡ Header
blank-run before after lines (no_line b) here blank = here
blank-run before after lines (a_line b a line ls said r run) here blank =
    let each = and_parts (is_blank_line line) (list_all is_blank_line ls) blank in
    blank-run (said ∷ b) a ls run (blank-reads b line said here each.0 r) each.1

-- ---- faults

pub no-fault-of-a-document : (bytes : List ℕ) (doc : Doc) (line : ℕ) (code : ReadCode) → Spells bytes doc → IsFirstFault bytes line code → ⊥
no-fault-of-a-document bytes doc line code d (at_a_line i c e first) = no-fault-in-run d.said (lines_of bytes) i c d.run first
no-fault-of-a-document bytes doc line code d (in_the_first_line c e first) = no-fault-in-run d.said (lines_of bytes) 0 c d.run first
no-fault-of-a-document bytes doc line code d (no_header e n) =
    let here : place_after d.said ≡ Header = blank-run [] d.said (lines_of bytes) d.run refl e in
    let no : Header ≡ Ended = sym here ∙ d.ended in cc
no-fault-of-a-document bytes doc line code d (no_end said e run n) = n (ap place_after (run-one [] said d.said (lines_of bytes) run d.run) ∙ d.ended)

not-both : {b : Bool} → b ≡ true → b ≡ false → ⊥
not-both {b} e f = let n : true ≡ false = sym e ∙ f in cc

pub one-first-fault : (bytes : List ℕ) (l m : ℕ) (c d : ReadCode) → IsFirstFault bytes l c → IsFirstFault bytes m d → (l ≡ m) × (c ≡ d)
one-first-fault bytes l m c d (at_a_line i _ e first) (at_a_line j _ f other) =
    let same = one-first-line (lines_of bytes) i j c d first other in
    (ap (λ (k : ℕ). k + 1) same.0, same.1)
one-first-fault bytes l m c d (at_a_line i _ e first) (in_the_first_line _ f other) = absurd (not-both f e)
one-first-fault bytes l m c d (at_a_line i _ e first) (no_header f n) = absurd (not-both f e)
one-first-fault bytes l m c d (at_a_line i _ e first) (no_end said f run n) = absurd (no-fault-in-run said (lines_of bytes) i c run first)
one-first-fault bytes l m c d (in_the_first_line _ e first) (at_a_line j _ f other) = absurd (not-both e f)
one-first-fault bytes l m c d (in_the_first_line _ e first) (in_the_first_line _ f other) = (refl, (one-first-line (lines_of bytes) 0 0 c d first other).1)
one-first-fault bytes l m c d (in_the_first_line _ e first) (no_header f n) = absurd (n c first)
one-first-fault bytes l m c d (in_the_first_line _ e first) (no_end said f run n) = absurd (not-both e f)
one-first-fault bytes l m c d (no_header e n) (at_a_line j _ f other) = absurd (not-both e f)
one-first-fault bytes l m c d (no_header e n) (in_the_first_line _ f other) = absurd (n d other)
one-first-fault bytes l m c d (no_header e n) (no_header f o) = (refl, refl)
one-first-fault bytes l m c d (no_header e n) (no_end said f run o) = absurd (not-both e f)
one-first-fault bytes l m c d (no_end said e run n) (at_a_line j _ f other) = absurd (no-fault-in-run said (lines_of bytes) j d run other)
one-first-fault bytes l m c d (no_end said e run n) (in_the_first_line _ f other) = absurd (not-both f e)
one-first-fault bytes l m c d (no_end said e run n) (no_header f o) = absurd (not-both f e)
one-first-fault bytes l m c d (no_end said e run n) (no_end said' f run' o) = (refl, refl)
