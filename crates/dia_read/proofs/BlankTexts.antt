-- The first fault of a text without any line with tokens.
use Rattle.std.proofs.Common.{◌≡◌, ℕ, true, false, List, [], ◌∷◌, slice_get, Some, refl, sym, ap, subst, ◌∙◌}
use Rattle.std.specs.List.{list_all}
use Rattle.std.proofs.lemmas.Bool.{and_parts}
use Rattle.dia_tokens.specs.declared.line.LineFail.TheVariants as line_fail
use Rattle.dia_tokens.specs.Blanks.{is_blank_line}
use Rattle.dia_tokens.specs.Kinds.{is_allowed}
use Rattle.dia_tokens.specs.Line.{a_bad_byte}
use Rattle.dia_tokens.specs.Values.{none}
use Rattle.dia_tokens.proofs.BlankLaws.{blank-lexes}
use Rattle.dia_lines.specs.declared.fault.ReadCode.{ReadCode}
use Rattle.dia_lines.specs.declared.fault.ReadCode.TheVariants.{BadByte, MissingHeader}
use Rattle.dia_lines.specs.declared.place.Place.TheVariants.{Header}
use Rattle.dia_lines.specs.Statements.{nothing, a_blank_line}
use Rattle.dia_lines.specs.Lines.{says, Reads, of_the_diagram, of_the_text, in_the_diagram}
use Rattle.dia_lines.specs.Text.{lines_of}
use Rattle.dia_lines.proofs.TextLaws.{lines_of-nil}
use Rattle.dia_read.specs.Documents.{no_line, a_line, IsFirstLine, is_blank_text, IsFirstFault, in_the_first_line, no_header}
use Rattle.dia_read.proofs.RunLaws.{no-fault-in-run}

-- a first line without tokens whose bytes are allowed says nothing
blank-reads : (line : List ℕ) → is_blank_line line ≡ true → list_all is_allowed line ≡ true → Reads [] line (says nothing)
blank-reads line blank allowed =
    of_the_diagram line nothing refl (record {
      tokens = [];
      spelled = record { texts = []; allowed = allowed; lexes = blank-lexes true line blank; values = none };
      faultless = refl;
      stands = record { form = a_blank_line; next = Header; stands = refl; known = refl };
      within = refl;
    })

no-first-fault : (line : List ℕ) (lines : List (List ℕ)) (code : ReadCode) → is_blank_line line ≡ true → list_all is_allowed line ≡ true → IsFirstLine (line ∷ lines) 0 code → ⊥
no-first-fault line lines code blank allowed first =
    no-fault-in-run (says nothing ∷ []) (line ∷ []) 0 code (a_line [] (says nothing ∷ []) line [] (says nothing) (blank-reads line blank allowed) (no_line (says nothing ∷ [])))
    (record { line = first.line; stands = first.stands; before = first.before; run = first.run; fault = first.fault })

pub empty-fault : (bytes : List ℕ) → bytes ≡ [] → is_blank_text bytes ≡ true → IsFirstFault bytes 1 MissingHeader
empty-fault bytes e blank = no_header blank (λ code first. absurd (let no : slice_get [] 0 ≡ Some first.line = subst (λ (ls : List (List ℕ)). slice_get ls 0 ≡ Some first.line) (ap lines_of e ∙ lines_of-nil) first.stands in cc))

module _ (bytes line : List ℕ) (rest : List (List ℕ)) (first : lines_of bytes ≡ line ∷ rest) (blank : is_blank_text bytes ≡ true) where
  first-blank : is_blank_line line ≡ true
  first-blank = (and_parts (is_blank_line line) (list_all is_blank_line rest) (ap (list_all is_blank_line) (sym first) ∙ blank)).0

  pub header-fault : list_all is_allowed line ≡ true → IsFirstFault bytes 1 MissingHeader
  header-fault allowed = no_header blank (λ code fault. no-first-fault line rest code first-blank allowed (subst (λ (ls : List (List ℕ)). IsFirstLine ls 0 code) first fault))

  pub byte-fault : list_all is_allowed line ≡ false → IsFirstFault bytes 1 BadByte
  byte-fault bad =
      in_the_first_line BadByte blank (subst (λ (ls : List (List ℕ)). IsFirstLine ls 0 BadByte) (sym first) (record {
        line = line;
        stands = refl;
        before = [];
        run = no_line [];
        fault = in_the_diagram BadByte refl (of_the_text BadByte (line_fail.BadByte, a_bad_byte line bad, refl));
      }))
