-- What `csv` reads in a text of the lines that a trace section keeps.
use Rattle.std.proofs.Common.{zero, suc, ◌+◌, ◌<◌, length, take, drop, get_or, arith, Bor, ◌≡◌, ◌≢◌, ℕ, ◌∷◌, [], ◌++◌, List, map, All, Some, None, true, false, refl, unwrap_or, sym, ap, ◌∙◌, inl, inr, append_assoc}
use Rattle.std.specs.Prelude.{◌==◌}
use Rattle.std.specs.List.{list_all, onto_first, slice_split}
use Rattle.std.proofs.lemmas.List.{append-nil, take-append-drop}
use Rattle.std.proofs.lemmas.List.Elements.{All-head, All-tail}
use Rattle.std.proofs.lemmas.Bool.{cases_Bool, and_parts, both_ways, eqb-true}
use Rattle.csv.specs.Machine.{Read, next_record}
use Rattle.csv.specs.Reading.{ReadRecord, Reached, default_config, source_of, strip_bom}
use Rattle.csv.specs.Records.{trimmed}
use Rattle.csv.specs.declared.parser.State.{State}
use Rattle.csv.specs.declared.reader.Reader.{Reader}
use Rattle.csv.specs.declared.parser.State.TheVariants as st
use Rattle.csv.proofs.ReadFacts.{rows-more}
use Rattle.csv.proofs.RoundTrip.{record-same, start-same}
use Rattle.dia_lines.specs.Sections.{is_space, is_trace_byte}
use Rattle.dia_lines.specs.Lines.{row, SaysInTrace, a_row}
use Rattle.dia_lines.specs.Text.{lines_of}
use Rattle.dia_lines.proofs.TextLaws.{lines_of-nil, lines_of-line}
use Rattle.dia_read.specs.Printable.{KeepsItself, ended_lines}
use Rattle.dia_lines.proofs.TraceLaws.{all_allowed}
use Rattle.dia_read.proofs.Following.{trace-inside}
use Rattle.trace_rows.specs.Records.{cells_of, records_of}

-- ---- a kept line

abbrev IsKept : List ℕ → Type 0
IsKept line = SaysInTrace line (row line)

some-kept : (line kept : List ℕ) → SaysInTrace line (row kept) → line ≢ []
some-kept line kept (a_row l h k) e = both_ways _ k.full (ap (list_all is_space) e)

-- a byte that passes isn't one that doesn't
other-byte : (x b : ℕ) → is_trace_byte x ≡ false → is_trace_byte b ≡ true → (b == x) ≡ false
other-byte x b none h =
    elim (cases_Bool (b == x)) [
      | inl y ↦ absurd (both_ways (is_trace_byte x) none (sym (ap is_trace_byte (eqb-true b x y)) ∙ h))
      | inr n ↦ n
    ]

-- the text has the lines that it is made of
pub lines-back : (lines : List (List ℕ)) → All (λ line. SaysInTrace line (row line)) lines → lines_of (ended_lines lines) ≡ lines
lines-back [] kept = lines_of-nil
lines-back (line ∷ lines) kept =
    lines_of-line line (ended_lines lines) (trace-inside line (all_allowed line (row line) (All-head IsKept line lines kept)))
    ∙ ap (λ (ls : List (List ℕ)). line ∷ ls) (lines-back lines (All-tail IsKept line lines kept))

-- ---- its record

abbrev parts : List ℕ → List (List ℕ)
parts line = slice_split (λ b. b == 44) line

-- a field put before the first part
abbrev before_first : List ℕ → List (List ℕ) → List (List ℕ)
before_first field [] = field ∷ []
before_first field (part ∷ parts) = (field ++ part) ∷ parts

one-more : (field : List ℕ) (b : ℕ) (cut : List (List ℕ)) → before_first (field ++ b ∷ []) cut ≡ before_first field (onto_first b cut)
one-more field b [] = refl
one-more field b (part ∷ parts) = ap (λ (p : List ℕ). p ∷ parts) (append_assoc field (b ∷ []) part)

no-more : (line : List ℕ) → before_first [] (parts line) ≡ parts line
no-more [] = refl
no-more (b ∷ line) = elim (cases_Bool (b == 44)) [ inl comma ↦ rw comma refl | inr other ↦ rw other (by (parts line)) ]
  where
    by : (cut : List (List ℕ)) → before_first [] (onto_first b cut) ≡ onto_first b cut
    by [] = refl
    by (part ∷ parts) = refl

end-run : (fields : List (List ℕ)) (field rest : List ℕ) → next_record default_config st.InField fields field (10 ∷ rest) ≡ Some (fields ++ (field ∷ []), st.StartRecord, rest)
unfolding next_record
end-run fields field rest = refl

comma-run : (fields : List (List ℕ)) (field tail : List ℕ) → next_record default_config st.InField fields field (44 ∷ tail) ≡ next_record default_config st.StartField (fields ++ (field ∷ [])) [] tail
unfolding next_record
comma-run fields field tail = refl

byte-run : (fields : List (List ℕ)) (field : List ℕ) (b : ℕ) (tail : List ℕ) → (b == 44) ≡ false → (b == 13) ≡ false → (b == 10) ≡ false
    → next_record default_config st.InField fields field (b ∷ tail) ≡ next_record default_config st.InField fields (field ++ b ∷ []) tail
unfolding next_record
byte-run fields field b tail comma return feed = rw (comma, return, feed) refl

-- after a comma a field starts, and it starts as a field goes on
start-run : (fields : List (List ℕ)) (line rest : List ℕ) → list_all is_trace_byte line ≡ true
    → next_record default_config st.StartField fields [] (line ++ 10 ∷ rest) ≡ next_record default_config st.InField fields [] (line ++ 10 ∷ rest)
start-run fields [] rest kept = start-same fields [] 10 rest refl
start-run fields (b ∷ line) rest kept = start-same fields [] b (line ++ 10 ∷ rest) (other-byte 34 b refl (and_parts (is_trace_byte b) (list_all is_trace_byte line) kept).0)

line-run : (fields : List (List ℕ)) (field line rest : List ℕ) → list_all is_trace_byte line ≡ true
    → next_record default_config st.InField fields field (line ++ 10 ∷ rest) ≡ Some (fields ++ before_first field (parts line), st.StartRecord, rest)
line-run fields field [] rest kept = rw (append-nil field) (end-run fields field rest)
line-run fields field (b ∷ line) rest kept =
    let both = and_parts (is_trace_byte b) (list_all is_trace_byte line) kept in
    elim (cases_Bool (b == 44)) [
      | inl comma ↦
          let same : b ≡ 44 = eqb-true b 44 comma in
          let more = start-run (fields ++ (field ∷ [])) line rest both.1 ∙ line-run (fields ++ (field ∷ [])) [] line rest both.1 in
          rw comma (rw same (comma-run fields field (line ++ 10 ∷ rest) ∙ more
          ∙ rw (no-more line, append_assoc fields (field ∷ []) (parts line), append-nil field) refl))
      | inr other ↦
          rw other (byte-run fields field b (line ++ 10 ∷ rest) other (other-byte 13 b refl both.0) (other-byte 10 b refl both.0)
          ∙ line-run fields (field ++ b ∷ []) line rest both.1
          ∙ rw (one-more field b (parts line)) refl)
    ]

-- the next record of the text is its first line, cut at its commas
first-line : (line rest : List ℕ) → list_all is_trace_byte line ≡ true → line ≢ [] → next_record default_config st.StartRecord [] [] (line ++ 10 ∷ rest) ≡ Some (parts line, st.StartRecord, rest)
first-line [] rest kept some = absurd (some refl)
first-line (b ∷ line) rest kept some =
    let here = (and_parts (is_trace_byte b) (list_all is_trace_byte line) kept).0 in
    record-same [] [] b (line ++ 10 ∷ rest) (other-byte 13 b refl here) (other-byte 10 b refl here)
    ∙ start-same [] [] b (line ++ 10 ∷ rest) (other-byte 34 b refl here)
    ∙ line-run [] [] (b ∷ line) rest kept
    ∙ rw (no-more (b ∷ line)) refl

line-record : (line rest : List ℕ) → IsKept line → next_record default_config st.StartRecord [] [] (line ++ 10 ∷ rest) ≡ Some (parts line, st.StartRecord, rest)
line-record line rest kept = first-line line rest (all_allowed line (row line) kept) (some-kept line line kept)

-- ---- the next record of the text

nothing-left : next_record default_config st.StartRecord [] [] [] ≡ None
unfolding next_record
nothing-left = refl

some-injective : {X : Type 0} {x y : X} → Some x ≡ Some y → x ≡ y
some-injective {x = x} e = ap (λ o. unwrap_or o x) e

-- no byte of the text is one of a byte order mark
no-mark : (line rest : List ℕ) → list_all is_trace_byte line ≡ true → line ≢ [] → strip_bom (line ++ 10 ∷ rest) ≡ line ++ 10 ∷ rest
unfolding strip_bom
no-mark [] rest kept some = absurd (some refl)
no-mark (a ∷ []) [] kept some = refl
no-mark (a ∷ []) (c ∷ rest) kept some = rw (other-byte 239 a refl (and_parts (is_trace_byte a) true kept).0) refl
no-mark (a ∷ b ∷ []) rest kept some = rw (other-byte 239 a refl (and_parts (is_trace_byte a) (list_all is_trace_byte (b ∷ [])) kept).0) refl
no-mark (a ∷ b ∷ c ∷ line) rest kept some = rw (other-byte 239 a refl (and_parts (is_trace_byte a) (list_all is_trace_byte (b ∷ c ∷ line)) kept).0) refl

no-bom : (lines : List (List ℕ)) → All IsKept lines → strip_bom (ended_lines lines) ≡ ended_lines lines
unfolding strip_bom
no-bom [] kept = refl
no-bom (line ∷ lines) kept =
    let first = All-head IsKept line lines kept in
    no-mark line (ended_lines lines) (all_allowed line (row line) first) (some-kept line line first)

-- a byte order mark at the start of the text would be passed over; it has none
pub whole-text : (text : List ℕ) → KeepsItself SaysInTrace row text → strip_bom text ≡ text
whole-text text (lines, is, kept) = rw is (no-bom lines kept)

-- a read that finds a record takes the first line, and leaves the others
line-taken : (text : List ℕ) → KeepsItself SaysInTrace row text → (fields : List (List ℕ)) (end : State) (left : List ℕ)
    → Reached default_config st.StartRecord text (fields ∷ []) end left
    → KeepsItself SaysInTrace row left × (end ≡ st.StartRecord) × (map cells_of (lines_of text) ≡ map trimmed fields ∷ map cells_of (lines_of left))
unfolding Reached
line-taken text ([], is, kept) fields end left reached = cc (nothing-left, rw is at reached.1)
line-taken text (line ∷ lines, is, kept) fields end left reached =
    let rest : All IsKept lines = All-tail IsKept line lines kept in
    let same : Some reached.0 ≡ Some (parts line, st.StartRecord, ended_lines lines) =
    sym (rw is at reached.1) ∙ line-record line (ended_lines lines) (All-head IsKept line lines kept) in
    let taken = some-injective same in
    let after : left ≡ ended_lines lines = sym reached.3.1 ∙ ap (λ (p : Read). p.2) taken in (
      (lines, after, rest),
      sym reached.3.0 ∙ ap (λ (p : Read). p.1) taken,
      rw (is, lines-back (line ∷ lines) kept, after, lines-back lines rest, reached.2, taken) refl,
    )

-- the same of a reader
pub record-read : (old new : Reader (Bor (List ℕ))) (fields : List (List ℕ)) (text : List ℕ) → old.config ≡ default_config → old.state ≡ st.StartRecord
    → source_of (λ s. Some s.now) old ≡ Some text → KeepsItself SaysInTrace row text → ReadRecord (λ s. Some s.now) old new true fields
    → (left : List ℕ) × (source_of (λ s. Some s.now) new ≡ Some left) × KeepsItself SaysInTrace row left × (new.state ≡ st.StartRecord)
    × (records_of (source_of (λ s. Some s.now) old) ≡ map trimmed fields ∷ records_of (source_of (λ s. Some s.now) new))
unfolding Reached
record-read old new fields text config state left kept read =
    let more = rows-more (λ (s : Bor (List ℕ)). Some s.now) old new fields default_config st.StartRecord text text [] config left (sym state, refl) read in
    let taken = line-taken text kept fields new.state more.0 more.2 in
    let cut = ap records_of left ∙ taken.2 ∙ ap (λ bytes. map trimmed fields ∷ records_of bytes) (sym more.1) in
    (more.0, more.1, taken.0, taken.1, cut)

-- a read that finds no record has no line left
pub no-line-left : (text : List ℕ) → KeepsItself SaysInTrace row text → next_record default_config st.StartRecord [] [] text ≡ None → map cells_of (lines_of text) ≡ []
no-line-left text ([], is, kept) none = rw (is, lines_of-nil) refl
no-line-left text (line ∷ lines, is, kept) none = cc (line-record line (ended_lines lines) (All-head IsKept line lines kept), is, none)

-- ---- the records that are left of others

-- the first of those that are left stands at the place of the first of them
pub first-left : {A : Type 0} (xs : List A) (k : ℕ) (x : A) (left : List A) → drop k xs ≡ x ∷ left → (k < length xs) × (x ≡ get_or xs k x) × (drop (k + 1) xs ≡ left)
first-left [] zero x left are = cc are
first-left (y ∷ xs) zero x left are = (omega arith, cc are, cc are)
first-left [] (suc k) x left are = cc are
first-left (y ∷ xs) (suc k) x left are =
    let at = first-left xs k x left are in
    let next : suc k + 1 ≡ suc (k + 1) = omega arith in
    (omega (arith, at.0), at.1, ap (λ j. drop j (y ∷ xs)) next ∙ at.2)

-- if none is left, those before them are all
pub none-left : {A : Type 0} (xs : List A) (k : ℕ) → drop k xs ≡ [] → take k xs ≡ xs
none-left xs k none = sym (append-nil (take k xs)) ∙ ap (λ ys. take k xs ++ ys) (sym none) ∙ take-append-drop k xs
