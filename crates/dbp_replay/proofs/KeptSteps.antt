-- The kept lines of a script section, and the steps that the first of them name.
use Rattle.std.proofs.Common.{◌≡◌, ℕ, ◌+◌, ◌<◌, ◌==◌, cond, All, List, [], ◌∷◌, ◌++◌, length, take, slice_get, Some, Ok, Err, refl, sym, ap, ◌∙◌, subst, arith, append_assoc}
use Rattle.std.specs.Prelude.{IfSome, Option}
use Rattle.std.proofs.lemmas.List.{append-nil, length-append, take-append-le, take_all}
use Rattle.std.proofs.lemmas.List.Sums.{sum_by-append}
use Rattle.std.proofs.lemmas.List.Elements.{All-append, All-head, All-nil, All-cons, All-tail}
use Rattle.dbp_rules.specs.declared.step.Step.{Step}
use Rattle.dbp_plan.specs.declared.diagram.Diagram.{Diagram}
use Rattle.dbp_plan.specs.ListItems.{all_place, after_place}
use Rattle.dia_tokens.specs.declared.token.Token.{Token}
use Rattle.dia_tokens.specs.Line.{Spells}
use Rattle.dia_tokens.proofs.SpellingLaws.{no-feed}
use Rattle.dia_lines.specs.Lines.{step, SaysInScript, a_step}
use Rattle.dia_tokens.specs.Kinds.{is_allowed}
use Rattle.dia_lines.specs.Text.{lines_of}
use Rattle.dia_lines.proofs.TextLaws.{lines_of-nil, lines_of-line}
use Rattle.dia_read.specs.declared.document.Doc.{Doc}
use Rattle.dia_read.specs.Documents.{none}
use Rattle.dia_read.specs.Printable.{HasItemLines, KeepsItself, ended_lines, line_count}
use Rattle.dia_read.proofs.Fitting.{fit-more}
use Rattle.dia_read.proofs.Paired.{feeds}
use Rattle.dia_read.proofs.Following.{all-inside, allowed-inside}
use Rattle.dbp_replay.specs.declared.fail.ScriptCode.{ScriptCode}
use Rattle.dbp_replay.specs.NamedItems.{IsThere}
use Rattle.dbp_replay.specs.Scripts.{IsFirstFault, IsScript, Name, Says}
use Rattle.dbp_replay.proofs.There.{step-there}

-- ---- kept lines

abbrev pub IsKept : List ℕ → Type 0
IsKept line = SaysInScript line (step line)

pub kept-tokens : (line kept : List ℕ) → SaysInScript line (step kept) → (ts : List Token) × Spells line ts
kept-tokens line kept (a_step l k ts s some other spelling) = (ts, s)

kept-feeds : (line kept : List ℕ) → SaysInScript line (step kept) → feeds kept ≡ 0
kept-feeds line kept (a_step l k ts s some other spelling) = no-feed l k ts s spelling

-- the text has the lines that it is made of
lines-back : (lines : List (List ℕ)) → All IsKept lines → lines_of (ended_lines lines) ≡ lines
lines-back [] kept = lines_of-nil
lines-back (line ∷ lines) kept =
    let first = kept-tokens line line (All-head IsKept line lines kept) in
    lines_of-line line (ended_lines lines) (all-inside is_allowed allowed-inside line first.1.allowed) ∙ ap (λ (ls : List (List ℕ)). line ∷ ls) (lines-back lines (All-tail IsKept line lines kept))

is_feed : ℕ → ℕ
is_feed b = cond (b == 10) 1 0

feeds-line : (line after : List ℕ) → IsKept line → feeds (line ++ 10 ∷ after) ≡ 1 + feeds after
unfolding is_feed
feeds-line line after kept = omega (arith, sum_by-append is_feed line (10 ∷ after), sum_by-append is_feed (10 ∷ []) after, kept-feeds line line kept)

ended-count : (lines : List (List ℕ)) → All IsKept lines → feeds (ended_lines lines) ≡ length lines
ended-count [] kept = refl
ended-count (line ∷ lines) kept =
    omega (arith, feeds-line line (ended_lines lines) (All-head IsKept line lines kept), ended-count lines (All-tail IsKept line lines kept))

section-count : (text : List ℕ) → KeepsItself SaysInScript step text → length (lines_of text) ≡ feeds text
section-count text (lines, is, kept) = rw is (ap (λ (ls : List (List ℕ)). length ls) (lines-back lines kept) ∙ sym (ended-count lines kept))

all-kept : (text : List ℕ) → KeepsItself SaysInScript step text → All IsKept (lines_of text)
all-kept text (lines, is, kept) = subst (All IsKept) (sym (ap lines_of is ∙ lines-back lines kept)) kept

pub section-kept : (doc : Doc) (text : List ℕ) → doc.body.script ≡ Some text → IfSome doc.body.script (KeepsItself SaysInScript step) → KeepsItself SaysInScript step text
section-kept doc text is kept = subst (λ (o : Option (List ℕ)). IfSome o (KeepsItself SaysInScript step)) is kept

-- ---- the steps so far

pub record NamedTo (d : Diagram) (text : List ℕ) (steps : List Step) (rest : List ℕ) : Type 0 where
  pub seen : List (List ℕ)
  pub split : lines_of text ≡ seen ++ lines_of rest
  pub named : Name d seen steps
  pub there : All (IsThere d) steps
  pub size : length seen ≡ length steps

pub named-none : (d : Diagram) (text : List ℕ) (steps : List Step) → steps ≡ [] → NamedTo d text steps text
named-none d text steps is = subst (λ (es : List Step). NamedTo d text es text) (sym is) (record {
  seen = [];
  split = refl;
  named = none;
  there = All-nil (IsThere d);
  size = refl;
})

says-there : (d : Diagram) (line : List ℕ) (e : Step) → Says d line (Ok e) → IsThere d e
says-there d line e says = step-there d says.tokens e says.says

module _ (d : Diagram) (text : List ℕ) (steps : List Step) (rest line after : List ℕ) (n : NamedTo d text steps rest) (first : lines_of rest ≡ line ∷ lines_of after) where
  later : lines_of text ≡ n.seen ++ line ∷ lines_of after
  later = n.split ∙ ap (λ (ls : List (List ℕ)). n.seen ++ ls) first

  stands : slice_get (lines_of text) (length n.seen) ≡ Some line
  stands = ap (λ (ls : List (List ℕ)). slice_get ls (length n.seen)) later
      ∙ ap (λ (k : ℕ). slice_get (n.seen ++ line ∷ lines_of after) k) (omega arith) ∙ after_place n.seen (line ∷ lines_of after) 0

  pub line-kept : KeepsItself SaysInScript step text → IsKept line
  line-kept kept = all_place IsKept (lines_of text) (length n.seen) line (all-kept text kept) stands

  -- the line has a number
  pub has-number : (doc : Doc) → HasItemLines doc → doc.body.script ≡ Some text → KeepsItself SaysInScript step text → length steps < length doc.lines.script
  has-number doc items is kept =
      let count : length doc.lines.script ≡ feeds text = items.script ∙ ap line_count is in
      let whole : length (lines_of text) ≡ length (n.seen ++ line ∷ lines_of after) = ap (λ (ls : List (List ℕ)). length ls) later in
      omega (arith, count, whole, section-count text kept, length-append n.seen (line ∷ lines_of after), n.size)

  pub named-more : (e : Step) → Says d line (Ok e) → NamedTo d text (steps ++ e ∷ []) after
  named-more e says = record {
    seen = n.seen ++ line ∷ [];
    split = later ∙ sym (append_assoc n.seen (line ∷ []) (lines_of after));
    named = fit-more (λ l e. Says d l (Ok e)) n.seen steps line e n.named says;
    there = All-append (IsThere d) steps (e ∷ []) n.there (All-cons (IsThere d) e [] (says-there d line e says) (All-nil (IsThere d)));
    size = omega (arith, length-append n.seen (line ∷ []), length-append steps (e ∷ []), n.size);
  }

  pub line-fault : (numbers : List ℕ) (at : ℕ) (code : ScriptCode) → slice_get numbers (length steps) ≡ Some at → Says d line (Err code) → IsFirstFault d (lines_of text) numbers at code
  line-fault numbers at code number says =
      let front : take (length n.seen) (lines_of text) ≡ n.seen =
      ap (take (length n.seen)) later ∙ take-append-le (length n.seen) n.seen (line ∷ lines_of after) (omega arith) ∙ take_all (length n.seen) n.seen (omega arith) in
      record {
        index = length n.seen;
        before = steps;
        named = subst (λ (ls : List (List ℕ)). Name d ls steps) (sym front) n.named;
        line = line;
        stands = stands;
        fault = says;
        number = ap (λ (k : ℕ). slice_get numbers k) n.size ∙ number;
      }

pub named-all : (d : Diagram) (doc : Doc) (text : List ℕ) (steps : List Step) (rest : List ℕ) → NamedTo d text steps rest → doc.body.script ≡ Some text → rest ≡ [] → IsScript d doc steps
named-all d doc text steps rest n is end =
    let whole : lines_of text ≡ n.seen = n.split ∙ ap (λ (r : List ℕ). n.seen ++ lines_of r) end ∙ ap (λ (ls : List (List ℕ)). n.seen ++ ls) lines_of-nil ∙ append-nil n.seen in
    record {
      text = text;
      section = is;
      named = subst (λ (ls : List (List ℕ)). Name d ls steps) (sym whole) n.named;
    }
