-- How far a text was read.
use Rattle.std.proofs.Common.{◌≡◌, ℕ, ◌+◌, ◌-◌, ◌*◌, ◌^◌, ◌<◌, ◌≤◌, true, List, [], ◌∷◌, ◌++◌, length, reverse, slice_get, Some, refl, sym, ap, subst, ◌∙◌, append_assoc, arith, length-append}
use Rattle.std.proofs.lemmas.List.{nil_from_length, take_at, length-reverse}
use Rattle.dbp_plan.specs.declared.limits.TheConstants.{MAX_TEXT}
use Rattle.dbp_plan.specs.ListItems.{after_place}
use Rattle.dia_tokens.proofs.SpellingLaws.{no-feed}
use Rattle.dia_lines.specs.declared.fault.ReadCode.{ReadCode}
use Rattle.dia_lines.specs.declared.item.Line.{Line}
use Rattle.dia_lines.specs.declared.item.Line.TheVariants as line
use Rattle.dia_lines.specs.declared.place.Place.TheVariants.{Trace, Script}
use Rattle.dia_lines.specs.declared.position.Position.{Position}
use Rattle.dia_lines.specs.Held.{IsHeld}
use Rattle.dia_lines.specs.Lines.{Content, says, row, step, place_after, version_after, statements, Reads, of_the_trace, of_the_script, a_row, a_step, HasFault}
use Rattle.dia_lines.specs.Positions.{IsAfter}
use Rattle.dia_lines.specs.Text.{lines_of}
use Rattle.dia_read.specs.declared.draft.Draft.{Draft}
use Rattle.dia_read.specs.Documents.{Run, no_line, versions, kept_text, IsFirstLine}
use Rattle.dia_read.specs.Drafts.{empty_draft, drafted, HasRoom}
use Rattle.dia_read.proofs.OneMore.{reverse-more}
use Rattle.dia_read.proofs.Once.{headers_before, Once, once-more, once-start}
use Rattle.dia_read.proofs.Holding.{last_or, Holds, HasItsTask, holds-more, holds-start, version-said}
use Rattle.dia_read.proofs.KeptLines.{run-more, in-body, HeaderStands, header-stands, no-row, no-step, kept-fits}
use Rattle.dia_read.proofs.Paired.{Paired, PairsWith, paired-start, paired-more, row-has-no-feed, trace-begun, script-begun}
use Rattle.dia_read.proofs.Printing.{PrintsAll, Continues, IsSoundLine, prints-start, prints-more, sound-line}
use Rattle.dia_read.proofs.Bounds.{Bounded, KeptFits, bounded-more, bounded-start, has-room}

-- ---- how far

pub record Reached (bytes rest : List ℕ) (number : ℕ) (position : Position) (draft : Draft) : Type 0 where
  pub before : List Content
  pub seen : List (List ℕ)
  pub used : ℕ
  pub split : lines_of bytes ≡ seen ++ lines_of rest
  pub run : Run [] seen before
  pub count : length before ≡ number
  pub lines : length seen ≡ number
  pub after : IsAfter before position
  pub once : Once (reverse before) (place_after before)
  pub holds : Holds (reverse before) draft
  pub bounded : Bounded draft number (2 * used)
  pub paired : Paired draft
  pub printing : PrintsAll (statements before) draft
  pub few : number ≤ used
  pub within : used + length rest ≤ length bytes

unfoldable pub reached-start : (bytes : List ℕ) (position : Position) → IsAfter [] position → Reached bytes bytes 0 position empty_draft
reached-start bytes position b = record {
  before = [];
  seen = [];
  used = 0;
  split = refl;
  run = no_line [];
  count = refl;
  lines = refl;
  after = b;
  once = once-start;
  holds = holds-start;
  bounded = bounded-start;
  paired = paired-start;
  printing = prints-start;
  few = omega arith;
  within = omega arith;
}

module _ (bytes rest : List ℕ) (number : ℕ) (position : Position) (draft : Draft) (reached : Reached bytes rest number position draft) (text after : List ℕ)
    (first : lines_of rest ≡ text ∷ lines_of after) (shorter : length after < length rest) (fits : length text + length after ≤ length rest) where
  -- the line says this, and it is held
  abbrev pub Next : Line → Position → Type 0
  Next l next = (said : Content) × Reads reached.before text said × IsHeld said l × IsAfter (said ∷ reached.before) next

  abbrev pub text_in : (l : Line) (next : Position) → Next l next → List ℕ
  text_in l next n = kept_text n.0

  has-task : (before : List Content) (said : Content) (l : Line) → Once (reverse before) (place_after before) → Reads before text said → IsHeld said l → HasItsTask (reverse before) l
  has-task before said (line.Part p) o r h = in-body before text said p o r h
  has-task before said l o r h = tt

  version-here : version_after reached.before ≡ draft.version
  version-here = version-said reached.before ∙ reached.holds.ends.version

  -- before the header no version is named
  no-version : HeaderStands reached.before → draft.version ≡ 1
  no-version here =
      let none : versions (statements (reverse reached.before)) ≡ [] = nil_from_length (versions (statements (reverse reached.before))) (reached.once.header ∙ ap headers_before here) in
      sym reached.holds.ends.version ∙ ap (λ vs. last_or vs 1) none

  continues : (l : Line) (said : Content) → Reads reached.before text said → IsHeld said l → Continues draft l
  continues (line.Part p) said r h = reached.holds.items.latest (in-body reached.before text said p reached.once r h)
  continues (line.Header v) said r h = let is = header-stands reached.before text said v r h in (no-version is.0, is.1, is.2)
  continues l said r h = tt

  begun-trace : place_after reached.before ≡ Trace → draft.trace.begun ≡ true
  begun-trace here = sym reached.holds.sections.trace_begun ∙ trace-begun [] reached.before reached.seen reached.run tt here

  begun-script : place_after reached.before ≡ Script → draft.script.begun ≡ true
  begun-script here = sym reached.holds.sections.script_begun ∙ script-begun [] reached.before reached.seen reached.run tt here

  pairs : (l : Line) (said : Content) → Reads reached.before text said → IsHeld said l → PairsWith draft (kept_text said) l
  pairs (line.Part p) said r h = continues (line.Part p) said r h
  pairs line.Row (row t) (of_the_trace b s here (a_row c i k)) h = (row-has-no-feed t i, begun-trace here)
  pairs line.Row (row t) (of_the_script b s here i) h = elim i [ ]
  pairs (line.Step kept) (step t) (of_the_script b s here (a_step c u ts e n o k)) h = (no-feed c t ts e k, begun-script here)
  pairs (line.Step kept) (step t) (of_the_trace b s here i) h = elim i [ ]
  pairs line.Row (says s) r h = absurd (no-row s h)
  pairs (line.Step kept) (says s) r h = absurd (no-step s kept h)
  pairs (line.Step kept) (row t) r h = absurd h
  pairs line.Row (step t) r h = absurd h
  pairs l said r h = tt

  -- the reader has gone on behind the line
  pub reached-next : (l : Line) (next : Position) (n : Next l next)
      → (r : Reached bytes after (number + 1) next (drafted draft (number + 1) (text_in l next n) l)) × (r.before ≡ n.0 ∷ reached.before)
  reached-next l next (said, reads, held, later) =
      let size : length (reverse reached.before) + 1 ≡ number + 1 = omega (arith, reached.count, length-reverse reached.before) in
      let add : ℕ = length rest - length after in (
        record {
          before = said ∷ reached.before;
          seen = reached.seen ++ text ∷ [];
          used = reached.used + add;
          split = reached.split ∙ ap (λ ls. reached.seen ++ ls) first ∙ sym (append_assoc reached.seen (text ∷ []) (lines_of after));
          run = run-more [] reached.before reached.seen text said reached.run reads;
          count = omega (arith, reached.count);
          lines = omega (arith, length-append reached.seen (text ∷ []), reached.lines);
          after = later;
          once = once-more reached.before text said reached.once reads;
          holds =
              let more = holds-more (reverse reached.before) draft reached.holds said l held (has-task reached.before said l reached.once reads held) in
              rw reverse-more (subst (λ (k : ℕ). Holds (reverse reached.before ++ said ∷ []) (drafted draft k (kept_text said) l)) size more);
          bounded =
              let kept : KeptFits l (kept_text said) (2 * add) = kept-fits reached.before text said l add reads held (omega arith) (omega arith) in
              subst (λ (k : ℕ). Bounded (drafted draft (number + 1) (kept_text said) l) (number + 1) k) (omega arith) (bounded-more draft (number + 1) number (2 * reached.used) (2 * add) (kept_text said) l reached.bounded kept);
          paired = paired-more draft (number + 1) (kept_text said) l reached.paired (pairs l said reads held);
          printing =
              let sound : IsSoundLine draft.version (statements reached.before) said = subst (λ (v : ℕ). IsSoundLine v (statements reached.before) said) version-here (sound-line reached.before text said reads) in
              prints-more reached.before said l draft (number + 1) reached.printing sound held (continues l said reads held);
          few = omega (arith, reached.few);
          within = omega (arith, reached.within);
        },
        refl,
      )

  pub reached-more : (l : Line) (next : Position) (n : Next l next) → Reached bytes after (number + 1) next (drafted draft (number + 1) (text_in l next n) l)
  reached-more l next n = (reached-next l next n).0

  pub room-here : length bytes ≤ MAX_TEXT → HasRoom draft (number + 1) (length text)
  room-here size = has-room draft number (number + 1) reached.used (length text) reached.bounded (omega arith) (omega (arith, reached.within))

  pub few-here : length bytes ≤ MAX_TEXT → number + 1 < 2 ^ 31
  few-here size = omega (arith, reached.few, reached.within)

  -- the line has a fault
  pub first-line : (code : ReadCode) → HasFault reached.before text code → IsFirstLine (lines_of bytes) number code
  first-line code fault = record {
    line = text;
    stands =
        let here : slice_get (reached.seen ++ lines_of rest) (length reached.seen + 0) ≡ slice_get (lines_of rest) 0 = after_place reached.seen (lines_of rest) 0 in
        let at : length reached.seen + 0 ≡ number = omega (arith, reached.lines) in
        rw reached.split (subst (λ (k : ℕ). slice_get (reached.seen ++ lines_of rest) k ≡ Some text) at (here ∙ ap (λ (ls : List (List ℕ)). slice_get ls 0) first));
    before = reached.before;
    run = rw reached.split (subst (λ (ls : List (List ℕ)). Run [] ls reached.before) (sym (take_at reached.seen (lines_of rest) number reached.lines)) reached.run);
    fault = fault;
  }
