-- What a text is that was read to its end, or to its first fault.
use Rattle.std.proofs.Common.{◌≡◌, ◌≢◌, ℕ, pos, ◌+◌, ◌≤◌, false, List, [], ◌∷◌, ◌++◌, length, reverse, get_or, refl, sym, ap, subst, ◌∙◌, arith}
use Rattle.std.proofs.lemmas.List.{append-nil}
use Rattle.dia_lines.specs.declared.fault.LineError.{LineError}
use Rattle.dia_lines.specs.declared.fault.LineError.TheVariants as of_line
use Rattle.dia_lines.specs.declared.fault.ReadCode.{ReadCode}
use Rattle.dia_lines.specs.declared.fault.ReadCode.TheVariants.{MissingDone}
use Rattle.dia_lines.specs.declared.place.Place.TheVariants.{Ended}
use Rattle.dia_lines.specs.declared.position.Position.{Position}
use Rattle.dia_lines.specs.Answers.{Refuses as RefusesLine}
use Rattle.dia_lines.specs.Lines.{Content, place_after, HasFault}
use Rattle.dia_lines.specs.Text.{lines_of}
use Rattle.dia_lines.proofs.TextLaws.{lines_of-nil}
use Rattle.dia_read.specs.declared.draft.Draft.{Draft}
use Rattle.dia_read.specs.Answers.{Refuses}
use Rattle.dia_read.specs.Refusals.{refused_at}
use Rattle.dia_read.specs.Documents.{Run, Spells, is_trace, is_statement_of, lines_with, IsFirstLine, is_blank_text, IsFirstFault, at_a_line, no_end}
use Rattle.dia_read.specs.Drafts.{finished}
use Rattle.dia_read.proofs.Once.{headers_before, policies_before, ends_before, dones_before, traces_before}
use Rattle.dia_read.proofs.Holding.{last_or}
use Rattle.dia_read.proofs.Reaching.{Reached}

single : {A : Type 0} (xs : List A) (d v : A) → length xs ≡ 1 → last_or xs d ≡ v → xs ≡ v ∷ []
single [] d v size last = absurd (omega arith)
single (x ∷ []) d v size last = ap (λ y. y ∷ []) last
single (x ∷ y ∷ ys) d v size last = absurd (omega arith)

first-is-last : (xs : List ℕ) → length xs ≤ 1 → get_or xs 0 0 ≡ last_or xs 0
first-is-last [] size = refl
first-is-last (x ∷ []) size = refl
first-is-last (x ∷ y ∷ ys) size = absurd (omega arith)

module _ (bytes : List ℕ) (number : ℕ) (position : Position) (draft : Draft) (reached : Reached bytes [] number position draft) where
  whole : reached.seen ≡ lines_of bytes
  whole = sym (reached.split ∙ ap (λ ls. reached.seen ++ ls) lines_of-nil ∙ append-nil reached.seen)

  run : Run [] (lines_of bytes) reached.before
  run = subst (λ ls. Run [] ls reached.before) whole reached.run

  pub ended : position.place ≡ Ended → Spells bytes (finished draft)
  ended end =
      let here : place_after reached.before ≡ Ended = sym reached.after.place ∙ end in
      let h = reached.holds in
      let o = reached.once in
      let most : length (lines_with (is_statement_of is_trace) (reverse reached.before)) ≤ 1 = subst (λ p. length (lines_with (is_statement_of is_trace) (reverse reached.before)) ≤ traces_before p) here o.trace_line in
      record {
        said = reached.before;
        run = run;
        ended = here;
        body = record {
          header_line = single _ _ draft.version (o.header ∙ ap headers_before here) h.ends.version;
          policy_line = single _ _ draft.policy (o.policy ∙ ap policies_before here) h.ends.policy;
          until_line = single _ _ (pos draft.until) (o.until ∙ ap ends_before here) h.ends.until;
          decls = h.items.decls;
          tasks = h.items.tasks;
          traced = rw (h.sections.trace_begun, h.sections.trace_text) refl;
          scripted = rw (h.sections.script_begun, h.sections.script_text) refl;
        };
        lines = record {
          until_line = single _ 0 draft.lines.until_at (o.until_line ∙ ap ends_before here) h.ends.until_at;
          done_line = single _ 0 draft.lines.done_at (o.done_line ∙ ap dones_before here) h.ends.done_at;
          trace_line = first-is-last _ most ∙ h.ends.trace_at;
          decl_lines = h.items.decl_lines;
          task_lines = h.items.task_lines;
          part_lines = h.items.part_lines;
          row_lines = h.sections.row_lines;
          step_lines = h.sections.step_lines;
        };
      }

  pub unended : is_blank_text bytes ≡ false → position.place ≢ Ended → IsFirstFault bytes (number + 1) MissingDone
  unended full open_end =
      let count : length (lines_of bytes) ≡ number = sym (ap length whole) ∙ reached.lines in
      rw (← count) (no_end reached.before full run (λ end. open_end (reached.after.place ∙ end)))

pub refused : (bytes : List ℕ) (number : ℕ) (before : List Content) (line : List ℕ) (error : LineError) → is_blank_text bytes ≡ false → RefusesLine before line error
    → ((code : ReadCode) → HasFault before line code → IsFirstLine (lines_of bytes) number code) → Refuses bytes (refused_at (number + 1) error)
refused bytes number before line (of_line.Refused code) full fault first = at_a_line number code full (first code fault)
refused bytes number before line of_line.NoMemory full fault first = tt
