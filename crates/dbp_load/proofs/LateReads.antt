-- The read of a task after this one, which the last task doesn't have.
use Rattle.std.proofs.Common.{◌≡◌, ℕ, ◌+◌, ◌<◌, ◌≤◌, Bool, true, false, List, [], ◌∷◌, ◌++◌, length, ap, ◌∙◌, arith}
use Rattle.std.specs.Prelude.{codes}
use Rattle.std.proofs.lemmas.Bool.{lt-ltb, le-ltb}
use Rattle.std.proofs.lemmas.List.{append_assoc}
use Rattle.dia_lines.specs.declared.item.Part.{Part}
use Rattle.dbp_load.specs.Bodies.{has_late, late_names, late_reads}

pub no-read : (size i : ℕ) (read : Part) → size ≤ i + 1 → late_reads (has_late size i) read ≡ []
no-read size i read last = ap (λ late. late_reads late read) (le-ltb (i + 1) size last)

pub one-read : (size i : ℕ) (read : Part) → i + 1 < size → late_reads (has_late size i) read ≡ read ∷ []
one-read size i read more = ap (λ late. late_reads late read) (lt-ltb (i + 1) size more)

pub no-name : (size i : ℕ) → size ≤ i + 1 → late_names (has_late size i) ≡ []
no-name size i last = ap late_names (le-ltb (i + 1) size last)

pub one-name : (size i : ℕ) → i + 1 < size → late_names (has_late size i) ≡ codes "q" ∷ []
one-name size i more = ap late_names (lt-ltb (i + 1) size more)

pub few-late-reads : (late : Bool) (read : Part) → length (late_reads late read) ≤ 1
few-late-reads true read = omega arith
few-late-reads false read = omega arith

-- the lines of a body, one after another
pub joined : (first reads late : List Part) (next out : Part) → (((first ++ reads) ++ late) ++ next ∷ []) ++ out ∷ [] ≡ first ++ (reads ++ (late ++ next ∷ out ∷ []))
joined first reads late next out =
    append_assoc ((first ++ reads) ++ late) (next ∷ []) (out ∷ [])
    ∙ append_assoc (first ++ reads) late (next ∷ out ∷ [])
    ∙ append_assoc first reads (late ++ next ∷ out ∷ [])
