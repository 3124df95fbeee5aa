-- The canonical text of a document.
use Rattle.std.specs.Prelude.{ℕ, List, [], ◌∷◌, ◌++◌, codes, Option, Some, None}
use Rattle.std.specs.List.{flat_map}
use Rattle.dia_tokens.specs.declared.token.Token.TheVariants as token
use Rattle.dia_tokens.specs.declared.token.Keyword.{Keyword}
use Rattle.dia_tokens.specs.declared.token.Keyword.TheVariants.{Trace, Script, Done}
use Rattle.dia_lines.specs.declared.item.Decl.{Decl}
use Rattle.dia_lines.specs.declared.item.Part.{Part}
use Rattle.dia_tokens.specs.TokenText.{line_of}
use Rattle.dia_print.specs.ItemTokens.{header_tokens, policy_tokens, until_tokens, decl_tokens, task_tokens, part_tokens}
use Rattle.dia_read.specs.declared.document.Body.{Body}
use Rattle.dia_read.specs.declared.document.DocLines.{DocLines}
use Rattle.dia_read.specs.declared.document.RawTask.{RawTask}
use Rattle.dia_read.specs.Documents.{first_line, Spells}

abbrev pub decl_text : Decl → List ℕ
decl_text d = line_of (decl_tokens d)

-- a line of a task's body begins with two spaces
abbrev pub part_text : Part → List ℕ
part_text p = codes "  " ++ line_of (part_tokens p)

-- the line that begins the task in a document of the version, and its body
abbrev pub task_text : ℕ → RawTask → List ℕ
task_text version t = line_of (task_tokens version (first_line t)) ++ flat_map part_text t.parts

-- the keyword that begins a section, and the section's kept lines, if it is there
abbrev pub section_lines : Keyword → Option (List ℕ) → List ℕ
section_lines w None = []
section_lines w (Some kept) = line_of (token.Keyword w ∷ []) ++ kept

-- the canonical text
abbrev pub canonical_text : Body → List ℕ
canonical_text body =
    line_of (header_tokens body.version) ++ line_of (policy_tokens body.policy) ++ line_of (until_tokens body.until)
    ++ flat_map decl_text body.decls ++ flat_map (task_text body.version) body.tasks
    ++ section_lines Trace body.trace ++ section_lines Script body.script ++ line_of (token.Keyword Done ∷ [])

-- the text spells a document with this body
pub record SpellsBody (bytes : List ℕ) (body : Body) : Type 0 where
  pub lines : DocLines
  pub spelled : Spells bytes (record { body = body; lines = lines })
