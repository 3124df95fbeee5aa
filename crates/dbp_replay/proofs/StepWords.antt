-- The words that begin the lines of a script, as tokens.
use Rattle.std.proofs.Common.{◌≡◌, ℕ, ◌≤◌, true, List, ◌∷◌, ◌++◌, length, Some, refl, arith}
use Rattle.dbp_plan.proofs.Searches.{among_from as any_among_from}
use Rattle.std.specs.List.{list_all}
use Rattle.std.proofs.lemmas.List.Sums.{AllPass-from_list_all}
use Rattle.dbp_plan.specs.declared.limits.TheConstants.{MAX_NAME}
use Rattle.dbp_plan.specs.Name.{BeginsAsName, is_name_byte}
use Rattle.dia_tokens.specs.declared.edge.Edge.TheVariants.{Loose}
use Rattle.dia_tokens.specs.declared.token.Token.{Token}
use Rattle.dia_tokens.specs.declared.token.Token.TheVariants as token
use Rattle.dia_tokens.specs.declared.token.Keyword.TheVariants as keyword
use Rattle.dia_tokens.specs.KeepsSigns.{IsUnsigned}
use Rattle.dia_tokens.specs.Pieces.{name}
use Rattle.dia_tokens.specs.Printable.{IsPrintableName, IsPrintableToken}
use Rattle.dia_tokens.specs.TokenText.{line_text, text_after}
use Rattle.dia_tokens.specs.Keywords.{keyword_of}
use Rattle.dbp_rules.specs.declared.kind.StepKind.{StepKind}
use Rattle.dbp_rules.specs.declared.kind.StepKind.TheVariants.{Done}
use Rattle.dbp_replay.specs.StepForms.{all_kinds, form_of, kind_among, kind_with, kinds_from, name_text}

-- the token of a kind's word: only `done` is a keyword
abbrev pub first_token : StepKind → Token
first_token Done = token.Keyword keyword.Done
first_token k = token.Name (form_of k).0

pub first-text : (k : StepKind) (ts : List Token) → (form_of k).0 ++ text_after Loose ts ≡ line_text (first_token k ∷ ts)
first-text Done ts = refl
first-text k ts = refl

-- a text that a test finds to be a name
tested-name : (text : List ℕ) → BeginsAsName text → list_all is_name_byte text ≡ true → length text ≤ MAX_NAME → keyword_of text ≡ name text → IsPrintableName text
tested-name text begins each fits free = (record { begins = begins; each = AllPass-from_list_all is_name_byte text each; fits = fits }, free)

pub first-printable : (k : StepKind) → IsPrintableToken (first_token k)
unfolding keyword_of
first-printable Done = tt
first-printable k = tested-name (form_of k).0 refl refl (omega arith) refl

pub kind-again : (k : StepKind) → kind_with (name_text (first_token k)) ≡ Some k
kind-again Done = refl
kind-again k = refl

pub first-unsigned : (k : StepKind) → IsUnsigned (first_token k)
first-unsigned Done = tt
first-unsigned k = tt

-- a word is looked for among those alone that begin as it does
pub among_from : (first : ℕ) (others : List ℕ) → kind_among (kinds_from first) (first ∷ others) ≡ kind_with (first ∷ others)
unfolding kinds_from
among_from first others = any_among_from (λ k. (form_of k).0) all_kinds first others
