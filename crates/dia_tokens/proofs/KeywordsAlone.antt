-- Lines of no token, or of one keyword.
use Rattle.std.proofs.Common.{◌≡◌, ℕ, true, All, List, [], ◌∷◌, refl, ap, subst, ◌∙◌}
use Rattle.std.proofs.lemmas.List.{append-nil}
use Rattle.std.proofs.lemmas.List.Elements.{All-from_recursion}
use Rattle.dia_tokens.specs.declared.token.Token.{Token}
use Rattle.dia_tokens.specs.declared.token.Token.TheVariants as value
use Rattle.dia_tokens.specs.declared.token.Keyword.{Keyword}
use Rattle.dia_tokens.specs.Lexes.{ends}
use Rattle.dia_tokens.specs.Line.{Spells}
use Rattle.dia_tokens.specs.Pieces.{Piece, keyword}
use Rattle.dia_tokens.specs.Printable.{IsPrintableToken}
use Rattle.dia_tokens.specs.Spelling.{joined, IsSpelling}
use Rattle.dia_tokens.specs.Values.{of_keyword, HaveValues, none, another}
use Rattle.dia_tokens.specs.Keywords.{keyword_text}
use Rattle.dia_tokens.proofs.LineSpells.{line-spells}
use Rattle.dia_tokens.proofs.OneLine.{one-list}
use Rattle.dia_tokens.proofs.SpellingLaws.{one-spelling, spells-again}

-- ---- how they are spelled

no-texts : (ps : List Piece) → HaveValues ps [] → ps ≡ []
no-texts [] v = refl
no-texts (p ∷ ps) v = elim v [ ]

one-text : (w : Keyword) (ps : List Piece) → HaveValues ps (value.Keyword w ∷ []) → ps ≡ keyword w ∷ []
one-text w ps (another p t qs us (of_keyword v) none) = refl

joined-texts : (line text : List ℕ) (ts : List Token) (s : Spells line ts) → IsSpelling line text → text ≡ joined s.texts
joined-texts line text ts s t = one-spelling line text (joined s.texts) t (s.texts, s.lexes, refl)

pub nothing-spelled : (line text : List ℕ) → Spells line [] → IsSpelling line text → text ≡ []
nothing-spelled line text s t = joined-texts line text [] s t ∙ ap joined (no-texts s.texts s.values)

pub keyword-spelled : (w : Keyword) (line text : List ℕ) → Spells line (value.Keyword w ∷ []) → IsSpelling line text → text ≡ keyword_text w
keyword-spelled w line text s t = joined-texts line text (value.Keyword w ∷ []) s t ∙ ap joined (one-text w s.texts s.values)

-- ---- which tokens are spelled so

spells-same : (line text other : List ℕ) (ts us : List Token) → Spells line ts → IsSpelling line text → text ≡ other → Spells other us → ts ≡ us
spells-same line text other ts us s t e o = one-list other ts us (subst (λ (l : List ℕ). Spells l ts) e (spells-again line text ts s t)) o

pub spells-nothing : (line text : List ℕ) (ts : List Token) → Spells line ts → IsSpelling line text → text ≡ [] → ts ≡ []
spells-nothing line text ts s t e = spells-same line text [] ts [] s t e (record { texts = []; allowed = refl; lexes = ends true; values = none })

keyword-alone : (w : Keyword) → Spells (keyword_text w) (value.Keyword w ∷ [])
keyword-alone w =
    let each : All IsPrintableToken (value.Keyword w ∷ []) = All-from_recursion IsPrintableToken (value.Keyword w ∷ []) (tt, tt) in
    subst (λ (l : List ℕ). Spells l (value.Keyword w ∷ [])) (append-nil (keyword_text w)) (line-spells (value.Keyword w ∷ []) each ((λ _. tt), tt))

pub spells-keyword : (w : Keyword) (line text : List ℕ) (ts : List Token) → Spells line ts → IsSpelling line text → text ≡ keyword_text w → ts ≡ value.Keyword w ∷ []
spells-keyword w line text ts s t e = spells-same line text (keyword_text w) ts (value.Keyword w ∷ []) s t e (keyword-alone w)
