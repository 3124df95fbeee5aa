-- The forms of a command's arguments, and the operands in them.
use Rattle.std.specs.Prelude.{◌≡◌, ℕ, ◌≤◌, ◌<◌, ◌^◌, List, [], ◌∷◌, ◌++◌, codes, length, Some}
use Rattle.std.specs.List.{flat_map}
use Rattle.std.specs.Str.Parse.{IsNumeral, digits_value}
use Rattle.dbp_plan.specs.Name.{IsName}
use Rattle.dbp_top.specs.declared.operands.Operands.{Operands}
use Rattle.dbp_top.specs.declared.pattern.Pattern.{Pattern}
use Rattle.dbp_top.specs.declared.pattern.Pattern.TheVariants.{Exact, Name, Number, Size}

-- the form of an argument: this text, a number after a prefix, a size, or a name
pub data ArgumentForm : Type 0 where
  argument : List ℕ → ArgumentForm
  number : List ℕ → ArgumentForm
  size : ArgumentForm
  name : ArgumentForm

abbrev pub form_of : Pattern → ArgumentForm
form_of (Exact text) = argument text.now
form_of (Number prefix) = number prefix.now
form_of Size = size
form_of Name = name

-- 1 to 20 digits that make a number below 2 ^ 64
pub record IsNumber (digits : List ℕ) : Type 0 where
  pub numeral : IsNumeral 10 digits
  pub few : length digits ≤ 20
  pub fits : digits_value 10 digits < 2 ^ 64

-- such a number from 1 to 32
pub record IsSize (digits : List ℕ) : Type 0 where
  pub number : IsNumber digits
  pub least : 1 ≤ digits_value 10 digits
  pub most : digits_value 10 digits ≤ 32

-- the operands with another number, size or name
abbrev pub with_number : Operands → ℕ → Operands
with_number before n = record before { number = n }

abbrev pub with_size : Operands → ℕ → Operands
with_size before n = record before { size = n }

abbrev pub with_name : Operands → List ℕ → Operands
with_name before n = record before { name = Some n }

-- the argument is of this form, and these are the operands after it
abbrev pub Fits : ArgumentForm → List ℕ → Operands → Operands → Type 0
Fits (argument text) w before after = (w ≡ text) × (after ≡ before)
Fits (number prefix) w before after =
    (digits : List ℕ) × (w ≡ prefix ++ digits) × IsNumber digits × (after ≡ with_number before (digits_value 10 digits))
Fits size w before after = IsSize w × (after ≡ with_size before (digits_value 10 w))
Fits name w before after = IsName w × (after ≡ with_name before w)

-- each argument is of its form, and these are the operands after them
abbrev pub AllFit : List ArgumentForm → List (List ℕ) → Operands → Operands → Type 0
AllFit [] [] before after = after ≡ before
AllFit [] (w ∷ ws) before after = ⊥
AllFit (f ∷ fs) [] before after = ⊥
AllFit (f ∷ fs) (w ∷ ws) before after = (between : Operands) × Fits f w before between × AllFit fs ws between after

-- what a user reads of a form
abbrev pub form_text : ArgumentForm → List ℕ
form_text (argument text) = text
form_text (number prefix) = prefix ++ codes "N"
form_text size = codes "SIZE"
form_text name = codes "TASK"

-- the line that lists arguments of these forms: a space, each of them after a space (32), and LF (10)
abbrev pub listed_forms : List ArgumentForm → List ℕ
listed_forms forms = 32 ∷ flat_map (λ f. 32 ∷ form_text f) forms ++ 10 ∷ []
