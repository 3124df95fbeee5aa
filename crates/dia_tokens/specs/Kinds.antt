-- What a byte of a line is.
use Rattle.std.specs.Prelude.{ℕ, Bool, true, false, nat_le, ◌==◌, ◌&&◌, ◌||◌, if◌then◌else◌}
use Rattle.dia_tokens.specs.declared.token.Symbol.TheVariants.{Assign, Equal, Less, AtMost, Greater, AtLeast, Plus, Star, Slash, Percent, Open, Close, Comma, Point}
use Rattle.dia_tokens.specs.declared.kind.Kind.{Kind}
use Rattle.dia_tokens.specs.declared.kind.Kind.TheVariants.{Blank, Hash, Letter, Digit, Dash, Bang, Pair, Plain, Other}

abbrev pub between : ℕ → ℕ → ℕ → Bool
between low b high = nat_le low b && nat_le b high

-- a byte that a line may have: a space, a tab, or a printed ASCII character
abbrev pub is_allowed : ℕ → Bool
is_allowed b = between 32 b 126 || b == 9

-- the bytes that begin a symbol, except for `-` and `!`
unfoldable pub symbol_kind_of : ℕ → Kind
symbol_kind_of b =
    if b == 61 then Pair Assign Equal else
    if b == 60 then Pair Less AtMost else
    if b == 62 then Pair Greater AtLeast else
    if b == 43 then Plain Plus else
    if b == 42 then Plain Star else
    if b == 47 then Plain Slash else
    if b == 37 then Plain Percent else
    if b == 40 then Plain Open else
    if b == 41 then Plain Close else
    if b == 44 then Plain Comma else
    if b == 46 then Plain Point else Other

-- the table of the bytes
unfoldable pub kind_of : ℕ → Kind
kind_of b =
    if b == 32 || b == 9 then Blank else
    if b == 35 then Hash else
    if between 97 b 122 || between 65 b 90 || b == 95 then Letter else
    if between 48 b 57 then Digit else
    if b == 45 then Dash else
    if b == 33 then Bang else symbol_kind_of b

abbrev pub is_name_kind : Kind → Bool
is_name_kind Letter = true
is_name_kind Digit = true
is_name_kind _ = false

abbrev pub is_digit_kind : Kind → Bool
is_digit_kind Digit = true
is_digit_kind _ = false

abbrev pub is_blank_kind : Kind → Bool
is_blank_kind Blank = true
is_blank_kind _ = false

-- a letter, a digit or `_`
abbrev pub is_name : ℕ → Bool
is_name b = is_name_kind (kind_of b)

abbrev pub is_digit : ℕ → Bool
is_digit b = is_digit_kind (kind_of b)

-- a space or a tab
abbrev pub is_blank : ℕ → Bool
is_blank b = is_blank_kind (kind_of b)

abbrev pub is_equals : ℕ → Bool
is_equals b = b == 61
