-- The canonical tokens of a delay spell it, whatever the limit is.
use Rattle.std.proofs.Common.{◌≡◌, ℕ, ℤ, pos, zero, suc, ◌≤◌, true, false, [], ◌∷◌, Option, Some, None, refl, arith}
use Rattle.std.specs.Prelude.{◌==◌}
use Rattle.std.specs.List.{AllByRecursion}
use Rattle.std.proofs.lemmas.Bool.Decides.{nat_tests}
use Rattle.dbp_plan.specs.declared.limits.TheConstants.{MAX_DELAY}
use Rattle.dbp_plan.specs.Limits.{max_delay, max_delay-is}
use Rattle.dia_tokens.specs.declared.token.Token.{Token}
use Rattle.dia_tokens.specs.declared.token.Token.TheVariants.{Number, Keyword}
use Rattle.dia_tokens.specs.declared.token.Keyword.TheVariants.{Pre}
use Rattle.dia_lines.specs.Delays.{SpellsDelay, direct, delayed, delayed_by, delay_of, delay_tokens}
use Rattle.dia_lines.specs.Limits.{delay_fits}
use Rattle.dia_lines.proofs.RangeLaws.{fits, within}

-- what the canonical tokens of a delay give
abbrev pub given_delay : ℕ → Option ℤ
given_delay zero = None
given_delay (suc d) = Some (pos (suc d))

pub longer-tokens : (d : ℕ) → delay_tokens (suc (suc d)) ≡ Keyword Pre ∷ Number (pos (suc (suc d))) ∷ []
longer-tokens d =
    let some : (suc (suc d) == 0) ≡ false = grind (arith, nat_tests) in
    let more : (suc (suc d) == 1) ≡ false = grind (arith, nat_tests) in
    rw (some, more) refl

pub delay-spelled : (d : ℕ) → SpellsDelay (delay_tokens d) (given_delay d)
delay-spelled zero = direct
delay-spelled (suc zero) = delayed
delay-spelled (suc (suc d)) = rw (longer-tokens d) (delayed_by (pos (suc (suc d))))

pub delay-given : (d : ℕ) → delay_of (given_delay d) ≡ pos d
delay-given zero = refl
delay-given (suc d) = refl

pub short-given : (d : ℕ) → d ≤ max_delay → delay_fits (given_delay d) ≡ true
short-given zero h = refl
short-given (suc d) h = fits (suc d) 1 max_delay (omega arith) h

pub longest_delay : max_delay ≡ MAX_DELAY
longest_delay = max_delay-is

-- a delay within its limits is at most the longest
pub short-delay : (d : ℕ) (delay : Option ℤ) → delay_of delay ≡ pos d → delay_fits delay ≡ true → d ≤ max_delay
short-delay d None e h = let none : 0 ≡ d = cc in omega (arith, none)
short-delay d (Some value) e h = (within d 1 max_delay value e h).1

-- what holds of `pre` and of the number holds of each token
pub each-delay-token : (P : Token → Type 0) (d : ℕ) → P (Keyword Pre) → P (Number (pos d)) → AllByRecursion P (delay_tokens d)
each-delay-token P zero p n = tt
each-delay-token P (suc zero) p n = (p, tt)
each-delay-token P (suc (suc d)) p n = rw (longer-tokens d) (p, (n, tt))
