-- The longest delay of a link.
use Rattle.std.specs.Prelude.{◌≡◌, ℕ, ◌≤◌, refl}
use Rattle.std.proofs.Common.{arith}
use Rattle.dbp_plan.specs.declared.limits.TheConstants.{MAX_DELAY}

-- in occurrences of the writer; nothing but the grammar of delays uses more of its value than that it is at most 8
unfoldable pub max_delay : ℕ
max_delay = MAX_DELAY

pub max_delay-le : max_delay ≤ 8
unfolding max_delay
max_delay-le = omega arith

pub max_delay-is : max_delay ≡ MAX_DELAY
unfolding max_delay
max_delay-is = refl
