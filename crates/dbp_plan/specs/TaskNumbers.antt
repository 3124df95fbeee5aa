-- The numbers of a few tasks.
use Rattle.std.specs.Prelude.{◌≡◌, ℕ, ◌<◌, ◌^◌, List, length}
use Rattle.dbp_plan.specs.declared.task_numbers.Numbers.{Numbers}
use Rattle.dbp_plan.specs.declared.task_numbers.Numbers.TheVariants.{Zero, One, Two, Three, More}

-- in order
abbrev pub numbers_of : Numbers → List ℕ
numbers_of (Zero numbers) = numbers
numbers_of (One numbers) = numbers
numbers_of (Two numbers) = numbers
numbers_of (Three numbers) = numbers
numbers_of (More list) = list.value

-- as many as the variant says
abbrev pub AreCounted : Numbers → Type 0
AreCounted (Zero numbers) = length numbers ≡ 0
AreCounted (One numbers) = length numbers ≡ 1
AreCounted (Two numbers) = length numbers ≡ 2
AreCounted (Three numbers) = length numbers ≡ 3
AreCounted (More list) = length list.value < 2 ^ 32
