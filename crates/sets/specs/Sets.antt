-- Sets of processes. A set is a number: process j is a member when bit j is set. Assumes nothing.
--     bit s j         bit j of s is set
--     has s j         j is a member of s
--     sift n p        the processes below n that pass the test p
--     below n s       the members of s below n
--     others n s      the processes below n that are no members of s
--     joined s j      s with process j, of the processes below 32
--     Within n a b    each member of a below n is a member of b
--     Same n a b      a and b have the same members below n
use Rattle.std.specs.Prelude.{◌≡◌, ℕ, zero, suc, ◌+◌, ◌/◌, ◌%◌, ◌^◌, ◌<◌, Bool, true, cond, not, ◌||◌, ◌==◌}

abbrev pub bit : ℕ → ℕ → Bool
bit s j = s / 2 ^ j % 2 == 1

unfoldable pub has : ℕ → ℕ → Bool
has s j = bit s j

unfoldable pub sift : ℕ → (ℕ → Bool) → ℕ
sift zero p = 0
sift (suc n) p = sift n p + cond (p n) (2 ^ n) 0

abbrev pub below : ℕ → ℕ → ℕ
below n s = sift n (has s)

abbrev pub others : ℕ → ℕ → ℕ
others n s = sift n (λ j. not (has s j))

abbrev pub joined : ℕ → ℕ → ℕ
joined s j = sift 32 (λ k. has s k || k == j)

abbrev pub Within : ℕ → ℕ → ℕ → Type 0
Within n a b = (j : ℕ) → j < n → has a j ≡ true → has b j ≡ true

abbrev pub Same : ℕ → ℕ → ℕ → Type 0
Same n a b = (j : ℕ) → j < n → has a j ≡ has b j
