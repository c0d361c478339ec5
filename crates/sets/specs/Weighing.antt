-- The weight of a set, and the rules that go by weight. Assumes nothing.
--     weigh n w p     the sum of w j over the processes j below n that pass the test p
--     total n w       the weight of all processes below n
--     weight n w s    the weight of the members of s below n
--     count n s       how many members s has below n: each weighs 1
--     weighing n w    the rule by weights: a quorum weighs more than two thirds of all, a tolerated set less than one third
--     counting f      the rule of 3 f + 1 processes: a quorum has at least 2 f + 1 members, a tolerated set at most f
use Rattle.std.specs.Prelude.{ℕ, zero, suc, ◌+◌, ◌*◌, Bool, true, cond, nat_le, nat_lt}
use Rattle.sets.specs.Sets.{has}
use Rattle.sets.specs.Rules.{Rule}

unfoldable pub weigh : ℕ → (ℕ → ℕ) → (ℕ → Bool) → ℕ
weigh zero w p = 0
weigh (suc n) w p = weigh n w p + cond (p n) (w n) 0

abbrev pub total : ℕ → (ℕ → ℕ) → ℕ
total n w = weigh n w (λ _. true)

abbrev pub weight : ℕ → (ℕ → ℕ) → ℕ → ℕ
weight n w s = weigh n w (has s)

abbrev pub count : ℕ → ℕ → ℕ
count n s = weight n (λ _. 1) s

unfoldable pub weighing : ℕ → (ℕ → ℕ) → Rule
weighing n w = record {
  size = n;
  quorum = λ s. nat_lt (2 * total n w) (3 * weight n w s);
  tolerated = λ s. nat_lt (3 * weight n w s) (total n w);
}

unfoldable pub counting : ℕ → Rule
counting f = record {
  size = 3 * f + 1;
  quorum = λ s. nat_le (2 * f + 1) (count (3 * f + 1) s);
  tolerated = λ s. nat_le (count (3 * f + 1) s) f;
}
