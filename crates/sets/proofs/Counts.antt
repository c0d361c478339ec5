-- Counting is weighing with 1 each. Assumes nothing.
use Rattle.std.proofs.Common.{◌≡◌, ℕ, zero, suc, ◌+◌, ◌/◌, ◌%◌, ◌^◌, ◌<◌, cond, eqb, refl, ap, ◌∙◌, ⊎_elim, mod-lt, add_comm, arith, pow_pos}
use native.Mathlib.Nat.{mod-one}
use lib.Count.{ones, ones_cat}
use lib.Pow.{mod-pow-add}
use Rattle.sets.specs.Sets.{has, below}
use Rattle.sets.specs.Weighing.{weigh, total, count}
use Rattle.sets.proofs.Members.{digit_cases, sift_has}

one_digit : (d : ℕ) → d < 2 → ones d ≡ cond (eqb d 1) 1 0
unfolding ones
one_digit d h = ⊎_elim (λ (e : d ≡ 0). rw e) (λ (e : d ≡ 1). rw e) (digit_cases d h)

ones_mod : (n s : ℕ) → ones (s % 2 ^ n) ≡ count n s
unfolding weigh has ones
ones_mod zero s = rw (mod-one s) refl
ones_mod (suc n) s =
    let e : 1 + n ≡ suc n = omega arith in
    let split = rw e at (mod-pow-add s 1 n) in
    let d = s / 2 ^ n % 2 in
    ap ones split ∙ ones_cat n d (s % 2 ^ n) (mod-lt s (pow_pos n))
    ∙ add_comm (ones d) (ones (s % 2 ^ n)) ∙ rw (ones_mod n s, one_digit d (mod-lt (s / 2 ^ n) (omega arith)))

pub ones_below : (n s : ℕ) → ones (below n s) ≡ count n s
ones_below n s = ap ones (sift_has n s) ∙ ones_mod n s

pub count_all : (n : ℕ) → total n (λ _. 1) ≡ n
unfolding weigh
count_all zero = refl
count_all (suc n) = let ih = count_all n in omega arith
