-- The members of a sifted set: with `has_sift` and `sift_past` no proof need look at bits. Assumes nothing.
--     has_sift, sift_past     the members of sift n p, below n and from n up
--     sift_lt, sift_same      sift n p is below 2 ^ n; equal tests give equal sets
--     same_set                sets with the same members are equal
--     sift_has, below_whole   the members of s below n are s % 2 ^ n, and s itself where s is below 2 ^ n
--     below_all, has_high     from 32 up: all members of s, and no member
--     others_is               the processes below n that are no members of s, by subtraction
use Rattle.std.proofs.Common.{◌≡◌, ℕ, zero, suc, ◌+◌, ◌-◌, ◌*◌, ◌/◌, ◌%◌, ◌^◌, ◌<◌, ◌≤◌, min, Bool, true, false, cond, not, eqb, ◌⊎◌, sym, refl, ap, ◌∙◌, subst, inl, inr, ⊎_elim, add-zero, mod-lt, mod-eq_of_lt, add_comm, one-mul, pow-suc, zero-mul, arith, pow_pos, pow_mono, pow-add}
use native.Mathlib.Nat.{div-eq_of_lt, add-mul-div_right, add-mul-mod_self_right}
use lib.Pow.{mod-pow-add}
use Rattle.std.proofs.lemmas.Bool.{cases_lt}
use Rattle.sets.specs.Sets.{has, sift, below, others}
use Rattle.sets.proofs.Sums.{not_step}

pub digit_cases : (d : ℕ) → d < 2 → (d ≡ 0) ⊎ (d ≡ 1)
digit_cases zero h = inl refl
digit_cases (suc zero) h = inr refl
digit_cases (suc (suc d)) h = absurd (omega arith)

digit_worth : (d x : ℕ) → d < 2 → cond (eqb d 1) x 0 ≡ d * x
digit_worth d x h = ⊎_elim (λ (e : d ≡ 0). rw (e, zero-mul)) (λ (e : d ≡ 1). rw (e, one-mul)) (digit_cases d h)

pub has_past : (s j : ℕ) → s < 2 ^ j → has s j ≡ false
unfolding has
has_past s j h = rw (div-eq_of_lt h)

pub has_none : (j : ℕ) → has 0 j ≡ false
has_none j = has_past 0 j (pow_pos j)

pub sift_lt : (n : ℕ) (p : ℕ → Bool) → sift n p < 2 ^ n
unfolding sift
sift_lt zero p = omega arith
sift_lt (suc n) p =
    let ih = sift_lt n p in
    elim (p n) as (λ b. sift n p + cond b (2 ^ n) 0 < 2 ^ suc n) [
      | true ↦ rw pow-suc (omega arith)
      | false ↦ rw pow-suc (omega arith)
    ]

pub sift_has : (n s : ℕ) → sift n (has s) ≡ s % 2 ^ n
unfolding sift has
sift_has zero s = omega arith
sift_has (suc n) s =
    let e : 1 + n ≡ suc n = omega arith in
    let split = rw e at (mod-pow-add s 1 n) in
    rw (sift_has n s, digit_worth (s / 2 ^ n % 2) (2 ^ n) (mod-lt (s / 2 ^ n) (omega arith)))
    (add_comm (s % 2 ^ n) ((s / 2 ^ n % 2) * 2 ^ n) ∙ sym split)

pub sift_same : (n : ℕ) (p q : ℕ → Bool) → ((j : ℕ) → j < n → p j ≡ q j) → sift n p ≡ sift n q
unfolding sift
sift_same zero p q h = refl
sift_same (suc n) p q h = rw (sift_same n p q (λ j k. h j (omega arith)), h n (omega arith))

-- 2 ^ n more changes no digit below n, and sets that at n
low_digit : (r n j : ℕ) → j < n → has (r + 2 ^ n) j ≡ has r j
unfolding has
low_digit r n j h =
    let k = n - j - 1 in
    let e : n ≡ (k + 1) + j = omega arith in
    let pw : 2 ^ n ≡ (2 ^ k * 2) * 2 ^ j = ap (λ (x : ℕ). 2 ^ x) e ∙ pow-add 2 (k + 1) j ∙ ap (λ (x : ℕ). x * 2 ^ j) (pow-add 2 k 1) in
    let d : (r + 2 ^ n) / 2 ^ j ≡ r / 2 ^ j + 2 ^ k * 2 = ap (λ (x : ℕ). (r + x) / 2 ^ j) pw ∙ add-mul-div_right r (2 ^ k * 2) (pow_pos j) in
    ap (λ (x : ℕ). eqb (x % 2) 1) d ∙ ap (λ (x : ℕ). eqb x 1) (add-mul-mod_self_right (r / 2 ^ j) (2 ^ k) 2)

top_digit : (r n : ℕ) → r < 2 ^ n → has (r + 2 ^ n) n ≡ true
unfolding has
top_digit r n h =
    let d : (r + 2 ^ n) / 2 ^ n ≡ 1 = ap (λ (x : ℕ). (r + x) / 2 ^ n) (sym (one-mul (2 ^ n))) ∙ add-mul-div_right r 1 (pow_pos n) ∙ ap (λ (x : ℕ). x + 1) (div-eq_of_lt h) in
    ap (λ (x : ℕ). eqb (x % 2) 1) d

sift_low : (n r : ℕ) (b : Bool) (j : ℕ) → j < n → has (r + cond b (2 ^ n) 0) j ≡ has r j
sift_low n r true j h = low_digit r n j h
sift_low n r false j h = rw (add-zero r)

sift_top : (n r : ℕ) (b : Bool) → r < 2 ^ n → has (r + cond b (2 ^ n) 0) n ≡ b
sift_top n r true h = top_digit r n h
sift_top n r false h = rw (add-zero r) (has_past r n h)

pub has_sift : (n : ℕ) (p : ℕ → Bool) (j : ℕ) → j < n → has (sift n p) j ≡ p j
unfolding sift
has_sift zero p j h = absurd (omega arith)
has_sift (suc n) p j h =
    ⊎_elim (λ (k : j < n). sift_low n (sift n p) (p n) j k ∙ has_sift n p j k)
    (λ (k : n ≤ j). let e : n ≡ j = omega arith in subst (λ (x : ℕ). has (sift n p + cond (p n) (2 ^ n) 0) x ≡ p x) e (sift_top n (sift n p) (p n) (sift_lt n p)))
    (cases_lt j n)

pub sift_past : (n : ℕ) (p : ℕ → Bool) (j : ℕ) → n ≤ j → has (sift n p) j ≡ false
sift_past n p j h = has_past (sift n p) j (let a = sift_lt n p in let b = pow_mono h in omega arith)

pub below_whole : (n s : ℕ) → s < 2 ^ n → below n s ≡ s
below_whole n s h = sift_has n s ∙ mod-eq_of_lt h

pub below_all : (n s : ℕ) → 32 ≤ n → s < 2 ^ 32 → below n s ≡ s
below_all n s h lt = let wide = pow_mono h in below_whole n s (omega arith)

pub has_high : (s j : ℕ) → 32 ≤ j → s < 2 ^ 32 → has s j ≡ false
has_high s j h lt = let wide = pow_mono h in has_past s j (omega arith)

pub same_set : (n s t : ℕ) → s < 2 ^ n → t < 2 ^ n → ((j : ℕ) → j < n → has s j ≡ has t j) → s ≡ t
same_set n s t hs ht h = sym (below_whole n s hs) ∙ sift_same n (has s) (has t) h ∙ below_whole n t ht

sift_not : (n : ℕ) (p : ℕ → Bool) → suc (sift n p + sift n (λ j. not (p j))) ≡ 2 ^ n
unfolding sift
sift_not zero p = refl
sift_not (suc n) p =
    let ih = sift_not n p in
    let st = not_step (p n) (2 ^ n) in
    rw pow-suc (omega arith)

pub others_is : (n s : ℕ) → s < 2 ^ 32 → below n (2 ^ 32 - 1 - s) ≡ others (min n 32) s
others_is n s h =
    let both = sift_not 32 (has s) in
    let whole = below_whole 32 s h in
    let e : 2 ^ 32 - 1 - s ≡ others 32 s = omega arith in
    rw e (⊎_elim (λ (l : n < 32).
    let m : min n 32 ≡ n = omega arith in
    rw m (sift_same n (has (others 32 s)) (λ j. not (has s j)) (λ j k. has_sift 32 (λ i. not (has s i)) j (omega arith))))
    (λ (g : 32 ≤ n).
    let m : min n 32 ≡ 32 = omega arith in
    let a = sift_lt 32 (λ j. not (has s j)) in
    let b = pow_mono g in
    rw m (below_whole n (others 32 s) (omega arith)))
    (cases_lt n 32))
