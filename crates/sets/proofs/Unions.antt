-- One member more: what `insert` computes, and the step of a loop that collects members upward. Assumes nothing.
--     below_is                   the members below n < 32, by a remainder
--     insert_is, insert_past     the bit set, below 32; nothing, from 32 up
--     sift_more, sift_less       the processes below i + 1 that pass, where i does and where it does not
use Rattle.std.proofs.Common.{◌≡◌, ℕ, ◌+◌, ◌*◌, ◌/◌, ◌%◌, ◌^◌, ◌<◌, ◌≤◌, Bool, true, false, ◌||◌, eqb, sym, refl, ap, ◌∙◌, ⊎_elim, add-zero, mod-lt, mod-eq_of_lt, one-mul, add-one, arith, pow_pos, pow_mono}
use lib.Pow.{pow-lt}
use lib.Bits.{bit_or, or_shr, or_mod, or_lt}
use Rattle.std.proofs.Math.Bool.{or-false}
use Rattle.std.proofs.lemmas.Bool.{eq-eqb, ne_eqb, cases_eq, cases_lt, or_right}
use Rattle.sets.specs.Sets.{has, sift, joined, below}
use Rattle.sets.proofs.Members.{digit_cases, sift_has, has_past, has_sift, sift_past, sift_lt, same_set}

or_digit : (a b : ℕ) → a < 2 → b < 2 → eqb (bit_or a b) 1 ≡ (eqb a 1 || eqb b 1)
or_digit a b ha hb =
    ⊎_elim (λ (e : a ≡ 0). ⊎_elim (λ (f : b ≡ 0). rw (e, f)) (λ (f : b ≡ 1). rw (e, f)) (digit_cases b hb))
    (λ (e : a ≡ 1). ⊎_elim (λ (f : b ≡ 0). rw (e, f)) (λ (f : b ≡ 1). rw (e, f)) (digit_cases b hb))
    (digit_cases a ha)

has_or : (s t j : ℕ) → has (bit_or s t) j ≡ (has s j || has t j)
unfolding has
has_or s t j =
    let e : bit_or s t / 2 ^ j % 2 ≡ bit_or (s / 2 ^ j % 2) (t / 2 ^ j % 2) = ap (λ (x : ℕ). x % 2) (or_shr s t j) ∙ or_mod (s / 2 ^ j) (t / 2 ^ j) 1 in
    ap (λ (x : ℕ). eqb x 1) e ∙ or_digit (s / 2 ^ j % 2) (t / 2 ^ j % 2) (mod-lt (s / 2 ^ j) (omega arith)) (mod-lt (t / 2 ^ j) (omega arith))

-- 2 ^ i has the member i alone
alone : (i : ℕ) → sift (i + 1) (λ j. eqb j i) ≡ 2 ^ i
unfolding sift
alone i =
    let z : sift i (λ j. eqb j i) ≡ 0 = same_set i (sift i (λ j. eqb j i)) 0 (sift_lt i (λ j. eqb j i)) (pow_pos i) (λ j h. has_sift i (λ k. eqb k i) j h ∙ ne_eqb j i (λ e. omega arith) ∙ sym (has_past 0 j (pow_pos j))) in
    rw (add-one i, eq-eqb i i refl, z) (omega arith)

has_alone : (i j : ℕ) → has (2 ^ i) j ≡ eqb j i
has_alone i j =
    ap (λ (x : ℕ). has x j) (sym (alone i))
    ∙ ⊎_elim (λ (h : j < i + 1). has_sift (i + 1) (λ k. eqb k i) j h)
    (λ (h : i + 1 ≤ j). sift_past (i + 1) (λ k. eqb k i) j h ∙ sym (ne_eqb j i (λ e. omega arith)))
    (cases_lt j (i + 1))

-- `1 << j` in 32 bits
one_bit : (j : ℕ) → j < 32 → 1 * 2 ^ j % 4294967296 ≡ 2 ^ j
one_bit j h = rw (one-mul, mod-eq_of_lt (pow-lt h))

pub below_is : (n s : ℕ) → n < 32 → below n s ≡ s % (1 * 2 ^ n % 4294967296)
below_is n s h = rw (one_bit n h) (sift_has n s)

pub insert_is : (s j : ℕ) → s < 2 ^ 32 → j < 32 → joined s j ≡ bit_or s (1 * 2 ^ j % 4294967296)
insert_is s j hs hj =
    rw (one_bit j hj)
    (same_set 32 (joined s j) (bit_or s (2 ^ j)) (sift_lt 32 (λ k. has s k || eqb k j)) (or_lt 32 s (2 ^ j) hs (pow-lt hj))
    (λ k h. has_sift 32 (λ i. has s i || eqb i j) k h ∙ sym (has_or s (2 ^ j) k ∙ ap (λ (b : Bool). has s k || b) (has_alone j k))))

pub insert_past : (s j : ℕ) → s < 2 ^ 32 → 32 ≤ j → s ≡ joined s j
insert_past s j hs hj =
    same_set 32 s (joined s j) hs (sift_lt 32 (λ k. has s k || eqb k j))
    (λ k h. sym (or-false (has s k)) ∙ ap (λ (b : Bool). has s k || b) (sym (ne_eqb k j (λ e. omega arith))) ∙ sym (has_sift 32 (λ i. has s i || eqb i j) k h))

pub sift_more : (i : ℕ) (p : ℕ → Bool) → i < 32 → p i ≡ true → joined (sift i p) i ≡ sift (i + 1) p
sift_more i p h e =
    same_set 32 (joined (sift i p) i) (sift (i + 1) p) (sift_lt 32 (λ k. has (sift i p) k || eqb k i)) (let a = sift_lt (i + 1) p in let le : i + 1 ≤ 32 = omega arith in let b = pow_mono le in omega arith)
    (λ k h'. has_sift 32 (λ j. has (sift i p) j || eqb j i) k h' ∙
    ⊎_elim (λ (q : k ≡ i). or_right (has (sift i p) k) (eqb k i) (eq-eqb k i q) ∙ sym (has_sift (i + 1) p k (omega arith) ∙ ap p q ∙ e))
    (λ (q : k ≡ i → ⊥). rw (ne_eqb k i q, or-false (has (sift i p) k)) (kept k q))
    (cases_eq k i))
  where
    kept : (k : ℕ) → (k ≡ i → ⊥) → has (sift i p) k ≡ has (sift (i + 1) p) k
    kept k q =
        ⊎_elim (λ (l : k < i). has_sift i p k l ∙ sym (has_sift (i + 1) p k (omega arith)))
        (λ (g : i ≤ k). sift_past i p k g ∙ sym (sift_past (i + 1) p k (omega arith)))
        (cases_lt k i)

pub sift_less : (i : ℕ) (p : ℕ → Bool) → p i ≡ false → sift i p ≡ sift (i + 1) p
unfolding sift
sift_less i p e = rw (add-one i, e, add-zero)
