-- Tests of all slots of a list of places. Assumes nothing.
--     bare_all, citable_all     the tests from the front, as an iterator makes them
use Rattle.std.proofs.Common.{◌≡◌, ℕ, zero, suc, ◌+◌, Bool, true, ◌&&◌, List, [], ◌∷◌, length, eqb, refl, sym, ◌∙◌, ap, arith}
use Rattle.std.proofs.Math.Bool.{and_assoc, and-true}
use Rattle.std.specs.List.{list_all, enumerate_from}
use Rattle.mail.specs.Messages.{place_at}
use Rattle.mail.specs.Posting.{bare, citable_at, citable}

-- the test of the first n places, which are those of the processes from d on
slots_pass : (ℕ → ℕ → Bool) → ℕ → List ℕ → ℕ → Bool
slots_pass test d places zero = true
slots_pass test d places (suc j) = slots_pass test d places j && test (d + j) (place_at places j)

module _ (test : ℕ → ℕ → Bool) where
  front : (d x : ℕ) (xs : List ℕ) (n : ℕ) → slots_pass test d (x ∷ xs) (suc n) ≡ (test d x && slots_pass test (d + 1) xs n)
  unfolding slots_pass
  front d x xs zero = let e : d + 0 ≡ d = omega arith in rw e (sym (and-true (test d x)))
  front d x xs (suc n) =
      let e : d + suc n ≡ d + 1 + n = omega arith in
      ap (λ b. b && test (d + suc n) (place_at xs n)) (front d x xs n)
      ∙ and_assoc (test d x) (slots_pass test (d + 1) xs n) (test (d + suc n) (place_at xs n))
      ∙ ap (λ i. test d x && (slots_pass test (d + 1) xs n && test i (place_at xs n))) e

  all_pass : (d : ℕ) (xs : List ℕ) → list_all (λ (p : ℕ × ℕ). test p.0 p.1) (enumerate_from d xs) ≡ slots_pass test d xs (length xs)
  unfolding slots_pass
  all_pass d [] = refl
  all_pass d (x ∷ xs) = ap (λ b. test d x && b) (all_pass (d + 1) xs) ∙ sym (front d x xs (length xs))

numbered : (f : ℕ → Bool) (d : ℕ) (xs : List ℕ) → list_all f xs ≡ list_all (λ (p : ℕ × ℕ). f p.1) (enumerate_from d xs)
numbered f d [] = refl
numbered f d (x ∷ xs) = ap (λ b. f x && b) (numbered f (d + 1) xs)

bare_slots : (places : List ℕ) (n : ℕ) → slots_pass (λ _ k. eqb k 0) 0 places n ≡ bare places n
unfolding slots_pass bare
bare_slots places zero = refl
bare_slots places (suc n) = ap (λ b. b && eqb (place_at places n) 0) (bare_slots places n)

pub bare_all : (places : List ℕ) → list_all (λ k. eqb k 0) places ≡ bare places (length places)
bare_all places = numbered (λ k. eqb k 0) 0 places ∙ all_pass (λ _ k. eqb k 0) 0 places ∙ bare_slots places (length places)

module _ (n c : ℕ) where
  citable_slots : (places : List ℕ) (j : ℕ) → slots_pass (citable_at n c) 0 places j ≡ citable n c places j
  unfolding slots_pass citable
  citable_slots places zero = refl
  citable_slots places (suc j) =
      let e : 0 + j ≡ j = omega arith in
      ap (λ b. b && citable_at n c (0 + j) (place_at places j)) (citable_slots places j) ∙ ap (λ i. citable n c places j && citable_at n c i (place_at places j)) e

  pub citable_all : (places : List ℕ) → list_all (λ (p : ℕ × ℕ). citable_at n c p.0 p.1) (enumerate_from 0 places) ≡ citable n c places (length places)
  citable_all places = all_pass (citable_at n c) 0 places ∙ citable_slots places (length places)
