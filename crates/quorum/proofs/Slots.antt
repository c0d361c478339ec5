-- A tally's loop over the slots. Assumes nothing.
--     passing_at, passing_past    an entry that is there, and one that is not
--     tally_more, tally_less      one slot more, whose entry passes or does not
--     tally_all                   all slots
use Rattle.std.proofs.Common.{◌≡◌, ℕ, zero, suc, ◌+◌, ◌<◌, ◌≤◌, min, Bool, true, false, List, [], ◌∷◌, length, get_or, sym, refl, ap, ◌∙◌, ⊎_elim, arith, pow_mono}
use Rattle.std.proofs.lemmas.Bool.{cases_lt}
use Rattle.sets.specs.Sets.{sift, joined}
use Rattle.sets.proofs.Members.{same_set, sift_lt, has_sift, sift_past}
use Rattle.sets.proofs.Unions.{sift_more, sift_less}
use Rattle.quorum.specs.Tallies.{passing, tallied}

module _ {E : Type 0} (p : E → Bool) where
  pub passing_at : (xs : List E) (i : ℕ) (d : E) → i < length xs → passing p xs i ≡ p (get_or xs i d)
  passing_at [] i d h = absurd (omega arith)
  passing_at (x ∷ xs) zero d h = refl
  passing_at (x ∷ xs) (suc i) d h = passing_at xs i d (omega arith)

  pub passing_past : (xs : List E) (i : ℕ) → length xs ≤ i → passing p xs i ≡ false
  passing_past [] i h = refl
  passing_past (x ∷ xs) zero h = absurd (omega arith)
  passing_past (x ∷ xs) (suc i) h = passing_past xs i (omega arith)

  pub tally_all : (xs : List E) (i : ℕ) → i ≡ min 32 (length xs) → sift i (passing p xs) ≡ tallied p xs
  tally_all xs i e =
      let le : i ≤ 32 = omega arith in
      let wide = pow_mono le in
      let lt = sift_lt i (passing p xs) in
      same_set 32 (sift i (passing p xs)) (tallied p xs) (omega arith) (sift_lt 32 (passing p xs))
      (λ k h. ⊎_elim (λ (q : k < i). has_sift i (passing p xs) k q ∙ sym (has_sift 32 (passing p xs) k h))
      (λ (q : i ≤ k). sift_past i (passing p xs) k q ∙ sym (has_sift 32 (passing p xs) k h ∙ passing_past xs k (omega arith)))
      (cases_lt k i))

  module _ (xs : List E) (i : ℕ) (x : E) (b : Bool) (short : i < length xs) (read : x ≡ get_or xs i x) (tested : b ≡ p x) where
    here : passing p xs i ≡ b
    here = passing_at xs i x short ∙ sym (tested ∙ ap p read)

    pub tally_more : (s : ℕ) → s ≡ sift i (passing p xs) → i < 32 → b ≡ true → joined s i ≡ sift (i + 1) (passing p xs)
    tally_more s e h t = rw e (sift_more i (passing p xs) h (here ∙ t))

    pub tally_less : (s : ℕ) → s ≡ sift i (passing p xs) → b ≡ false → s ≡ sift (i + 1) (passing p xs)
    tally_less s e f = e ∙ sift_less i (passing p xs) (here ∙ f)
