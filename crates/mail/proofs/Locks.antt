-- The highest locked view of a list of places, over what each place reads as. Assumes nothing.
--     top_most, top_at            no place is above the highest, and one has it
--     carries_at, carries_from    a place with a locked view and a value
--     top_part                    places past the end of the list are not locked
--     carries_first               the search from the front, as an iterator makes it
use Rattle.std.proofs.Common.{◌≡◌, ℕ, zero, suc, ◌<◌, ◌≤◌, max, min, true, false, ◌||◌, ◌⊎◌, List, [], ◌∷◌, length, take, ap, sym, refl, ◌∙◌, subst, inl, inr, ⊎_elim, arith}
use Rattle.std.proofs.Math.Bool.{or_assoc, or-false}
use Rattle.std.specs.List.{list_any}
use Rattle.std.proofs.lemmas.List.{get_or_past, take_min}
use Rattle.std.proofs.lemmas.Bool.{cases_lt, or_cases, or_left, or_right, false≢true}
use Rattle.quorum.proofs.Numbered.{up_to_end}
use Rattle.mail.specs.declared.message.Message.{Message}
use Rattle.mail.specs.Messages.{place_at, has_lock}
use Rattle.mail.specs.Judging.{top_lock, carries}

module _ (M : ℕ → Message) (places : List ℕ) where
  abbrev lock_at : ℕ → ℕ
  lock_at j = (M (place_at places j)).locked

  pub top_most : (n j : ℕ) → j < n → lock_at j ≤ top_lock M places n
  unfolding top_lock
  top_most zero j h = absurd (omega arith)
  top_most (suc n) j h =
      ⊎_elim (λ (l : j < n). let ih = top_most n j l in omega arith)
      (λ (g : n ≤ j). let e : j ≡ n = omega arith in rw e (omega arith))
      (cases_lt j n)

  pub top_at : (n : ℕ) → (top_lock M places n ≡ 0) ⊎ ((j : ℕ) × (j < n) × (lock_at j ≡ top_lock M places n))
  unfolding top_lock
  top_at zero = inl refl
  top_at (suc n) =
      ⊎_elim (λ (l : top_lock M places n < lock_at n). inr (n, omega arith, omega arith))
      (λ (g : lock_at n ≤ top_lock M places n).
      let e : max (top_lock M places n) (lock_at n) ≡ top_lock M places n = omega arith in
      ⊎_elim (λ (z : top_lock M places n ≡ 0). inl (e ∙ z))
      (λ (r : (j : ℕ) × (j < n) × (lock_at j ≡ top_lock M places n)). inr (r.0, omega (arith, r.1), r.2 ∙ sym e))
      (top_at n))
      (cases_lt (top_lock M places n) (lock_at n))

  module _ (h a : ℕ) where
    pub carries_at : (n : ℕ) → carries M places h a n ≡ true → (j : ℕ) × (j < n) × (has_lock h a (M (place_at places j)) ≡ true)
    unfolding carries
    carries_at zero p = absurd (false≢true p)
    carries_at (suc n) p =
        ⊎_elim (λ (l : carries M places h a n ≡ true). let r = carries_at n l in (r.0, omega (arith, r.1), r.2))
        (λ (r : has_lock h a (M (place_at places n)) ≡ true). (n, omega arith, r))
        (or_cases (carries M places h a n) (has_lock h a (M (place_at places n))) p)

    pub carries_from : (n j : ℕ) → j < n → has_lock h a (M (place_at places j)) ≡ true → carries M places h a n ≡ true
    unfolding carries
    carries_from zero j l p = absurd (omega arith)
    carries_from (suc n) j l p =
        ⊎_elim (λ (k : j < n). or_left (carries M places h a n) (has_lock h a (M (place_at places n))) (carries_from n j k p))
        (λ (g : n ≤ j).
        let e : j ≡ n = omega arith in
        or_right (carries M places h a n) (has_lock h a (M (place_at places n))) (subst (λ (i : ℕ). has_lock h a (M (place_at places i)) ≡ true) e p))
        (cases_lt j n)

  pub top_part : (M 0).locked ≡ 0 → (n : ℕ) → top_lock M places (min n (length places)) ≡ top_lock M places n
  unfolding top_lock
  top_part none n =
      up_to_end (top_lock M places) (length places)
      (λ k l. let p : lock_at k ≡ 0 = ap (λ i. (M i).locked) (get_or_past places k 0 l) ∙ none in omega arith) n

module _ (M : ℕ → Message) (h a : ℕ) where
  carries_front : (x : ℕ) (xs : List ℕ) (n : ℕ) → carries M (x ∷ xs) h a (suc n) ≡ (has_lock h a (M x) || carries M xs h a n)
  unfolding carries
  carries_front x xs zero = sym (or-false (has_lock h a (M x)))
  carries_front x xs (suc n) =
      ap (λ b. b || has_lock h a (M (place_at xs n))) (carries_front x xs n) ∙ or_assoc (has_lock h a (M x)) (carries M xs h a n) (has_lock h a (M (place_at xs n)))

  carries_part : has_lock h a (M 0) ≡ false → (xs : List ℕ) (n : ℕ) → carries M xs h a (min n (length xs)) ≡ carries M xs h a n
  unfolding carries
  carries_part past xs =
      up_to_end (carries M xs h a) (length xs)
      (λ k l.
      let p : has_lock h a (M (place_at xs k)) ≡ false = ap (λ i. has_lock h a (M i)) (get_or_past xs k 0 l) ∙ past in
      rw p (or-false (carries M xs h a k)))

  carries_any : (xs : List ℕ) (n : ℕ) → n ≤ length xs → list_any (λ k. has_lock h a (M k)) (take n xs) ≡ carries M xs h a n
  unfolding carries
  carries_any xs zero l = refl
  carries_any [] (suc n) l = absurd (omega (arith, l))
  carries_any (x ∷ xs) (suc n) l = ap (λ b. has_lock h a (M x) || b) (carries_any xs n (omega (arith, l))) ∙ sym (carries_front x xs n)

  pub carries_first : has_lock h a (M 0) ≡ false → (xs : List ℕ) (n : ℕ) → list_any (λ k. has_lock h a (M k)) (take n xs) ≡ carries M xs h a n
  carries_first past xs n =
      ap (list_any (λ k. has_lock h a (M k))) (sym (take_min n xs)) ∙ carries_any xs (min n (length xs)) (omega arith) ∙ carries_part past xs n
