-- The highest wish whose set passes is the highest of all views whose set passes.
--     highest_is       for any test of sets that disregards members from n up and refuses the empty set
--     views_are        for the two questions of a lawful rule
--     highest_more     the loop's step; highest_all, its end
use Rattle.std.proofs.Common.{◌≡◌, ℕ, zero, suc, ◌+◌, ◌-◌, ◌<◌, ◌≤◌, Bool, true, false, not, leb, ◌⊎◌, List, [], ◌∷◌, length, get_or, min, Decides, sym, refl, ap, ◌∙◌, subst, inl, inr, ⊎_elim, add-one, arith}
use Rattle.std.proofs.lemmas.Bool.{cases_lt, cases_eq, cases_Bool, lt-leb, both_ways, not_from_true}
use Rattle.std.proofs.lemmas.List.{get_or_past}
use Rattle.std.proofs.lemmas.Bool.Decides.{nat_tests, same_from_decides}
use Rattle.sets.specs.Sets.{has, Same}
use Rattle.sets.specs.Rules.{Rule, Lawful, Blocking}
use Rattle.sets.proofs.Members.{has_sift, has_none}
use Rattle.sets.proofs.Grounded.{blocking_is, grounded}
use Rattle.quorum.proofs.Numbered.{up_to_end}
use Rattle.quorum.specs.Tallies.{passing}
use Rattle.quorum.specs.Wishes.{wishing, raised, highest, hopeful, settled, Highest, Views}

raised_le : (h w : ℕ) (b : Bool) → h ≤ raised h w b
raised_le h w true = omega arith
raised_le h w false = omega arith

raised_cases : (h w : ℕ) (b : Bool) → (raised h w b ≡ h) ⊎ ((b ≡ true) × (raised h w b ≡ w))
raised_cases h w true = ⊎_elim (λ (l : h < w). inr (refl, omega arith)) (λ (g : w ≤ h). inl (omega arith)) (cases_lt h w)
raised_cases h w false = inl refl

-- the sets of w and w + 1 differ only where the wish is w
pass_next : (xs : List ℕ) (w j : ℕ) → (get_or xs j 0 ≡ w → ⊥) → passing (leb w) xs j ≡ passing (leb (suc w)) xs j
pass_next [] w j h = refl
pass_next (x ∷ xs) w zero h = grind (arith, nat_tests)
pass_next (x ∷ xs) w (suc j) h = pass_next xs w j h

pass_above : (xs : List ℕ) (w j : ℕ) → get_or xs j 0 < w → passing (leb w) xs j ≡ false
pass_above [] w j h = refl
pass_above (x ∷ xs) w zero h = lt-leb w x h
pass_above (x ∷ xs) w (suc j) h = pass_above xs w j h

-- whether one of the first k wishes is w
wished : (xs : List ℕ) (w k : ℕ) → ((j : ℕ) × (j < k) × (get_or xs j 0 ≡ w)) ⊎ ((j : ℕ) → j < k → get_or xs j 0 ≡ w → ⊥)
wished xs w zero = inr (λ j h e. absurd (omega arith))
wished xs w (suc k) =
    ⊎_elim (λ (e : get_or xs k 0 ≡ w). inl (k, omega arith, e))
    (λ (ne : get_or xs k 0 ≡ w → ⊥).
    ⊎_elim (λ (r : (j : ℕ) × (j < k) × (get_or xs j 0 ≡ w)). inl (r.0, omega (arith, r.1), r.2))
    (λ (r : (j : ℕ) → j < k → get_or xs j 0 ≡ w → ⊥).
    inr (λ j h e. ⊎_elim (λ (l : j < k). r j l e) (λ (g : k ≤ j). let s : j ≡ k = omega arith in ne (subst (λ (i : ℕ). get_or xs i 0 ≡ w) s e)) (cases_lt j k)))
    (wished xs w k))
    (cases_eq (get_or xs k 0) w)

-- a bound of the first k wishes
top : List ℕ → ℕ → ℕ
top xs zero = 0
top xs (suc k) = top xs k + get_or xs k 0

under_top : (xs : List ℕ) (k j : ℕ) → j < k → get_or xs j 0 ≤ top xs k
unfolding top
under_top xs zero j h = absurd (omega arith)
under_top xs (suc k) j h =
    ⊎_elim (λ (l : j < k). let ih = under_top xs k j l in omega arith)
    (λ (g : k ≤ j). let s : j ≡ k = omega arith in rw s (omega arith))
    (cases_lt j k)

module _ (q : ℕ → Bool) (xs : List ℕ) where
  wish_le : (k j : ℕ) → j < k → q (wishing xs (get_or xs j 0)) ≡ true → get_or xs j 0 ≤ highest q xs k
  unfolding highest
  wish_le zero j h p = absurd (omega arith)
  wish_le (suc k) j h p =
      ⊎_elim
      (λ (l : j < k).
      let ih = wish_le k j l p in
      let up = raised_le (highest q xs k) (get_or xs k 0) (q (wishing xs (get_or xs k 0))) in omega arith)
      (λ (g : k ≤ j). let s : k ≡ j = omega arith in rw (s, p) (omega arith))
      (cases_lt j k)

  highest_passes : (k : ℕ) → 1 ≤ highest q xs k → q (wishing xs (highest q xs k)) ≡ true
  unfolding highest
  highest_passes zero h = absurd (omega arith)
  highest_passes (suc k) h =
      let w = get_or xs k 0 in
      let P : ℕ → Type 0 = λ r. 1 ≤ r → q (wishing xs r) ≡ true in
      ⊎_elim (λ (e : raised (highest q xs k) w (q (wishing xs w)) ≡ highest q xs k). subst P (sym e) (highest_passes k) h)
      (λ (e : (q (wishing xs w) ≡ true) × (raised (highest q xs k) w (q (wishing xs w)) ≡ w)). subst P (sym e.1) (λ _. e.0) h)
      (raised_cases (highest q xs k) w (q (wishing xs w)))

  module _ (n : ℕ) (few : n ≤ 32) (same : (s t : ℕ) → Same n s t → q s ≡ q t) (none : q 0 ≡ false) where
    alike : (v w : ℕ) → ((j : ℕ) → j < n → passing (leb v) xs j ≡ passing (leb w) xs j) → q (wishing xs v) ≡ q (wishing xs w)
    alike v w h =
        same (wishing xs v) (wishing xs w)
        (λ j k. has_sift 32 (passing (leb v) xs) j (omega arith) ∙ h j k ∙ sym (has_sift 32 (passing (leb w) xs) j (omega arith)))

    too_high : (w : ℕ) → top xs n < w → q (wishing xs w) ≡ false
    too_high w h =
        same (wishing xs w) 0
        (λ j k. has_sift 32 (passing (leb w) xs) j (omega arith) ∙ pass_above xs w j (let u = under_top xs n j k in omega arith) ∙ sym (has_none j))
        ∙ none

    climb : (k w : ℕ) → w + k ≡ suc (top xs n) → q (wishing xs w) ≡ true → w ≤ highest q xs n
    climb zero w e h = absurd (both_ways (q (wishing xs w)) (too_high w (omega arith)) h)
    climb (suc k) w e h =
        ⊎_elim (λ (r : (j : ℕ) × (j < n) × (get_or xs j 0 ≡ w)). subst (λ (v : ℕ). v ≤ highest q xs n) r.2 (wish_le n r.0 r.1 (subst (λ (v : ℕ). q (wishing xs v) ≡ true) (sym r.2) h)))
        (λ (r : (j : ℕ) → j < n → get_or xs j 0 ≡ w → ⊥).
        let ih = climb k (suc w) (omega arith) (sym (alike w (suc w) (λ j l. pass_next xs w j (r j l))) ∙ h) in omega arith)
        (wished xs w n)

    pub highest_is : Highest (λ w. q (wishing xs w) ≡ true) (highest q xs n)
    highest_is = record {
      here = highest_passes n;
      above = λ w h p.
          ⊎_elim (λ (l : w < suc (top xs n)). let le = climb (suc (top xs n) - w) w (omega arith) p in omega arith)
          (λ (g : suc (top xs n) ≤ w). both_ways (q (wishing xs w)) (too_high w g) p)
          (cases_lt w (suc (top xs n)));
    }

module _ (m : Rule) (laws : Lawful m) where
  no_quorum : m.quorum 0 ≡ false
  no_quorum =
      ⊎_elim (λ (t : m.quorum 0 ≡ true). let r = (grounded m laws).reaches 0 0 t laws.none in absurd (both_ways (has 0 r.0) (has_none r.0) r.2))
      (λ (f : m.quorum 0 ≡ false). f)
      (cases_Bool (m.quorum 0))

  settled_is : (xs : List ℕ) → Highest (λ w. m.quorum (wishing xs w) ≡ true) (settled m xs)
  settled_is xs = highest_is m.quorum xs m.size laws.few (grounded m laws).quorum_same no_quorum

  hopeful_is : (xs : List ℕ) → Highest (λ w. Blocking m (wishing xs w)) (hopeful m xs)
  hopeful_is xs =
      let h = highest_is (λ s. not (m.tolerated s)) xs m.size laws.few (λ s t e. ap not ((grounded m laws).tolerated_same s t e)) (not_from_true (m.tolerated 0) laws.none) in
      record {
        here = λ one. (blocking_is m laws (wishing xs (hopeful m xs))).0 (h.here one);
        above = λ w lt b. h.above w lt ((blocking_is m laws (wishing xs w)).1 b);
      }

  order : (xs : List ℕ) → settled m xs ≤ hopeful m xs
  order xs =
      ⊎_elim
      (λ (lt : hopeful m xs < settled m xs). absurd ((hopeful_is xs).above (settled m xs) lt ((grounded m laws).blocks (wishing xs (settled m xs)) ((settled_is xs).here (omega arith)))))
      (λ (le : settled m xs ≤ hopeful m xs). le)
      (cases_lt (hopeful m xs) (settled m xs))

  pub views_are : Views m
  views_are = record { hopeful_is = hopeful_is; settled_is = settled_is; order = order }

-- one process more of the loop, by its answers
module _ (q : ℕ → Bool) (xs : List ℕ) (k h w s r : ℕ) (b : Bool) (so_far : h ≡ highest q xs k) (wish_is : w ≡ get_or xs k 0) (set_is : s ≡ wishing xs w) (asked : b ≡ q s) (next_is : r ≡ raised h w b) where
  pub highest_more : r ≡ highest q xs (k + 1)
  unfolding highest
  highest_more = rw (add-one k, next_is, so_far, asked, set_is, wish_is)

-- the loop ends with the list, since a wish of 0 raises nothing
module _ (q : ℕ → Bool) (xs : List ℕ) where
  unraised : (h : ℕ) (b : Bool) → raised h 0 b ≡ h
  unraised h true = omega arith
  unraised h false = refl

  pub highest_all : (n : ℕ) → highest q xs n ≡ highest q xs (min n (length xs))
  unfolding highest
  highest_all n = sym (up_to_end (highest q xs) (length xs) (λ k g. rw (get_or_past xs k 0 g, unraised)) n)

pub asks_blocking : (m : Rule) → Lawful m → (s : ℕ) (b : Bool) → Decides b (Blocking m s) → b ≡ not (m.tolerated s)
asks_blocking m laws s b d = same_from_decides b (not (m.tolerated s)) d (blocking_is m laws s)
