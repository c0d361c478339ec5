-- The first fault of a run of slots, as a loop over the slots finds it. Assumes nothing.
--     first_more, first_here      a slot without a fault; the slot of the first one
--     none_below, below_none      no fault below n: none at each slot, and back
--     both_none, none_both        no fault in two tests
--     faultless, holds_then       no fault: the test fails, or the fact that is asked for holds
--     none_from_ok, ok_value, some_from_err     what an answer tells
--     exits                       what is answered where a `?` leaves
use Rattle.std.proofs.Common.{◌≡◌, ℕ, zero, suc, ◌+◌, ◌<◌, ◌≤◌, Bool, true, false, not, IsErrAnd, Some, None, Ok, Err, Option, Result, refl, ⊎_elim, add-one, arith}
use Rattle.std.proofs.lemmas.Result.{err_from_is_err_and}
use Rattle.std.proofs.lemmas.Bool.{cases_lt, false≢true}
use Rattle.quorum.specs.Firsts.{fault_if, first, first_below, answered}

module _ {F X : Type 0} where
  pub none_from_ok : (o : Option F) (x y : X) → Ok y ≡ answered o x → o ≡ None
  none_from_ok None x y h = refl
  none_from_ok (Some e) x y h = cc

  pub ok_value : (o : Option F) (x y : X) → Ok y ≡ answered o x → y ≡ x
  ok_value None x y h = cc
  ok_value (Some e) x y h = cc

  pub some_from_err : (o : Option F) (x : X) (e : F) → Err e ≡ answered o x → o ≡ Some e
  some_from_err None x e h = cc
  some_from_err (Some d) x e h = cc

  -- what is returned where a `?` leaves
  pub exits : (r : Result X F) (e : F) (o : Option F) (x : X) → IsErrAnd r (λ y. y ≡ e) → o ≡ Some e → r ≡ answered o x
  exits r e o x h s = let p = err_from_is_err_and r h in rw (p.1, p.2, s)

module _ {F : Type 0} where
  pub both_none : (a b : Option F) → first a b ≡ None → (a ≡ None) × (b ≡ None)
  both_none None b h = (refl, h)
  both_none (Some e) b h = cc

  pub none_both : (a b : Option F) → a ≡ None → b ≡ None → first a b ≡ None
  none_both a b p q = rw (p, q)

  pub faultless : (b : Bool) (e : F) → fault_if b e ≡ None → b ≡ false
  faultless false e h = refl
  faultless true e h = cc

  pub holds_then : (b : Bool) (e : F) → (fault_if (not b) e ≡ None → b ≡ true) × (b ≡ true → fault_if (not b) e ≡ None)
  holds_then true e = ((λ _. refl), (λ _. refl))
  holds_then false e = ((λ h. cc), (λ h. absurd (false≢true h)))

  pub first_more : (f : ℕ → Option F) (j : ℕ) → first_below f j ≡ None → f j ≡ None → first_below f (j + 1) ≡ None
  first_more f j p q = rw (add-one, p, q)

  pub first_here : (f : ℕ → Option F) (j n : ℕ) (e : F) → j < n → first_below f j ≡ None → f j ≡ Some e → first_below f n ≡ Some e
  first_here f j zero e l p q = absurd (omega arith)
  first_here f j (suc n) e l p q =
      ⊎_elim (λ (k : j < n). rw (first_here f j n e k p q))
      (λ (k : n ≤ j).
      let s : j ≡ n = omega arith in
      let p' : first_below f n ≡ None = rw s at p in
      let q' : f n ≡ Some e = rw s at q in rw (p', q'))
      (cases_lt j n)

  pub below_none : (f : ℕ → Option F) (n : ℕ) → ((j : ℕ) → j < n → f j ≡ None) → first_below f n ≡ None
  below_none f zero h = refl
  below_none f (suc n) h = none_both (first_below f n) (f n) (below_none f n (λ j l. h j (omega arith))) (h n (omega arith))

  pub none_below : (f : ℕ → Option F) (n : ℕ) → first_below f n ≡ None → (j : ℕ) → j < n → f j ≡ None
  none_below f zero h j l = absurd (omega arith)
  none_below f (suc n) h j l =
      let b = both_none (first_below f n) (f n) h in
      ⊎_elim (λ (k : j < n). none_below f n b.0 j k)
      (λ (k : n ≤ j). let s : j ≡ n = omega arith in rw s b.1)
      (cases_lt j n)
