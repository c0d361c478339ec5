-- Sums of weights over the processes that pass a test. Assumes nothing.
use Rattle.std.proofs.Common.{◌≡◌, ℕ, zero, suc, ◌+◌, ◌<◌, ◌≤◌, Bool, true, false, cond, not, ◌&&◌, refl, ⊎_elim, add-one, arith}
use Rattle.std.proofs.lemmas.Bool.{cases_Bool, false≢true}
use Rattle.sets.specs.Weighing.{weigh, total}

pub weigh_same : (n : ℕ) (w : ℕ → ℕ) (p q : ℕ → Bool) → ((j : ℕ) → j < n → p j ≡ q j) → weigh n w p ≡ weigh n w q
unfolding weigh
weigh_same zero w p q h = refl
weigh_same (suc n) w p q h = rw (weigh_same n w p q (λ j k. h j (omega arith)), h n (omega arith))

mono_step : (a b : Bool) (x : ℕ) → (a ≡ true → b ≡ true) → cond a x 0 ≤ cond b x 0
mono_step false b x h = omega arith
mono_step true true x h = omega arith
mono_step true false x h = absurd (false≢true (h refl))

pub weigh_mono : (n : ℕ) (w : ℕ → ℕ) (p q : ℕ → Bool) → ((j : ℕ) → j < n → p j ≡ true → q j ≡ true) → weigh n w p ≤ weigh n w q
unfolding weigh
weigh_mono zero w p q h = omega arith
weigh_mono (suc n) w p q h =
    let ih = weigh_mono n w p q (λ j k. h j (omega arith)) in
    let st = mono_step (p n) (q n) (w n) (h n (omega arith)) in omega arith

pub not_step : (a : Bool) (x : ℕ) → cond a x 0 + cond (not a) x 0 ≡ x
not_step true x = omega arith
not_step false x = omega arith

pub weigh_not : (n : ℕ) (w : ℕ → ℕ) (p : ℕ → Bool) → weigh n w p + weigh n w (λ j. not (p j)) ≡ total n w
unfolding weigh
weigh_not zero w p = refl
weigh_not (suc n) w p =
    let ih = weigh_not n w p in
    let st = not_step (p n) (w n) in omega arith

pub weigh_none : (n : ℕ) (w : ℕ → ℕ) (p : ℕ → Bool) → ((j : ℕ) → j < n → p j ≡ false) → weigh n w p ≡ 0
unfolding weigh
weigh_none zero w p h = refl
weigh_none (suc n) w p h = rw (weigh_none n w p (λ j k. h j (omega arith)), h n (omega arith))

pub weigh_some : (n : ℕ) (w : ℕ → ℕ) (p : ℕ → Bool) → 0 < weigh n w p → (j : ℕ) × (j < n) × (p j ≡ true)
unfolding weigh
weigh_some zero w p h = absurd (omega arith)
weigh_some (suc n) w p h =
    ⊎_elim (λ (t : p n ≡ true). (n, omega arith, t))
    (λ (f : p n ≡ false).
    let h' : 0 < weigh n w p = omega (arith, rw f at h) in
    let r = weigh_some n w p h' in (r.0, omega (arith, r.1), r.2))
    (cases_Bool (p n))

three_step : (a b t : Bool) (x : ℕ) → cond a x 0 + cond b x 0 ≤ x + cond t x 0 + cond (a && (b && not t)) x 0
three_step true true true x = omega arith
three_step true true false x = omega arith
three_step true false true x = omega arith
three_step true false false x = omega arith
three_step false true true x = omega arith
three_step false true false x = omega arith
three_step false false true x = omega arith
three_step false false false x = omega arith

-- two sets together weigh no more than all, a third set, and what both share outside the third
pub weigh_three : (n : ℕ) (w : ℕ → ℕ) (a b t : ℕ → Bool) → weigh n w a + weigh n w b ≤ total n w + weigh n w t + weigh n w (λ j. a j && (b j && not (t j)))
unfolding weigh
weigh_three zero w a b t = omega arith
weigh_three (suc n) w a b t =
    let ih = weigh_three n w a b t in
    let st = three_step (a n) (b n) (t n) (w n) in omega arith

-- a loop over the processes: one more
pub weigh_more : (w : ℕ → ℕ) (p : ℕ → Bool) (i s : ℕ) → s ≡ weigh i w p → p i ≡ true → s + w i ≡ weigh (i + 1) w p
unfolding weigh
weigh_more w p i s e t = rw (add-one i, t, e)

pub weigh_less : (w : ℕ → ℕ) (p : ℕ → Bool) (i s : ℕ) → s ≡ weigh i w p → p i ≡ false → s ≡ weigh (i + 1) w p
unfolding weigh
weigh_less w p i s e f = rw (add-one i, f, e) (omega arith)
