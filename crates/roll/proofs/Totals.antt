-- The weight of all processes is the sum of their list of weights. Assumes nothing.
use Rattle.std.proofs.Common.{◌≡◌, ℕ, zero, suc, ◌+◌, map, refl, sym, ◌∙◌, ap, add-one, zero-add}
use Rattle.std.proofs.lemmas.List.FromFn.{sum_by-map-range_with_len_more}
use Rattle.std.specs.List.{range_with_len, sum}
use Rattle.sets.specs.Weighing.{weigh, total}

pub total_is : (w : ℕ → ℕ) (n : ℕ) → sum (map w (range_with_len 0 n)) ≡ total n w
unfolding weigh
total_is w zero = refl
total_is w (suc n) =
    ap (λ (k : ℕ). sum (map w (range_with_len 0 k))) (sym (add-one n))
    ∙ sum_by-map-range_with_len_more (λ x. x) w 0 n n (zero-add n)
    ∙ ap (λ (s : ℕ). s + w n) (total_is w n)
