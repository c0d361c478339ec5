use Rattle.std.proofs.Common.{rules, ◌≡◌, ℕ, suc, zero, ◌+◌, ◌<◌, get_or, List, map, sym, refl, ◌∙◌, arith, add-zero, zero-add}
use Rattle.std.specs.List.{range_with_len}
use Rattle.std.specs.Array.{IsFromFnResultFrom}
use denote.Param.Members.{Mut, Called}
use Rattle.std.proofs.lemmas.List.FromFn.{fill_by_all}
use Rattle.rehearsal.specs.Playing.{owned}
use Rattle.rehearsal.proofs.opening.owns_from.Goals as goal

in_order : (b : ℕ) → map (λ j. b + j) (range_with_len 0 32) ≡ owned b 32
unfolding owned
in_order b = refl

module _ {F : Type 0} (g : Mut F (ℕ × Unit {0}) ℕ) (v : F → ℕ) (step : (p : F) (i y : ℕ) (q : F) → Called g p (i, tt) y q → (y ≡ v p + i) × (v q ≡ v p)) (ys : List ℕ) where
  numbered : (n i : ℕ) (f : F) → IsFromFnResultFrom g f ys i n → (k : ℕ) → k < n → get_or ys (i + k) 0 ≡ v f + (i + k)
  numbered zero i f h k l = absurd (omega arith)
  numbered (suc n) i f (q, y, at, called, rest) zero l = let s = step f i y q called in let here = at.1 0 in simp add-zero (here ∙ s.0)
  numbered (suc n) i f (q, y, at, called, rest) (suc k) l = let s = step f i y q called in let e : i + suc k ≡ i + 1 + k = omega arith in rw (e, sym s.1) (numbered n (i + 1) q rest k (omega arith))

pub returns : goal.returns
returns c =
    let each : (k : ℕ) → k < 32 → get_or c.from_fn.result k 0 ≡ c.args.first + k = λ k h. simp zero-add at (numbered _ (λ f. f.0.now) (λ p i y q called. search rules) c.from_fn.result 32 0 _ c.from_fn.ensures.items.each k h) in
    fill_by_all (λ j. c.args.first + j) c.from_fn.result 32 0 c.from_fn.ensures.items.long each ∙ in_order c.args.first
