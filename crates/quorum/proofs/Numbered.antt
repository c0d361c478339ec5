-- Loops over a list that have yielded ys. Assumes nothing.
--     turn, ended              of `for (process, x) in (0..n).zip(xs)`: the next process is the length of ys, and its entry stands there in xs; how many turns there were
--     part_turn, part_ended    the same of `for x in xs.iter().take(n)`
--     up_to_end                what a count by slots gives, where the slots past the end change nothing
use Rattle.std.proofs.Common.{◌≡◌, ℕ, zero, suc, ◌<◌, ◌≤◌, min, List, length, get_or, take, Bor, Some, None, Option, ap, sym, ◌∙◌, zero-add, ⊎_elim, arith}
use Rattle.std.proofs.iter.Yields.{fronts, nat_range_steps}
use Rattle.std.proofs.lemmas.Iterator.{YieldsList, YieldsList-from_slice, YieldsList-from_range, YieldsList-from_zip, YieldsList-from_take, zips}
use Rattle.std.proofs.lemmas.Iterator.Consumers.{YieldsList-turn, YieldsList-end}
use Rattle.std.proofs.lemmas.Bool.{cases_lt}
use Rattle.std.proofs.lemmas.List.{length-take, get_or-take, get_or_default}
use Rattle.std.proofs.lemmas.List.FromFn.{length-range_with_len, get_or-range_with_len}
use Rattle.std.proofs.lemmas.Slice.Zip.{length-zip, get_or-zip}
use Rattle.std.specs.Iterator.{Yields}
use Rattle.std.specs.Iterator.Adapters.{zip_first, zip_second, take_source, take_count, take_steps}
use Rattle.std.specs.List.{zip, range_with_len}
use Rattle.std.specs.Slice.Iter.{iter_rest}
use Rattle.std.specs.declared.iter.Take.{Take}
use Rattle.std.specs.declared.iter.Zip.{Zip}
use Rattle.std.specs.declared.ops.Range.{Range}
use Rattle.std.specs.declared.slice.Iter.{Iter}

-- slot i of a list, of which a loop goes through the first n, has x
pub record Entry {A : Type 0} (n : ℕ) (xs : List A) (i : ℕ) (x : A) : Type 0 where
  pub low : i < n
  pub short : i < length xs
  pub entry_is : (d : A) → x ≡ get_or xs i d

module _ {A : Type 0} (n : ℕ) (xs : List A) where
  module _ (ys : List (ℕ × Bor A)) (s t u : Zip (Range ℕ) (Iter A)) (r : Option (ℕ × Bor A)) (first : zip_first s ≡ record { start = 0; end = n }) (second : iter_rest (zip_second s) ≡ xs) (y : Yields (zips nat_range_steps fronts) s ys t) where
    pairs : YieldsList (zips nat_range_steps fronts) (λ p. (p.0, p.1.now)) s (zip (range_with_len 0 n) xs)
    pairs = YieldsList-from_zip (YieldsList-from_range 0 n n first (omega arith)) (YieldsList-from_slice xs second)

    count : length (zip (range_with_len 0 n) xs) ≡ min n (length xs)
    count = length-zip (range_with_len 0 n) xs ∙ ap (λ (k : ℕ). min k (length xs)) (length-range_with_len 0 n)

    pub turn : (p : ℕ × Bor A) → r ≡ Some p → zips nat_range_steps fronts t r u → (p.0 ≡ length ys) × Entry n xs (length ys) p.1.now
    turn p e st =
        let h = YieldsList-turn pairs ys t y r u p e st in
        let few = count in
        let k = length-range_with_len 0 n in
        let low : length ys < n = omega arith in
        let short : length ys < length xs = omega arith in
        let both = h.1 ∙ get_or-zip (range_with_len 0 n) xs (length ys) (p.0, p.1.now) (omega arith) short in (
          ap (λ (q : ℕ × A). q.0) both ∙ get_or-range_with_len 0 n (length ys) p.0 low ∙ zero-add (length ys),
          record {
            low = low;
            short = short;
            entry_is = λ d. ap (λ (q : ℕ × A). q.1) both ∙ get_or_default xs (length ys) p.1.now d short;
          },
        )

    pub ended : r ≡ None → zips nat_range_steps fronts t r u → length ys ≡ min n (length xs)
    ended e st = let h = YieldsList-end pairs ys t y r u e st in let few = count in omega arith

  module _ (ys : List (Bor A)) (s t u : Take (Iter A)) (r : Option (Bor A)) (source : iter_rest (take_source s) ≡ xs) (most : take_count s ≡ n) (y : Yields (take_steps fronts) s ys t) where
    part : YieldsList (take_steps fronts) (λ x. x.now) s (take n xs)
    part = YieldsList-from_take n (YieldsList-from_slice xs source) most

    pub part_turn : (x : Bor A) → r ≡ Some x → take_steps fronts t r u → Entry n xs (length ys) x.now
    part_turn x e st =
        let h = YieldsList-turn part ys t y r u x e st in
        let few = length-take n xs in
        let low : length ys < n = omega arith in
        let short : length ys < length xs = omega arith in
        record {
          low = low;
          short = short;
          entry_is = λ d. h.1 ∙ get_or-take n xs (length ys) x.now low ∙ get_or_default xs (length ys) x.now d short;
        }

    pub part_ended : r ≡ None → take_steps fronts t r u → length ys ≡ min n (length xs)
    part_ended e st = let h = YieldsList-end part ys t y r u e st in let few = length-take n xs in omega arith

module _ {A : Type 0} (F : ℕ → A) (end : ℕ) (past : (k : ℕ) → end ≤ k → F (suc k) ≡ F k) where
  pub up_to_end : (n : ℕ) → F (min n end) ≡ F n
  up_to_end zero = let e : min zero end ≡ zero = omega arith in ap F e
  up_to_end (suc n) =
      ⊎_elim (λ (l : n < end). let e : min (suc n) end ≡ suc n = omega (arith, l) in ap F e)
      (λ (g : end ≤ n). let e : min (suc n) end ≡ min n end = omega (arith, g) in ap F e ∙ up_to_end n ∙ sym (past n g))
      (cases_lt n end)
