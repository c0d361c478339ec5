-- Lists of weights. Assumes nothing.
--     by_weight, by_total      which fault is the first
--     Load xs, load            what holds of a list without a fault
--     lightened                no process is too heavy in it
use Rattle.std.proofs.Common.{◌≡◌, ℕ, ◌<◌, ◌≤◌, min, ◌&&◌, leb, List, length, Some, None, Option, ⊎_elim, arith}
use Rattle.std.proofs.lemmas.List.{get_or_past}
use Rattle.std.proofs.lemmas.Bool.{leb-true, ltb-false, eqb-false, and_parts, not-false, cases_lt}
use Rattle.sets.specs.Weighing.{total}
use Rattle.quorum.specs.Firsts.{first_below}
use Rattle.quorum.specs.WeightList.{weight_at, total_of, weights_fault, count_fault, heavy_fault, total_fault}
use Rattle.quorum.specs.declared.faults.RuleFault.{RuleFault}
use Rattle.quorum.proofs.Found.{both_none, none_below, first_here, faultless}

pub counted : (n : ℕ) → count_fault n ≡ None → (1 ≤ n) × (n ≤ 32)
counted n h =
    let ab = and_parts (leb 1 n) (leb n 32) (not-false (leb 1 n && leb n 32) (faultless _ _ h)) in
    (leb-true 1 n ab.0, leb-true n 32 ab.1)

pub enough : (w j : ℕ) → heavy_fault w j ≡ None → w ≤ 1000000
enough w j h = ltb-false 1000000 w (faultless _ _ h)

module _ (xs : List ℕ) where
  abbrev pub heavy : ℕ → Option RuleFault
  heavy j = heavy_fault (weight_at xs j) j

  module _ (few : count_fault (length xs) ≡ None) where
    pub by_weight : (e : RuleFault) (j : ℕ) → j < length xs → first_below heavy j ≡ None → heavy j ≡ Some e → weights_fault xs ≡ Some e
    unfolding weights_fault
    by_weight e j l p q = rw (few, first_here heavy j (length xs) e l p q)

    -- the loop has weighed the first i processes, and found t
    module _ (i t : ℕ) (end : i ≡ min 32 (length xs)) (weighed : t ≡ total i (weight_at xs)) (light : first_below heavy i ≡ None) where
      all : i ≡ length xs
      all = let bound = counted (length xs) few in omega arith

      pub by_total : (t ≡ total_of xs) × (weights_fault xs ≡ total_fault t)
      unfolding weights_fault
      by_total =
          let t_is : t ≡ total_of xs = rw (← all) weighed in
          let none : first_below heavy (length xs) ≡ None = rw (← all) light in (t_is, rw (few, none, t_is))

  pub record Load : Type 0 where
    pub some : 1 ≤ length xs
    pub few : length xs ≤ 32
    pub light : (j : ℕ) → weight_at xs j ≤ 1000000
    pub weighty : 1 ≤ total_of xs

  pub lightened : first_below heavy (length xs) ≡ None → (j : ℕ) → weight_at xs j ≤ 1000000
  lightened h j =
      ⊎_elim (λ (l : j < length xs). enough (weight_at xs j) j (none_below heavy (length xs) h j l))
      (λ (g : length xs ≤ j). let z = get_or_past xs j 0 g in omega arith)
      (cases_lt j (length xs))

  pub load : weights_fault xs ≡ None → Load
  unfolding weights_fault
  load h =
      let a = both_none (count_fault (length xs)) _ h in
      let b = both_none (first_below heavy (length xs)) (total_fault (total_of xs)) a.1 in
      let c = counted (length xs) a.0 in
      let t = eqb-false (total_of xs) 0 (faultless _ _ b.1) in
      record { some = c.0; few = c.1; light = lightened b.0; weighty = omega arith }
