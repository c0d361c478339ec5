-- The four laws of a rule that goes by weight, and so of counting and of weights.
--     Thresholds m w q t     quorums of m weigh at least q by w, tolerated sets at most t, and q and t are apart enough
--     by_thresholds          such a rule is lawful
--     counting_lawful, weighing_lawful
use Rattle.std.proofs.Common.{◌≡◌, ℕ, ◌+◌, ◌-◌, ◌*◌, ◌/◌, ◌<◌, ◌≤◌, true, false, not, ◌&&◌, Decides, arith}
use Rattle.std.proofs.lemmas.Bool.{and_parts, not-true, leb-true, le-leb, ltb-true, lt-ltb}
use Rattle.sets.specs.Sets.{has, others}
use Rattle.sets.specs.Rules.{Rule, Lawful}
use Rattle.sets.specs.Weighing.{weigh, total, weight, count, counting, weighing}
use Rattle.sets.proofs.Members.{has_sift, has_none}
use Rattle.sets.proofs.Sums.{weigh_same, weigh_mono, weigh_not, weigh_none, weigh_some, weigh_three}
use Rattle.sets.proofs.Counts.{count_all}

pub record Thresholds (m : Rule) (w : ℕ → ℕ) (q t : ℕ) : Type 0 where
  pub some : 1 ≤ m.size
  pub few : m.size ≤ 32
  pub quorum_is : (s : ℕ) → Decides (m.quorum s) (q ≤ weight m.size w s)
  pub tolerated_is : (s : ℕ) → Decides (m.tolerated s) (weight m.size w s ≤ t)
  -- two quorums share more than a tolerated set
  pub share : total m.size w + t < 2 * q
  -- what a tolerated set leaves is a quorum
  pub leave : q + t ≤ total m.size w

module _ (m : Rule) (w : ℕ → ℕ) (q t : ℕ) (h : Thresholds m w q t) where
  meet : (a b c : ℕ) → m.quorum a ≡ true → m.quorum b ≡ true → m.tolerated c ≡ true → (j : ℕ) × (j < m.size) × (has a j ≡ true) × (has b j ≡ true) × (has c j ≡ false)
  meet a b c qa qb tc =
      let n = m.size in
      let ha = (h.quorum_is a).0 qa in
      let hb = (h.quorum_is b).0 qb in
      let hc = (h.tolerated_is c).0 tc in
      let apart = h.share in
      let three = weigh_three n w (has a) (has b) (has c) in
      let heavy : 0 < weigh n w (λ j. has a j && (has b j && not (has c j))) = omega arith in
      let r = weigh_some n w (λ j. has a j && (has b j && not (has c j))) heavy in
      let ab = and_parts (has a r.0) (has b r.0 && not (has c r.0)) r.2 in
      let bc = and_parts (has b r.0) (not (has c r.0)) ab.1 in
      (r.0, r.1, ab.0, bc.0, not-true (has c r.0) bc.1)

  rest : (c : ℕ) → m.tolerated c ≡ true → m.quorum (others m.size c) ≡ true
  rest c tc =
      let n = m.size in
      let hc = (h.tolerated_is c).0 tc in
      let left = h.leave in
      let two = weigh_not n w (has c) in
      let e = weigh_same n w (has (others n c)) (λ j. not (has c j)) (λ j k. has_sift n (λ i. not (has c i)) j k) in
      (h.quorum_is (others n c)).1 (omega arith)

  pub by_thresholds : Lawful m
  by_thresholds = record {
    some = h.some;
    few = h.few;
    meet = meet;
    rest = rest;
    more = λ a b qa ab. let le = weigh_mono m.size w (has a) (has b) ab in let ha = (h.quorum_is a).0 qa in (h.quorum_is b).1 (omega arith);
    none = let z = weigh_none m.size w (has 0) (λ j k. has_none j) in (h.tolerated_is 0).1 (omega arith);
    part = λ a b tb ab. let le = weigh_mono m.size w (has a) (has b) ab in let hb = (h.tolerated_is b).0 tb in (h.tolerated_is a).1 (omega arith);
  }

pub counting_lawful : (f : ℕ) → f ≤ 10 → Lawful (counting f)
unfolding counting
counting_lawful f h =
    let all = count_all (3 * f + 1) in
    by_thresholds (counting f) (λ _. 1) (2 * f + 1) f (record {
      some = omega arith;
      few = omega arith;
      quorum_is = λ s. (leb-true (2 * f + 1) (count (3 * f + 1) s), le-leb (2 * f + 1) (count (3 * f + 1) s));
      tolerated_is = λ s. (leb-true (count (3 * f + 1) s) f, le-leb (count (3 * f + 1) s) f);
      share = omega arith;
      leave = omega arith;
    })

pub weighing_lawful : (n : ℕ) (w : ℕ → ℕ) → 1 ≤ n → n ≤ 32 → 1 ≤ total n w → Lawful (weighing n w)
unfolding weighing
weighing_lawful n w some few heavy =
    let W = total n w in
    by_thresholds (weighing n w) w (2 * W / 3 + 1) ((W - 1) / 3) (record {
      some = some;
      few = few;
      quorum_is = λ s. ((λ a. let lt = ltb-true (2 * W) (3 * weight n w s) a in omega arith), (λ a. lt-ltb (2 * W) (3 * weight n w s) (omega arith)));
      tolerated_is = λ s. ((λ a. let lt = ltb-true (3 * weight n w s) W a in omega arith), (λ a. lt-ltb (3 * weight n w s) W (omega arith)));
      share = omega arith;
      leave = omega arith;
    })
