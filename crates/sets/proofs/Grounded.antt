-- What the four laws give, for every rule.
--     blocking_is      a set is blocking exactly when it is not tolerated
--     grounded         the facts of Ground
use Rattle.std.proofs.Common.{◌≡◌, ℕ, ◌<◌, true, false, not, Decides, sym, ◌∙◌, ⊎_elim}
use Rattle.std.proofs.lemmas.Bool.{cases_Bool, not-true, not_from_false, both_ways}
use Rattle.std.proofs.lemmas.Bool.Decides.{same_from_decides}
use Rattle.sets.specs.Sets.{has}
use Rattle.sets.specs.Rules.{Rule, Lawful, Blocking, Ground}

module _ (m : Rule) (laws : Lawful m) where
  pub blocking_is : (s : ℕ) → Decides (not (m.tolerated s)) (Blocking m s)
  blocking_is s = (
    (λ free t tol in'. both_ways (m.tolerated s) (not-true (m.tolerated s) free) (laws.part s t tol in')),
    (λ (b : Blocking m s).
        ⊎_elim (λ (t : m.tolerated s ≡ true). absurd (b s t (λ j _ k. k)))
        (λ (f : m.tolerated s ≡ false). not_from_false (m.tolerated s) f)
        (cases_Bool (m.tolerated s))),
  )

  reaches : (a t : ℕ) → m.quorum a ≡ true → m.tolerated t ≡ true → (j : ℕ) × (j < m.size) × (has a j ≡ true) × (has t j ≡ false)
  reaches a t qa tt' = let r = laws.meet a a t qa qa tt' in (r.0, r.1, r.2, r.4)

  pub grounded : Ground m
  grounded = record {
    reaches = reaches;
    blocks = λ a qa t tol in'. let r = reaches a t qa tol in both_ways (has t r.0) r.3 (in' r.0 r.1 r.2);
    quorum_same = λ s t e. same_from_decides (m.quorum s) (m.quorum t) ((λ q. laws.more s t q (λ j h k. sym (e j h) ∙ k)), (λ q. laws.more t s q (λ j h k. e j h ∙ k))) ((λ q. q), (λ q. q));
    tolerated_same = λ s t e. same_from_decides (m.tolerated s) (m.tolerated t) ((λ q. laws.part t s q (λ j h k. e j h ∙ k)), (λ q. laws.part s t q (λ j h k. sym (e j h) ∙ k))) ((λ q. q), (λ q. q));
  }
