-- What single calls leave as it is. Assumes nothing.
--     expire_table, post_table         an expiry and a posting change no row
--     deliver_post, deliver_count      a delivery posts nothing
--     untouched                        all of these
use Rattle.std.proofs.Common.{◌≡◌, ℕ, Some, None, Option, refl}
use Rattle.protocol.specs.declared.call.Posting.{Posting}
use Rattle.protocol.specs.declared.refusal.Refusal.{Refusal}
use Rattle.protocol.specs.Settings.{Setting, State, outcome, row, mail}
use Rattle.protocol.specs.Calls.{expire, post, lent_fault, run_fault, deliver}
use Rattle.steps.specs.Giving.{giving_fault}
use Rattle.committee.specs.Reasons.{expire_fault, post_fault}
use Rattle.quorum.specs.Firsts.{first}

-- what an outcome has, if both its states do
either : {A X : Type 0} (part : State → X) (s : State) (o : Option Refusal) (x : A) (t : State) → part t ≡ part s → part (outcome s o x t).state ≡ part s
either part s None x t e = e
either part s (Some d) x t e = refl

module _ (S : Setting) (s : State) where
  pub expire_table : (i : ℕ) → (expire S s i).state.table ≡ s.table
  unfolding expire
  expire_table i = either (λ (t : State). t.table) s (expire_fault S s i) _ _ refl

  pub post_table : (j : ℕ) (p : Posting) → (post S s j p).state.table ≡ s.table
  unfolding post
  post_table j p = either (λ (t : State). t.table) s (post_fault S s j p) _ _ refl

  module _ (i k : ℕ) where
    abbrev fault : Option Refusal
    fault = first (lent_fault S s) (first (run_fault S i) (giving_fault S (mail S s) i (row s i) k))

    pub deliver_post : (deliver S s i k).state.post ≡ s.post
    unfolding deliver
    deliver_post = either (λ (t : State). t.post) s fault tt _ refl

    pub deliver_count : (deliver S s i k).state.count ≡ s.count
    unfolding deliver
    deliver_count = either (λ (t : State). t.count) s fault tt _ refl

pub ruleset untouched = (expire_table, post_table, deliver_post, deliver_count)
