-- Which move is planned, by the tests in their order. Assumes nothing.
-- v stands for the hopeful and the settled view, and t and b for the tests of moves 2 and 3.
use Rattle.std.proofs.Common.{◌≡◌, ℕ, ◌<◌, ◌≤◌, Bool, true, false, not, ◌&&◌, eqb, ltb, Some, Option, sym, ap}
use Rattle.std.proofs.lemmas.Bool.{lt-ltb, le-ltb}
use Rattle.sets.specs.Rules.{Rule}
use Rattle.quorum.specs.Wishes.{hopeful, settled}
use Rattle.mail.specs.declared.message.Message.{Message}
use Rattle.mail.specs.Messages.{cited}
use Rattle.mail.specs.Leaders.{leads}
use Rattle.protocol.specs.declared.row.Row.{Row}
use Rattle.protocol.specs.declared.moves.Plan.{Plan}
use Rattle.protocol.specs.declared.moves.Plan.TheVariants.{Relay, TakeUp, Propose}
use Rattle.protocol.specs.Plans.{plan, choice, vote_plan}

module _ (m : Rule) (M : ℕ → Message) (i : ℕ) (r : Row) (v : ℕ × ℕ) (v_is : v ≡ (hopeful m r.wishes, settled m r.wishes)) where
  h_is : hopeful m r.wishes ≡ v.0
  h_is = sym (ap (λ (w : ℕ × ℕ). w.0) v_is)

  s_is : settled m r.wishes ≡ v.1
  s_is = sym (ap (λ (w : ℕ × ℕ). w.1) v_is)

  pub by_relay : r.relayed < v.0 → Some (Relay v.0) ≡ plan m M i r
  unfolding plan
  by_relay l = rw (h_is, lt-ltb r.relayed v.0 l)

  module _ (relayed : v.0 ≤ r.relayed) (t : Bool) (t_is : t ≡ (eqb v.1 v.0 && ltb r.ballot.view v.1)) where
    pub by_take_up : t ≡ true → Some (TakeUp v.1) ≡ plan m M i r
    unfolding plan
    by_take_up goes = rw (h_is, s_is, le-ltb r.relayed v.0 relayed, sym t_is, goes)

    module _ (stays : t ≡ false) (b : Bool) (b_is : b ≡ (leads m.size r.ballot.view i && (not r.ballot.proposed && m.quorum (cited r.ballot.reports)))) where
      pub by_proposal : b ≡ true → (a : ℕ) → a ≡ choice m.size M r.ballot.reports r.own → Some (Propose a) ≡ plan m M i r
      unfolding plan
      by_proposal leading a a_is = rw (h_is, s_is, le-ltb r.relayed v.0 relayed, sym t_is, stays, sym b_is, leading, sym a_is)

      pub by_vote : b ≡ false → (o : Option Plan) → o ≡ vote_plan m M r.ballot r.ballot.phase r.decision → o ≡ plan m M i r
      unfolding plan
      by_vote following o o_is = rw (h_is, s_is, le-ltb r.relayed v.0 relayed, sym t_is, stays, sym b_is, following, sym o_is)
