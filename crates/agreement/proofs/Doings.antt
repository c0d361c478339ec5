-- A step of a process keeps what progress rests on of it. Assumes nothing.
--     Mails o M M' k     M' has the mail M, and at place k the message o, if it is one
--     alive_taken        a message taken
--     alive_made         a move made
use Rattle.std.proofs.Common.{◌≡◌, ℕ, ◌≢◌, Some, None, Option, refl, subst, arith}
use Rattle.sets.specs.Rules.{Lawful}
use Rattle.mail.specs.declared.message.Message.{Message}
use Rattle.mail.specs.Trust.{Report}
use Rattle.protocol.specs.declared.row.Row.{Row}
use Rattle.protocol.specs.declared.moves.Plan.{Plan}
use Rattle.protocol.specs.declared.moves.Plan.TheVariants.{Decide}
use Rattle.protocol.specs.Settings.{Setting, Runs}
use Rattle.protocol.specs.Plans.{planned, sends}
use Rattle.protocol.specs.Protocol.{Takes, Can}
use Rattle.protocol.specs.Protocol.Takes.{heard, reported, offered, prepared, committed}
use Rattle.protocol.specs.Protocol.Can.{relay, take_up, propose, vote, lock, decide}
use Rattle.agreement.proofs.Invariant.{Fair, Local, Alive}
use Rattle.agreement.proofs.Kept as kept
use Rattle.agreement.proofs.Kept.{Adds}
use Rattle.agreement.proofs.Backing.{backing_certificate}
use Rattle.agreement.proofs.Reports as reports
use Rattle.agreement.proofs.Offers.{hearing, own_report, safe_offer}

pub alive_taken : (S : Setting) → Lawful S.rule → (M : ℕ → Message) (i : ℕ) (r : Row) (k : ℕ) (r' : Row) → Takes S M i r k r' → Alive S M i r → Alive S M i r'
alive_taken S laws M i r k r' (heard is up) h = record {
  wishing = hearing S laws r.wishes h.wishing k (M k).sender (record { kind_is = is; sender_is = refl }) up;
  reporting = h.reporting;
  proposing = h.proposing;
  doing = h.doing;
}
alive_taken S laws M i r k r' (reported lead un rep) h = record {
  wishing = h.wishing;
  reporting = record {
    cert = h.reporting.cert;
    valid = h.reporting.valid;
    mine = h.reporting.mine;
    box = reports.each_set S.rule.size M r.ballot.reports (λ n. Report S.rule M n r.ballot.view) (M k).sender k h.reporting.box rep;
  };
  proposing = h.proposing;
  doing = h.doing;
}
alive_taken S laws M i r k r' (offered is at un safe) h = record { wishing = h.wishing; reporting = h.reporting; proposing = h.proposing; doing = h.doing }
alive_taken S laws M i r k r' (prepared is at un) h = record { wishing = h.wishing; reporting = h.reporting; proposing = h.proposing; doing = h.doing }
alive_taken S laws M i r k r' (committed is at un) h = record { wishing = h.wishing; reporting = h.reporting; proposing = h.proposing; doing = h.doing }

abbrev pub Mails : Option Message → (ℕ → Message) → (ℕ → Message) → ℕ → Type 0
Mails None M M' k = M ≡ M'
Mails (Some x) M M' k = Adds x M M' × (M' k ≡ x)

module _ (S : Setting) (fair : Fair S) (M M' : ℕ → Message) (rows : ℕ → Row) (ok : (j : ℕ) → Runs S j → Local S M j (rows j)) (some : (k : ℕ) → (M k).locked ≢ 0 → k ≢ 0)
    (i : ℕ) (r : Row) (l : Local S M i r) (h : Alive S M i r) (k : ℕ) where
  pub alive_made : (p : Plan) → Can S.rule M i r p → Mails (sends i r p) M M' k → Alive S M' i (planned S.rule.size M r p)
  alive_made p (relay w hope up) (add, at) = record {
    wishing = record {
      relay = λ nz. (k, rw at (record { kind_is = refl; sender_is = refl }), rw at);
      heard = (reports.wishing S add h.wishing).heard;
      entered = h.wishing.entered;
      told = (reports.wishing S add h.wishing).told;
    };
    reporting = reports.reporting S add (λ o. omega (arith, o.kind_is)) h.reporting;
    proposing = reports.proposing S add (λ o. omega (arith, o.kind_is)) h.proposing;
    doing = reports.doing S add h.doing;
  }
  alive_made p (take_up w hope settled up) (add, at) =
      let x = reports.taking_up S add up k at (record { kind_is = refl; sender_is = refl }) refl
      (own_report S M' i w r.lock (omega (arith, l.locks.low)) (λ nz. kept.certificate S add (h.reporting.cert nz)))
      (settled.here (omega arith)) h.wishing h.reporting h.proposing in
      record {
        wishing = x.0;
        reporting = x.1;
        proposing = x.2;
        doing = record { voted = λ ne. absurd (ne refl); locked = λ e. absurd (let z : ◌≡◌ {A = ℕ} 0 1 = cc in omega arith) };
      }
  alive_made p (propose a lead un q ch) (add, at) = record {
    wishing = reports.wishing S add h.wishing;
    reporting = reports.reporting S add (λ o. omega (arith, o.kind_is)) h.reporting;
    proposing = reports.putting S add k at (record { kind_is = refl; sender_is = refl }) refl
        (kept.proposal S add (safe_offer S fair M rows ok some r.ballot.view r.own a r.ballot.reports h.reporting.box i lead q ch h.reporting.mine)) (rw un at h.proposing);
    doing = reports.doing S add h.doing;
  }
  alive_made p (vote fresh held) (add, at) = record {
    wishing = reports.wishing S add h.wishing;
    reporting = reports.reporting S add (λ o. omega (arith, o.kind_is)) h.reporting;
    proposing = reports.proposing S add (λ o. omega (arith, o.kind_is)) h.proposing;
    doing = record {
      voted = λ ne. (k, rw at (record { kind_is = refl; sender_is = refl; view_is = refl; value_is = refl }));
      locked = λ e. absurd (let z : ◌≡◌ {A = ℕ} 0 1 = cc in omega arith);
    };
  }
  alive_made p (lock phase q) (add, at) = record {
    wishing = reports.wishing S add h.wishing;
    reporting = record {
      cert = λ nz. kept.certificate S add (backing_certificate S fair.laws M r.ballot.prepared r.ballot.voted r.ballot.view q l.holds.votes);
      valid = (reports.reporting S add (λ o. omega (arith, o.kind_is)) h.reporting).valid;
      box = reports.box S add r.ballot.reports h.reporting.box;
      mine = h.reporting.mine;
    };
    proposing = reports.proposing S add (λ o. omega (arith, o.kind_is)) h.proposing;
    doing = record {
      voted = λ ne. (reports.doing S add h.doing).voted (λ e. let z : ◌≡◌ {A = ℕ} 0 1 = cc in omega arith);
      locked = λ e. (k, rw at (record { kind_is = refl; sender_is = refl; view_is = refl; value_is = refl }));
    };
  }
  alive_made p (decide phase un q) same = subst (λ (N : ℕ → Message). Alive S N i (planned S.rule.size M r Decide)) same
      (record { wishing = h.wishing; reporting = h.reporting; proposing = h.proposing; doing = h.doing })
