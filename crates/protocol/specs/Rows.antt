-- Rows, and what becomes of them. Assumes nothing.
--     no_places                                   32 places 0
--     new_ballot v                                the ballot of a view that is taken up: fresh, nothing held
--     new_row a                                   the row of a process with the own value a, before anything
--     blank_row                                   what a read past the end of a table gives
--     hears r j w                                 r with the wish w of process j
--     with_ballot r b                             r with another ballot
--     holds_report b j k, holds_prepared b j k,
--     holds_committed b j k, holds_proposal b k   the ballot b that holds the place k
use Rattle.std.specs.Prelude.{ℕ, false, List, [], replicate, None, slice_set}
use Rattle.protocol.specs.declared.row.Row.{Row}
use Rattle.protocol.specs.declared.row.Ballot.{Ballot}
use Rattle.protocol.specs.declared.row.Phase.TheVariants.{Fresh}

abbrev pub no_places : List ℕ
no_places = replicate 32 0

abbrev pub new_ballot : ℕ → Ballot
new_ballot v = record { view = v; phase = Fresh; voted = 0; proposed = false; proposal = 0; reports = no_places; prepared = no_places; committed = no_places }

abbrev pub new_row : ℕ → Row
new_row a = record { own = a; wishes = no_places; relayed = 0; ballot = new_ballot 0; lock = record { view = 0; value = 0; certificate = no_places }; decision = None }

abbrev pub blank_row : Row
blank_row = record {
  own = 0;
  wishes = [];
  relayed = 0;
  ballot = record { view = 0; phase = Fresh; voted = 0; proposed = false; proposal = 0; reports = []; prepared = []; committed = [] };
  lock = record { view = 0; value = 0; certificate = [] };
  decision = None;
}

abbrev pub hears : Row → ℕ → ℕ → Row
hears r j w = record { own = r.own; wishes = slice_set r.wishes j w; relayed = r.relayed; ballot = r.ballot; lock = r.lock; decision = r.decision }

abbrev pub with_ballot : Row → Ballot → Row
with_ballot r b = record { own = r.own; wishes = r.wishes; relayed = r.relayed; ballot = b; lock = r.lock; decision = r.decision }

abbrev pub holds_report : Ballot → ℕ → ℕ → Ballot
holds_report b j k = record {
  view = b.view;
  phase = b.phase;
  voted = b.voted;
  proposed = b.proposed;
  proposal = b.proposal;
  reports = slice_set b.reports j k;
  prepared = b.prepared;
  committed = b.committed;
}

abbrev pub holds_proposal : Ballot → ℕ → Ballot
holds_proposal b k = record {
  view = b.view;
  phase = b.phase;
  voted = b.voted;
  proposed = b.proposed;
  proposal = k;
  reports = b.reports;
  prepared = b.prepared;
  committed = b.committed;
}

abbrev pub holds_prepared : Ballot → ℕ → ℕ → Ballot
holds_prepared b j k = record {
  view = b.view;
  phase = b.phase;
  voted = b.voted;
  proposed = b.proposed;
  proposal = b.proposal;
  reports = b.reports;
  prepared = slice_set b.prepared j k;
  committed = b.committed;
}

abbrev pub holds_committed : Ballot → ℕ → ℕ → Ballot
holds_committed b j k = record {
  view = b.view;
  phase = b.phase;
  voted = b.voted;
  proposed = b.proposed;
  proposal = b.proposal;
  reports = b.reports;
  prepared = b.prepared;
  committed = slice_set b.committed j k;
}
