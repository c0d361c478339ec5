-- Which messages a foreign process may post. Assumes nothing.
--     bare places j           the first j places are 0
--     citable_at n c j k      process j may be cited with place k: the place is 0, or j is below n and the place is not above the count c
--     citable n c places j    the first j places may be cited
--     well_formed n c x       x may be posted among n processes after c messages: a kind from 1 to 5, a view, unused fields 0, and citable places
use Rattle.std.specs.Prelude.{ℕ, zero, suc, Bool, true, false, cond, ◌&&◌, ◌||◌, List, ◌==◌, nat_le, nat_lt}
use Rattle.mail.specs.declared.message.Message.{Message}
use Rattle.mail.specs.Messages.{place_at, kind_wish, kind_report, kind_propose, kind_prepared, kind_committed}

unfoldable pub bare : List ℕ → ℕ → Bool
bare places zero = true
bare places (suc j) = bare places j && place_at places j == 0

abbrev pub citable_at : ℕ → ℕ → ℕ → ℕ → Bool
citable_at n c j k = k == 0 || (nat_lt j n && nat_le k c)

unfoldable pub citable : ℕ → ℕ → List ℕ → ℕ → Bool
citable n c places zero = true
citable n c places (suc j) = citable n c places j && citable_at n c j (place_at places j)

abbrev pub well_formed : ℕ → ℕ → Message → Bool
well_formed n c x =
    cond (x.view == 0) false
    (cond (x.kind == kind_wish) (x.value == 0 && (x.locked == 0 && bare x.citations 32))
    (cond (x.kind == kind_report) (cond (x.locked == 0) (x.value == 0 && bare x.citations 32) (citable n c x.citations 32))
    (cond (x.kind == kind_propose) (x.locked == 0 && citable n c x.citations 32)
    (cond (x.kind == kind_prepared || x.kind == kind_committed) (x.locked == 0 && bare x.citations 32) false))))
