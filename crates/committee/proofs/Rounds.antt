-- The turns of a sweep, one by one, and what it answers at the end. Assumes nothing.
--     turns_more       one turn more
--     swept_all        all turns: the sweep's answer, and the state after
use Rattle.std.proofs.Common.{◌≡◌, ℕ, ◌+◌, None, Ok, sym, ap, ◌∙◌, add-one}
use Rattle.protocol.specs.declared.call.Swept.{Swept}
use Rattle.protocol.specs.Settings.{Setting, State}
use Rattle.protocol.specs.Calls.{lent_fault}
use Rattle.protocol.specs.Sweeps.{Sweeping, begun, turn, turns, sweep}
use Rattle.committee.specs.Sweeping.{sweeping}

pub turns_more : (S S' : Setting) → S' ≡ S → (c : ℕ) (w : Sweeping) (i : ℕ) (u v : Sweeping) → v ≡ turn S' c u i → u ≡ turns S c w i → v ≡ turns S c w (i + 1)
unfolding turns
turns_more S S' same c w i u v e f =
    let one : v ≡ turn S c u i = rw same at e in
    rw add-one (one ∙ ap (λ (x : Sweeping). turn S c x i) f)

pub swept_all : (S : Setting) (s : State) → lent_fault S s ≡ None → (n : ℕ) → n ≡ S.rule.size → (t : State) (x : Swept) → sweeping t x ≡ turns S s.count (begun s) n → sweep S s ≡ record { answer = Ok x; state = t }
unfolding sweep
swept_all S s lent n n_is t x e =
    let h : turns S s.count (begun s) S.rule.size ≡ sweeping t x = sym (rw n_is at e) in
    rw (lent, h)
