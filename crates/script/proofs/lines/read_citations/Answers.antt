use Rattle.std.proofs.Common.{rules, ◌≡◌, ℕ, ◌+◌, List, [], ◌∷◌, ◌++◌, length, slice_index, slice_set, Some, sym, ap, ◌∙◌, arith, add-one}
use Rattle.std.specs.Slice.Iter.{chunks_rest}
use Rattle.script.specs.Lines.{cited, slot_from, bits}
use Rattle.script.proofs.lines.read_citations.Goals as goal

-- one pair more is read
one_pair : (m : ℕ) (cs x rest : List ℕ) (j k : ℕ) → length x ≡ 2 → Some j ≡ slot_from m (slice_index x 0) → Some k ≡ bits 16 (slice_index x 1) → cited (j + 1) (slice_set cs j k) rest ≡ cited m cs (x ++ rest)
one_pair m cs (s ∷ p ∷ []) rest j k h e f = rw (add-one, sym e, sym f)
one_pair m cs (s ∷ p ∷ q ∷ x) rest j k h e f = absurd (omega arith)
one_pair m cs (s ∷ []) rest j k h e f = absurd (omega arith)
one_pair m cs [] rest j k h e f = absurd (omega arith)

pub loop-pair-preserved : goal.loop-pair-preserved
loop-pair-preserved c =
    let place : Some c.in_ok-citations.field-0 ≡ bits 16 (slice_index c.in-Some.pair.now 1) = search rules in
    let left = c.in-Some.ensures.steps.1.0 in
    let read = one_pair c.loop-pair.lowest c.loop-pair.citations c.in-Some.pair.now (chunks_rest c.next.new.self) c.in_ok-slot.slot c.in_ok-citations.field-0 (omega arith) c.in_ok-slot.ensures place in
    record { two = search rules; finite = search rules; left = read ∙ ap (cited c.loop-pair.lowest c.loop-pair.citations) (sym left) ∙ c.loop-pair.invariant.left }
