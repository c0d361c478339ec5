use Rattle.std.proofs.Common.{◌≡◌}
use Rattle.std.specs.Slice.Iter.{chunks_rest, chunks_size}
use Rattle.script.specs.Lines.{cited, no_citations}
use Rattle.script.proofs.lines.read_citations.Given as goal

abbrev pub invariant-loop-pair : goal.invariant-loop-pair
invariant-loop-pair l = record {
  two : chunks_size l.pair-iterator ≡ 2;
  finite : (goal.iterator-loop-pair).is_finite l.pair-iterator;
  left : cited l.lowest l.citations (chunks_rest l.pair-iterator) ≡ cited 0 no_citations l.numbers;
}
