use Rattle.std.proofs.Common.{◌≡◌, drop, vec_items}
use Rattle.numerals.specs.Reading.{read_on, numbers}
use Rattle.numerals.proofs.lines.read_numbers.Given as goal

abbrev pub invariant-loop-byte : goal.invariant-loop-byte
invariant-loop-byte l = read_on l.field (vec_items l.found) (drop l.byte-index l.line) ≡ numbers l.line
