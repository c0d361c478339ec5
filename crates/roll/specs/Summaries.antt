-- The counts of a summary, which stay at the largest number of 64 bits once there. Assumes nothing.
--     rolls_in s, lines_in s                          how many lines were rolls, and how many there were
--     none_yet                                        before the first line
--     accepted_more s, refused_more s, others_more s  one line more: a roll that is accepted, one that is refused, no roll
use Rattle.std.specs.Prelude.{ℕ, ◌+◌, ◌-◌, ◌^◌, min}
use Rattle.roll.specs.declared.summary.Summary.{Summary}

abbrev added : ℕ → ℕ → ℕ
added a b = min (a + b) (2 ^ 64 - 1)

abbrev more : ℕ → ℕ
more n = added n 1

abbrev pub none_yet : Summary
none_yet = record { accepted = 0; refused = 0; others = 0 }

abbrev pub accepted_more : Summary → Summary
accepted_more s = record { accepted = more s.accepted; refused = s.refused; others = s.others }

abbrev pub refused_more : Summary → Summary
refused_more s = record { accepted = s.accepted; refused = more s.refused; others = s.others }

abbrev pub others_more : Summary → Summary
others_more s = record { accepted = s.accepted; refused = s.refused; others = more s.others }

abbrev pub rolls_in : Summary → ℕ
rolls_in s = added s.accepted s.refused

abbrev pub lines_in : Summary → ℕ
lines_in s = added (rolls_in s) s.others
