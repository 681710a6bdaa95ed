use Rattle.std.proofs.Common.{◌≡◌, ◌++◌, take}
use Rattle.std.specs.List.{flat_map}
use Rattle.bumblebee_reader.specs.Canonical.{next_term_text}
use Rattle.bumblebee_reader.proofs.print.push_terms.Given as goal

abbrev pub invariant-loop-term : goal.invariant-loop-term
invariant-loop-term l = l.out.items ≡ l.initial.out.items ++ flat_map next_term_text (take l.term-index l.others)
