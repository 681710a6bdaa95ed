use Rattle.std.proofs.Common.{◌≡◌, ◌++◌, take, map}
use Rattle.std.specs.List.{flat_map}
use Rattle.bumblebee_reader.specs.Canonical.{next_term_text}
use Rattle.opb_model.specs.Items.{coefficient_word}
use Rattle.opb_model.proofs.text_parts.push_coefficients.Given as goal

abbrev pub invariant-loop-term : goal.invariant-loop-term
invariant-loop-term l = l.out.items ≡ l.initial.out.items ++ flat_map next_term_text (map coefficient_word (take l.term-index l.others))
