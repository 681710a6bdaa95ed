use Rattle.std.proofs.Common.{length, refl, ap, ◌∙◌}
use Rattle.core_extract.proofs.trimming.trim_once.Goals as goal

pub trim_by-requires-clause-count : goal.trim_by-requires-clause-count
trim_by-requires-clause-count g c = c.in_ok-group.ensures ∙ ap length c.as_slice.ensures.value

pub returns-in_default : goal.returns-in_default
returns-in_default g c = (c.requires.reduced, record { whole = refl; count = refl })

pub returns-then-saturating_mul-len : goal.returns-then-saturating_mul-len
returns-then-saturating_mul-len g c = (c.requires.reduced, record { whole = refl; count = refl })
