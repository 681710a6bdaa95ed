-- A model while it is lowered, as what it is lowered to so far.
use Rattle.model_lower.specs.declared.draft.Draft.{Draft}
use Rattle.model_lower.specs.declared.state.Lowered.{Lowered}

abbrev pub lowered_so_far : Draft → Lowered
lowered_so_far d = record { vars = d.vars; map = record { entries = d.entries.items }; cores = d.cores.items }
