use Rattle.std.proofs.Common.{◌≡◌, ◌+◌, drop}
use Rattle.core_forms.specs.Trimmed.{trimmed_core}
use Rattle.core_parts.specs.Parts.{is_compound_of}
use Rattle.step_kernel.specs.Least.{least_from, least_compound_of}
use Rattle.step_kernel.proofs.state.State.least_compound.Given as goal

abbrev pub invariant-loop-place : goal.invariant-loop-place
invariant-loop-place l = least_from (λ core. is_compound_of (trimmed_core l.self.view core)) (l.place + 1) (drop l.place l.self.cores) ≡ least_compound_of l.self
