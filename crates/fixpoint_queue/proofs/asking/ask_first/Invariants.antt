use Rattle.std.specs.Prelude.{[], Option, Some, None}
use Rattle.core_forms.specs.declared.form.Core.{Core}
use Rattle.core_forms.specs.declared.form.Core.TheVariants.{Clause}
use Rattle.step_kernel.specs.Kernel.{trimmed_at}
use Rattle.fixpoint_queue.proofs.asking.ask_first.Given as goal

-- a core, if there is one
abbrev pub core-of : Option Core → Core
core-of None = Clause []
core-of (Some core) = core

abbrev pub ghost-take_found : goal.ghost-take_found
ghost-take_found g a = core-of (trimmed_at a.state.now a.id)
