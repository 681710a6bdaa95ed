use Rattle.std.proofs.Common.{◌≡◌, ◌++◌, map, Some}
use Rattle.step_kernel.proofs.lists.all_pending.Given as goal

abbrev pub invariant-loop-core : goal.invariant-loop-core
invariant-loop-core l = l.pending.items ++ map Some l.core-iterator.rest.items ≡ map Some l.fn.cores.items
