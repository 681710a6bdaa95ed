use Rattle.std.proofs.Common.{◌≡◌, take}
use Rattle.decompose.proofs.forms.copied_ints.Given as goal

abbrev pub invariant-loop-a : goal.invariant-loop-a
invariant-loop-a l = l.copy.items ≡ take l.a-index l.a-items
