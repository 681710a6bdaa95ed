use Rattle.core_forms.specs.Cores.{AreWellFormed}
use Rattle.core_words.proofs.cores.cores_of.Given as goal

-- what has been read is well formed
abbrev pub invariant-loop-text : goal.invariant-loop-text
invariant-loop-text l = AreWellFormed l.cores.items
