use Rattle.order_ints.specs.Place.{AtomsBelow}
use Rattle.core_forms.specs.Contents.{atoms_of}
use Rattle.core_words.proofs.below.are_atoms_below.Given as goal

-- all are below where those that are left are
abbrev pub invariant-loop-atom : goal.invariant-loop-atom
invariant-loop-atom l = AtomsBelow l.n l.atom-iterator → AtomsBelow l.n (atoms_of l.core)
