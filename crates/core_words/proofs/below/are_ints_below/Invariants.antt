use Rattle.core_forms.specs.Contents.{ints_of}
use Rattle.core_forms.specs.Place.{IntsBelow}
use Rattle.core_words.proofs.below.are_ints_below.Given as goal

-- all are below where those that are left are
abbrev pub invariant-loop-a : goal.invariant-loop-a
invariant-loop-a l = IntsBelow l.n l.a-iterator → IntsBelow l.n (ints_of l.core)
