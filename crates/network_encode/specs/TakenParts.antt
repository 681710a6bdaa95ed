-- The core that was taken apart.
use Rattle.core_forms.specs.declared.form.Core.{Core}
use Rattle.core_forms.specs.declared.form.Core.TheVariants.{Parity, Sum3, Count, Sum, AllDiff, Amo, Lex}
use Rattle.core_forms.specs.declared.taken.Taken.{Taken}
use Rattle.core_forms.specs.declared.taken.Taken.TheVariants.{Xor, Added, Counted, Summed, Differing, AtMostOne, Words}
use Rattle.core_forms.specs.declared.taken.Taken.TheVariants.{Other}

abbrev pub core_of : Taken → Core
core_of (Xor ls odd) = Parity ls odd
core_of (Added a b c) = Sum3 a b c
core_of (Counted ls c) = Count ls c
core_of (Summed ints k) = Sum ints k
core_of (Differing ints cs) = AllDiff ints cs
core_of (AtMostOne ls) = Amo ls
core_of (Words r strict front back) = Lex r strict front back
core_of (Other core) = core
