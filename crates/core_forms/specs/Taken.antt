-- What a core held that is taken apart.
use Rattle.core_forms.specs.declared.form.Core.{Core}
use Rattle.core_forms.specs.declared.form.Core.TheVariants.{Ladder, Clause, Parity, Conj, Comp, LeqR, EqR, Sum3, Count}
use Rattle.core_forms.specs.declared.form.Core.TheVariants.{Sum, Max, AllDiff, Amo, Prod, DivMod, Lex}
use Rattle.core_forms.specs.declared.taken.Taken.{Taken}
use Rattle.core_forms.specs.declared.taken.Taken.TheVariants.{Xor, Added, Counted, Summed, Differing, AtMostOne, Words}
use Rattle.core_forms.specs.declared.taken.Taken.TheVariants.{Other}

-- the members of a core of a form that may be compound, or a core of another form
abbrev pub taken_apart : Core → Taken
taken_apart (Ladder a) = Other (Ladder a)
taken_apart (Clause ls) = Other (Clause ls)
taken_apart (Parity ls odd) = Xor ls odd
taken_apart (Conj r ls) = Other (Conj r ls)
taken_apart (Comp a b hi lo) = Other (Comp a b hi lo)
taken_apart (LeqR r a b) = Other (LeqR r a b)
taken_apart (EqR r a b) = Other (EqR r a b)
taken_apart (Sum3 a b c) = Added a b c
taken_apart (Count ls c) = Counted ls c
taken_apart (Sum ints k) = Summed ints k
taken_apart (Max ints c) = Other (Max ints c)
taken_apart (AllDiff ints cs) = Differing ints cs
taken_apart (Amo ls) = AtMostOne ls
taken_apart (Prod a b c) = Other (Prod a b c)
taken_apart (DivMod a b q r) = Other (DivMod a b q r)
taken_apart (Lex r strict front back) = Words r strict front back
