-- What stands in a core, in the order of its form: its integers, and the atoms that stand beside them.
use Rattle.std.specs.Prelude.{List, [], ◌∷◌, ◌++◌}
use Rattle.order_ints.specs.declared.atom.Atom.{Atom}
use Rattle.order_ints.specs.declared.order_int.OrdInt.{OrdInt}
use Rattle.core_forms.specs.declared.form.Core.{Core}
use Rattle.core_forms.specs.declared.form.Core.TheVariants.{Ladder, Clause, Parity, Conj, Comp, LeqR, EqR, Sum3, Count}
use Rattle.core_forms.specs.declared.form.Core.TheVariants.{Sum, Max, AllDiff, Amo, Prod, DivMod, Lex}

-- the integers of a core
abbrev pub ints_of : Core → List OrdInt
ints_of (Ladder a) = a ∷ []
ints_of (Clause ls) = []
ints_of (Parity ls odd) = []
ints_of (Conj r ls) = []
ints_of (Comp a b hi lo) = []
ints_of (LeqR r a b) = a ∷ b ∷ []
ints_of (EqR r a b) = a ∷ b ∷ []
ints_of (Sum3 a b c) = a ∷ b ∷ c ∷ []
ints_of (Count ls c) = c ∷ []
ints_of (Sum ints k) = ints
ints_of (Max ints c) = ints ++ c ∷ []
ints_of (AllDiff ints cs) = ints
ints_of (Amo ls) = []
ints_of (Prod a b c) = a ∷ b ∷ c ∷ []
ints_of (DivMod a b q r) = a ∷ b ∷ q ∷ r ∷ []
ints_of (Lex r strict front back) = front ++ back

-- the atoms of a core that stand as atoms, not in a step of an integer
abbrev pub atoms_of : Core → List Atom
atoms_of (Ladder a) = []
atoms_of (Clause ls) = ls
atoms_of (Parity ls odd) = ls
atoms_of (Conj r ls) = r ∷ ls
atoms_of (Comp a b hi lo) = a ∷ b ∷ hi ∷ lo ∷ []
atoms_of (LeqR r a b) = r ∷ []
atoms_of (EqR r a b) = r ∷ []
atoms_of (Sum3 a b c) = []
atoms_of (Count ls c) = ls
atoms_of (Sum ints k) = []
atoms_of (Max ints c) = []
atoms_of (AllDiff ints cs) = cs
atoms_of (Amo ls) = ls
atoms_of (Prod a b c) = []
atoms_of (DivMod a b q r) = []
atoms_of (Lex r strict front back) = r ∷ []
