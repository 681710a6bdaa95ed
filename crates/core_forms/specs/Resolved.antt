-- A core with another atom in place of each of its atoms, as where a view gives each its label.
use Rattle.std.specs.Prelude.{ℕ, List, [], ◌∷◌, map}
use Rattle.order_ints.specs.declared.atom.Atom.{Atom}
use Rattle.order_ints.specs.declared.order_int.OrdInt.{OrdInt}
use Rattle.order_ints.specs.View.{resolve}
use Rattle.core_forms.specs.declared.form.Core.{Core}
use Rattle.core_forms.specs.declared.form.Core.TheVariants.{Ladder, Clause, Parity, Conj, Comp, LeqR, EqR, Sum3, Count}
use Rattle.core_forms.specs.declared.form.Core.TheVariants.{Sum, Max, AllDiff, Amo, Prod, DivMod, Lex}

-- each step with another atom
abbrev pub map_steps : (Atom → Atom) → List (Atom × ℕ) → List (Atom × ℕ)
map_steps f [] = []
map_steps f (s ∷ steps) = (f s.0, s.1) ∷ map_steps f steps

abbrev pub map_int : (Atom → Atom) → OrdInt → OrdInt
map_int f a = record { base = a.base; steps = map_steps f a.steps }

abbrev pub map_ints : (Atom → Atom) → List OrdInt → List OrdInt
map_ints f [] = []
map_ints f (a ∷ ints) = map_int f a ∷ map_ints f ints

-- each atom of a core replaced
abbrev pub map_core : (Atom → Atom) → Core → Core
map_core f (Ladder a) = Ladder (map_int f a)
map_core f (Clause ls) = Clause (map f ls)
map_core f (Parity ls odd) = Parity (map f ls) odd
map_core f (Conj r ls) = Conj (f r) (map f ls)
map_core f (Comp a b hi lo) = Comp (f a) (f b) (f hi) (f lo)
map_core f (LeqR r a b) = LeqR (f r) (map_int f a) (map_int f b)
map_core f (EqR r a b) = EqR (f r) (map_int f a) (map_int f b)
map_core f (Sum3 a b c) = Sum3 (map_int f a) (map_int f b) (map_int f c)
map_core f (Count ls c) = Count (map f ls) (map_int f c)
map_core f (Sum ints k) = Sum (map_ints f ints) k
map_core f (Max ints c) = Max (map_ints f ints) (map_int f c)
map_core f (AllDiff ints cs) = AllDiff (map_ints f ints) (map f cs)
map_core f (Amo ls) = Amo (map f ls)
map_core f (Prod a b c) = Prod (map_int f a) (map_int f b) (map_int f c)
map_core f (DivMod a b q r) = DivMod (map_int f a) (map_int f b) (map_int f q) (map_int f r)
map_core f (Lex r strict front back) = Lex (f r) strict (map_ints f front) (map_ints f back)

-- a core as a view has it: each atom is the label, or the label's negation
abbrev pub resolved_core : List Atom → Core → Core
resolved_core view core = map_core (resolve view) core
