-- Cores that are as plain as trimming leaves them: no constants, and no two neighbouring steps with one variable's
-- atoms that follow from one another.
use Rattle.std.specs.Prelude.{◌≡◌, ℕ, Bool, true, false, List, [], ◌∷◌}
use Rattle.order_ints.specs.declared.atom.Atom.{Atom}
use Rattle.order_ints.specs.declared.atom.Atom.TheVariants.{True, False, Of}
use Rattle.order_ints.specs.declared.order_int.OrdInt.{OrdInt}
use Rattle.order_ints.specs.Truth.{not_atom}
use Rattle.order_ints.specs.Same.{same_atom}
use Rattle.core_forms.specs.declared.form.Core.{Core}
use Rattle.core_forms.specs.declared.form.Core.TheVariants.{Ladder, Clause, Parity, Conj, Comp, LeqR, EqR, Sum3, Count}
use Rattle.core_forms.specs.declared.form.Core.TheVariants.{Sum, Max, AllDiff, Amo, Prod, DivMod, Lex}

-- the atom is no constant
abbrev pub IsLiteral : Atom → Type 0
IsLiteral True = ⊥
IsLiteral False = ⊥
IsLiteral (Of l) = Unit {0}

-- beside it, the same as a test
abbrev pub is_literal : Atom → Bool
is_literal True = false
is_literal False = false
is_literal (Of l) = true

abbrev pub AreLiterals : List Atom → Type 0
AreLiterals [] = Unit {0}
AreLiterals (a ∷ atoms) = IsLiteral a × AreLiterals atoms

-- the steps behind one with an atom: the atom of each is no constant, and neither that of the step before it nor its
-- negation
abbrev pub ArePlainBehind : Atom → List (Atom × ℕ) → Type 0
ArePlainBehind before [] = Unit {0}
ArePlainBehind before (s ∷ steps) =
    (same_atom before s.0 ≡ false) × (same_atom s.0 (not_atom before) ≡ false) × IsLiteral s.0
    × ArePlainBehind s.0 steps

-- so it is of all steps of the integer; since no step is a constant, the first one may be any
abbrev pub IsPlainInt : OrdInt → Type 0
IsPlainInt a = ArePlainBehind False a.steps

abbrev pub ArePlainInts : List OrdInt → Type 0
ArePlainInts [] = Unit {0}
ArePlainInts (a ∷ ints) = IsPlainInt a × ArePlainInts ints

-- of a core of a form that may have a long list
abbrev pub IsPlain : Core → Type 0
IsPlain (Ladder a) = ⊥
IsPlain (Clause ls) = ⊥
IsPlain (Parity ls odd) = AreLiterals ls
IsPlain (Conj r ls) = ⊥
IsPlain (Comp a b hi lo) = ⊥
IsPlain (LeqR r a b) = ⊥
IsPlain (EqR r a b) = ⊥
IsPlain (Sum3 a b c) = ⊥
IsPlain (Count ls c) = AreLiterals ls × IsPlainInt c
IsPlain (Sum ints k) = ArePlainInts ints
IsPlain (Max ints c) = ⊥
IsPlain (AllDiff ints cs) = ArePlainInts ints
IsPlain (Amo ls) = AreLiterals ls
IsPlain (Prod a b c) = ⊥
IsPlain (DivMod a b q r) = ⊥
IsPlain (Lex r strict front back) = ArePlainInts front × ArePlainInts back
