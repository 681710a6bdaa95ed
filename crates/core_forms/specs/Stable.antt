-- What trimming leaves as it is.
use Rattle.std.specs.Prelude.{◌≡◌, ℕ, false, List, [], ◌∷◌}
use Rattle.order_ints.specs.declared.atom.Atom.{Atom}
use Rattle.order_ints.specs.declared.atom.Atom.TheVariants.{True, False, Of}
use Rattle.order_ints.specs.declared.order_int.OrdInt.{OrdInt}
use Rattle.order_ints.specs.Truth.{not_atom}
use Rattle.order_ints.specs.Same.{same_atom}
use Rattle.order_ints.specs.View.{resolve}
use Rattle.core_forms.specs.declared.form.Core.{Core}
use Rattle.core_forms.specs.Each.{EachAtom}
use Rattle.core_forms.specs.Plain.{IsPlain}

-- the atom is no constant, and the view has it as it is
abbrev pub IsStable : List Atom → Atom → Type 0
IsStable view True = ⊥
IsStable view False = ⊥
IsStable view (Of l) = resolve view (Of l) ≡ Of l

abbrev pub AreStable : List Atom → List Atom → Type 0
AreStable view [] = Unit {0}
AreStable view (a ∷ atoms) = IsStable view a × AreStable view atoms

-- the steps behind one with an atom: each is stable, and has another atom than the one before it, and than its negation
abbrev pub AreStableBehind : List Atom → Atom → List (Atom × ℕ) → Type 0
AreStableBehind view before [] = Unit {0}
AreStableBehind view before (s ∷ steps) =
    (same_atom before s.0 ≡ false) × (same_atom s.0 (not_atom before) ≡ false) × IsStable view s.0
    × AreStableBehind view s.0 steps

-- the steps of the integer are stable; a stable one is not False, so any may be the first
abbrev pub IsStableInt : List Atom → OrdInt → Type 0
IsStableInt view a = AreStableBehind view False a.steps

abbrev pub AreStableInts : List Atom → List OrdInt → Type 0
AreStableInts view [] = Unit {0}
AreStableInts view (a ∷ ints) = IsStableInt view a × AreStableInts view ints

-- the core is plain, and the view has each of its atoms as it is
pub record IsStableCore (view : List Atom) (core : Core) : Type 0 where
  pub plain : IsPlain core
  pub each : EachAtom (λ a. resolve view a ≡ a) core
