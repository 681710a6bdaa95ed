-- What may change of a long list whose members stay as they are: the last member of a sum, and the truth of an order of
-- words. It is the list's edge, and settled where it stands as the store has it.
use Rattle.std.specs.Prelude.{ℕ, ◌||◌, Bool, false, List, [], ◌∷◌, ◌++◌, Contains, max, nat_eq}
use Rattle.order_ints.specs.declared.atom.Atom.{Atom}
use Rattle.order_ints.specs.declared.order_int.OrdInt.{OrdInt}
use Rattle.order_ints.specs.declared.atom.Atom.TheVariants.{True, False, Of}
use Rattle.order_ints.specs.View.{resolve}
use Rattle.core_forms.specs.declared.edges.Edge.{Edge}
use Rattle.core_forms.specs.declared.edges.Edge.TheVariants.{Truth, Last}
use Rattle.core_forms.specs.declared.edges.Known.{Known}
use Rattle.core_forms.specs.declared.edges.Known.TheVariants.{Nothing, ButLast, Plain}
use Rattle.core_forms.specs.declared.form.Core.{Core}
use Rattle.core_forms.specs.declared.form.Core.TheVariants.{Sum, Lex}
use Rattle.core_forms.specs.Place.{CoreBelow, IntsBelow}
use Rattle.core_forms.specs.Plain.{IsPlain, ArePlainInts}
use Rattle.core_forms.specs.Stable.{AreStableInts, IsStableCore}
use Rattle.core_forms.specs.Totals.{before_last}
use Rattle.core_forms.specs.Trimmed.{trimmed_int}
use Rattle.core_forms.specs.Variables.{atom_vars, ints_vars, core_vars}

-- the last integer trimmed by a view, the others as they are
abbrev pub last_trimmed : List Atom → List OrdInt → List OrdInt
last_trimmed view [] = []
last_trimmed view (a ∷ []) = trimmed_int view a ∷ []
last_trimmed view (a ∷ b ∷ ints) = a ∷ last_trimmed view (b ∷ ints)

-- a core whose edge a view has as it stands
abbrev pub settled_core : List Atom → Core → Core
settled_core view (Sum ints k) = Sum (last_trimmed view ints) k
settled_core view (Lex r strict front back) = Lex (resolve view r) strict front back
settled_core view core = core

-- what is no edge is stable
abbrev pub IsStableInside : List Atom → Core → Type 0
IsStableInside view (Sum ints k) = AreStableInts view (before_last ints)
IsStableInside view (Lex r strict front back) = AreStableInts view front × AreStableInts view back
IsStableInside view core = IsStableCore view core

-- the variables of what is no edge are from 1 and below n
abbrev pub InsideBelow : ℕ → Core → Type 0
InsideBelow n (Sum ints k) = IntsBelow n (before_last ints)
InsideBelow n (Lex r strict front back) = IntsBelow n front × IntsBelow n back
InsideBelow n core = CoreBelow n core

-- what is known of a core
abbrev pub IsKnown : Known → Core → Type 0
IsKnown Nothing core = Unit {0}
IsKnown ButLast (Sum ints k) = ArePlainInts (before_last ints)
IsKnown ButLast core = IsPlain core
IsKnown Plain core = IsPlain core

-- the last integer replaced by another one
abbrev pub with_last : OrdInt → List OrdInt → List OrdInt
with_last last [] = []
with_last last (a ∷ []) = last ∷ []
with_last last (a ∷ b ∷ ints) = a ∷ with_last last (b ∷ ints)

-- a core with what stood at its edge before
abbrev pub restored : Edge → Core → Core
restored (Truth r) (Lex now strict front back) = Lex r strict front back
restored (Last a) (Sum ints k) = Sum (with_last a ints) k
restored edge core = core

-- the variables of a core, but for the truth of an order of words
abbrev pub listed_vars : Core → List ℕ
listed_vars (Lex r strict front back) = ints_vars (front ++ back)
listed_vars core = core_vars core

-- what a view has in place of an atom has no variable that the atom hasn't
pub record HasOwn (view : List Atom) (a : Atom) : Type 0 where
  pub own : (v : ℕ) → Contains (atom_vars (resolve view a)) v → Contains (atom_vars a) v

-- an atom's variable, counted from 1; 0 is for a constant
abbrev pub var_of : Atom → ℕ
var_of True = 0
var_of False = 0
var_of (Of l) = l.var

-- whether steps have a variable
abbrev pub has_var : ℕ → List (Atom × ℕ) → Bool
has_var var [] = false
has_var var (s ∷ steps) = nat_eq (var_of s.0) var || has_var var steps

-- the greatest variable of steps, and of the steps of integers, or another number where that is greater
abbrev pub greatest_var : ℕ → List (Atom × ℕ) → ℕ
greatest_var most [] = most
greatest_var most (s ∷ steps) = greatest_var (max most (var_of s.0)) steps

abbrev pub greatest_vars : ℕ → List OrdInt → ℕ
greatest_vars most [] = most
greatest_vars most (a ∷ ints) = greatest_vars (greatest_var most a.steps) ints
