-- A trimmed core: what constants say is worked in, and neighbouring steps with one atom are one.
use Rattle.std.specs.Prelude.{◌≡◌, ℕ, zero, suc, ◌+◌, Bool, true, false, not, List, [], ◌∷◌, ℤ, pos}
use Rattle.std.specs.Prelude.{neg_ℤ, ◌+ℤ◌, map, if◌then◌else◌}
use Rattle.order_ints.specs.declared.atom.Atom.{Atom}
use Rattle.order_ints.specs.declared.atom.Atom.TheVariants.{True, False, Of}
use Rattle.order_ints.specs.declared.order_int.OrdInt.{OrdInt}
use Rattle.order_ints.specs.Same.{is_true, is_false, same_atom}
use Rattle.order_ints.specs.OrderChange.{shifted_of}
use Rattle.order_ints.specs.View.{resolve}
use Rattle.core_forms.specs.declared.form.Core.{Core}
use Rattle.core_forms.specs.declared.form.Core.TheVariants.{Ladder, Clause, Parity, Conj, Comp, LeqR, EqR, Sum3, Count}
use Rattle.core_forms.specs.declared.form.Core.TheVariants.{Sum, Max, AllDiff, Amo, Prod, DivMod, Lex}
use Rattle.core_forms.specs.Resolved.{map_int, resolved_core}

-- a step and those behind it: as long as the next one has the same atom its weight is added; and False steps at
-- the end are gone
abbrev pub merged_steps : Atom → ℕ → List (Atom × ℕ) → List (Atom × ℕ)
merged_steps a w [] = if is_false a then [] else (a, w) ∷ []
merged_steps a w (s ∷ steps) =
    if same_atom a s.0 then merged_steps a (w + s.1) steps else (a, w) ∷ merged_steps s.0 s.1 steps

-- leading True steps go into the base
abbrev pub raised_by : ℤ → List (Atom × ℕ) → OrdInt
raised_by base [] = record { base = base; steps = [] }
raised_by base (s ∷ steps) =
    if is_true s.0 then raised_by (base +ℤ pos s.1) steps
    else record { base = base; steps = merged_steps s.0 s.1 steps }

-- an integer with its leading True steps in the base, without its trailing False steps, and with neighbours of one
-- atom in one step
abbrev pub tidied_int : OrdInt → OrdInt
tidied_int a = raised_by a.base a.steps

-- an integer trimmed by a view: each step as the view has it
abbrev pub trimmed_int : List Atom → OrdInt → OrdInt
trimmed_int view a = tidied_int (map_int (resolve view) a)

abbrev pub tidied_ints : List OrdInt → List OrdInt
tidied_ints [] = []
tidied_ints (a ∷ ints) = tidied_int a ∷ tidied_ints ints

-- some member is True
abbrev pub has_true : List Atom → Bool
has_true [] = false
has_true (a ∷ atoms) = if is_true a then true else has_true atoms

-- some member is False
abbrev pub has_false : List Atom → Bool
has_false [] = false
has_false (a ∷ atoms) = if is_false a then true else has_false atoms

abbrev pub without_true : List Atom → List Atom
without_true [] = []
without_true (a ∷ atoms) = if is_true a then without_true atoms else a ∷ without_true atoms

abbrev pub without_false : List Atom → List Atom
without_false [] = []
without_false (a ∷ atoms) = if is_false a then without_false atoms else a ∷ without_false atoms

abbrev pub without_constants : List Atom → List Atom
without_constants [] = []
without_constants (True ∷ atoms) = without_constants atoms
without_constants (False ∷ atoms) = without_constants atoms
without_constants (Of l ∷ atoms) = Of l ∷ without_constants atoms

-- how many members are True
abbrev pub constant_trues : List Atom → ℕ
constant_trues [] = 0
constant_trues (a ∷ atoms) = if is_true a then suc (constant_trues atoms) else constant_trues atoms

-- odd becomes even, or even odd, so many times
abbrev pub turned : ℕ → Bool → Bool
turned zero odd = odd
turned (suc n) odd = not (turned n odd)

-- the members of a clause: True alone where it is one of them, and otherwise those that are not False
abbrev pub tidied_clause : List Atom → List Atom
tidied_clause atoms = if has_true atoms then True ∷ [] else without_false atoms

-- the members of a conjunction: False alone where it is one of them, and otherwise those that are not True
abbrev pub tidied_members : List Atom → List Atom
tidied_members atoms = if has_false atoms then False ∷ [] else without_true atoms

-- a core of resolved atoms, form by form
abbrev pub tidied_core : Core → Core
tidied_core (Ladder a) = Ladder (tidied_int a)
tidied_core (Clause ls) = Clause (tidied_clause ls)
tidied_core (Parity ls odd) = Parity (without_constants ls) (turned (constant_trues ls) odd)
tidied_core (Conj r ls) = Conj r (tidied_members ls)
tidied_core (Comp a b hi lo) = Comp a b hi lo
tidied_core (LeqR r a b) = LeqR r (tidied_int a) (tidied_int b)
tidied_core (EqR r a b) = EqR r (tidied_int a) (tidied_int b)
tidied_core (Sum3 a b c) = Sum3 (tidied_int a) (tidied_int b) (tidied_int c)
tidied_core (Count ls c) = Count (without_constants ls) (shifted_of (tidied_int c) (neg_ℤ (pos (constant_trues ls))))
tidied_core (Sum ints k) = Sum (tidied_ints ints) k
tidied_core (Max ints c) = Max (tidied_ints ints) (tidied_int c)
tidied_core (AllDiff ints cs) = AllDiff (tidied_ints ints) cs
tidied_core (Amo ls) = Amo (without_false ls)
tidied_core (Prod a b c) = Prod (tidied_int a) (tidied_int b) (tidied_int c)
tidied_core (DivMod a b q r) = DivMod (tidied_int a) (tidied_int b) (tidied_int q) (tidied_int r)
tidied_core (Lex r strict front back) = Lex r strict (tidied_ints front) (tidied_ints back)

-- a core trimmed by a view: each atom as the view has it, and then tidied
abbrev pub trimmed_core : List Atom → Core → Core
trimmed_core view core = tidied_core (resolved_core view core)

-- a core is trimmed where trimming it by the view in which each variable is its own label changes nothing
abbrev pub IsTrimmed : Core → Type 0
IsTrimmed core = trimmed_core [] core ≡ core

-- the view that gives each variable the label that the next view gives its label
abbrev pub composed_view : List Atom → List Atom → List Atom
composed_view first next = map (resolve next) first
