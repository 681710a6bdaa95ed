-- A view gives each variable an atom, its label, which is as true as the variable.
use Rattle.std.specs.Prelude.{◌≡◌, ℕ, ◌-◌, ◌≤◌, true, List, length, slice_index_or}
use Rattle.std.specs.Prelude.{if◌then◌else◌}
use Rattle.order_ints.specs.declared.literal.Lit.{Lit}
use Rattle.order_ints.specs.declared.atom.Atom.{Atom}
use Rattle.order_ints.specs.declared.atom.Atom.TheVariants.{True, False, Of}
use Rattle.order_ints.specs.Truth.{Valuation, atom_truth, not_atom}

-- the label of a variable: variable 1 has the first one of the view, and one past the view is its own
abbrev pub label_of : List Atom → ℕ → Atom
label_of view v = slice_index_or view (v - 1) (Of (record { var = v; positive = true }))

-- a literal as the view has it: its variable's label, or the label's negation
abbrev pub resolve_lit : List Atom → Lit → Atom
resolve_lit view l = if l.positive then label_of view l.var else not_atom (label_of view l.var)

-- an atom as the view has it
abbrev pub resolve : List Atom → Atom → Atom
resolve view True = True
resolve view False = False
resolve view (Of l) = resolve_lit view l

-- a valuation meets a view where each of its variables is as true as its label
abbrev pub MeetsView : Valuation → List Atom → Type 0
MeetsView σ view = (v : ℕ) → 1 ≤ v → v ≤ length view → σ v ≡ atom_truth σ (label_of view v)
