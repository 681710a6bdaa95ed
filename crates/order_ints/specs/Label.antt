-- A view whose labels label themselves, and a view that is later than another one.
use Rattle.std.specs.Prelude.{◌≡◌, ℕ, zero, suc, ◌+◌, ◌≤◌, true, List, [], ◌∷◌, ◌++◌}
use Rattle.std.specs.Prelude.{length}
use Rattle.order_ints.specs.declared.atom.Atom.{Atom}
use Rattle.order_ints.specs.declared.atom.Atom.TheVariants.{True, False, Of}
use Rattle.order_ints.specs.View.{label_of, resolve}

-- the atom that is true where the variable is
abbrev pub variable : ℕ → Atom
variable v = Of (record { var = v; positive = true })

-- the variable is its own label, as each one past the view's end is
abbrev pub IsOwnLabel : List Atom → ℕ → Type 0
IsOwnLabel view v = label_of view v ≡ variable v

-- a constant, or a literal of a variable of the view that is its own label
abbrev pub IsLabel : List Atom → Atom → Type 0
IsLabel view True = Unit {0}
IsLabel view False = Unit {0}
IsLabel view (Of l) = (1 ≤ l.var) × (l.var ≤ length view) × IsOwnLabel view l.var

-- each variable of the view has such an atom as its label
abbrev pub IsLabelled : List Atom → Type 0
IsLabelled view = (v : ℕ) → 1 ≤ v → v ≤ length view → IsLabel view (label_of view v)

-- as many variables, from `first` on, each its own label
abbrev pub own_labels : ℕ → ℕ → List Atom
own_labels first zero = []
own_labels first (suc count) = variable first ∷ own_labels (first + 1) count

-- a view with more variables, each its own label
abbrev pub with_own_labels : List Atom → ℕ → List Atom
with_own_labels view count = view ++ own_labels (length view + 1) count

-- the new view has for the old label of each variable of the old one what it has for the variable
abbrev pub IsLater : List Atom → List Atom → Type 0
IsLater old new = (v : ℕ) → 1 ≤ v → v ≤ length old → resolve new (label_of old v) ≡ label_of new v
