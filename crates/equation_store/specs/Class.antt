-- The class of a label: the variables whose labels are literals of it, and a walk through them.
use Rattle.std.specs.Prelude.{◌≡◌, ◌==◌, ℕ, ◌+◌, ◌≤◌, Bool, true, false, List, [], ◌∷◌}
use Rattle.std.specs.Prelude.{length, count_by, if◌then◌else◌}
use Rattle.order_ints.specs.declared.atom.Atom.{Atom}
use Rattle.order_ints.specs.declared.atom.Atom.TheVariants.{True, False, Of}
use Rattle.order_ints.specs.View.{label_of}
pub use Rattle.index_ring.specs.Lists.{first_in, after_in}

-- whether an atom is a literal of the variable
abbrev pub is_of : ℕ → Atom → Bool
is_of x True = false
is_of x False = false
is_of x (Of l) = l.var == x

-- v is a variable of the view whose label is a literal of x
abbrev pub IsMember : List Atom → ℕ → ℕ → Type 0
IsMember view x v = (1 ≤ v) × (v ≤ length view) × (is_of x (label_of view v) ≡ true)

-- the size of the class of x: how many labels are literals of x
abbrev pub class_size : List Atom → ℕ → ℕ
class_size [] x = 0
class_size (a ∷ view) x = (if is_of x a then 1 else 0) + class_size view x

-- whether the label of v is v itself
abbrev pub is_own : ℕ → Atom → Bool
is_own v True = false
is_own v False = false
is_own v (Of l) = if l.positive then l.var == v else false

-- among the variables from `first` on, which have these labels, how many are their own label
abbrev pub own_from : ℕ → List Atom → ℕ
own_from first [] = 0
own_from first (a ∷ view) = (if is_own first a then 1 else 0) + own_from (first + 1) view

-- how many variables of the view are their own label: as many as there are classes
abbrev pub number_own : List Atom → ℕ
number_own view = own_from 1 view

-- a walk of the class of x: each member stands in it once, and nothing else does
pub record IsWalk (view : List Atom) (x : ℕ) (walk : List ℕ) : Type 0 where
  pub once : (v : ℕ) → IsMember view x v → count_by (λ w. w == v) walk ≡ 1
  pub others : (v : ℕ) → ¬ IsMember view x v → count_by (λ w. w == v) walk ≡ 0
