-- What a merge of two atoms does to a view.
use Rattle.std.specs.Prelude.{◌≡◌, ◌==◌, ℕ, ◌-◌, ◌≤◌, Bool, false, nat_lt, max, List, length, map}
use Rattle.std.specs.Prelude.{slice_index, Option, Some, None, option_map, if◌then◌else◌}
use Rattle.order_ints.specs.declared.literal.Lit.{Lit}
use Rattle.order_ints.specs.declared.atom.Atom.{Atom}
use Rattle.order_ints.specs.declared.atom.Atom.TheVariants.{True, False, Of}
use Rattle.order_ints.specs.Truth.{not_atom}
use Rattle.order_ints.specs.View.{label_of, resolve}
use Rattle.order_ints.specs.Label.{IsOwnLabel, IsLabel}
use Rattle.equation_store.specs.declared.relabel.Change.{Change}
use Rattle.equation_store.specs.Class.{is_of, class_size}

-- an atom, or its negation
abbrev pub signed : Bool → Atom → Atom
signed positive a = if positive then a else not_atom a

-- an atom with the variable x replaced by another atom
abbrev pub replaced : ℕ → Atom → Atom → Atom
replaced x by True = True
replaced x by False = False
replaced x by (Of l) = if l.var == x then signed l.positive by else Of l

-- of two label variables, whose classes have these sizes, the one whose class loses: the smaller class, of equal ones
-- that of the greater variable
abbrev pub losing_by : (ℕ → ℕ) → ℕ → ℕ → ℕ
losing_by size x y = if nat_lt (size x) (size y) then x else (if nat_lt (size y) (size x) then y else max x y)

abbrev pub losing : List Atom → ℕ → ℕ → ℕ
losing view x y = losing_by (class_size view) x y

-- the literal's variable gets the label that makes the literal as true as the atom
abbrev pub change_to : Lit → Atom → Change
change_to l a = record { loser = l.var; label = signed l.positive a }

-- what makes two labels one, where classes have these sizes: which variable gets which label; nothing where they are
-- equal or each other's negation
abbrev pub change_by : (ℕ → ℕ) → Atom → Atom → Option Change
change_by size (Of l) (Of m) = if l.var == m.var then None
    else Some (if losing_by size l.var m.var == l.var then change_to l (Of m) else change_to m (Of l))
change_by size (Of l) True = Some (change_to l True)
change_by size (Of l) False = Some (change_to l False)
change_by size True (Of m) = Some (change_to m True)
change_by size False (Of m) = Some (change_to m False)
change_by size True True = None
change_by size True False = None
change_by size False True = None
change_by size False False = None

abbrev pub change_of : List Atom → Atom → Atom → Option Change
change_of view a b = change_by (class_size view) a b

-- the size that stands for a variable's class
abbrev pub size_in : List ℕ → ℕ → ℕ
size_in sizes x = slice_index sizes (x - 1)

-- a variable that is its own label, and what its class shall have as label: a label of another variable, or a constant
pub record IsReplacement (view : List Atom) (x : ℕ) (new : Atom) : Type 0 where
  pub low : 1 ≤ x
  pub high : x ≤ length view
  pub own : IsOwnLabel view x
  pub label : IsLabel view new
  pub other : is_of x new ≡ false

-- the variable whose class gets a new label by a merge of two atoms
abbrev pub loser_of : List Atom → Atom → Atom → Option ℕ
loser_of view a b = option_map (λ c. c.loser) (change_of view (resolve view a) (resolve view b))

-- the view in which the members of the loser's class have their new labels
abbrev pub changed_by : Option Change → List Atom → List Atom
changed_by None view = view
changed_by (Some c) view = map (replaced c.loser c.label) view

-- the view after a merge of two atoms
abbrev pub merged : List Atom → Atom → Atom → List Atom
merged view a b = changed_by (change_of view (resolve view a) (resolve view b)) view

-- the class of x has a new label: a member whose label was x has the new label of x, one whose label was the negation
-- of x has the negation of that, and every other label stays
abbrev pub IsRelabelled : List Atom → List Atom → ℕ → Type 0
IsRelabelled old new x = new ≡ map (replaced x (label_of new x)) old
