-- Laws of views whose labels label themselves, of variables added to a view, and of later views.
use Rattle.std.specs.Prelude.{◌≡◌, ℕ, ◌+◌, ◌<◌, ◌≤◌, ◌↔◌, List, [], ◌++◌, length}
use Rattle.order_ints.specs.declared.atom.Atom.{Atom}
use Rattle.order_ints.specs.Truth.{Valuation, not_atom}
use Rattle.order_ints.specs.Place.{AtomBelow, AtomsBelow}
use Rattle.order_ints.specs.View.{label_of, resolve, MeetsView}
use Rattle.order_ints.specs.Label.{variable, IsLabel, IsLabelled, own_labels, IsLater}

-- a label resolves to itself, and an atom of the view that does is a label
abbrev pub LabelResolves : Type 0
LabelResolves = (view : List Atom) (a : Atom) → IsLabel view a ↔
    (AtomBelow (length view + 1) a × (resolve view a ≡ a))

-- the negation of a label is a label
abbrev pub LabelNegation : Type 0
LabelNegation = (view : List Atom) (a : Atom) → IsLabel view a → IsLabel view (not_atom a)

-- labels are over variables of the view
abbrev pub LabelsBelow : Type 0
LabelsBelow = (view : List Atom) → IsLabelled view → AtomsBelow (length view + 1) view

-- an atom of the view resolves to a label
abbrev pub ResolvesToLabel : Type 0
ResolvesToLabel = (view : List Atom) (a : Atom) → IsLabelled view → AtomBelow (length view + 1) a
    → IsLabel view (resolve view a)

-- resolving an atom, of the view or not, twice is resolving it once
abbrev pub ResolvesOnce : Type 0
ResolvesOnce = (view : List Atom) (a : Atom) → IsLabelled view → resolve view (resolve view a) ≡ resolve view a

-- the negation of an atom resolves to the negation
abbrev pub ResolvesNegation : Type 0
ResolvesNegation = (view : List Atom) (a : Atom) → resolve view (not_atom a) ≡ not_atom (resolve view a)

-- the labels of the empty view label themselves
abbrev pub EmptyLabelled : Type 0
EmptyLabelled = IsLabelled []

-- there are as many as asked
abbrev pub OwnLabelsLength : Type 0
OwnLabelsLength = (first count : ℕ) → length (own_labels first count) ≡ count

-- where variables are added to a view, those that were there keep their labels
abbrev pub OldKeepLabels : Type 0
OldKeepLabels = (view added : List Atom) (v : ℕ) → 1 ≤ v → v ≤ length view
    → label_of (view ++ added) v ≡ label_of view v

-- and what is a label stays one
abbrev pub LabelsStay : Type 0
LabelsStay = (view added : List Atom) (a : Atom) → IsLabel view a → IsLabel (view ++ added) a

-- a variable that is added as its own label is that, and so is each one past the end
abbrev pub AddedLabels : Type 0
AddedLabels = (view : List Atom) (count v : ℕ) → length view < v
    → label_of (view ++ own_labels (length view + 1) count) v ≡ variable v

-- each atom resolves as before
abbrev pub AddedResolve : Type 0
AddedResolve = (view : List Atom) (count n : ℕ) (a : Atom) → AtomBelow n a
    → resolve (view ++ own_labels (length view + 1) count) a ≡ resolve view a

-- the same valuations meet the view
abbrev pub AddedMet : Type 0
AddedMet = (view : List Atom) (count : ℕ) (σ : Valuation)
    → MeetsView σ (view ++ own_labels (length view + 1) count) ↔ MeetsView σ view

-- labels label themselves as before
abbrev pub AddedLabelled : Type 0
AddedLabelled = (view : List Atom) (count : ℕ) → IsLabelled view
    → IsLabelled (view ++ own_labels (length view + 1) count)

-- a view whose labels label themselves is later than itself, and so is one with more variables
abbrev pub MoreIsLater : Type 0
MoreIsLater = (view added : List Atom) → IsLabelled view → IsLater view (view ++ added)

abbrev pub LaterThanItself : Type 0
LaterThanItself = (view : List Atom) → IsLabelled view → IsLater view view

-- what is later than a later view is later
abbrev pub LaterThanLater : Type 0
LaterThanLater = (n : ℕ) (old new newest : List Atom) → AtomsBelow n old → IsLater old new → IsLater new newest
    → IsLater old newest

-- resolving by a view and then by a later one is resolving by the later one
abbrev pub LaterResolves : Type 0
LaterResolves = (n : ℕ) (old new : List Atom) (a : Atom) → IsLater old new → AtomBelow n a
    → resolve new (resolve old a) ≡ resolve new a

-- a valuation that meets a view meets each one that it is later than
abbrev pub LaterMeets : Type 0
LaterMeets = (n : ℕ) (old new : List Atom) (σ : Valuation) → AtomsBelow n old → IsLater old new
    → MeetsView σ new → MeetsView σ old
