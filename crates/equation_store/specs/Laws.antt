-- Laws of resolving and of merging.
use Rattle.std.specs.Prelude.{◌≡◌, ◌≢◌, ◌⊎◌, ℕ, ◌+◌, ◌*◌, ◌≤◌, true, false, List}
use Rattle.std.specs.Prelude.{◌++◌, length, ◌↔◌, IfSome, IsSomeAnd, is_some, if◌then◌else◌}
use Rattle.order_ints.specs.declared.atom.Atom.{Atom}
use Rattle.order_ints.specs.declared.atom.Atom.TheVariants.{True, False, Of}
use Rattle.order_ints.specs.Truth.{Valuation, atom_truth}
use Rattle.order_ints.specs.View.{label_of, resolve, MeetsView}
use Rattle.order_ints.specs.Place.{AtomBelow}
use Rattle.order_ints.specs.Label.{variable, IsLabel, IsLabelled, own_labels, IsLater}
use Rattle.equation_store.specs.Class.{is_of, IsMember, class_size, is_own, number_own}
use Rattle.equation_store.specs.Merge.{loser_of, merged}

-- a constant, or a literal of a variable of the view
abbrev pub IsAtomOf : List Atom → Atom → Type 0
IsAtomOf view a = AtomBelow (length view + 1) a

-- each valuation that meets the view makes the two atoms equally true
abbrev pub AlwaysEqual : List Atom → Atom → Atom → Type 0
AlwaysEqual view a b = (σ : Valuation) → MeetsView σ view → atom_truth σ a ≡ atom_truth σ b

-- no valuation that meets the view makes the two atoms equally true
abbrev pub NeverEqual : List Atom → Atom → Atom → Type 0
NeverEqual view a b = (σ : Valuation) → MeetsView σ view → atom_truth σ a ≢ atom_truth σ b

-- a new view is met by exactly the valuations that meet the old one and make the two atoms equally true
abbrev pub AddsEquation : List Atom → List Atom → Atom → Atom → Type 0
AddsEquation old new a b = (σ : Valuation) → MeetsView σ new ↔
    (MeetsView σ old × (atom_truth σ a ≡ atom_truth σ b))

-- an atom that is always true or never
abbrev pub IsConstant : Atom → Type 0
IsConstant True = Unit {0}
IsConstant False = Unit {0}
IsConstant (Of l) = ⊥

-- the size of the class that has this label; a constant has none
abbrev pub size_at : List Atom → Atom → ℕ
size_at view True = 0
size_at view False = 0
size_at view (Of l) = class_size view l.var

-- the class of each variable that got a new label is at least twice its old one, or the label is a constant
abbrev pub Doubles : List Atom → List Atom → Type 0
Doubles old new =
    (v : ℕ) → 1 ≤ v → v ≤ length old → label_of new v ≢ label_of old v →
    IsConstant (label_of new v) ⊎ (2 * size_at old (label_of old v) ≤ size_at new (label_of new v))

-- the class of a variable that keeps its label never gets smaller
abbrev pub NeverShrinks : List Atom → List Atom → Type 0
NeverShrinks old new =
    (v : ℕ) → 1 ≤ v → v ≤ length old → label_of new v ≡ label_of old v
    → size_at old (label_of old v) ≤ size_at new (label_of new v)

-- two atoms resolve to the same atom exactly where every valuation that meets the view makes them equally true
abbrev pub ResolvesExactly : Type 0
ResolvesExactly = (view : List Atom) (a b : Atom) → IsLabelled view → IsAtomOf view a → IsAtomOf view b
    → (resolve view a ≡ resolve view b) ↔ AlwaysEqual view a b

-- after a merge of a and b each atom resolves to what its old label resolves to
abbrev pub MergeResolves : Type 0
MergeResolves = (view : List Atom) (a b c : Atom) → IsLabelled view → IsAtomOf view a → IsAtomOf view b
    → IsAtomOf view c → resolve (merged view a b) c ≡ resolve (merged view a b) (resolve view c)

-- a valuation that meets a view after a merge met it before
abbrev pub MergeKeeps : Type 0
MergeKeeps = (view : List Atom) (a b : Atom) (σ : Valuation) → IsLabelled view → IsAtomOf view a
    → IsAtomOf view b → MeetsView σ (merged view a b) → MeetsView σ view

-- a merge doubles the class of each variable whose label it changes, or makes it constant
abbrev pub MergeDoubles : Type 0
MergeDoubles = (view : List Atom) (a b : Atom) → IsLabelled view → IsAtomOf view a → IsAtomOf view b
    → Doubles view (merged view a b)

-- a merge gives each class that keeps its label at least its old size
abbrev pub MergeNeverShrinks : Type 0
MergeNeverShrinks = (view : List Atom) (a b : Atom) → IsLabelled view → IsAtomOf view a → IsAtomOf view b
    → NeverShrinks view (merged view a b)

-- as many variables have a label after a merge, and labels label themselves
abbrev pub MergeLabelled : Type 0
MergeLabelled = (view : List Atom) (a b : Atom) → IsLabelled view → IsAtomOf view a → IsAtomOf view b
    → (length (merged view a b) ≡ length view) × IsLabelled (merged view a b)

-- the labels after a merge are the labels before it but for the literals of the loser
abbrev pub MergeLabels : Type 0
MergeLabels = (view : List Atom) (a b c : Atom) → IsLabelled view → IsAtomOf view a → IsAtomOf view b
    → IsLabel (merged view a b) c ↔ (IsLabel view c × IfSome (loser_of view a b) (λ x. is_of x c ≡ false))

-- a merge changes exactly the labels of the members of the loser's class
abbrev pub MergeChanges : Type 0
MergeChanges = (view : List Atom) (a b : Atom) (v : ℕ) → IsLabelled view → IsAtomOf view a → IsAtomOf view b
    → 1 ≤ v → v ≤ length view → (label_of (merged view a b) v ≢ label_of view v) ↔
    IsSomeAnd (loser_of view a b) (λ x. IsMember view x v)

-- a merge takes one variable out of those that are their own label exactly where some class loses
abbrev pub MergeTakesOne : Type 0
MergeTakesOne = (view : List Atom) (a b : Atom) → IsLabelled view → IsAtomOf view a → IsAtomOf view b
    → number_own (merged view a b) + (if is_some (loser_of view a b) then 1 else 0) ≡ number_own view

-- the view after a merge is later than the one before it
abbrev pub MergeIsLater : Type 0
MergeIsLater = (view : List Atom) (a b : Atom) → IsLabelled view → IsAtomOf view a → IsAtomOf view b
    → IsLater view (merged view a b)

-- the test of a variable that is its own label
abbrev pub OwnTest : Type 0
OwnTest = (v : ℕ) (a : Atom) → (is_own v a ≡ true) ↔ (a ≡ variable v)

-- at most all variables are their own label
abbrev pub OwnBound : Type 0
OwnBound = (view : List Atom) → number_own view ≤ length view

-- each variable that is added as its own label counts
abbrev pub OwnAdded : Type 0
OwnAdded = (view : List Atom) (count : ℕ) → number_own (view ++ own_labels (length view + 1) count)
    ≡ number_own view + count
