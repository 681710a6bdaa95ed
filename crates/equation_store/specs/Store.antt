-- What contracts see of a store: its view, and a walk through each class.
use Rattle.std.specs.Prelude.{◌≡◌, ◌≢◌, ◌↔◌, ℕ, ◌-◌, ◌^◌, ◌≤◌, List, [], length, map}
use Rattle.std.specs.Prelude.{count_by, ◌==◌, slice_index, slice_index_or}
use Rattle.std.specs.List.{range_with_len}
use Rattle.order_ints.specs.declared.atom.Atom.{Atom}
use Rattle.order_ints.specs.View.{label_of}
use Rattle.order_ints.specs.Label.{IsOwnLabel, IsLabelled}
use Rattle.equation_store.specs.Class.{IsWalk, class_size}
use Rattle.equation_store.specs.Merge.{size_in}
use Rattle.equation_store.specs.Ring.{behind, place_after, ring_of}

-- a view, and for each variable a list: where the variable is its own label, the walk of its class
pub record Store : Type 0 where
  pub view : List Atom
  pub walks : List (List ℕ)

-- the walk of the class of a label
abbrev pub class_walk : Store → ℕ → List ℕ
class_walk store x = slice_index_or store.walks (x - 1) []

-- at most 2 ^ 27 variables, labels that label themselves, and a walk of each class
pub record IsStore (store : Store) : Type 0 where
  pub small : length store.view ≤ 2 ^ 27
  pub labelled : IsLabelled store.view
  pub walked : (x : ℕ) → 1 ≤ x → x ≤ length store.view → IsOwnLabel store.view x
      → IsWalk store.view x (class_walk store x)

-- the walk of x in the old store lists exactly the variables whose label is another one in the new store
abbrev pub ListsChanged : Store → Store → ℕ → Type 0
ListsChanged old new x = (v : ℕ) → (1 ≤ count_by (λ w. w == v) (class_walk old x)) ↔
    ((1 ≤ v) × (v ≤ length old.view) × (label_of new.view v ≢ label_of old.view v))

-- the store of labels, where the walk of a class is its ring, from the label's variable on
abbrev pub store_of : List Atom → List ℕ → List ℕ → Store
store_of labels sizes next = record {
  view = labels;
  walks = map (ring_of sizes next) (range_with_len 1 (length labels));
}

-- labels that label themselves, and the size of the class of each that is its own
pub record IsSized (labels : List Atom) (sizes : List ℕ) : Type 0 where
  pub labelled : IsLabelled labels
  pub count : length sizes ≡ length labels
  pub sized : (x : ℕ) → 1 ≤ x → x ≤ length labels → IsOwnLabel labels x
      → slice_index sizes (x - 1) ≡ class_size labels x

-- what a store keeps beside its labels: for each variable that is its own label the size of its class, and for each
-- variable the one behind it in the ring of its class, which is a walk of the class and comes back to where it begins
pub record IsKept (labels : List Atom) (sizes next : List ℕ) : Type 0 where
  pub small : length labels ≤ 2 ^ 27
  pub sizes_are : IsSized labels sizes
  pub count : length next ≡ length labels
  pub walked : (x : ℕ) → 1 ≤ x → x ≤ length labels → IsOwnLabel labels x
      → IsWalk labels x (ring_of sizes next x)
  pub closed : (x : ℕ) → 1 ≤ x → x ≤ length labels → IsOwnLabel labels x
      → place_after (behind next) x (size_in sizes x) ≡ x
