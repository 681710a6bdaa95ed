-- Sizes of classes.
use Rattle.std.proofs.Common.{◌≡◌, ℕ, zero, suc, ◌-◌, ◌≤◌, ◌<◌, Bool, true, false, List, [], ◌∷◌, ◌++◌, length, get_or, ap, ◌∙◌, arith}
use Rattle.std.specs.Prelude.{if◌then◌else◌}
use Rattle.std.proofs.lemmas.Bool.Decides.{nat_tests}
use Rattle.order_ints.specs.declared.atom.Atom.{Atom}
use Rattle.order_ints.specs.declared.atom.Atom.TheVariants.{Of}
use Rattle.order_ints.specs.declared.literal.Lit.{Lit}
use Rattle.order_ints.specs.Label.{variable}
use Rattle.order_ints.specs.View.{label_of}
use Rattle.equation_store.specs.Class.{is_of, class_size}

one-most : (t : Bool) → (if t then 1 else 0) ≤ 1
one-most true = omega arith
one-most false = omega arith

-- a class has no more members than there are variables
pub size-within : (view : List Atom) (x : ℕ) → class_size view x ≤ length view
size-within [] x = omega arith
size-within (a ∷ view) x = omega (arith, one-most (is_of x a), size-within view x)

-- with more variables none is smaller
pub size-more : (view more : List Atom) (x : ℕ) → class_size view x ≤ class_size (view ++ more) x
size-more [] more x = omega arith
size-more (a ∷ view) more x = omega (arith, size-more view more x)

-- a variable is in the class of its label
size-at : (view : List Atom) (i : ℕ) (d : Atom) (l : Lit) → i < length view → get_or view i d ≡ Of l → 1 ≤ class_size view l.var
size-at [] i d l lt e = absurd (omega (arith, lt))
size-at (a ∷ view) zero d l lt e =
    let own : is_of l.var (Of l) ≡ true = grind (arith, nat_tests) in
    let one : (if is_of l.var a then 1 else 0) ≡ 1 = ap {B = ℕ} (λ (b : Atom). if is_of l.var b then 1 else 0) e ∙ ap {B = ℕ} (λ (t : Bool). if t then 1 else 0) own in
    omega (arith, one)
size-at (a ∷ view) (suc i) d l lt e = omega (arith, size-at view i d l (omega (arith, lt)) e)

pub size-some : (view : List Atom) (v : ℕ) (l : Lit) → 1 ≤ v → v ≤ length view → label_of view v ≡ Of l → 1 ≤ class_size view l.var
size-some view v l low high e = size-at view (v - 1) (variable v) l (omega (arith, low, high)) e
