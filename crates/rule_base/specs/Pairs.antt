-- Lists of equations, each a pair of atoms: which pair is looked for, what they say, and what their atoms are.
use Rattle.std.specs.Prelude.{◌≡◌, Bool, false, not, ◌&&◌, ◌||◌, List, [], ◌∷◌, Option, None, Some}
use Rattle.std.specs.Prelude.{if◌then◌else◌}
use Rattle.order_ints.specs.declared.atom.Atom.{Atom}
use Rattle.order_ints.specs.declared.atom.Atom.TheVariants.{True, False}
use Rattle.order_ints.specs.Same.{same_atom}
use Rattle.order_ints.specs.Truth.{Valuation, atom_truth, not_atom}
use Rattle.rule_base.specs.declared.sought.SoughtEquation.{SoughtEquation}
use Rattle.rule_base.specs.declared.sought.SoughtEquation.TheVariants.{Apart, Pair}

-- the pair is of these two atoms, in either order
abbrev pub is_pair_of : Atom → Atom → Atom × Atom → Bool
is_pair_of a b p = (same_atom p.0 a && same_atom p.1 b) || (same_atom p.0 b && same_atom p.1 a)

-- the pair is looked for
abbrev pub is_sought : SoughtEquation → Atom × Atom → Bool
is_sought Apart p = not (same_atom p.0 p.1)
is_sought (Pair a b) p = is_pair_of a b p

-- the first pair that is looked for
abbrev pub first_sought : SoughtEquation → List (Atom × Atom) → Option (Atom × Atom)
first_sought sought [] = None
first_sought sought (p ∷ pairs) = if is_sought sought p then Some p else first_sought sought pairs

-- some pair is of these two atoms
abbrev pub is_listed : Atom → Atom → List (Atom × Atom) → Bool
is_listed a b [] = false
is_listed a b (p ∷ pairs) = is_pair_of a b p || is_listed a b pairs

-- the pairs where the test holds, and else none
abbrev pub only_if : Bool → List (Atom × Atom) → List (Atom × Atom)
only_if test pairs = if test then pairs else []

-- the two atoms of each pair are equally true
abbrev pub AreEqual : Valuation → List (Atom × Atom) → Type 0
AreEqual σ [] = Unit {0}
AreEqual σ (p ∷ pairs) = (atom_truth σ p.0 ≡ atom_truth σ p.1) × AreEqual σ pairs

-- something holds of both atoms of each pair
abbrev pub EachOfPairs : (Atom → Type 0) → List (Atom × Atom) → Type 0
EachOfPairs P [] = Unit {0}
EachOfPairs P (p ∷ pairs) = (P p.0 × P p.1) × EachOfPairs P pairs

-- something holds of the constants, and of the negation of each atom of which it holds
pub record IsClosed (P : Atom → Type 0) : Type 0 where
  pub truth : P True
  pub falsehood : P False
  pub negation : (a : Atom) → P a → P (not_atom a)
