-- What the laws of costs speak of: shapes within others, and lists of numbers that are at most others.
use Rattle.std.specs.Prelude.{◌≡◌, ℕ, ◌*◌, ◌^◌, ◌<◌, ◌≤◌, List, [], ◌∷◌}
use Prim.Native.Nat.{◌∣◌}
use Rattle.core_cost.specs.declared.shape.Shape.{Shape}

-- what holds of an integer's shape: each step has a weight that is a multiple of the divisor, which is 0 without steps
-- alone
pub record IsShape (a : Shape) : Type 0 where
  pub weights : a.steps * a.divisor ≤ a.span
  pub none : a.divisor ≡ 0 → (a.steps ≡ 0) × (a.span ≡ 0)

-- a has at most b's steps and span, and its weights are multiples of b's divisor: so it is with an integer of which
-- steps are decided or joined
pub record IsWithin (a b : Shape) : Type 0 where
  pub steps : a.steps ≤ b.steps
  pub span : a.span ≤ b.span
  pub divisor : b.divisor ∣ a.divisor

-- the same of the members of two lists of one length, where those of the first are shapes of integers
abbrev pub AreWithin : List Shape → List Shape → Type 0
AreWithin [] [] = Unit {0}
AreWithin [] (b ∷ others) = ⊥
AreWithin (a ∷ rest) [] = ⊥
AreWithin (a ∷ rest) (b ∷ others) = (IsShape a) × ((IsWithin a b) × (AreWithin rest others))

-- each member is the shape of an integer
abbrev pub AreShapes : List Shape → Type 0
AreShapes [] = Unit {0}
AreShapes (a ∷ rest) = (IsShape a) × (AreShapes rest)

-- each number is at most the one at its place in the other list, which may be longer
abbrev pub AreAtMost : List ℕ → List ℕ → Type 0
AreAtMost [] ms = Unit {0}
AreAtMost (n ∷ ns) [] = ⊥
AreAtMost (n ∷ ns) (m ∷ ms) = (n ≤ m) × (AreAtMost ns ms)

-- the same of pairs
abbrev pub PairsAreAtMost : List (ℕ × ℕ) → List (ℕ × ℕ) → Type 0
PairsAreAtMost [] qs = Unit {0}
PairsAreAtMost (p ∷ ps) [] = ⊥
PairsAreAtMost (p ∷ ps) (q ∷ qs) = (p.0 ≤ q.0) × ((p.1 ≤ q.1) × (PairsAreAtMost ps qs))

-- a number of steps or of members that fits in memory: a list takes fewer than 2 ^ 63 bytes, and each member at least 8
abbrev pub FitsInMemory : ℕ → Type 0
FitsInMemory n = n < 2 ^ 60

-- each number fits
abbrev pub AllFitInMemory : List ℕ → Type 0
AllFitInMemory [] = Unit {0}
AllFitInMemory (n ∷ ns) = (FitsInMemory n) × (AllFitInMemory ns)

-- both numbers of each pair fit
abbrev pub PairsFitInMemory : List (ℕ × ℕ) → Type 0
PairsFitInMemory [] = Unit {0}
PairsFitInMemory (p ∷ ps) = (FitsInMemory p.0) × ((FitsInMemory p.1) × (PairsFitInMemory ps))
