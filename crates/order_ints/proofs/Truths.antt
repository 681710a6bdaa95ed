-- The truth of literals and atoms: what a negation does, and on which variables it depends.
use Rattle.std.proofs.Common.{◌≡◌, ℕ, Bool, true, false, not, cond, refl, sym, ap}
use Rattle.order_ints.specs.declared.literal.Lit.{Lit}
use Rattle.order_ints.specs.declared.atom.Atom.{Atom}
use Rattle.order_ints.specs.declared.atom.Atom.TheVariants.{True, False, Of}
use Rattle.order_ints.specs.Truth.{Valuation, Agree, lit_truth, atom_truth, not_lit, not_atom}
use Rattle.order_ints.specs.Place.{LitBelow, AtomBelow}

not_not : (b : Bool) → not (not b) ≡ b
not_not true = refl
not_not false = refl

choice-not : (s t : Bool) → cond (not s) t (not t) ≡ not (cond s t (not t))
choice-not true t = refl
choice-not false t = sym (not_not t)

-- a negated literal is true exactly where the literal is not
pub lit_truth-not_lit : (σ : Valuation) (l : Lit) → lit_truth σ (not_lit l) ≡ not (lit_truth σ l)
lit_truth-not_lit σ l = choice-not l.positive (σ l.var)

-- a negated atom is true exactly where the atom is not
pub atom_truth-not_atom : (σ : Valuation) (a : Atom) → atom_truth σ (not_atom a) ≡ not (atom_truth σ a)
atom_truth-not_atom σ True = refl
atom_truth-not_atom σ False = refl
atom_truth-not_atom σ (Of l) = lit_truth-not_lit σ l

pub not_lit-not_lit : (l : Lit) → not_lit (not_lit l) ≡ l
not_lit-not_lit l = ap (λ b. record l { positive = b }) (not_not l.positive)

pub not_atom-not_atom : (a : Atom) → not_atom (not_atom a) ≡ a
not_atom-not_atom True = refl
not_atom-not_atom False = refl
not_atom-not_atom (Of l) = ap Of (not_lit-not_lit l)

-- valuations that agree below n give a literal below n the same truth value
pub lit_truth-agree : (n : ℕ) (σ τ : Valuation) (l : Lit) → Agree n σ τ → LitBelow n l → lit_truth σ l ≡ lit_truth τ l
lit_truth-agree n σ τ l same below = ap (λ t. cond l.positive t (not t)) (same l.var below.1)

-- and an atom below n too
pub atom_truth-agree : (n : ℕ) (σ τ : Valuation) (a : Atom) → Agree n σ τ → AtomBelow n a → atom_truth σ a ≡ atom_truth τ a
atom_truth-agree n σ τ True same below = refl
atom_truth-agree n σ τ False same below = refl
atom_truth-agree n σ τ (Of l) same below = lit_truth-agree n σ τ l same below

-- the negation of an atom below n is below n
pub AtomBelow-not_atom : (n : ℕ) (a : Atom) → AtomBelow n a → AtomBelow n (not_atom a)
AtomBelow-not_atom n True below = tt
AtomBelow-not_atom n False below = tt
AtomBelow-not_atom n (Of l) below = below
