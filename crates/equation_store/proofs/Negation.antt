-- Negated atoms: what literals and atoms alone have to do with negation.
use Rattle.std.proofs.Common.{◌≡◌, Bool, true, false, not, refl, ap, sym}
use Rattle.std.specs.Prelude.{if◌then◌else◌}
use Rattle.std.proofs.lemmas.Bool.{true≢false, false≢true}
use Rattle.order_ints.specs.declared.atom.Atom.{Atom}
use Rattle.order_ints.specs.declared.atom.Atom.TheVariants.{True, False, Of}
use Rattle.order_ints.specs.Truth.{Valuation, atom_truth, not_atom}
pub use Rattle.order_ints.proofs.Truths.{not_atom-not_atom, atom_truth-not_atom as truth-not_atom}
use Rattle.equation_store.specs.Merge.{signed}

pub not-not : (b : Bool) → not (not b) ≡ b
not-not true = refl
not-not false = refl

pub not-other : (b : Bool) → b ≡ not b → ⊥
not-other true e = true≢false e
not-other false e = false≢true e

-- an atom, or its negation, is as true as the sign says
pub truth-signed : (σ : Valuation) (p : Bool) (a : Atom) → atom_truth σ (signed p a) ≡ (if p then atom_truth σ a else not (atom_truth σ a))
truth-signed σ true a = refl
truth-signed σ false a = truth-not_atom σ a

pub signed-not : (p : Bool) (a : Atom) → signed (not p) a ≡ not_atom (signed p a)
signed-not true a = refl
signed-not false a = sym (not_atom-not_atom a)

-- no atom is its own negation
pub not_atom-other : (a : Atom) → a ≡ not_atom a → ⊥
not_atom-other True e = cc
not_atom-other False e = cc
not_atom-other (Of l) e = let same : l.positive ≡ not l.positive = ap sign e in not-other l.positive same
  where
    sign : Atom → Bool
    sign True = true
    sign False = true
    sign (Of m) = m.positive
