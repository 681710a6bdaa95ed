-- Valuations, and the truth of a literal and of an atom.
use Rattle.std.specs.Prelude.{◌≡◌, ℕ, ◌-◌, ◌<◌, nat_eq, Bool, true, false, not, List, [], ◌∷◌}
use Rattle.std.specs.Prelude.{slice_index_or, if◌then◌else◌}
use Rattle.order_ints.specs.declared.literal.Lit.{Lit}
use Rattle.order_ints.specs.declared.atom.Atom.{Atom}
use Rattle.order_ints.specs.declared.atom.Atom.TheVariants.{True, False, Of}

-- a valuation gives each variable a truth value
abbrev pub Valuation : Type 0
Valuation = ℕ → Bool

-- the valuation that a list of truth values stands for: that of variable 1 first
abbrev pub valuation_of : List Bool → Valuation
valuation_of values v = slice_index_or values (v - 1) false

-- the valuation that gives listed variables listed truth values, and false to every other one
abbrev pub valuation_at : List ℕ → List Bool → Valuation
valuation_at [] values v = false
valuation_at (w ∷ vars) [] v = false
valuation_at (w ∷ vars) (b ∷ values) v = if nat_eq v w then b else valuation_at vars values v

-- two valuations give the variables below n the same truth values
abbrev pub Agree : ℕ → Valuation → Valuation → Type 0
Agree n σ τ = (v : ℕ) → v < n → σ v ≡ τ v

-- a positive literal is as true as its variable, a negative one as its variable's negation
abbrev pub lit_truth : Valuation → Lit → Bool
lit_truth σ l = if l.positive then σ l.var else not (σ l.var)

-- whether an atom is true
abbrev pub atom_truth : Valuation → Atom → Bool
atom_truth σ True = true
atom_truth σ False = false
atom_truth σ (Of l) = lit_truth σ l

-- the literal with the other sign
abbrev pub not_lit : Lit → Lit
not_lit l = record { var = l.var; positive = not l.positive }

-- the atom that is true exactly where this one is false
abbrev pub not_atom : Atom → Atom
not_atom True = False
not_atom False = True
not_atom (Of l) = Of (not_lit l)
