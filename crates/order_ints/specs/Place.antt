-- Which variables a literal, an atom, a clause may have: from 1, and below a bound.
use Rattle.std.specs.Prelude.{ℕ, ◌≤◌, ◌<◌, ◌+◌, List, [], ◌∷◌}
use Rattle.order_ints.specs.declared.literal.Lit.{Lit}
use Rattle.order_ints.specs.declared.atom.Atom.{Atom}
use Rattle.order_ints.specs.declared.atom.Atom.TheVariants.{True, False, Of}
use Rattle.order_ints.specs.declared.cnf.Cnf.{Cnf}

-- the literal's variable is from 1 and below n
abbrev pub LitBelow : ℕ → Lit → Type 0
LitBelow n l = (1 ≤ l.var) × (l.var < n)

-- a constant, or a literal below n
abbrev pub AtomBelow : ℕ → Atom → Type 0
AtomBelow n True = Unit {0}
AtomBelow n False = Unit {0}
AtomBelow n (Of l) = LitBelow n l

-- each literal of a clause is below n
abbrev pub ClauseBelow : ℕ → List Lit → Type 0
ClauseBelow n [] = Unit {0}
ClauseBelow n (l ∷ ls) = LitBelow n l × ClauseBelow n ls

-- each literal of each clause is below n
abbrev pub ClausesBelow : ℕ → List (List Lit) → Type 0
ClausesBelow n [] = Unit {0}
ClausesBelow n (c ∷ cs) = ClauseBelow n c × ClausesBelow n cs

-- each atom is below n
abbrev pub AtomsBelow : ℕ → List Atom → Type 0
AtomsBelow n [] = Unit {0}
AtomsBelow n (a ∷ atoms) = AtomBelow n a × AtomsBelow n atoms

-- each atom of each clause is below n
abbrev pub AtomClausesBelow : ℕ → List (List Atom) → Type 0
AtomClausesBelow n [] = Unit {0}
AtomClausesBelow n (c ∷ cs) = AtomsBelow n c × AtomClausesBelow n cs

-- each step's atom is below n
abbrev pub StepsBelow : ℕ → List (Atom × ℕ) → Type 0
StepsBelow n [] = Unit {0}
StepsBelow n (s ∷ steps) = AtomBelow n s.0 × StepsBelow n steps

-- the variables of a CNF's clauses are from 1 to its number of variables
abbrev pub InRange : Cnf → Type 0
InRange cnf = ClausesBelow (cnf.vars + 1) cnf.clauses
