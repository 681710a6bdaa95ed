-- Laws of the truth of literals, atoms and clauses, of views, and of clauses put in order.
use Rattle.std.specs.Prelude.{◌≡◌, ℕ, ◌≤◌, not, ◌||◌, ◌&&◌, List, [], ◌++◌}
use Rattle.order_ints.specs.declared.literal.Lit.{Lit}
use Rattle.order_ints.specs.declared.atom.Atom.{Atom}
use Rattle.order_ints.specs.Truth.{Valuation, Agree, lit_truth, atom_truth, not_lit, not_atom}
use Rattle.order_ints.specs.Satisfies.{clause_truth, clauses_truth}
use Rattle.order_ints.specs.AtomClauses.{atom_clause_truth, atom_clauses_truth}
use Rattle.order_ints.specs.Place.{LitBelow, AtomBelow, ClauseBelow, ClausesBelow, AtomsBelow, AtomClausesBelow}
use Rattle.order_ints.specs.View.{resolve, MeetsView}
use Rattle.order_ints.specs.OrderedClauses.{ordered_clauses, ClausesAscend, ClausesDiffer}

-- a negation has the negated truth
abbrev pub LitNegation : Type 0
LitNegation = (σ : Valuation) (l : Lit) → lit_truth σ (not_lit l) ≡ not (lit_truth σ l)

abbrev pub AtomNegation : Type 0
AtomNegation = (σ : Valuation) (a : Atom) → atom_truth σ (not_atom a) ≡ not (atom_truth σ a)

-- truth depends on the variables below n alone, where all that occur are below n
abbrev pub LitAgreement : Type 0
LitAgreement = (n : ℕ) (σ τ : Valuation) → Agree n σ τ → (l : Lit) → LitBelow n l
    → lit_truth σ l ≡ lit_truth τ l

abbrev pub AtomAgreement : Type 0
AtomAgreement = (n : ℕ) (σ τ : Valuation) → Agree n σ τ → (a : Atom) → AtomBelow n a
    → atom_truth σ a ≡ atom_truth τ a

abbrev pub ClauseAgreement : Type 0
ClauseAgreement = (n : ℕ) (σ τ : Valuation) → Agree n σ τ → (c : List Lit) → ClauseBelow n c
    → clause_truth σ c ≡ clause_truth τ c

abbrev pub ClausesAgreement : Type 0
ClausesAgreement = (n : ℕ) (σ τ : Valuation) → Agree n σ τ → (cs : List (List Lit)) → ClausesBelow n cs
    → clauses_truth σ cs ≡ clauses_truth τ cs

abbrev pub AtomClauseAgreement : Type 0
AtomClauseAgreement = (n : ℕ) (σ τ : Valuation) → Agree n σ τ → (c : List Atom) → AtomsBelow n c
    → atom_clause_truth σ c ≡ atom_clause_truth τ c

abbrev pub AtomClausesAgreement : Type 0
AtomClausesAgreement = (n : ℕ) (σ τ : Valuation) → Agree n σ τ → (cs : List (List Atom))
    → AtomClausesBelow n cs → atom_clauses_truth σ cs ≡ atom_clauses_truth τ cs

-- a clause of two parts is true where one of them is
abbrev pub ClauseOfParts : Type 0
ClauseOfParts = (σ : Valuation) (ls ms : List Lit)
    → clause_truth σ (ls ++ ms) ≡ (clause_truth σ ls || clause_truth σ ms)

abbrev pub AtomClauseOfParts : Type 0
AtomClauseOfParts = (σ : Valuation) (xs ys : List Atom)
    → atom_clause_truth σ (xs ++ ys) ≡ (atom_clause_truth σ xs || atom_clause_truth σ ys)

-- clauses of two parts are true where both parts are
abbrev pub ClausesOfParts : Type 0
ClausesOfParts = (σ : Valuation) (cs ds : List (List Lit))
    → clauses_truth σ (cs ++ ds) ≡ (clauses_truth σ cs && clauses_truth σ ds)

abbrev pub AtomClausesOfParts : Type 0
AtomClausesOfParts = (σ : Valuation) (cs ds : List (List Atom))
    → atom_clauses_truth σ (cs ++ ds) ≡ (atom_clauses_truth σ cs && atom_clauses_truth σ ds)

-- where a valuation meets a view, an atom is as true as the view has it
abbrev pub ResolvedTruth : Type 0
ResolvedTruth = (σ : Valuation) (view : List Atom) (n : ℕ) → MeetsView σ view → (a : Atom) → AtomBelow n a
    → atom_truth σ (resolve view a) ≡ atom_truth σ a

-- the empty view leaves each atom as it is, and each valuation meets it
abbrev pub EmptyView : Type 0
EmptyView = ((a : Atom) → resolve [] a ≡ a) × ((σ : Valuation) → MeetsView σ [])

-- an atom below n, as a view of atoms below n has it, is below n
abbrev pub ResolvedRange : Type 0
ResolvedRange = (n : ℕ) (view : List Atom) → AtomsBelow n view → (a : Atom) → AtomBelow n a
    → AtomBelow n (resolve view a)

-- what is below n is below each greater bound
abbrev pub GreaterBound : Type 0
GreaterBound = (n m : ℕ) → n ≤ m → ((cs : List (List Lit)) → ClausesBelow n cs → ClausesBelow m cs)
    × ((cs : List (List Atom)) → AtomClausesBelow n cs → AtomClausesBelow m cs)

-- clauses put in order are as true as they were, where the valuation meets the view
abbrev pub OrderedTruth : Type 0
OrderedTruth = (σ : Valuation) (view : List Atom) (n : ℕ) → MeetsView σ view → (cs : List (List Atom))
    → AtomClausesBelow n cs → clauses_truth σ (ordered_clauses view cs) ≡ atom_clauses_truth σ cs

-- where the atoms of the view and of the clauses are below n, the clauses put in order are
abbrev pub OrderedRange : Type 0
OrderedRange = (n : ℕ) (view : List Atom) → AtomsBelow n view → (cs : List (List Atom)) → AtomClausesBelow n cs
    → ClausesBelow n (ordered_clauses view cs)

-- in clauses put in order, variables ascend, and no clause occurs twice
abbrev pub OrderedForm : Type 0
OrderedForm = (view : List Atom) (cs : List (List Atom)) → ClausesAscend (ordered_clauses view cs)
    × ClausesDiffer (ordered_clauses view cs)
