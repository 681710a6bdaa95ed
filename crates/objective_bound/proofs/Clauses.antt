-- Clauses, and that of an atom behind them.
use Rattle.std.proofs.Common.{◌≡◌, ℕ, ◌+◌, Bool, true, false, List, [], ◌∷◌, ◌++◌, refl, ap, append-nil}
use Rattle.std.specs.Prelude.{◌&&◌, ◌||◌}
use Rattle.std.proofs.lemmas.Bool.{false≢true}
use Rattle.order_ints.specs.declared.atom.Atom.{Atom}
use Rattle.order_ints.specs.declared.atom.Atom.TheVariants.{True, False, Of}
use Rattle.order_ints.specs.declared.cnf.Cnf.{Cnf}
use Rattle.order_ints.specs.declared.literal.Lit.{Lit}
use Rattle.order_ints.specs.OrderedClauses.{ClausesAscend}
use Rattle.order_ints.specs.Place.{AtomBelow, ClausesBelow, InRange}
use Rattle.order_ints.specs.Satisfies.{clauses_truth, clause_truth, Satisfies}
use Rattle.order_ints.specs.Truth.{Valuation, lit_truth, atom_truth}
use Rattle.answer_document.specs.Valid.{atom_clauses}
use Rattle.objective_bound.specs.Bounds.{with_atom}

ascend-with : (cs : List (List Lit)) (a : Atom) → ClausesAscend cs → ClausesAscend (cs ++ atom_clauses a)
ascend-with [] True h = tt
ascend-with [] False h = (tt, tt)
ascend-with [] (Of l) h = ((tt, tt), tt)
ascend-with (c ∷ cs) a h = (h.0, ascend-with cs a h.1)

below-with : (n : ℕ) (cs : List (List Lit)) (a : Atom) → ClausesBelow n cs → AtomBelow n a → ClausesBelow n (cs ++ atom_clauses a)
below-with n [] True h k = tt
below-with n [] False h k = (tt, tt)
below-with n [] (Of l) h k = ((k, tt), tt)
below-with n (c ∷ cs) a h k = (h.0, below-with n cs a h.1 k)

-- clauses in order stay so, and so do those in range
pub atom-ascend : (cnf : Cnf) (a : Atom) → ClausesAscend cnf.clauses → ClausesAscend (with_atom cnf a).clauses
atom-ascend cnf a h = ascend-with cnf.clauses a h

pub atom-range : (cnf : Cnf) (a : Atom) → InRange cnf → AtomBelow (cnf.vars + 1) a → InRange (with_atom cnf a)
atom-range cnf a h k = below-with (cnf.vars + 1) cnf.clauses a h k

-- no clause is that of True
pub with-true : (cnf : Cnf) → with_atom cnf True ≡ cnf
with-true cnf = ap (λ (cs : List (List Lit)). record { vars = cnf.vars; clauses = cs }) (append-nil cnf.clauses)

-- such clauses are true exactly where those before and the atom are

one-true : (t : Bool) → (t || false) ≡ true → t ≡ true
one-true true e = refl
one-true false e = e

both-true : (a b : Bool) → a ≡ true → b ≡ true → (a && b) ≡ true
both-true true b e f = f
both-true false b e f = absurd (false≢true e)

front-true : (a b : Bool) → (a && b) ≡ true → (a ≡ true) × (b ≡ true)
front-true true b e = (refl, e)
front-true false b e = absurd (false≢true e)

clause-of-atom : (σ : Valuation) (a : Atom) → atom_truth σ a ≡ true → clauses_truth σ (atom_clauses a) ≡ true
clause-of-atom σ True e = refl
clause-of-atom σ False e = absurd (false≢true e)
clause-of-atom σ (Of l) e = rw e refl

atom-of-clause : (σ : Valuation) (a : Atom) → clauses_truth σ (atom_clauses a) ≡ true → atom_truth σ a ≡ true
atom-of-clause σ True e = refl
atom-of-clause σ False e = absurd (false≢true e)
atom-of-clause σ (Of l) e = one-true (lit_truth σ l) (front-true (lit_truth σ l || false) true e).0

true-with : (σ : Valuation) (cs : List (List Lit)) (a : Atom) → clauses_truth σ cs ≡ true → atom_truth σ a ≡ true → clauses_truth σ (cs ++ atom_clauses a) ≡ true
true-with σ [] a h e = clause-of-atom σ a e
true-with σ (c ∷ cs) a h e =
    let parts = front-true (clause_truth σ c) (clauses_truth σ cs) h in
    both-true (clause_truth σ c) (clauses_truth σ (cs ++ atom_clauses a)) parts.0 (true-with σ cs a parts.1 e)

parts-with : (σ : Valuation) (cs : List (List Lit)) (a : Atom) → clauses_truth σ (cs ++ atom_clauses a) ≡ true → (clauses_truth σ cs ≡ true) × (atom_truth σ a ≡ true)
parts-with σ [] a h = (refl, atom-of-clause σ a h)
parts-with σ (c ∷ cs) a h =
    let parts = front-true (clause_truth σ c) (clauses_truth σ (cs ++ atom_clauses a)) h in
    let rest = parts-with σ cs a parts.1 in
    (both-true (clause_truth σ c) (clauses_truth σ cs) parts.0 rest.0, rest.1)

pub atom-true : (σ : Valuation) (cnf : Cnf) (a : Atom) → Satisfies σ cnf → atom_truth σ a ≡ true → Satisfies σ (with_atom cnf a)
atom-true σ cnf a h e = true-with σ cnf.clauses a h e

pub atom-parts : (σ : Valuation) (cnf : Cnf) (a : Atom) → Satisfies σ (with_atom cnf a) → Satisfies σ cnf × (atom_truth σ a ≡ true)
atom-parts σ cnf a h = parts-with σ cnf.clauses a h
