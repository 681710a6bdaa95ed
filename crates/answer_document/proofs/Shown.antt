-- What an accepted proof shows is true under each valuation that satisfies its CNF.
use Rattle.std.proofs.Common.{◌≡◌, ◌⊎◌, Bool, true, false, List, [], ◌∷◌, ◌++◌, Option, None, Some, Result, Ok, Err, refl, sym, ap, ◌∙◌, subst, ⊎_elim}
use Rattle.std.specs.Prelude.{IsTrue, ◌&&◌, ◌||◌}
use Rattle.std.proofs.lemmas.Bool.{true≢false, false≢true}
use Rattle.order_ints.specs.declared.atom.Atom.{Atom}
use Rattle.order_ints.specs.declared.atom.Atom.TheVariants.{True, False, Of}
use Rattle.order_ints.specs.declared.literal.Lit.{Lit}
use Rattle.order_ints.specs.declared.cnf.Cnf.{Cnf}
use Rattle.order_ints.specs.Truth.{Valuation, lit_truth, atom_truth}
use Rattle.order_ints.specs.Satisfies.{clauses_truth, clause_truth, Satisfies}
use Rattle.proof_check.specs.declared.line.ProofLine.{ProofLine}
use Rattle.proof_check.specs.Lrat.{Proof, proof_of, take_lines}
use Rattle.proof_check.specs.Known.{known}
use Rattle.proof_check.specs.Laws.{IsImplied}
use Rattle.proof_check.proofs.Implied.{start-implied, lines-implied, known-implied}
use Rattle.answer_document.specs.Valid.{IsShown, atom_clauses}

one-true : (t : Bool) → (t || false) ≡ true → t ≡ true
one-true true e = refl
one-true false e = e

module _ (cnf : Cnf) (lines : List ProofLine) (p : Proof) (accepted : take_lines (proof_of cnf) lines ≡ Ok p) (σ : Valuation) (satisfies : Satisfies σ cnf) where
  -- each clause that is known is true
  known-true : (lits : List Lit) → IsTrue (known p lits) → IsTrue (clause_truth σ lits)
  known-true lits is =
      let all = lines-implied (proof_of cnf) lines p accepted (start-implied cnf) in
      known-implied p lits all.0 is σ (subst (λ (f : Cnf). Satisfies σ f) (sym all.1) satisfies)

  -- so the empty one is not known
  pub not-refuted : IsTrue (known p []) → ⊥
  not-refuted is = false≢true (known-true [] is)

  pub shown-true : (a : Atom) → IsShown p a → atom_truth σ a ≡ true
  shown-true True h = refl
  shown-true False h = absurd (not-refuted h)
  shown-true (Of l) h = ⊎_elim (λ none. absurd (not-refuted none)) (λ one. one-true (lit_truth σ l) (known-true (l ∷ []) one)) h

both-true : (a b : Bool) → a ≡ true → b ≡ true → (a && b) ≡ true
both-true true b e f = f
both-true false b e f = absurd (false≢true e)

front-true : (a b : Bool) → (a && b) ≡ true → (a ≡ true) × (b ≡ true)
front-true true b e = (refl, e)
front-true false b e = absurd (false≢true e)

clause-of-atom : (σ : Valuation) (a : Atom) → atom_truth σ a ≡ true → clauses_truth σ (atom_clauses a) ≡ true
clause-of-atom σ True e = refl
clause-of-atom σ False e = absurd (false≢true e)
clause-of-atom σ (Of l) e = rw e refl

-- clauses stay true with the clause of an atom that is true
pub with-atom-true : (σ : Valuation) (cs : List (List Lit)) (a : Atom) → clauses_truth σ cs ≡ true → atom_truth σ a ≡ true → clauses_truth σ (cs ++ atom_clauses a) ≡ true
with-atom-true σ [] a h e = clause-of-atom σ a e
with-atom-true σ (c ∷ cs) a h e =
    let parts = front-true (clause_truth σ c) (clauses_truth σ cs) h in
    both-true (clause_truth σ c) (clauses_truth σ (cs ++ atom_clauses a)) parts.0 (with-atom-true σ cs a parts.1 e)
