-- What a derivation shows is true, and what a fixed objective says.
use Rattle.std.proofs.Common.{◌≡◌, Bool, true, false, not, List, [], ◌∷◌, ◌++◌, Ok, refl, sym, ap, ◌∙◌, subst, ⊎_elim, ℤ, pos, ◌+ℤ◌, ◌≤ℤ◌, arith}
use Rattle.std.specs.Prelude.{IsTrue, ◌&&◌, ◌||◌, ◌<ℤ◌}
use Rattle.std.proofs.lemmas.Bool.{false≢true}
use Rattle.std.proofs.lemmas.Int.{ints}
use Rattle.order_ints.specs.declared.atom.Atom.{Atom}
use Rattle.order_ints.specs.declared.atom.Atom.TheVariants.{True, False, Of}
use Rattle.order_ints.specs.declared.literal.Lit.{Lit}
use Rattle.order_ints.specs.declared.cnf.Cnf.{Cnf}
use Rattle.order_ints.specs.declared.order_int.OrdInt.{OrdInt}
use Rattle.order_ints.specs.OrderLevels.{at_of}
use Rattle.order_ints.specs.OrderValue.{value_of, IsOrdered}
use Rattle.order_ints.specs.Truth.{Valuation, lit_truth, atom_truth}
use Rattle.order_ints.specs.Satisfies.{clauses_truth, clause_truth, Satisfies}
use Rattle.order_ints.proofs.Comparisons.{le_from_test, lt_from_test, int_le-true, int_le-false}
use Rattle.order_ints.proofs.Truths.{atom_truth-not_atom}
use Rattle.order_ints.proofs.Reaching.{atom_truth-at_of}
use Rattle.proof_check.specs.declared.line.ProofLine.{ProofLine}
use Rattle.proof_check.specs.Lrat.{Proof, proof_of, take_lines}
use Rattle.proof_check.specs.Known.{known}
use Rattle.proof_check.proofs.Implied.{start-implied, lines-implied, known-implied}
use Rattle.answer_document.specs.Valid.{IsShown, atom_clauses}
use Rattle.decode_minimize.specs.declared.objective.Direction.{Direction}
use Rattle.decode_minimize.specs.declared.objective.Direction.TheVariants.{Least, Greatest}
use Rattle.decode_minimize.specs.Objectives.{bound_of, no_worse_of}

one-true : (t : Bool) → (t || false) ≡ true → t ≡ true
one-true true e = refl
one-true false e = e

module _ (cnf : Cnf) (lines : List ProofLine) (p : Proof) (accepted : take_lines (proof_of cnf) lines ≡ Ok p) (σ : Valuation) (satisfies : Satisfies σ cnf) where
  known-true : (lits : List Lit) → IsTrue (known p lits) → IsTrue (clause_truth σ lits)
  known-true lits is =
      let all = lines-implied (proof_of cnf) lines p accepted (start-implied cnf) in
      known-implied p lits all.0 is σ (subst (λ (f : Cnf). Satisfies σ f) (sym all.1) satisfies)

  not-refuted : IsTrue (known p []) → ⊥
  not-refuted is = false≢true (known-true [] is)

  pub shown-true : (a : Atom) → IsShown p a → atom_truth σ a ≡ true
  shown-true True h = refl
  shown-true False h = absurd (not-refuted h)
  shown-true (Of l) h = ⊎_elim (λ none. absurd (not-refuted none)) (λ one. one-true (lit_truth σ l) (known-true (l ∷ []) one)) h

both-true : (a b : Bool) → a ≡ true → b ≡ true → (a && b) ≡ true
both-true true b e f = f
both-true false b e f = absurd (false≢true e)

front-true : (a b : Bool) → (a && b) ≡ true → (a ≡ true) × (b ≡ true)
front-true true b e = (refl, e)
front-true false b e = absurd (false≢true e)

clause-of-atom : (σ : Valuation) (a : Atom) → atom_truth σ a ≡ true → clauses_truth σ (atom_clauses a) ≡ true
clause-of-atom σ True e = refl
clause-of-atom σ False e = absurd (false≢true e)
clause-of-atom σ (Of l) e = rw e refl

atom-of-clause : (σ : Valuation) (a : Atom) → clauses_truth σ (atom_clauses a) ≡ true → atom_truth σ a ≡ true
atom-of-clause σ True e = refl
atom-of-clause σ False e = absurd (false≢true e)
atom-of-clause σ (Of l) e = one-true (lit_truth σ l) (front-true (lit_truth σ l || false) true e).0

-- clauses with that of an atom behind them are true exactly where they and the atom are
pub with-atom-true : (σ : Valuation) (cs : List (List Lit)) (a : Atom) → clauses_truth σ cs ≡ true → atom_truth σ a ≡ true → clauses_truth σ (cs ++ atom_clauses a) ≡ true
with-atom-true σ [] a h e = clause-of-atom σ a e
with-atom-true σ (c ∷ cs) a h e =
    let parts = front-true (clause_truth σ c) (clauses_truth σ cs) h in
    both-true (clause_truth σ c) (clauses_truth σ (cs ++ atom_clauses a)) parts.0 (with-atom-true σ cs a parts.1 e)

pub with-atom-parts : (σ : Valuation) (cs : List (List Lit)) (a : Atom) → clauses_truth σ (cs ++ atom_clauses a) ≡ true → (clauses_truth σ cs ≡ true) × (atom_truth σ a ≡ true)
with-atom-parts σ [] a h = (refl, atom-of-clause σ a h)
with-atom-parts σ (c ∷ cs) a h =
    let parts = front-true (clause_truth σ c) (clauses_truth σ (cs ++ atom_clauses a)) h in
    let rest = with-atom-parts σ cs a parts.1 in
    (both-true (clause_truth σ c) (clauses_truth σ cs) parts.0 rest.0, rest.1)

-- the atoms of an objective at a number
module _ (σ : Valuation) (a : OrdInt) (m : ℤ) (ordered : IsOrdered σ a) where
  at-least-true : atom_truth σ (at_of a m) ≡ true → m ≤ℤ value_of σ a
  at-least-true e = le_from_test m (value_of σ a) (sym (atom_truth-at_of σ a m ordered) ∙ e)

  at-most-true : atom_truth σ (bound_of Greatest a m) ≡ true → value_of σ a ≤ℤ m
  at-most-true e =
      let denied : atom_truth σ (at_of a (m +ℤ pos 1)) ≡ false = was-false (atom_truth σ (at_of a (m +ℤ pos 1))) (sym (atom_truth-not_atom σ (at_of a (m +ℤ pos 1))) ∙ e) in
      below (value_of σ a) m (lt_from_test (m +ℤ pos 1) (value_of σ a) (sym (atom_truth-at_of σ a (m +ℤ pos 1) ordered) ∙ denied))
    where
      was-false : (b : Bool) → not b ≡ true → b ≡ false
      was-false true e = sym e
      was-false false e = refl

      below : (v m : ℤ) → v <ℤ (m +ℤ pos 1) → v ≤ℤ m
      below v m h = omega (arith, ints, h)

  same-both : (v m : ℤ) → m ≤ℤ v → v ≤ℤ m → m ≡ v
  same-both v m h k = grind (arith, ints)

  -- no better and no worse is equal
  pub exact-value : (d : Direction) → atom_truth σ (bound_of d a m) ≡ true → atom_truth σ (no_worse_of d a m) ≡ true → m ≡ value_of σ a
  exact-value Least e f = same-both (value_of σ a) m (at-least-true e) (at-most-true f)
  exact-value Greatest e f = same-both (value_of σ a) m (at-least-true f) (at-most-true e)

-- a value is no worse than itself
pub own-no-worse : (d : Direction) (σ : Valuation) (a : OrdInt) → IsOrdered σ a → atom_truth σ (no_worse_of d a (value_of σ a)) ≡ true
own-no-worse Least σ a ordered =
    atom_truth-not_atom σ (at_of a (value_of σ a +ℤ pos 1))
    ∙ ap not (atom_truth-at_of σ a (value_of σ a +ℤ pos 1) ordered ∙ int_le-false (value_of σ a +ℤ pos 1) (value_of σ a) (one-more (value_of σ a)))
  where
    one-more : (v : ℤ) → v <ℤ (v +ℤ pos 1)
    one-more v = omega (arith, ints)
own-no-worse Greatest σ a ordered = atom_truth-at_of σ a (value_of σ a) ordered ∙ int_le-true (value_of σ a) (value_of σ a) (itself (value_of σ a))
  where
    itself : (v : ℤ) → v ≤ℤ v
    itself v = omega (arith, ints)
