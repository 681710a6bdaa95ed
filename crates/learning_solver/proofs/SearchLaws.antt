-- What keeps a search together, as clauses come into store and log.
use Rattle.std.proofs.Common.{◌≡◌, ℕ, ◌+◌, ◌<◌, List, [], ◌∷◌, ◌++◌, length, None, ap, sym, ◌∙◌, subst, arith}
use Rattle.std.specs.Prelude.{slice_set, ℤ, false}
use Rattle.order_ints.specs.declared.literal.Lit.{Lit}
use Rattle.order_ints.specs.declared.cnf.Cnf.{Cnf}
use Rattle.clause_arena.specs.Clauses.{Clause, clause_at as stored_at, live_clause}
use Rattle.proof_check.specs.declared.line.ProofLine.{ProofLine}
use Rattle.proof_check.specs.declared.line.ProofLine.TheVariants.{Add}
use Rattle.proof_check.specs.Lrat.{Proof, proof_of, after_line, addition_fault}
use Rattle.proof_check.specs.New.{New}
use Rattle.proof_check.specs.Lines.{IsReadable}
use Rattle.learning_solver.specs.Log.{proof_behind, additions, IsLog}
use Rattle.learning_solver.specs.Kept.{IsKept}
use Rattle.learning_solver.proofs.LogLaws.{log-added, after-more, none-lives-above, additions-add}
use Rattle.learning_solver.proofs.KeptLaws.{kept-added}

-- a clause is added
module _ (cnf : Cnf) (log : List ProofLine) (is : IsLog cnf log) (id : ℕ) (lits : List Lit) (hints : List ℤ) (items : List ProofLine) (goes : items ≡ log ++ Add id lits hints ∷ []) (next : id ≡ (proof_behind cnf log).last + 1) where
  pub log-taken : IsReadable (Add id lits hints) → addition_fault (proof_behind cnf log) id lits hints ≡ None → New (proof_behind cnf log).live lits → IsLog cnf items
  log-taken can fault new = let P : List ProofLine → Type 0 = IsLog cnf in subst P (sym goes) (log-added cnf log is id lits next hints can fault new)

  pub behind-taken : proof_behind cnf items ≡ after_line (proof_behind cnf log) (Add id lits hints)
  behind-taken = ap (proof_behind cnf) goes ∙ after-more (proof_of cnf) log (Add id lits hints)

  pub additions-taken : additions items ≡ additions log + 1
  additions-taken = ap additions goes ∙ additions-add log id lits hints

  pub kept-taken : (cs : List Clause) (c : ℕ) (now : List Clause) → IsKept (proof_behind cnf log).live cs → c < length cs → (stored_at cs c).live ≡ false → now ≡ slice_set cs c (live_clause id lits) → IsKept (proof_behind cnf items).live now
  kept-taken cs c now kept inside unused made =
      let live = (proof_behind cnf log).live in
      let P : List Clause → Type 0 = IsKept (live ++ record { id = id; lits = lits } ∷ []) in
      let Q : Proof → Type 0 = λ p. IsKept p.live now in
      subst Q (sym behind-taken)
      (subst P (sym made) (kept-added live cs kept c id lits inside unused (none-lives-above cnf log is id (omega (arith, next)))))
