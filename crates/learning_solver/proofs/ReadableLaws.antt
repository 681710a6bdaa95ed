-- What the search logs can be read back from a text.
use Rattle.std.proofs.Common.{◌≡◌, ℕ, ◌+◌, ◌≤◌, ◌<◌, ◌^◌, List, [], ◌∷◌, pos, negsuc, Option, Some, None, is_some, refl, ap, sym, ◌∙◌, arith, ⊎_elim}
use Rattle.std.specs.Prelude.{Contains, ℤ, FitsSigned}
use Rattle.std.specs.Int.{w64}
use Rattle.order_ints.specs.declared.literal.Lit.{Lit}
use Rattle.order_ints.specs.declared.cnf.Cnf.{Cnf}
use Rattle.proof_check.specs.declared.fault.ProofFault.{ProofFault}
use Rattle.proof_check.specs.declared.line.ProofLine.{ProofLine}
use Rattle.proof_check.specs.declared.line.ProofLine.TheVariants.{Add}
use Rattle.proof_check.specs.declared.standing.Standing.{Standing}
use Rattle.proof_check.specs.declared.standing.Standing.TheVariants.{Refuted, UnitFor, Neither}
use Rattle.proof_check.specs.Named.{Named, numbered, clause_at}
use Rattle.proof_check.specs.Values.{Values, set_value}
use Rattle.proof_check.specs.Standing.{standing}
use Rattle.proof_check.specs.Faults.{or_else, by_standing, by_clause, is_none_left, hints_fault, lits_fault, id_fault, against}
use Rattle.proof_check.specs.Lrat.{addition_fault}
use Rattle.proof_check.specs.Lines.{Each, IsReadableLit, IsReadableHint, IsReadable}
use Rattle.learning_solver.specs.Log.{proof_behind, IsLog}
use Rattle.learning_solver.proofs.NamedLaws.{cases-at, at-back, numbered-range}
use Rattle.learning_solver.proofs.LitLaws.{both-none, lits-of-addition}
use Rattle.learning_solver.proofs.ReasonLaws.{member-first, member-more}

-- hints without a fault name live clauses
module _ (live : List Named) (low : (id : ℕ) (lits : List Lit) → clause_at live id ≡ Some lits → 1 ≤ id) where
  behind-it : (s : Standing) (hs : List ℤ) (place : ℕ) (next : Lit → Option ProofFault) → by_standing s (is_none_left hs) place next ≡ None → ((l : Lit) → next l ≡ None → Each IsReadableHint hs) → Each IsReadableHint hs
  behind-it Refuted [] place next none rest = tt
  behind-it Refuted (h ∷ hs) place next none rest = cc
  behind-it (UnitFor l) [] place next none rest = tt
  behind-it (UnitFor l) (h ∷ hs) place next none rest = rest l none
  behind-it Neither hs place next none rest = cc

  at-clause : (f : Values) (id : ℕ) (hs : List ℤ) (place : ℕ) (next : Lit → Option ProofFault) (o : Option (List Lit)) → clause_at live id ≡ o → by_clause f id o (is_none_left hs) place next ≡ None → FitsSigned w64 (pos id) → ((l : Lit) → next l ≡ None → Each IsReadableHint hs) → Each IsReadableHint (pos id ∷ hs)
  at-clause f id hs place next None is none fits rest = cc
  at-clause f id hs place next (Some c) is none fits rest = ((fits, low id c is), behind-it (standing f c) hs place next none rest)

  hints-readable : (f : Values) (hints : List ℤ) (place : ℕ) → hints_fault live f hints place ≡ None → Each (FitsSigned w64) hints → Each IsReadableHint hints
  hints-readable f [] place none fits = tt
  hints-readable f (pos id ∷ hs) place none fits =
      at-clause f id hs place (λ l. hints_fault live (set_value f l) hs (place + 1)) (clause_at live id) refl none fits.0
      (λ l e. hints-readable (set_value f l) hs (place + 1) e fits.1)
  hints-readable f (negsuc n ∷ hs) place none fits = cc

each-member : (P : Lit → Type 0) (ls : List Lit) → ((l : Lit) → Contains ls l → P l) → Each P ls
each-member P [] holds = tt
each-member P (l ∷ ls) holds = (holds l (member-first l ls), each-member P ls (λ m has. holds m (member-more l ls m has)))

-- an id of a live clause isn't 0
pub live-positive : (cnf : Cnf) (log : List ProofLine) → IsLog cnf log → (id : ℕ) (lits : List Lit) → clause_at (proof_behind cnf log).live id ≡ Some lits → 1 ≤ id
live-positive cnf log is id lits there =
    let p = proof_behind cnf log in
    let known = is.known (record { id = id; lits = lits }) there in
    ⊎_elim
    (λ (none : clause_at (numbered 1 p.cnf.clauses) id ≡ None).
    omega (arith, is.apart id (ap (λ (o : Option (List Lit)). is_some o) (sym (at-back (numbered 1 p.cnf.clauses) p.added id none) ∙ known))))
    (λ (some : (ls : List Lit) × (clause_at (numbered 1 p.cnf.clauses) id ≡ Some ls)). (numbered-range 1 p.cnf.clauses id some.0 some.1).0)
    (cases-at (numbered 1 p.cnf.clauses) id)

-- an addition without a fault
pub addition-readable : (cnf : Cnf) (log : List ProofLine) → IsLog cnf log → cnf.vars ≤ 2 ^ 27 → (id : ℕ) (lits : List Lit) (hints : List ℤ) → id ≡ (proof_behind cnf log).last + 1 → id < 2 ^ 64 → addition_fault (proof_behind cnf log) id lits hints ≡ None → Each (FitsSigned w64) hints → IsReadable (Add id lits hints)
addition-readable cnf log is few id lits hints next small none fits =
    let p = proof_behind cnf log in
    let range = (lits-of-addition cnf log cnf.vars id lits hints none refl).0 in
    let body = (both-none (id_fault p.last id) (or_else (lits_fault p.cnf.vars [] lits 1) (hints_fault p.live (against lits) hints 1)) none).1 in
    let told = (both-none (lits_fault p.cnf.vars [] lits 1) (hints_fault p.live (against lits) hints 1) body).1 in (
      (omega (arith, next), small),
      each-member IsReadableLit lits (λ l has. let at = range l has in (at.0, omega (arith, at.1, few))),
      hints-readable p.live (live-positive cnf log is) (against lits) hints 1 told fits,
    )
