-- Over a CNF with the empty clause no line is fresh.
use Rattle.std.proofs.Common.{◌≡◌, ℕ, zero, suc, ◌+◌, ◌≤◌, ◌<◌, List, [], ◌∷◌, length, Some, refl, ap, ◌∙◌, arith}
use Rattle.std.specs.Prelude.{Contains, slice_index_or}
use Rattle.order_ints.specs.declared.literal.Lit.{Lit}
use Rattle.order_ints.specs.declared.cnf.Cnf.{Cnf}
use Rattle.proof_check.specs.declared.line.ProofLine.{ProofLine}
use Rattle.proof_check.specs.declared.line.ProofLine.TheVariants.{Add, Delete}
use Rattle.proof_check.specs.Named.{Named, numbered, Lives}
use Rattle.proof_check.specs.Lrat.{proof_of}
use Rattle.learning_solver.specs.Log.{IsFresh, IsFreshLog}
use Rattle.learning_solver.proofs.NamedLaws.{at-first, at-others}

-- a clause of the CNF lives under its place
lives-numbered : (n : ℕ) (cs : List (List Lit)) (c : List Lit) → Contains cs c → (id : ℕ) × (n ≤ id) × Lives (numbered n cs) (record { id = id; lits = c })
lives-numbered n [] c has = absurd (omega (arith, has.1))
lives-numbered n (d ∷ cs) c has = by has.0 has.1 has.2 (λ later. lives-numbered (n + 1) cs c later)
  where
    first : Named
    first = record { id = n; lits = d }

    by : (k : ℕ) → k < suc (length cs) → slice_index_or (d ∷ cs) k c ≡ c → (Contains cs c → (id : ℕ) × (n + 1 ≤ id) × Lives (numbered (n + 1) cs) (record { id = id; lits = c }))
        → (id : ℕ) × (n ≤ id) × Lives (numbered n (d ∷ cs)) (record { id = id; lits = c })
    by zero below is rest = (n, omega arith, at-first first (numbered (n + 1) cs) n refl ∙ ap Some is)
    by (suc k) below is rest =
        let w = rest (k, omega arith, is) in
        (w.0, omega (arith, w.1), at-others first (numbered (n + 1) cs) w.0 (λ e. omega (arith, e, w.1)) ∙ w.2)

none-fresh : (cnf : Cnf) → Contains cnf.clauses [] → (line : ProofLine) → IsFresh (proof_of cnf) line → ⊥
none-fresh cnf has (Add id lits hints) new =
    let w = lives-numbered 1 cnf.clauses [] has in
    let e = new (record { id = w.0; lits = [] }) w.2 in
    cc
none-fresh cnf has (Delete at []) fresh = fresh.2 refl
none-fresh cnf has (Delete at (id ∷ ids)) fresh = let e = fresh.1.0 in cc

pub empty-clause : (cnf : Cnf) (log : List ProofLine) → Contains cnf.clauses [] → IsFreshLog cnf log → log ≡ []
empty-clause cnf [] has fresh = refl
empty-clause cnf (line ∷ log) has fresh = absurd (none-fresh cnf has line fresh.0)
