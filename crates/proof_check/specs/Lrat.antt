-- Lrat: proofs whose lines are additions, each refuted by its hints when it is denied, and deletions.
use Rattle.std.specs.Prelude.{ℕ, ℤ, Option, None, Some, Result, Ok, Err, IsOk, List, [], ◌∷◌, ◌++◌}
use Rattle.std.specs.Prelude.{length}
use Rattle.order_ints.specs.declared.literal.Lit.{Lit}
use Rattle.order_ints.specs.declared.cnf.Cnf.{Cnf}
use Rattle.proof_check.specs.declared.fault.ProofFault.{ProofFault}
use Rattle.proof_check.specs.declared.line.ProofLine.{ProofLine}
use Rattle.proof_check.specs.declared.line.ProofLine.TheVariants.{Add, Delete}
use Rattle.proof_check.specs.Named.{Named, numbered, without_all}
use Rattle.proof_check.specs.Faults.{or_else, id_fault, body_fault, deletion_fault}

-- how far a proof has come: the clauses that live, those that were ever added, and the greatest id so far
pub record Proof : Type 0 where
  pub cnf : Cnf
  pub live : List Named
  pub added : List Named
  pub last : ℕ

-- before the first line, the clauses of the CNF live under their places, from 1
abbrev pub proof_of : Cnf → Proof
proof_of cnf = record { cnf = cnf; live = numbered 1 cnf.clauses; added = []; last = length cnf.clauses }

-- the first fault of an addition
abbrev pub addition_fault : Proof → ℕ → List Lit → List ℤ → Option ProofFault
addition_fault p id lits hints = or_else (id_fault p.last id) (body_fault p.cnf.vars p.live lits hints)

-- the first fault of a line
abbrev pub line_fault : Proof → ProofLine → Option ProofFault
line_fault p (Add id lits hints) = addition_fault p id lits hints
line_fault p (Delete at ids) = deletion_fault p.live ids

-- a clause more
abbrev pub with_clause : Proof → Named → Proof
with_clause p c = record { cnf = p.cnf; live = p.live ++ c ∷ []; added = p.added ++ c ∷ []; last = c.id }

-- a proof with a line more
abbrev pub after_line : Proof → ProofLine → Proof
after_line p (Add id lits hints) = with_clause p (record { id = id; lits = lits })
after_line p (Delete at ids) = record { cnf = p.cnf; live = without_all ids p.live; added = p.added; last = p.last }

-- the proof, unless there is a fault
abbrev pub unless_fault : Option ProofFault → Proof → Result Proof ProofFault
unless_fault None p = Ok p
unless_fault (Some e) p = Err e

-- one line as a step: the proof behind it, or its first fault
abbrev pub take_line : Proof → ProofLine → Result Proof ProofFault
take_line p line = unless_fault (line_fault p line) (after_line p line)

-- what is made of the proof behind a line, unless there is a fault
abbrev pub behind : Result Proof ProofFault → (Proof → Result Proof ProofFault) → Result Proof ProofFault
behind (Ok q) next = next q
behind (Err e) next = Err e

-- lines one after another, up to the first fault
abbrev pub take_lines : Proof → List ProofLine → Result Proof ProofFault
take_lines p [] = Ok p
take_lines p (line ∷ lines) = behind (take_line p line) (λ q. take_lines q lines)

-- the lines are a proof from the CNF, without a fault
abbrev pub Lrat : Cnf → List ProofLine → Type 0
Lrat cnf lines = IsOk (take_lines (proof_of cnf) lines)
