-- What follows from a proof, and how proofs go on.
use Rattle.std.specs.Prelude.{◌≡◌, ◌↔◌, ◌+◌, ℕ, None, true, Ok, IsTrue, List, [], ◌∷◌, ◌++◌}
use Rattle.order_ints.specs.declared.literal.Lit.{Lit}
use Rattle.order_ints.specs.declared.cnf.Cnf.{Cnf}
use Rattle.order_ints.specs.Truth.{Valuation}
use Rattle.order_ints.specs.Place.{ClauseBelow}
use Rattle.order_ints.specs.Satisfies.{Satisfies, clause_truth, clauses_truth}
use Rattle.proof_check.specs.declared.line.ProofLine.{ProofLine}
use Rattle.proof_check.specs.Named.{literals_of}
use Rattle.proof_check.specs.Values.{VarsDiffer}
use Rattle.proof_check.specs.Faults.{lits_fault}
use Rattle.proof_check.specs.Lrat.{Proof, proof_of, take_line, take_lines}
use Rattle.proof_check.specs.Known.{known}
use Rattle.proof_check.specs.Lines.{IsReadable, line_bytes, line_text}

-- each valuation that satisfies the CNF satisfies the clauses that live, and those that were ever added
abbrev pub IsImplied : Proof → Type 0
IsImplied p = (σ : Valuation) → Satisfies σ p.cnf →
    IsTrue (clauses_truth σ (literals_of p.live)) × IsTrue (clauses_truth σ (literals_of p.added))

-- this is so before the first line
abbrev pub StartImplied : Type 0
StartImplied = (cnf : Cnf) → IsImplied (proof_of cnf)

-- and a line without a fault keeps it
abbrev pub LineImplied : Type 0
LineImplied = (p q : Proof) (line : ProofLine) → IsImplied p → take_line p line ≡ Ok q → IsImplied q

-- so each valuation that satisfies a CNF satisfies every clause that a proof from it adds
abbrev pub AddedImplied : Type 0
AddedImplied = (cnf : Cnf) (lines : List ProofLine) (p : Proof) → take_lines (proof_of cnf) lines ≡ Ok p →
    (σ : Valuation) → Satisfies σ cnf → IsTrue (clauses_truth σ (literals_of p.added))

-- and every clause that is known
abbrev pub KnownImplied : Type 0
KnownImplied = (p : Proof) (lits : List Lit) → IsImplied p → known p lits ≡ true →
    (σ : Valuation) → Satisfies σ p.cnf → IsTrue (clause_truth σ lits)

-- no line changes the CNF
abbrev pub CnfStays : Type 0
CnfStays = (p q : Proof) (line : ProofLine) → take_line p line ≡ Ok q → q.cnf ≡ p.cnf

-- a proof of some lines goes on by one more
abbrev pub LinesGoOn : Type 0
LinesGoOn = (p q r : Proof) (lines : List ProofLine) (line : ProofLine) → take_lines p lines ≡ Ok q
    → take_line q line ≡ Ok r →
    take_lines p (lines ++ line ∷ []) ≡ Ok r

-- the literals of a clause have no fault exactly where their variables are those of the CNF and differ
abbrev pub LitsFit : Type 0
LitsFit = (vars : ℕ) (lits : List Lit) → (lits_fault vars [] lits 1 ≡ None) ↔
    (ClauseBelow (vars + 1) lits × VarsDiffer lits)

-- the text of a line that can be read is that of no other, with its line feed or without
abbrev pub TextTellsLine : Type 0
TextTellsLine = (l m : ProofLine) → IsReadable l → IsReadable m → line_text l ≡ line_text m → l ≡ m

abbrev pub BytesTellLine : Type 0
BytesTellLine = (l m : ProofLine) → IsReadable l → IsReadable m → line_bytes l ≡ line_bytes m → l ≡ m
