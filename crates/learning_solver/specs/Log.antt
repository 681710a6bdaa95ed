-- The log of a search: a proof whose additions are new and whose deletions name additions alone, one at least, behind
-- the greatest id so far.
use Rattle.std.specs.Prelude.{◌≡◌, ◌≢◌, ℕ, ◌+◌, ◌<◌, ◌≤◌, Ok, Some, IsTrue, List, [], ◌∷◌}
use Rattle.std.specs.Prelude.{◌++◌, length, Contains}
use Rattle.order_ints.specs.declared.literal.Lit.{Lit}
use Rattle.order_ints.specs.declared.cnf.Cnf.{Cnf}
use Rattle.proof_check.specs.declared.line.ProofLine.{ProofLine}
use Rattle.proof_check.specs.declared.line.ProofLine.TheVariants.{Add, Delete}
use Rattle.proof_check.specs.Named.{Named, numbered, clause_at, has_id, Lives}
use Rattle.proof_check.specs.Lrat.{Proof, proof_of, after_line, take_lines}
use Rattle.proof_check.specs.New.{New}
use Rattle.proof_check.specs.Known.{all_clauses}
use Rattle.proof_check.specs.Lines.{Each, IsReadable}
use Rattle.clause_rings.specs.Clauses.{IsApart}

-- how many lines add a clause
abbrev pub additions : List ProofLine → ℕ
additions [] = 0
additions (Add id lits hints ∷ lines) = 1 + additions lines
additions (Delete at ids ∷ lines) = additions lines

-- the proof behind lines that have no fault
abbrev pub after_lines : Proof → List ProofLine → Proof
after_lines p [] = p
after_lines p (line ∷ lines) = after_lines (after_line p line) lines

-- the proof behind a log
abbrev pub proof_behind : Cnf → List ProofLine → Proof
proof_behind cnf log = after_lines (proof_of cnf) log

-- each id is that of a clause that was added
abbrev pub AreAdded : Proof → List ℕ → Type 0
AreAdded p [] = Unit {0}
AreAdded p (id ∷ ids) = IsTrue (has_id p.added id) × AreAdded p ids

-- an addition is new among the clauses that live before it; a deletion begins with the greatest id so far, and names
-- additions alone, one at least
abbrev pub IsFresh : Proof → ProofLine → Type 0
IsFresh p (Add id lits hints) = New p.live lits
IsFresh p (Delete at ids) = (at ≡ p.last) × AreAdded p ids × (ids ≢ [])

-- what holds of each line, with the proof before it
abbrev pub EachLine : (Proof → ProofLine → Type 0) → Proof → List ProofLine → Type 0
EachLine P p [] = Unit {0}
EachLine P p (line ∷ lines) = P p line × EachLine P (after_line p line) lines

-- each addition was new, and deletions begin with the last id and name additions alone, one at least
abbrev pub IsFreshLog : Cnf → List ProofLine → Type 0
IsFreshLog cnf log = EachLine IsFresh (proof_of cnf) log

-- where the CNF holds the empty clause, such a log has no line
abbrev pub EmptyClauseLaw : Type 0
EmptyClauseLaw = (cnf : Cnf) (log : List ProofLine) → Contains cnf.clauses [] → IsFreshLog cnf log → log ≡ []

-- a log goes on: its lines stay, and others may follow them
abbrev pub GoesOn : List ProofLine → List ProofLine → Type 0
GoesOn old new = (more : List ProofLine) × (new ≡ old ++ more)

-- the clauses of the CNF and those that were ever added
abbrev pub all_named : Proof → List Named
all_named p = numbered 1 p.cnf.clauses ++ p.added

-- no variable stands twice in a known clause, and one of at most one literal lives
pub record StaysKnown (live : List Named) (lits : List Lit) : Type 0 where
  pub apart : IsApart lits
  pub lives : length lits ≤ 1 → (id : ℕ) × (clause_at live id ≡ Some lits)

-- what the search keeps of its log
pub record IsLog (cnf : Cnf) (log : List ProofLine) : Type 0 where
  pub accepted : take_lines (proof_of cnf) log ≡ Ok (proof_behind cnf log)
  pub fresh : IsFreshLog cnf log
  pub readable : Each IsReadable log
  pub last : (proof_behind cnf log).last ≡ length cnf.clauses + additions log
  -- the clauses of the CNF live
  pub cnf_lives : (d : Named) → Lives (numbered 1 cnf.clauses) d → Lives (proof_behind cnf log).live d
  -- what lives stands in the CNF or was added
  pub known : (d : Named) → Lives (proof_behind cnf log).live d → Lives (all_named (proof_behind cnf log)) d
  -- no variable stands twice in what lives
  pub differ : (d : Named) → Lives (proof_behind cnf log).live d → IsApart d.lits
  -- no id is above the last, and none of an addition is one of the CNF
  pub low : (d : Named) → Lives (all_named (proof_behind cnf log)) d → d.id ≤ (proof_behind cnf log).last
  pub apart : (id : ℕ) → IsTrue (has_id (proof_behind cnf log).added id) → length cnf.clauses < id
  -- no clause of at most one literal was ever deleted
  pub short : Each (StaysKnown (proof_behind cnf log).live) (all_clauses (proof_behind cnf log))
