-- A proof as a text of lines, by clauses that hints show.
--
--     ID LITERAL .. 0 HINT .. 0     adds a clause under a new id
--     ID d ID .. 0                  names clauses that are deleted, and has no effect
--     c ..                          says nothing, nor does a line without words
--
-- Words stand apart by blanks, tabs and carriage returns. The last line may lack its line feed.
use Rattle.std.specs.Prelude.{◌≡◌, ◌⊎◌, ◌==◌, ℕ, Bool, true, false, ◌&&◌, ◌||◌, Option, None, Some, List, [], ◌∷◌, ◌++◌}
use Rattle.std.specs.Prelude.{length, if◌then◌else◌}
use Rattle.std.specs.List.{list_any}
use Rattle.bee_text.specs.Gaps.{words_of}
use Rattle.bee_text.specs.Words.{join_words}
use Rattle.order_ints.specs.declared.literal.Lit.{Lit}
use Rattle.order_ints.specs.declared.cnf.Cnf.{Cnf}
use Rattle.proof_check.specs.declared.line.ProofLine.{ProofLine}
use Rattle.proof_check.specs.declared.line.ProofLine.TheVariants.{Add, Delete}
use Rattle.proof_check.specs.Lines.{AreBytesOf}
use Rattle.line_texts.specs.LineByLine.{IsWhole, FirstMisfit}
use Rattle.sat_front.specs.Closed.{closed}
use Rattle.sat_front.specs.CnfLines.{is_skipped}
use Rattle.lrat_check.specs.Hints.{Added, is_new, is_shown}

-- the clauses that were added so far, and whether one of all clauses is empty
pub record SoFar : Type 0 where
  pub added : Added
  pub refuted : Bool

-- before the first line
abbrev pub start_of : Cnf → SoFar
start_of cnf = record { added = []; refuted = list_any (λ c. length c == 0) cnf.clauses }

-- a clause more
abbrev pub with_clause : SoFar → ℕ → List Lit → SoFar
with_clause s id lits = record { added = s.added ++ (id, lits) ∷ []; refuted = s.refuted || (length lits == 0) }

-- what stands behind a line, none where it doesn't fit: an addition has a new id, and its hints show its clause
abbrev pub after_line : Cnf → SoFar → ProofLine → Option SoFar
after_line cnf s (Add id lits hints) =
    if is_new cnf.clauses s.added id && is_shown cnf.vars cnf.clauses s.added lits hints
    then Some (with_clause s id lits)
    else None
after_line cnf s (Delete at ids) = Some s

-- words say a line that fits
pub record Says (cnf : Cnf) (s : SoFar) (words : List (List ℕ)) (t : SoFar) : Type 0 where
  pub line : ProofLine
  pub spelled : AreBytesOf line (join_words words)
  pub after : after_line cnf s line ≡ Some t

-- The line may stand next, and this is what stands behind it.
abbrev pub NextProof : Cnf → SoFar → List ℕ → SoFar → Type 0
NextProof cnf s line t =
    ((is_skipped (words_of line) ≡ true) × (t ≡ s))
    ⊎ ((is_skipped (words_of line) ≡ false) × Says cnf s (words_of line) t)

-- one of all clauses is empty
abbrev pub IsRefuted : SoFar → Type 0
IsRefuted s = s.refuted ≡ true

-- The text is a proof from the CNF: each of its lines may stand next, and one adds the empty clause, or the CNF has it.
abbrev pub IsLrat : Cnf → List ℕ → Type 0
IsLrat cnf text = (s : SoFar) × IsWhole (NextProof cnf) IsRefuted (start_of cnf) (closed text) s

-- The line of this number is the first that may not stand next. Where all may, and none adds the empty clause, it is
-- the one behind the last.
abbrev pub LratFails : Cnf → List ℕ → ℕ → Type 0
LratFails cnf text = FirstMisfit (NextProof cnf) IsRefuted (start_of cnf) (closed text)
