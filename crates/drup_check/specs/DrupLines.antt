-- A proof as a text of lines, by clauses that reverse unit propagation shows (DRUP).
--
--     LITERAL .. 0      adds a clause, which the CNF's clauses and those added before show
--     d LITERAL .. 0    names a clause that is deleted, and has no effect
--     c ..              says nothing, nor does a line without words
--
-- Each line has one clause. Words stand apart by blanks, tabs and carriage returns. The last line may lack its line
-- feed.
use Rattle.std.specs.Prelude.{◌≡◌, ◌⊎◌, ℕ, ◌+◌, Bool, true, false, List, [], ◌∷◌, ◌++◌}
use Rattle.std.specs.Prelude.{drop, map, codes}
use Rattle.std.specs.Str.{bytes_eq}
use Rattle.bee_text.specs.Gaps.{words_of}
use Rattle.order_ints.specs.declared.literal.Lit.{Lit}
use Rattle.order_ints.specs.declared.cnf.Cnf.{Cnf}
use Rattle.order_ints.specs.Place.{ClauseBelow}
use Rattle.ledger_text.specs.Words.{literal_word}
use Rattle.line_texts.specs.LineByLine.{IsWhole, FirstMisfit}
use Rattle.sat_front.specs.Closed.{closed}
use Rattle.sat_front.specs.CnfLines.{is_skipped}
use Rattle.drup_check.specs.Rup.{Rup}

-- words that spell a clause over so many variables: its literals, and 0 behind them
pub record SpellsClause (vars : ℕ) (words : List (List ℕ)) (clause : List Lit) : Type 0 where
  pub spelled : words ≡ map literal_word clause ++ codes "0" ∷ []
  pub below : ClauseBelow (vars + 1) clause

-- the first word is `d`
abbrev pub is_deletion : List (List ℕ) → Bool
is_deletion [] = false
is_deletion (w ∷ ws) = bytes_eq w (codes "d")

-- a clause stands behind the first word, and the clauses stay
pub record Deletes (vars : ℕ) (cs : List (List Lit)) (words : List (List ℕ)) (after : List (List Lit))
    : Type 0 where
  pub clause : List Lit
  pub spelled : SpellsClause vars (drop 1 words) clause
  pub after_is : after ≡ cs

-- the clauses show one more
pub record Adds (vars : ℕ) (cs : List (List Lit)) (words : List (List ℕ)) (after : List (List Lit)) : Type 0 where
  pub clause : List Lit
  pub spelled : SpellsClause vars words clause
  pub shown : Rup cs clause
  pub after_is : after ≡ cs ++ clause ∷ []

-- what a line that says something says
abbrev pub Says : ℕ → List (List Lit) → List (List ℕ) → List (List Lit) → Type 0
Says vars cs words after = ((is_deletion words ≡ true) × Deletes vars cs words after)
    ⊎ ((is_deletion words ≡ false) × Adds vars cs words after)

-- The line may stand behind clauses over so many variables, and these are the clauses behind it.
abbrev pub NextClauses : ℕ → List (List Lit) → List ℕ → List (List Lit) → Type 0
NextClauses vars cs line after =
    ((is_skipped (words_of line) ≡ true) × (after ≡ cs))
    ⊎ ((is_skipped (words_of line) ≡ false) × Says vars cs (words_of line) after)

-- the clauses show the empty one
abbrev pub ShowEmpty : List (List Lit) → Type 0
ShowEmpty cs = Rup cs []

-- The text is a proof from the CNF: each of its lines may stand next, and the clauses of all show the empty one.
abbrev pub IsDrup : Cnf → List ℕ → Type 0
IsDrup cnf text = (cs : List (List Lit)) × IsWhole (NextClauses cnf.vars) ShowEmpty cnf.clauses (closed text) cs

-- The line of this number is the first that may not stand next. Where all may, and don't show the empty clause, it is
-- the one behind the last.
abbrev pub DrupFails : Cnf → List ℕ → ℕ → Type 0
DrupFails cnf text = FirstMisfit (NextClauses cnf.vars) ShowEmpty cnf.clauses (closed text)
