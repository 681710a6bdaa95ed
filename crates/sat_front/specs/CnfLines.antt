-- A CNF as a plain DIMACS text.
--
--     c ..                 any line with this first word says nothing, nor does a line without words
--     p cnf VARS CLAUSES   once, before the clauses
--     LITERAL .. 0 ..      clauses, each ended by 0, over any lines
--     % ..                 ends the text
--
-- How many clauses there are is not compared with CLAUSES. Words stand apart by blanks, tabs and carriage returns. The
-- last line may lack its line feed.
use Rattle.std.specs.Prelude.{◌≡◌, ◌⊎◌, ℕ, ◌+◌, ◌<◌, ◌≤◌, ◌^◌, Bool, true, false, List}
use Rattle.std.specs.Prelude.{[], ◌∷◌, ◌++◌, map, codes, Option, None, Some}
use Rattle.std.specs.Str.{bytes_eq}
use Rattle.std.specs.Fmt.{decimal}
use Rattle.bee_text.specs.Gaps.{words_of}
use Rattle.order_ints.specs.declared.literal.Lit.{Lit}
use Rattle.order_ints.specs.declared.atom.Atom.TheVariants.{Of}
use Rattle.order_ints.specs.declared.cnf.Cnf.{Cnf}
use Rattle.order_ints.specs.Place.{LitBelow}
use Rattle.order_ints.specs.OrderedClauses.{ordered_clauses}
use Rattle.ledger_text.specs.Words.{literal_word}
use Rattle.line_texts.specs.LineByLine.{IsWhole, FirstMisfit}
use Rattle.sat_front.specs.Closed.{closed}

-- the clauses that have ended, and the literals of one that has not
pub record Listed : Type 0 where
  pub clauses : List (List Lit)
  pub begun : List Lit

abbrev pub nothing_listed : Listed
nothing_listed = record { clauses = []; begun = [] }

-- one literal more, and the end of a clause
abbrev pub with_literal : Listed → Lit → Listed
with_literal s l = record { clauses = s.clauses; begun = s.begun ++ l ∷ [] }

abbrev pub with_end : Listed → Listed
with_end s = record { clauses = s.clauses ++ s.begun ∷ []; begun = [] }

-- words that list clauses over so many variables: literals, and 0 where a clause ends
abbrev pub Lists : ℕ → Listed → List (List ℕ) → Listed → Type 0
Lists vars s [] t = t ≡ s
Lists vars s (w ∷ ws) t =
    ((w ≡ codes "0") × Lists vars (with_end s) ws t)
    ⊎ ((l : Lit) × (w ≡ literal_word l) × LitBelow (vars + 1) l × Lists vars (with_literal s l) ws t)

-- how far a text is read: how many variables there are, once that was told; the clauses; and whether the text has ended
pub record Draft : Type 0 where
  pub vars : Option ℕ
  pub listed : Listed
  pub ended : Bool

abbrev pub nothing_read : Draft
nothing_read = record { vars = None; listed = nothing_listed; ended = false }

-- the words are two numbers: how many variables and how many clauses there are
pub record AreNumbers (words : List (List ℕ)) (vars : ℕ) : Type 0 where
  pub count : ℕ
  pub words_are : words ≡ decimal vars ∷ decimal count ∷ []
  pub vars_fit : vars ≤ 67108864
  pub count_fits : count < 2 ^ 63

-- the words of the line before the clauses, which tells how many variables there are
pub record IsHeader (words : List (List ℕ)) (vars : ℕ) : Type 0 where
  pub behind : List (List ℕ)
  pub words_are : words ≡ codes "p" ∷ codes "cnf" ∷ behind
  pub numbers : AreNumbers behind vars

pub record TellsVars (s : Draft) (words : List (List ℕ)) (t : Draft) : Type 0 where
  pub vars : ℕ
  pub header : IsHeader words vars
  pub after : t ≡ record { vars = Some vars; listed = s.listed; ended = false }

-- a line that lists clauses
pub record IsListing (vars : ℕ) (s : Draft) (words : List (List ℕ)) (t : Draft) : Type 0 where
  pub listed : Listed
  pub lists : Lists vars s.listed words listed
  pub after : t ≡ record { vars = Some vars; listed = listed; ended = false }

-- the words that may stand next: before the variables are told, and behind that
abbrev pub Tells : Option ℕ → Draft → List (List ℕ) → Draft → Type 0
Tells None s words t = TellsVars s words t
Tells (Some vars) s words t = IsListing vars s words t

-- a line without words, or with the first word `c`, says nothing
abbrev pub is_skipped : List (List ℕ) → Bool
is_skipped [] = true
is_skipped (w ∷ ws) = bytes_eq w (codes "c")

-- a line with the first word `%` ends the text
abbrev pub is_last : List (List ℕ) → Bool
is_last [] = false
is_last (w ∷ ws) = bytes_eq w (codes "%")

-- what a line that says something says
abbrev pub Says : Draft → List (List ℕ) → Draft → Type 0
Says s words t =
    ((is_last words ≡ true) × (t ≡ record { vars = s.vars; listed = s.listed; ended = true }))
    ⊎ ((is_last words ≡ false) × Tells s.vars s words t)

-- the variables were told, and no clause is open
abbrev pub IsComplete : Draft → Type 0
IsComplete s = ((vars : ℕ) × (s.vars ≡ Some vars)) × (s.listed.begun ≡ [])

-- The line may stand next. Where the text has ended any line may, if nothing is missing before.
abbrev pub NextAt : Bool → Draft → List ℕ → Draft → Type 0
NextAt true s line t = IsComplete s × (t ≡ s)
NextAt false s line t =
    ((is_skipped (words_of line) ≡ true) × (t ≡ s))
    ⊎ ((is_skipped (words_of line) ≡ false) × Says s (words_of line) t)

abbrev pub NextLine : Draft → List ℕ → Draft → Type 0
NextLine s line t = NextAt s.ended s line t

-- clauses put in order
abbrev pub in_order : List (List Lit) → List (List Lit)
in_order clauses = ordered_clauses [] (map (map Of) clauses)

-- The text lists clauses, and the CNF is these put in order.
pub record IsCnfText (text : List ℕ) (cnf : Cnf) : Type 0 where
  pub draft : Draft
  pub whole : IsWhole NextLine IsComplete nothing_read (closed text) draft
  pub vars : draft.vars ≡ Some cnf.vars
  pub clauses : cnf.clauses ≡ in_order draft.listed.clauses

-- the line of this number is the first that doesn't fit
abbrev pub CnfFails : List ℕ → ℕ → Type 0
CnfFails text = FirstMisfit NextLine IsComplete nothing_read (closed text)
