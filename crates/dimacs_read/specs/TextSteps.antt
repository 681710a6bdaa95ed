-- Which line may stand next in a compiled text.
use Rattle.std.specs.Prelude.{◌≡◌, ◌⊎◌, ℕ, ◌+◌, ◌^◌, ◌<◌, ◌≤◌, List, [], ◌∷◌}
use Rattle.std.specs.Prelude.{◌++◌, length, map, Option, Some, None}
use Rattle.order_ints.specs.declared.literal.Lit.{Lit}
use Rattle.order_ints.specs.Place.{ClauseBelow}
use Rattle.ledger_text.specs.declared.line.Line.{Line}
use Rattle.ledger_text.specs.Steps.{IsReadableStep}
use Rattle.bumblebee_reader.specs.Names.{IsNew}
use Rattle.name_map.specs.declared.entries.MapEntry.{MapEntry}
use Rattle.dimacs_out.specs.CompiledText.{entry_line, clause_line, heading, ledger_line, numbers_line}
use Rattle.dimacs_out.specs.declared.text.CnfText.{CnfText}
use Rattle.dimacs_read.specs.declared.draft.TextStage.{TextStage}
use Rattle.dimacs_read.specs.declared.draft.TextStage.TheVariants.{Start, Names, Steps, Clauses}
use Rattle.dimacs_read.specs.TextLines.{IsReadableEntry, first_above}
use Rattle.line_texts.specs.LineByLine.{Lead, IsMisfit}
use Rattle.bee_text.specs.Lines.{lines_of, unfinished}

-- how far a text is read, and what it told so far
pub record Draft : Type 0 where
  pub stage : TextStage
  pub entries : List MapEntry
  pub ledger : List Line
  pub clauses : List (List Lit)

-- before the first line
abbrev pub nothing_read : Draft
nothing_read = record { stage = Start; entries = []; ledger = []; clauses = [] }

-- the line of a name that may be declared and is new
pub record IsNamed (s : Draft) (line : List ℕ) (t : Draft) : Type 0 where
  pub entry : MapEntry
  pub spelled : line ≡ entry_line entry
  pub readable : IsReadableEntry entry
  pub new : IsNew entry.name (map (λ e. e.name) s.entries)
  pub after : t ≡ record {
    stage = Names;
    entries = s.entries ++ entry ∷ [];
    ledger = s.ledger;
    clauses = s.clauses;
  }

-- the line of a ledger line
pub record IsLedgered (s : Draft) (line : List ℕ) (t : Draft) : Type 0 where
  pub step : Line
  pub spelled : line ≡ ledger_line step
  pub readable : IsReadableStep step
  pub after : t ≡ record { stage = Steps; entries = s.entries; ledger = s.ledger ++ step ∷ []; clauses = s.clauses }

-- the line that tells the numbers of variables and clauses
pub record IsNumbers (line : List ℕ) (vars count : ℕ) : Type 0 where
  pub spelled : line ≡ numbers_line vars count
  pub vars_fit : vars < 2 ^ 32
  pub count_fits : count < 2 ^ 64

-- that line, where there are not too many variables, and none above them stands before it
pub record IsProblem (s : Draft) (line : List ℕ) (t : Draft) : Type 0 where
  pub vars : ℕ
  pub count : ℕ
  pub numbers : IsNumbers line vars count
  pub most : vars ≤ 2 ^ 26
  pub within : first_above vars s.entries s.ledger ≡ None
  pub after : t ≡ record { stage = Clauses vars count; entries = s.entries; ledger = s.ledger; clauses = s.clauses }

-- the line of one clause more over the variables, where there are not yet as many as was told
pub record IsClause (vars count : ℕ) (s : Draft) (line : List ℕ) (t : Draft) : Type 0 where
  pub clause : List Lit
  pub spelled : line ≡ clause_line clause
  pub below : ClauseBelow (vars + 1) clause
  pub fewer : length s.clauses < count
  pub after : t ≡ record {
    stage = Clauses vars count;
    entries = s.entries;
    ledger = s.ledger;
    clauses = s.clauses ++ clause ∷ [];
  }

-- the line may stand next
abbrev pub NextAt : TextStage → Draft → List ℕ → Draft → Type 0
NextAt Start s line t = (line ≡ heading)
    × (t ≡ record { stage = Names; entries = s.entries; ledger = s.ledger; clauses = s.clauses })
NextAt Names s line t = IsNamed s line t ⊎ (IsLedgered s line t ⊎ IsProblem s line t)
NextAt Steps s line t = IsLedgered s line t ⊎ IsProblem s line t
NextAt (Clauses vars count) s line t = IsClause vars count s line t

abbrev pub NextLine : Draft → List ℕ → Draft → Type 0
NextLine s = NextAt s.stage s

-- what is told where a text ends
abbrev pub vars_of : TextStage → ℕ
vars_of Start = 0
vars_of Names = 0
vars_of Steps = 0
vars_of (Clauses vars count) = vars

abbrev pub held : Draft → CnfText
held s = record { entries = s.entries; ledger = s.ledger; cnf = record { vars = vars_of s.stage; clauses = s.clauses } }

-- as many clauses stand as was told
abbrev pub HasAll : TextStage → ℕ → Type 0
HasAll Start n = ⊥
HasAll Names n = ⊥
HasAll Steps n = ⊥
HasAll (Clauses vars count) n = n ≡ count

abbrev pub IsComplete : Draft → Type 0
IsComplete s = HasAll s.stage (length s.clauses)

-- names, ledger lines and the line of the numbers may stand, of which the last may stand next
abbrev pub MayHaveNumbers : TextStage → Type 0
MayHaveNumbers Start = ⊥
MayHaveNumbers Names = Unit {0}
MayHaveNumbers Steps = Unit {0}
MayHaveNumbers (Clauses vars count) = ⊥

-- the line tells the number of variables, and the line of this number is the first that has a greater one
pub record IsAbove (s : Draft) (line : List ℕ) (number : ℕ) : Type 0 where
  pub may : MayHaveNumbers s.stage
  pub vars : ℕ
  pub count : ℕ
  pub numbers : IsNumbers line vars count
  pub above : first_above vars s.entries s.ledger ≡ Some number

-- Which line fails, where a line isn't the next, and `here` is its number: one before it, where a variable there is
-- above the number of variables that it tells, and else itself.
abbrev pub FaultAt : Draft → List ℕ → ℕ → ℕ → Type 0
FaultAt s line here number = IsAbove s line number ⊎ (((n : ℕ) → IsAbove s line n → ⊥) × (number ≡ here))

-- the number of the line before it that fails for a line that isn't the next, where there is one
abbrev pub FailsBefore : Draft → List ℕ → Option ℕ → Type 0
FailsBefore s line (Some number) = IsAbove s line number
FailsBefore s line None = (n : ℕ) → IsAbove s line n → ⊥

-- the same of the first of the lines that are left; where none is left, the line that is missing fails
abbrev pub FaultLine : Draft → List (List ℕ) → ℕ → ℕ → Type 0
FaultLine s [] here number = number ≡ here
FaultLine s (line ∷ left) here number = FaultAt s line here number

-- the line of this number is the first that fails
pub record TextFails (text : List ℕ) (number : ℕ) : Type 0 where
  pub before : List (List ℕ)
  pub left : List (List ℕ)
  pub parts : lines_of text ≡ before ++ left
  pub stands : Draft
  pub lead : Lead NextLine nothing_read before stands
  pub misfit : IsMisfit NextLine IsComplete stands left (unfinished text)
  pub fault : FaultLine stands left (length before + 1) number
