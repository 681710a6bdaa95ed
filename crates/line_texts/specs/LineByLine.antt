-- Texts that are read line by line: a relation says which line may stand next, and what stands behind it.
use Rattle.std.specs.Prelude.{◌≡◌, ℕ, ◌+◌, List, [], ◌∷◌, ◌++◌, length}
use Rattle.bee_text.specs.Lines.{AreLines, join_lines, lines_of, unfinished}

-- the lines lead from one standing to another, each being the next
abbrev pub Lead : {S : Type 0} → (S → List ℕ → S → Type 0) → S → List (List ℕ) → S → Type 0
Lead Next s [] t = s ≡ t
Lead {S} Next s (line ∷ lines) t = (m : S) × Next s line m × Lead Next m lines t

-- the text is lines, each ended by a line feed, that lead from the start to an end
pub record IsWhole {S : Type 0} (Next : S → List ℕ → S → Type 0) (IsEnd : S
    → Type 0) (start : S) (text : List ℕ) (s : S) : Type 0 where
  pub lines : List (List ℕ)
  pub are_lines : AreLines lines
  pub joined : text ≡ join_lines lines
  pub lead : Lead Next start lines s
  pub ended : IsEnd s

-- The first line of those that are left isn't the next. Where none is left, bytes stand behind the last line feed, or
-- it is too early for the text to end.
abbrev pub IsMisfit : {S : Type 0} → (S → List ℕ → S → Type 0) → (S → Type 0) → S → List (List ℕ)
    → List ℕ → Type 0
IsMisfit Next IsEnd s [] behind = behind ≡ [] → IsEnd s → ⊥
IsMisfit {S} Next IsEnd s (line ∷ lines) behind = (t : S) → Next s line t → ⊥

-- the line of this number is the first that fails: those before it lead somewhere, from where it isn't the next
pub record FirstMisfit {S : Type 0} (Next : S → List ℕ → S → Type 0) (IsEnd : S
    → Type 0) (start : S) (text : List ℕ) (number : ℕ) : Type 0 where
  pub before : List (List ℕ)
  pub left : List (List ℕ)
  pub parts : lines_of text ≡ before ++ left
  pub number_is : number ≡ length before + 1
  pub stands : S
  pub lead : Lead Next start before stands
  pub misfit : IsMisfit Next IsEnd stands left (unfinished text)
