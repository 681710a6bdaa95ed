-- What comes of a line, and how the reading of a text ends.
use Rattle.std.specs.Prelude.{◌≡◌, ℕ, ◌+◌, List, [], ◌∷◌, ◌++◌, length}
use Rattle.bee_text.specs.Lines.{lines_of, unfinished}
use Rattle.line_texts.specs.declared.taker.LineTaken.{LineTaken}
use Rattle.line_texts.specs.declared.taker.LineTaken.TheVariants as taken
use Rattle.line_texts.specs.declared.ends.TextEnd.{TextEnd}
use Rattle.line_texts.specs.declared.ends.TextEnd.TheVariants.{Whole, Misfit, Missing}
use Rattle.line_texts.specs.LineByLine.{Lead, IsWhole}

-- the line is the next from one standing to another, or it isn't the next, for a cause
abbrev pub IsTaken : {S C : Type 0} → (S → List ℕ → S → Type 0) → (S → List ℕ → C → Type 0) → S
    → List ℕ → S → LineTaken C → Type 0
IsTaken Next Because s line t taken.Next = Next s line t
IsTaken {S} Next Because s line t (taken.Misfit cause) = ((u : S) → Next s line u → ⊥) × Because s line cause

-- the lines before the one of this number lead somewhere, from where it isn't the next, for this cause
pub record MisfitAt {S C : Type 0} (Next : S → List ℕ → S → Type 0) (Because : S → List ℕ → C
    → Type 0) (start : S) (text : List ℕ) (number : ℕ) (cause : C) : Type 0 where
  pub before : List (List ℕ)
  pub line : List ℕ
  pub left : List (List ℕ)
  pub parts : lines_of text ≡ before ++ line ∷ left
  pub number_is : number ≡ length before + 1
  pub stands : S
  pub lead : Lead Next start before stands
  pub misfit : (t : S) → Next stands line t → ⊥
  pub because : Because stands line cause

-- All lines lead somewhere, and the line of this number, the one behind them, is missing: bytes stand behind the last
-- line feed, or it is too early for the text to end.
pub record MissingAt {S : Type 0} (Next : S → List ℕ → S → Type 0) (IsEnd : S
    → Type 0) (start : S) (text : List ℕ) (number : ℕ) : Type 0 where
  pub number_is : number ≡ length (lines_of text) + 1
  pub stands : S
  pub lead : Lead Next start (lines_of text) stands
  pub early : unfinished text ≡ [] → IsEnd stands → ⊥

-- how the reading of a text ends
abbrev pub EndsAs : {S C : Type 0} → (S → List ℕ → S → Type 0) → (S → Type 0)
    → (S → List ℕ → C → Type 0) → S → List ℕ → S → TextEnd C → Type 0
EndsAs Next IsEnd Because start text s Whole = IsWhole Next IsEnd start text s
EndsAs Next IsEnd Because start text s (Misfit number cause) = MisfitAt Next Because start text number cause
EndsAs Next IsEnd Because start text s (Missing number) = MissingAt Next IsEnd start text number
