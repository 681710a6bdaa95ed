-- How the lines before a refutation are gathered.
use Rattle.std.specs.Prelude.{◌≡◌, ◌+◌, Bool, true, false, ℕ, List, [], ◌∷◌, ◌++◌, length}
use Rattle.bee_text.specs.Gaps.{words_of}
use Rattle.bee_text.specs.Lines.{AreLines, join_lines}
use Rattle.sat_front.specs.Closed.{closed}
use Rattle.answer_import.specs.declared.cut.Front.{Front}
use Rattle.answer_import.specs.Fronts.{IsComment, IsTelling, AreBefore, IsToldBy, IsCut}

-- whether values were told, or are told now
abbrev pub pushed : Bool → Bool → Bool
pushed true now = true
pushed false now = now

-- whether a line that may stand before a refutation tells values
abbrev pub IsBefore : Bool → List (List ℕ) → Type 0
IsBefore true words = IsTelling words
IsBefore false words = IsComment words

-- a line more
pub record Takes (old : Front) (line : List ℕ) (new : Front) : Type 0 where
  pub tells : Bool
  pub is : IsBefore tells (words_of line)
  pub text : new.text.items ≡ old.text.items ++ line ++ 10 ∷ []
  pub lines : new.lines ≡ old.lines + 1
  pub told : new.told ≡ pushed old.told tells

-- lines that were gathered
pub record IsGathered (lines : List (List ℕ)) (front : Front) : Type 0 where
  pub are_lines : AreLines lines
  pub text : front.text.items ≡ join_lines lines
  pub count : front.lines ≡ length lines
  pub before : AreBefore lines
  pub told : IsToldBy front.told lines

-- what is gathered of a text, and what is left of it
pub record IsCutTo (text : List ℕ) (front : Front) (rest : List ℕ) : Type 0 where
  pub lines : List (List ℕ)
  pub gathered : IsGathered lines front
  pub parts : closed text ≡ join_lines lines ++ closed rest

-- the lines before the refutation, all of them
pub record HasCut (text : List ℕ) (front : Front) (rest : List ℕ) : Type 0 where
  pub lines : List (List ℕ)
  pub gathered : IsGathered lines front
  pub cut : IsCut text lines front.told rest
