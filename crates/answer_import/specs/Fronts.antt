-- What another solver found, as a text: lines that tell values, or none, and behind them a refutation, or none.
--
--     c ..                     says nothing, nor does a line without words
--     s ..  v ..               tells values
--     any other line           begins the refutation
--
-- Words stand apart by blanks, tabs and carriage returns. The last line may lack its line feed.
use Rattle.std.specs.Prelude.{◌≡◌, ◌⊎◌, Bool, true, false, ℕ, List, [], ◌∷◌, ◌++◌, codes}
use Rattle.bee_text.specs.Gaps.{words_of}
use Rattle.bee_text.specs.Lines.{IsLine, AreLines, join_lines}
use Rattle.sat_front.specs.Closed.{closed}
use Rattle.answer_import.specs.declared.cut.LineKind.{LineKind}
use Rattle.answer_import.specs.declared.cut.LineKind.TheVariants.{Comment, Telling, Other}

-- words of a line that says nothing
abbrev pub IsComment : List (List ℕ) → Type 0
IsComment [] = Unit {0}
IsComment (w ∷ ws) = w ≡ codes "c"

-- words of a line that tells values
abbrev pub IsTelling : List (List ℕ) → Type 0
IsTelling [] = ⊥
IsTelling (w ∷ ws) = (w ≡ codes "s") ⊎ (w ≡ codes "v")

-- words of a line of a refutation
abbrev pub IsOther : List (List ℕ) → Type 0
IsOther words = (IsComment words → ⊥) × (IsTelling words → ⊥)

-- which kind words are of
abbrev pub IsKind : LineKind → List (List ℕ) → Type 0
IsKind Comment words = IsComment words
IsKind Telling words = IsTelling words
IsKind Other words = IsOther words

-- each line says nothing or tells values
abbrev pub AreBefore : List (List ℕ) → Type 0
AreBefore [] = Unit {0}
AreBefore (l ∷ ls) = (IsComment (words_of l) ⊎ IsTelling (words_of l)) × AreBefore ls

-- each line says nothing
abbrev pub AreComments : List (List ℕ) → Type 0
AreComments [] = Unit {0}
AreComments (l ∷ ls) = IsComment (words_of l) × AreComments ls

-- a line tells values
abbrev pub SomeTell : List (List ℕ) → Type 0
SomeTell [] = ⊥
SomeTell (l ∷ ls) = IsTelling (words_of l) ⊎ SomeTell ls

-- whether one does, of lines that say nothing but for such
abbrev pub IsToldBy : Bool → List (List ℕ) → Type 0
IsToldBy true lines = SomeTell lines
IsToldBy false lines = AreComments lines

-- a text begins with a line of a refutation
pub record BeginsOther (text : List ℕ) : Type 0 where
  pub line : List ℕ
  pub left : List ℕ
  pub one : IsLine line
  pub is : text ≡ line ++ 10 ∷ left
  pub other : IsOther (words_of line)

-- the lines before a text's refutation, and what is left behind them
pub record IsCut (text : List ℕ) (lines : List (List ℕ)) (told : Bool) (rest : List ℕ) : Type 0 where
  pub are_lines : AreLines lines
  pub parts : closed text ≡ join_lines lines ++ closed rest
  pub before : AreBefore lines
  pub told_is : IsToldBy told lines
  pub behind : (closed rest ≡ []) ⊎ BeginsOther (closed rest)
