-- What a placement of queens is.
use Rattle.std.specs.Prelude.{◌≢◌, ℕ, ◌+◌, ◌*◌, ◌<◌, ℤ, pos, ◌+ℤ◌, ◌-ℤ◌, ◌≤ℤ◌}
use Rattle.std.specs.Prelude.{List}
use Rattle.model_meaning.specs.Terms.{value_at}
use Rattle.model_meaning.specs.Solutions.{IsSolution}
use Rattle.queens_model.specs.Queens.{queens}

-- the column of the queen in row k, counted from 0
abbrev pub column_in : List ℤ → ℕ → ℤ
column_in a k = value_at a (3 * k)

-- the queens of two rows are in different columns and on different diagonals
pub record StandApart (a : List ℤ) (i j : ℕ) : Type 0 where
  pub columns : column_in a i ≢ column_in a j
  pub rising : (column_in a i +ℤ pos i) ≢ (column_in a j +ℤ pos j)
  pub falling : (column_in a i -ℤ pos i) ≢ (column_in a j -ℤ pos j)

-- there is a queen on the board in each row, and no two attack each other
pub record IsPlacement (size : ℕ) (a : List ℤ) : Type 0 where
  pub on_board : (k : ℕ) → k < size → (pos 1 ≤ℤ column_in a k) × (column_in a k ≤ℤ pos size)
  pub apart : (i j : ℕ) → i < j → j < size → StandApart a i j

-- each solution of the model is a placement
abbrev pub SolutionsPlaceQueens : Type 0
SolutionsPlaceQueens = (size : ℕ) (a : List ℤ) → IsSolution (queens size) a → IsPlacement size a
