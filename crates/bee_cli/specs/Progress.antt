-- What is told on the sink for errors while a search goes on.
use Rattle.std.specs.Prelude.{◌≡◌, ℕ, ℤ, List, [], ◌∷◌, ◌++◌, codes, map}
use Rattle.std.specs.Fmt.{decimal, signed_decimal}
use Rattle.bee_text.specs.Lines.{join_lines}
use Rattle.bee_text.specs.Words.{words_behind}
use Rattle.model_meaning.specs.declared.model.Decl.{Decl}
use Rattle.model_meaning.specs.declared.model.Goal.{Goal}
use Rattle.model_meaning.specs.declared.model.Model.{Model}
use Rattle.model_meaning.specs.Limits.{InLimits}
use Rattle.model_meaning.specs.Solutions.{IsSolution, objective}
use Rattle.model_meaning.specs.WellTyped.{WellTyped}
use Rattle.name_map.specs.ValueLines.{declared_lines}

-- values are a solution of a model with these declarations and this goal
pub record AreOfSolution (decls : List Decl) (goal : Goal) (a : List ℤ) : Type 0 where
  pub model : Model
  pub typed : WellTyped model
  pub limits : InLimits model
  pub decls_are : model.decls ≡ decls
  pub goal_is : model.goal ≡ goal
  pub solution : IsSolution model a

-- the values of the objectives, each behind a blank
abbrev pub objective_words : Goal → List ℤ → List ℕ
objective_words goal a = words_behind (map signed_decimal (objective goal a))

-- the block of a better solution: its objectives and how many clauses were learned, and a line for each name
abbrev pub block_text : List Decl → Goal → List ℤ → ℕ → List ℕ
block_text decls goal a learned =
    codes "bee: best" ++ objective_words goal a ++ codes ", " ++ decimal learned ++ codes " clauses learned" ++ 10
    ∷ join_lines (declared_lines decls a)

-- the line of how many clauses were learned
abbrev pub count_text : ℕ → List ℕ
count_text learned = codes "bee: " ++ decimal learned ++ codes " clauses learned" ++ 10 ∷ []

-- the line of how many solutions are listed, and how many clauses were learned
abbrev pub list_text : ℕ → ℕ → List ℕ
list_text count learned =
    codes "bee: " ++ decimal count ++ codes " solutions, " ++ decimal learned ++ codes " clauses learned" ++ 10 ∷ []

-- the line of how small a part without a solution is, and how many queries were made
abbrev pub part_text : ℕ → ℕ → List ℕ
part_text left questions =
    codes "bee: " ++ decimal left ++ codes " statements left, " ++ decimal questions ++ codes " questions asked" ++ 10
    ∷ []
