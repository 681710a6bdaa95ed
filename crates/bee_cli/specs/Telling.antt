-- What a sink took of what is told while a search goes on.
use Rattle.std.specs.Prelude.{◌≡◌, ℕ, ◌≤◌, ℤ, Bool, true, false, List, [], ◌++◌, Option}
use Rattle.bee_outside.specs.Bytes.{grown, GrewByFront}
use Rattle.model_meaning.specs.declared.model.Decl.{Decl}
use Rattle.model_meaning.specs.declared.model.Goal.{Goal}
use Rattle.bee_cli.specs.Progress.{AreOfSolution, block_text, count_text, list_text, part_text}

-- a line of numbers, or the block of a solution of a model, behind so many learned clauses
pub data IsPiece (learned : ℕ) (text : List ℕ) : Type 0 where
  counted : text ≡ count_text learned → IsPiece learned text
  listed : (count : ℕ) → text ≡ list_text count learned → IsPiece learned text
  left : (statements questions : ℕ) → text ≡ part_text statements questions → IsPiece learned text
  best : (decls : List Decl) (goal : Goal) (a : List ℤ) → AreOfSolution decls goal a
      → text ≡ block_text decls goal a learned → IsPiece learned text

-- such pieces one after another, whose numbers of clauses never fall, and the last such number
pub data Told : ℕ → List ℕ → Type 0 where
  nothing : Told 0 []
  more : (learned later : ℕ) (text piece : List ℕ) → learned ≤ later → Told learned text → IsPiece later piece
      → Told later (text ++ piece)

-- a sink took a text, or a front of it where it is told no more
abbrev pub TookAs : Bool → Option (List ℕ) → List ℕ → Option (List ℕ) → Type 0
TookAs true before text after = after ≡ grown before text
TookAs false before text after = GrewByFront before text after

-- what a sink took is told pieces
pub record IsTelling (speaks : Bool) (learned : ℕ) (before after : Option (List ℕ)) : Type 0 where
  pub last : ℕ
  pub text : List ℕ
  pub told : Told last text
  pub most : last ≤ learned
  pub took : TookAs speaks before text after
