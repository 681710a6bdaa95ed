-- The line on the sink for errors behind the end of a run.
use Rattle.std.specs.Prelude.{◌≡◌, ℕ, List, [], ◌∷◌, ◌++◌, codes, Option}
use Rattle.std.specs.Fmt.{decimal}
use Rattle.bee_text.specs.Lines.{IsLine}
use Rattle.bee_outside.specs.Bytes.{GrewByFront}
use Rattle.bee_cli.specs.declared.status.Status.{Status}
use Rattle.bee_cli.specs.declared.status.Status.TheVariants.{Done, Refused, Usage, Model, NoObjective, TwoObjectives}
use Rattle.bee_cli.specs.declared.status.Status.TheVariants.{Read, Write, Memory, Unknown}

-- nothing, or words of one line behind these
pub data IsSpoken (start text : List ℕ) : Type 0 where
  nothing : text ≡ [] → IsSpoken start text
  words : (said : List ℕ) → IsLine said → text ≡ start ++ said ++ 10 ∷ [] → IsSpoken start text

-- the line of each end
abbrev pub IsEndLine : Status → List ℕ → Type 0
IsEndLine Done text = text ≡ []
IsEndLine (Unknown count) text = text ≡ []
IsEndLine (Refused line) text = IsSpoken (codes "bee: line " ++ decimal line ++ codes ": ") text
IsEndLine Usage text = text
    ≡ codes "bee: usage: bee MODE INPUT [SECOND] [--budget N] [--no-restart]" ++ 10 ∷ []
IsEndLine (Model fault) text = IsSpoken (codes "bee: ") text
IsEndLine NoObjective text = text ≡ codes "bee: model: no objective" ++ 10 ∷ []
IsEndLine TwoObjectives text = text ≡ codes "bee: model: two objectives" ++ 10 ∷ []
IsEndLine Read text = text ≡ codes "bee: read fault" ++ 10 ∷ []
IsEndLine Write text = text ≡ codes "bee: write fault" ++ 10 ∷ []
IsEndLine Memory text = text ≡ codes "bee: out of memory" ++ 10 ∷ []

-- what a sink took behind a run is a front of its line
pub record IsReported (status : Status) (before after : Option (List ℕ)) : Type 0 where
  pub line : List ℕ
  pub is : IsEndLine status line
  pub took : GrewByFront before line after

-- a sink took a front of nothing, or of words of one line behind these
pub record IsSaid (start : List ℕ) (before after : Option (List ℕ)) : Type 0 where
  pub text : List ℕ
  pub is : IsSpoken start text
  pub took : GrewByFront before text after
