-- What comes of the text of a conflict: its verdict, or the first line that fails.
use Rattle.std.specs.Prelude.{◌≡◌, ℕ, ◌+◌, ◌<◌, ◌≤◌, List}
use Rattle.model_meaning.specs.declared.model.Model.{Model}
use Rattle.model_lower.specs.Weighed.{most_weight}
use Rattle.model_parts.specs.CoreWeight.{core_weight}
use Rattle.line_texts.specs.LineByLine.{IsWhole, FirstMisfit}
use Rattle.conflict_text.specs.declared.verdict.CoreVerdict.{CoreVerdict}
use Rattle.conflict_text.specs.ConflictLines.{Standing, start_standing, IsNext, IsEnd}
use Rattle.conflict_text.specs.ConflictSays.{Says, IsConflictText}
use Rattle.conflict_check.specs.declared.fault.CoreFault.{CoreFault}
use Rattle.conflict_check.specs.declared.fault.CoreFault.TheVariants.{TooHeavy, Refused, Memory}
use Rattle.conflict_check.specs.declared.checking.ConflictJudgement.{ConflictJudgement}
use Rattle.conflict_check.specs.declared.checking.ConflictJudgement.TheVariants as judged

-- a text is that of a conflict with this verdict, and what it says is true
pub record IsAcceptedConflict (model : Model) (text : List ℕ) (v : CoreVerdict) : Type 0 where
  pub stands : Standing
  pub whole : IsWhole IsNext IsEnd (start_standing model) text stands
  pub verdict : stands.verdict ≡ v
  pub says : Says model stands v

-- a text is none of a conflict, and the line of a number is the first that fails
pub record IsRefusedConflict (model : Model) (text : List ℕ) (line : ℕ) : Type 0 where
  pub invalid : (v : CoreVerdict) → IsConflictText model text v → ⊥
  pub first : FirstMisfit IsNext IsEnd (start_standing model) text line

-- what comes of a text
abbrev pub IsJudged : Model → List ℕ → ConflictJudgement → Type 0
IsJudged model text (judged.Valid v) = IsAcceptedConflict model text v
IsJudged model text (judged.Refused line) = IsRefusedConflict model text line

-- what comes of the lines that are left behind so many
abbrev pub IsJudgedBehind : Standing → List ℕ → ℕ → ConflictJudgement → Type 0
IsJudgedBehind s rest read (judged.Valid v) = (t : Standing) × IsWhole IsNext IsEnd s rest t × (t.verdict ≡ v)
IsJudgedBehind s rest read (judged.Refused line) = (n : ℕ) × FirstMisfit IsNext IsEnd s rest n × (line ≡ read + n)

-- what comes of all lines
abbrev pub IsRead : Standing → List ℕ → ConflictJudgement → Type 0
IsRead s text (judged.Valid v) = (t : Standing) × IsWhole IsNext IsEnd s text t × (t.verdict ≡ v)
IsRead s text (judged.Refused line) = FirstMisfit IsNext IsEnd s text line

-- A part of the model may weigh too much, and the greatest weight that one may have is told; or none may, and the text
-- is refused; or memory was wanting.
abbrev pub IsFaultOf : CoreFault → Model → List ℕ → Type 0
IsFaultOf (TooHeavy w) model text = (most_weight < core_weight model) × (w ≡ core_weight model)
IsFaultOf (Refused line) model text = (core_weight model ≤ most_weight) × IsRefusedConflict model text line
IsFaultOf Memory model text = Unit {0}
