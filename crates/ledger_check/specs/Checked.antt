-- What comes of a text: a valid answer, or the first line that fails.
use Rattle.std.specs.Prelude.{◌≡◌, ◌⊎◌, ℕ, ◌<◌, ◌≤◌, ◌^◌, List, ℤ, Option}
use Rattle.model_meaning.specs.declared.model.Model.{Model}
use Rattle.model_weight.specs.Weight.{weight_of}
use Rattle.model_lower.specs.declared.fault.LowerFault.{LowerFault}
use Rattle.model_lower.specs.declared.fault.LowerFault.TheVariants as lower
use Rattle.model_lower.specs.Weighed.{most_weight}
use Rattle.answer_document.specs.declared.verdict.Verdict.{Verdict}
use Rattle.answer_document.specs.Claims.{Claims}
use Rattle.answer_document.specs.Valid.{IsValid}
use Rattle.line_texts.specs.Ends.{MisfitAt, MissingAt}
use Rattle.ledger_check.specs.declared.fault.Why.{Why}
use Rattle.ledger_check.specs.declared.fault.Why.TheVariants.{Shape}
use Rattle.ledger_check.specs.declared.fault.CheckFault.{CheckFault}
use Rattle.ledger_check.specs.declared.fault.CheckFault.TheVariants.{TooHeavy, Refused, Memory}
use Rattle.ledger_check.specs.declared.checking.Judgement.{Judgement}
use Rattle.ledger_check.specs.declared.checking.Judgement.TheVariants as judged
use Rattle.ledger_check.specs.declared.checking.Judgement.TheVariants.{Valid}
use Rattle.ledger_check.specs.Tests.{start_standing}
use Rattle.ledger_check.specs.Reading.{IsNext, IsBecause, IsEnd}

-- a text is a valid answer with this verdict and some assignment, or none, and what it says is true
pub record IsAnswer (model : Model) (text : List ℕ) (v : Verdict) : Type 0 where
  pub assignment : Option (List ℤ)
  pub valid : IsValid model text v assignment
  pub true_claims : Claims model v assignment

-- The line of a number is the first that fails: the lines before it lead somewhere, from where it isn't the next, for
-- this cause; or all lines lead somewhere, and the line of this number, the one behind them, is missing.
abbrev pub IsFirstFault : Model → List ℕ → ℕ → Why → Type 0
IsFirstFault model text line why =
    MisfitAt (IsNext model) (IsBecause model) (start_standing model) text line why
    ⊎ (MissingAt (IsNext model) IsEnd (start_standing model) text line × (why ≡ Shape))

-- a text is no valid answer, and the line of a number is the first that fails
pub record IsRefused (model : Model) (text : List ℕ) (line : ℕ) (why : Why) : Type 0 where
  pub invalid : (v : Verdict) (a : Option (List ℤ)) → IsValid model text v a → ⊥
  pub first : IsFirstFault model text line why

-- what comes of a text: a valid answer with this verdict, or the first line that fails
abbrev pub IsJudged : Model → List ℕ → Judgement → Type 0
IsJudged model text (Valid v) = IsAnswer model text v
IsJudged model text (judged.Refused line why) = IsRefused model text line why

-- The model weighs too much, and its weight is told where it has 128 bits, as that of each text has; or it does not,
-- and the text is refused; or memory was wanting.
abbrev pub IsFaultOf : CheckFault → Model → List ℕ → Type 0
IsFaultOf (TooHeavy w) model text = (most_weight < weight_of model)
    × (weight_of model < 2 ^ 128 → w ≡ weight_of model)
IsFaultOf (Refused line why) model text = (weight_of model ≤ most_weight) × IsRefused model text line why
IsFaultOf Memory model text = Unit {0}

-- why a model isn't lowered
abbrev pub fault_from : LowerFault → CheckFault
fault_from (lower.TooHeavy w) = TooHeavy w
fault_from lower.Memory = Memory
