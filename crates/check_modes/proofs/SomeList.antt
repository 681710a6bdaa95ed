-- No two texts are without an answer.
use Rattle.std.proofs.Common.{◌≡◌, ℕ, ◌+◌, List, ◌++◌, length, refl}
use Rattle.bee_text.specs.Lines.{lines_of, unfinished}
use Rattle.line_texts.specs.LineByLine.{Lead, IsWhole, IsMisfit, FirstMisfit}
use Rattle.line_texts.proofs.WholeOrMisfit.{no-answer}
use Rattle.model_meaning.specs.declared.model.Model.{Model}
use Rattle.model_texts.specs.HeldModels.{HoldsModel}
use Rattle.model_texts.proofs.FaultOrModel.{fault_or_model}
use Rattle.check_modes.proofs.Ends.{IsSomeEach}
use Rattle.list_text.specs.declared.verdict.ListVerdict.{ListVerdict}
use Rattle.list_text.specs.Standing.{Standing, start_standing}
use Rattle.list_text.specs.Next.{IsNext, IsEnd}
use Rattle.list_text.proofs.OneNext.{no-misfit}
use Rattle.check_modes.specs.CheckAllMode.{lists}
use Rattle.check_modes.proofs.ListEnds.{held_limits}

module _ (first : List ℕ) (model : Model) (text : List ℕ) (held : HoldsModel first model) (none : (v : ListVerdict) → lists.IsValid model text v → ⊥) (never : (line : ℕ) → lists.Fails model text line → ⊥) where
  whole : (s : Standing) → IsWhole (IsNext model) IsEnd (start_standing model) text s → ⊥
  whole s w = none s.verdict (s.listed, record { behind = s; whole = w; verdict = refl; solutions = refl })

  refuse : (line : ℕ) → FirstMisfit (IsNext model) IsEnd (start_standing model) text line → ⊥
  refuse line misfit =
      never line (record { invalid = λ v listed valid. no-misfit model text valid.behind line (held_limits first model held) valid.whole misfit; first = misfit })

  fits : (before left : List (List ℕ)) (s : Standing) → lines_of text ≡ before ++ left → Lead (IsNext model) (start_standing model) before s
      → IsMisfit (IsNext model) IsEnd s left (unfinished text) → ⊥
  fits before left s parts lead misfit =
      refuse (length before + 1) (record { before = before; left = left; parts = parts; number_is = refl; stands = s; lead = lead; misfit = misfit })

  answered : ⊥
  answered = no-answer (IsNext model) IsEnd (start_standing model) text whole fits

pub some : IsSomeEach lists
some = record { fault_or_model = fault_or_model; valid_or_line = answered }
