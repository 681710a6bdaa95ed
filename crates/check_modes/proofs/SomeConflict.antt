-- No two texts are without an answer.
use Rattle.std.proofs.Common.{◌≡◌, ℕ, ◌+◌, List, ◌++◌, length, refl}
use Rattle.bee_text.specs.Lines.{lines_of, unfinished}
use Rattle.line_texts.specs.LineByLine.{Lead, IsWhole, IsMisfit, FirstMisfit}
use Rattle.line_texts.proofs.WholeOrMisfit.{no-answer}
use Rattle.model_meaning.specs.declared.model.Model.{Model}
use Rattle.check_modes.proofs.Ends.{IsSomeEach}
use Rattle.conflict_models.specs.ConflictModels.{HoldsWhole}
use Rattle.conflict_models.proofs.Faults.{either}
use Rattle.conflict_text.specs.declared.verdict.CoreVerdict.{CoreVerdict}
use Rattle.conflict_text.specs.ConflictLines.{Standing, start_standing, IsNext, IsEnd}
use Rattle.conflict_text.proofs.OneText.{no-misfit}
use Rattle.check_modes.specs.CheckCoreMode.{conflicts}
use Rattle.check_modes.proofs.ConflictEnds.{held_limits}

module _ (first : List ℕ) (model : Model) (text : List ℕ) (held : HoldsWhole first model) (none : (v : CoreVerdict) → conflicts.IsValid model text v → ⊥) (never : (line : ℕ) → conflicts.Fails model text line → ⊥) where
  whole : (s : Standing) → IsWhole IsNext IsEnd (start_standing model) text s → ⊥
  whole s w = none s.verdict (record { stands = s; whole = w; verdict = refl })

  refuse : (line : ℕ) → FirstMisfit IsNext IsEnd (start_standing model) text line → ⊥
  refuse line misfit =
      never line (record { invalid = λ v valid. no-misfit model text valid.stands line (held_limits first model held) valid.whole misfit; first = misfit })

  fits : (before left : List (List ℕ)) (s : Standing) → lines_of text ≡ before ++ left → Lead IsNext (start_standing model) before s
      → IsMisfit IsNext IsEnd s left (unfinished text) → ⊥
  fits before left s parts lead misfit =
      refuse (length before + 1) (record { before = before; left = left; parts = parts; number_is = refl; stands = s; lead = lead; misfit = misfit })

  answered : ⊥
  answered = no-answer IsNext IsEnd (start_standing model) text whole fits

pub some : IsSomeEach conflicts
some = record { fault_or_model = either; valid_or_line = answered }
