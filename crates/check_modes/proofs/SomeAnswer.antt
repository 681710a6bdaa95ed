-- No two texts are without an answer.
use Rattle.std.proofs.Common.{◌≡◌, ℕ, ◌+◌, List, [], ◌∷◌, ◌++◌, map, length, refl, sym, subst, ◌∙◌, inl, inr, Result, Ok, Err}
use Rattle.std.proofs.lemmas.List.{append-nil}
use Rattle.bee_text.specs.Lines.{AreLines, lines_of, unfinished}
use Rattle.line_texts.specs.LineByLine.{Lead, IsWhole, IsMisfit}
use Rattle.line_texts.proofs.WholeOrMisfit.{no-answer}
use Rattle.model_meaning.specs.declared.model.Model.{Model}
use Rattle.model_meaning.specs.declared.model.Decl.{Decl}
use Rattle.model_texts.specs.HeldModels.{HoldsModel}
use Rattle.model_texts.proofs.FaultOrModel.{fault_or_model}
use Rattle.model_texts.proofs.ModelShapes.{names}
use Rattle.check_modes.proofs.Ends.{IsSomeEach}
use Rattle.answer_document.specs.declared.verdict.Verdict.{Verdict}
use Rattle.ledger_check.specs.declared.fault.Why.{Why}
use Rattle.ledger_check.specs.declared.fault.Why.TheVariants.{Shape}
use Rattle.ledger_check.specs.Items.{Standing, Item, Says}
use Rattle.ledger_check.specs.Tests.{start_standing, taken}
use Rattle.ledger_check.specs.Reading.{IsNext, IsBecause, IsEnd}
use Rattle.ledger_check.specs.Fronts.{answer_of}
use Rattle.ledger_check.specs.Checked.{IsFirstFault}
use Rattle.ledger_check.proofs.Onward.{whole-valid}
use Rattle.ledger_check.proofs.DocumentLines.{declared-lines}
use Rattle.check_modes.proofs.AnswerRefusals.{first_fault_refused}
use Rattle.check_modes.specs.CheckMode.{answers}

module _ (first : List ℕ) (model : Model) (text : List ℕ) (held : HoldsModel first model) (none : (v : Verdict) → answers.IsValid model text v → ⊥) (never : (line : ℕ) → answers.Fails model text line → ⊥) where
  lines : AreLines (map (λ (d : Decl). d.name) model.decls)
  lines = declared-lines (map (λ (d : Decl). d.name) model.decls) (names first model held.says)

  whole : (s : Standing) → IsWhole (IsNext model) IsEnd (start_standing model) text s → ⊥
  whole s w = none s.verdict (answer_of s.verdict s.values, whole-valid model text s w)

  refuse : (line : ℕ) (why : Why) → IsFirstFault model text line why → ⊥
  refuse line why fault = never line (why, first_fault_refused model lines text line why fault)

  module _ (before left : List (List ℕ)) (line : List ℕ) (s : Standing) (parts : lines_of text ≡ before ++ line ∷ left) (lead : Lead (IsNext model) (start_standing model) before s) (misfit : (t : Standing) → IsNext model s line t → ⊥) where
    because : (why : Why) → IsBecause model s line why → ⊥
    because why is =
        refuse (length before + 1) why
        (inl (record { before = before; line = line; left = left; parts = parts; number_is = refl; stands = s; lead = lead; misfit = misfit; because = is }))

    said : (item : Item) → Says model s line item → (r : Result Standing Why) → taken model s item ≡ r → ⊥
    said item says (Ok t) e = misfit t (record { item = item; says = says; taken = e })
    said item says (Err why) e = because why (inr (record { item = item; says = says; taken = e }))

    nothing : ⊥
    nothing = because Shape (inl (record { nothing = λ item says. said item says (taken model s item) refl; shape = refl }))

  fits : (before left : List (List ℕ)) (s : Standing) → lines_of text ≡ before ++ left → Lead (IsNext model) (start_standing model) before s
      → IsMisfit (IsNext model) IsEnd s left (unfinished text) → ⊥
  fits before [] s parts lead misfit =
      let all : lines_of text ≡ before = parts ∙ append-nil before in
      let P : List (List ℕ) → Type 0 = λ ls. Lead (IsNext model) (start_standing model) ls s in
      refuse (length (lines_of text) + 1) Shape (inr (record { number_is = refl; stands = s; lead = subst P (sym all) lead; early = misfit }, refl))
  fits before (line ∷ left) s parts lead misfit = nothing before left line s parts lead misfit

  answered : ⊥
  answered = no-answer (IsNext model) IsEnd (start_standing model) text whole fits

pub some : IsSomeEach answers
some = record { fault_or_model = fault_or_model; valid_or_line = answered }
