-- What is written for a board tells an answer to the model of its queens.
use Rattle.std.proofs.Common.{◌≡◌, ℕ, ◌≤◌, List, Option, Some, None, ap, ◌∙◌, subst}
use Rattle.model_meaning.specs.declared.model.Assignment.{Assignment}
use Rattle.model_meaning.specs.declared.model.Decl.{Decl}
use Rattle.model_meaning.specs.declared.model.Model.{Model}
use Rattle.model_meaning.specs.WellTyped.{WellTyped}
use Rattle.model_meaning.specs.Limits.{InLimits}
use Rattle.model_weight.specs.Weight.{weight_of}
use Rattle.model_lower.specs.Weighed.{most_weight}
use Rattle.text_modes.specs.declared.ends.Outcome.{Outcome}
use Rattle.step_kernel.specs.Kernel.{Kernel}
use Rattle.step_kernel.specs.CnfOf.{cnf_of}
use Rattle.state_compile.specs.Compilation.{IsCompilation}
use Rattle.answer_document.specs.declared.verdict.Verdict.{Verdict}
use Rattle.answer_document.specs.declared.verdict.Verdict.TheVariants.{Satisfiable}
use Rattle.answer_document.specs.Claims.{Claims}
use Rattle.answer_document.specs.Valid.{start_of, numbers_given}
use Rattle.answer_document.proofs.ClaimLaws.{claim_law}
use Rattle.decode_minimize.specs.declared.answering.AnsweredModel.{AnsweredModel}
use Rattle.decode_minimize.specs.declared.answering.CnfSize.{CnfSize}
use Rattle.search_options.specs.declared.options.SearchOptions.{SearchOptions}
use Rattle.decode_minimize.specs.Answers.{IsAnswer}
use Rattle.decode_minimize.specs.Answering.{size_of}
use Rattle.bee_compile.specs.Compiled.{IsInstance}
use Rattle.solve_mode.specs.Solved.{outcome_of}
use Rattle.queens_model.specs.Queens.{queens}
use Rattle.queens_model.specs.Placements.{IsPlacement}
use Rattle.queens_model.proofs.Placing.{solutions_place_queens}
use Rattle.queens_mode.specs.Summary.{values_of, summary_text}
use Rattle.queens_mode.specs.QueensMode.{IsPlaced}

-- an answer to a model by all rules, whatever its counter counted
abbrev IsAnswered : SearchOptions → AnsweredModel → Model → Type 0
IsAnswered options a model = (before : ℕ) × (after : ℕ) × IsAnswer IsInstance model options a.document before after

-- and the size of its CNF
abbrev IsSized : AnsweredModel → Model → Type 0
IsSized a model = (last : Kernel) → IsCompilation IsInstance (start_of model) a.document.ledger last → a.size ≡ size_of (cnf_of last)

-- a solution is a placement
placed-by : (size : ℕ) (a : Option Assignment) → Claims (queens size) Satisfiable (numbers_given a) → IsPlacement size (values_of a)
placed-by size None h = absurd h
placed-by size (Some a) h = solutions_place_queens size a.values h

pub placed : (options : SearchOptions) (size : ℕ) (model : Model) (a : AnsweredModel) (outcome : Outcome) (written : List ℕ) → model ≡ queens size → WellTyped model → InLimits model → weight_of model ≤ most_weight
    → IsAnswered options a model → a.decls ≡ model.decls → IsSized a model → written ≡ summary_text size a.decls a.size a.document → outcome ≡ outcome_of a.document.verdict → IsPlaced options size outcome written
placed options size model a outcome written same typed limits light answered decls sized writes outcome_is =
    let here : IsAnswered options a (queens size) = subst (IsAnswered options a) same answered in
    let size-here : IsSized a (queens size) = subst (IsSized a) same sized in
    let d = a.document in
    let weighs : weight_of (queens size) ≤ most_weight = subst (λ (m : Model). weight_of m ≤ most_weight) same light in
    let claims : Claims (queens size) d.verdict (numbers_given d.assignment) = claim_law (queens size) _ d.verdict (numbers_given d.assignment) (subst WellTyped same typed) (subst InLimits same limits) weighs here.2.valid in
    record {
      document = d;
      before = here.0;
      after = here.1;
      is = here.2;
      true_claims = claims;
      placement = λ e. placed-by size d.assignment (subst (λ (v : Verdict). Claims (queens size) v (numbers_given d.assignment)) e claims);
      writes = writes
          ∙ ap (λ (ds : List Decl). summary_text size ds a.size a.document) (decls ∙ ap (λ (m : Model). m.decls) same)
          ∙ ap (λ (s : CnfSize). summary_text size (queens size).decls s a.document) (size-here here.2.last here.2.compilation);
      outcome_is = outcome_is;
    }
