-- What each end says in resume mode.
use Rattle.std.proofs.Common.{◌≡◌, ◌≢◌, ◌⊎◌, ℕ, ◌+◌, ◌<◌, ◌≤◌, List, length, sym, subst, ◌∙◌, inl, inr, ⊎_elim, arith}
use Rattle.std.specs.Prelude.{Some}
use Rattle.bee_text.specs.Lines.{lines_of}
use Rattle.text_modes.specs.Seen.{ShelfShown, Seen, Untouched}
use Rattle.text_modes.specs.Ends.{IsFaultEnd}
use Rattle.text_modes.specs.Promises.{ToldUnder, ReadFailed, Answers, Finishes}
use Rattle.text_modes.specs.TwoTexts.{Texts, ToldBoth, EitherFailed, Says, TwoTextRun}
use Rattle.text_modes.specs.declared.ends.Outcome.{Outcome}
use Rattle.text_modes.specs.declared.ends.Outcome.TheVariants.{Done, Refused, Unknown}
use Rattle.text_modes.specs.declared.ends.End.{End}
use Rattle.text_modes.specs.declared.ends.End.TheVariants.{Wrote, Memory}
use Rattle.text_modes.proofs.Idle.{two_idle}
use Rattle.text_modes.proofs.TwoFree.{faulty, finishes}
use Rattle.model_meaning.specs.declared.model.Decl.{Decl}
use Rattle.model_meaning.specs.declared.model.Model.{Model}
use Rattle.model_texts.specs.declared.fault.ModelFault.{ModelFault}
use Rattle.model_texts.specs.ModelTexts.{longest_text, IsFirstFault, HasFault}
use Rattle.model_texts.specs.HeldModels.{HoldsModel}
use Rattle.model_texts.proofs.FirstFaults.{one_text_fault, no_text_fault}
use Rattle.answer_document.specs.declared.verdict.Verdict.{Verdict}
use Rattle.answer_document.specs.declared.verdict.Verdict.TheVariants as verdict
use Rattle.search_options.specs.declared.options.SearchOptions.{SearchOptions}
use Rattle.solve_mode.specs.Solved.{outcome_of, IsAnswerText, IsSolved}
use Rattle.solve_mode.specs.SolveMode.{HasModel}
use Rattle.solve_mode.proofs.Ends.{given_text}
use Rattle.wish_text.specs.Wishes.{NoneFails}
use Rattle.resume_mode.specs.Resumed.{IsWishTaken, IsResuming, IsResumed, Gives}
use Rattle.resume_mode.specs.ResumeMode.{HaveRefusal, IsAnswered, FinishesBoth, ResumeMode}
use Rattle.resume_mode.proofs.Refusals.{one_decls, answered, refused, unquiet, fit_refusal}
use Rattle.resume_mode.proofs.ToldTexts.{texts_same}

fit_or_fault : (text : List ℕ) (fault : ModelFault) → HasModel text → HasFault text fault → ⊥
fit_or_fault text fault h k = no_text_fault text fault h.0 h.1.within h.1.says h.1.light k

module _ (options : SearchOptions) where
  fit : (texts : Texts) (outcome : Outcome) (written : List ℕ) → Gives options texts outcome written → HasModel texts.first
  fit texts Done written h = (h.solved.answer.model, h.solved.answer.held)
  fit texts (Refused line) written h = (h.model, h.held)
  fit texts (Unknown count) written h = (h.solved.answer.model, h.solved.answer.held)

  module _ (input second : List ℕ) (seen : Seen) where
    module _ (end : End ModelFault) (r : TwoTextRun (Some (longest_text + 1)) HasModel (Gives options) HasFault input second end seen) where
      told_fault : Answers (ToldUnder input seen) (IsFaultEnd HasFault) (ReadFailed input seen) end seen
      told_fault = faulty (Some (longest_text + 1)) HasModel (Gives options) HasFault fit_or_fault one_text_fault fit input second seen r.between end r.says

      told_text : Finishes (ToldBoth input second seen) (λ (texts : Texts). HasModel texts.first) (EitherFailed input second seen) end seen
      told_text = finishes (Some (longest_text + 1)) HasModel (Gives options) HasFault fit_or_fault one_text_fault fit input second seen r.between end r.says

      written_given : (texts : Texts) (outcome : Outcome) → ToldBoth input second seen texts
          → Says (Some (longest_text + 1)) HasModel (Gives options) HasFault input second r.between (Wrote outcome) seen → (written : List ℕ) × Gives options texts outcome written
      written_given texts outcome told s =
          (s.written, subst (λ (t : Texts). Gives options t outcome s.written) (texts_same input second (Some (longest_text + 1)) seen r.between r.first_taken.others_stay s.texts texts told s.read) s.gives)

      -- what was written for told texts is given for them
      written_for : (texts : Texts) (outcome : Outcome) → ToldBoth input second seen texts → end ≡ Wrote outcome → (written : List ℕ) × Gives options texts outcome written
      written_for texts outcome told e =
          written_given texts outcome told (subst (λ (x : End ModelFault). Says (Some (longest_text + 1)) HasModel (Gives options) HasFault input second r.between x seen) e r.says)

      told_answer : FinishesBoth input second end seen
      told_answer texts told is read write =
          ⊎_elim
          (λ (p : (outcome : Outcome) × (end ≡ Wrote outcome)).
          (let w = written_for texts p.0 told p.1 in inl (subst IsAnswered (sym p.1) (answered options texts p.0 w.0 w.1 is))))
          (λ (wanting : end ≡ Memory). inr wanting) (told_text.complete texts told (is.model, is.held) read write)

      told_refusal : Answers (ToldBoth input second seen) HaveRefusal (EitherFailed input second seen) end seen
      told_refusal = record {
        refused = λ texts answer told has quiet read. absurd (unquiet texts answer has quiet);
        complete = λ texts answer told has read write.
            ⊎_elim
            (λ (p : (outcome : Outcome) × (end ≡ Wrote outcome)).
            (let w = written_for texts p.0 told p.1 in inl (p.1 ∙ refused options texts p.0 w.0 answer w.1 has)))
            (λ (wanting : end ≡ Memory). inr wanting) (told_text.complete texts told (fit_refusal texts answer has) read write);
      }

      -- what is said of each end decides which fault a told model has, and how told texts end
      pub mode : ResumeMode options input second end seen
      mode = record { run = r; faulty = told_fault; finishes = told_answer; refuses = told_refusal }

    -- where memory is wanting before the mode begins
    pub idle : Untouched seen → ResumeMode options input second Memory seen
    idle same = mode Memory (two_idle (Some (longest_text + 1)) HasFault seen same HasModel (Gives options) input second)

-- a text below the limit and one byte is within it
pub within_limit : (text : List ℕ) → length text < 16777217 → length text ≤ longest_text
within_limit text h = omega arith

-- the fault of a text within the limit
pub had_fault : (text : List ℕ) (f : ModelFault) → length text < 16777217 → IsFirstFault text f → HasFault text f
had_fault text f h first = inr (within_limit text h, first)

-- no verdict is a refusal
no_refusal : (v : Verdict) (line : ℕ) → Refused line ≡ outcome_of v → ⊥
no_refusal verdict.Satisfiable line e = cc
no_refusal verdict.Unsatisfiable line e = cc
no_refusal (verdict.Optimum b) line e = cc
no_refusal (verdict.Unknown n best) line e = cc

-- an answer is written where no line fails
pub given_answer : (options : SearchOptions) (model : Model) (second : List ℕ) (outcome : Outcome) (written : List ℕ) → IsAnswerText options model outcome written
    → NoneFails model.decls (lines_of second) → IsResuming options model second outcome written
given_answer options model second Done written h passes = record { is = h; passes = passes }
given_answer options model second (Refused line) written h passes = absurd (no_refusal h.document.verdict line h.outcome_is)
given_answer options model second (Unknown count) written h passes = record { is = h; passes = passes }

-- what comes of what is wished for, for the model of a first text
module _ (options : SearchOptions) (first second written : List ℕ) (model : Model) where
  resumed_text : (outcome : Outcome) → IsWishTaken options model second outcome written → HoldsModel first model → IsResumed options (record { first = first; second = second }) outcome written
  resumed_text outcome h held =
      let solved : IsSolved options first outcome written = given_text options first outcome written (record { model = model; held = held; is = h.is }) in
      let same : model.decls ≡ solved.answer.model.decls = one_decls first model solved.answer.model held solved.answer.held in
      record { solved = solved; passes = subst (λ (ds : List Decl). NoneFails ds (lines_of second)) same h.passes }

  pub given_resumed : (outcome : Outcome) → IsResuming options model second outcome written → HoldsModel first model → Gives options (record { first = first; second = second }) outcome written
  given_resumed Done h held = resumed_text Done h held
  given_resumed (Refused line) h held = record { model = model; held = held; fails = h.fails; writes = h.writes }
  given_resumed (Unknown count) h held = resumed_text (Unknown count) h held
