-- A second text has one first line that fails behind a first one, or none of its lines fails.
use Rattle.std.proofs.Common.{◌≡◌, ℕ, List, ap, subst}
use Rattle.model_meaning.specs.declared.model.Decl.{Decl}
use Rattle.model_meaning.specs.declared.model.Model.{Model}
use Rattle.model_texts.specs.HeldModels.{HoldsModel}
use Rattle.model_texts.proofs.OneModel.{one_model}
use Rattle.text_modes.specs.TwoTexts.{Texts}
use Rattle.text_modes.specs.Ends.{IsSilent}
use Rattle.text_modes.specs.declared.ends.Outcome.{Outcome}
use Rattle.text_modes.specs.declared.ends.Outcome.TheVariants.{Done, Refused, Unknown}
use Rattle.text_modes.specs.declared.ends.End.{End}
use Rattle.text_modes.specs.declared.ends.End.TheVariants.{Wrote}
use Rattle.model_texts.specs.declared.fault.ModelFault.{ModelFault}
use Rattle.search_options.specs.declared.options.SearchOptions.{SearchOptions}
use Rattle.solve_mode.specs.SolveMode.{HasModel}
use Rattle.wish_text.specs.Wishes.{FirstFails}
use Rattle.wish_text.proofs.FirstLines.{one_line, none_or_first}
use Rattle.resume_mode.specs.Resumed.{IsResumed, IsTurnedDown, Gives}
use Rattle.resume_mode.specs.ResumeMode.{PassesBehind, FailsBehind, HaveRefusal, IsAnswered}

-- models that one text says have the same declarations
pub one_decls : (text : List ℕ) (m n : Model) → HoldsModel text m → HoldsModel text n → m.decls ≡ n.decls
one_decls text m n h k = ap (λ (x : Model). x.decls) (one_model text m n h.says k.says)

passes_or_fails : (texts : Texts) (line : ℕ) → PassesBehind texts → FailsBehind line texts → ⊥
passes_or_fails texts line p f =
    let same : f.model.decls ≡ p.model.decls = one_decls texts.first f.model p.model f.held p.held in
    none_or_first p.model.decls texts.second line p.passes (subst (λ (ds : List Decl). FirstFails ds texts.second line) same f.fails)

one_refused : (texts : Texts) (m n : ℕ) → FailsBehind m texts → FailsBehind n texts → m ≡ n
one_refused texts m n f g =
    let same : g.model.decls ≡ f.model.decls = one_decls texts.first g.model f.model g.held f.held in
    one_line f.model.decls texts.second m n f.fails (subst (λ (ds : List Decl). FirstFails ds texts.second n) same g.fails)

passing : (options : SearchOptions) (texts : Texts) (outcome : Outcome) (written : List ℕ) → IsResumed options texts outcome written → PassesBehind texts
passing options texts outcome written h = record { model = h.solved.answer.model; held = h.solved.answer.held; passes = h.passes }

failing : (texts : Texts) (line : ℕ) (written : List ℕ) → IsTurnedDown line texts written → FailsBehind line texts
failing texts line written h = record { model = h.model; held = h.held; fails = h.fails }

-- where no line fails, a text that is given is that of an answer
pub answered : (options : SearchOptions) (texts : Texts) (outcome : Outcome) (written : List ℕ) → Gives options texts outcome written → PassesBehind texts → IsAnswered (Wrote outcome)
answered options texts Done written h p = tt
answered options texts (Refused line) written h p = absurd (passes_or_fails texts line p (failing texts line written h))
answered options texts (Unknown count) written h p = tt

-- where one fails, it tells that line
pub refused : (options : SearchOptions) (texts : Texts) (outcome : Outcome) (written : List ℕ) (answer : End ModelFault) → Gives options texts outcome written → HaveRefusal texts answer
    → Wrote outcome ≡ answer
refused options texts Done written (Wrote (Refused n)) h k = absurd (passes_or_fails texts n (passing options texts Done written h) k)
refused options texts (Refused m) written (Wrote (Refused n)) h k = ap (λ (l : ℕ). Wrote (Refused l)) (one_refused texts m n (failing texts m written h) k)
refused options texts (Unknown count) written (Wrote (Refused n)) h k = absurd (passes_or_fails texts n (passing options texts (Unknown count) written h) k)
refused options texts outcome written answer h k = absurd k

-- a refusal is written
pub unquiet : (texts : Texts) (answer : End ModelFault) → HaveRefusal texts answer → IsSilent answer → ⊥
unquiet texts (Wrote outcome) h quiet = quiet
unquiet texts answer h quiet = absurd h

-- behind a first text that is fit
pub fit_refusal : (texts : Texts) (answer : End ModelFault) → HaveRefusal texts answer → HasModel texts.first
fit_refusal texts (Wrote (Refused n)) h = (h.model, h.held)
fit_refusal texts answer h = absurd h
