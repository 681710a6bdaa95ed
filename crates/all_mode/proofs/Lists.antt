-- The text of a list is valid, and what it says is true.
use Rattle.std.proofs.Common.{◌≡◌, ℕ, Bool, true, false, List, map, length, refl, sym, ap, ◌∙◌, subst, inl, inr}
use Rattle.std.specs.Prelude.{if◌then◌else◌}
use Rattle.bee_text.specs.Lines.{AreLines}
use Rattle.ledger_check.proofs.DocumentLines.{declared-lines}
use Rattle.model_meaning.specs.declared.model.Decl.{Decl}
use Rattle.text_modes.specs.declared.ends.Outcome.{Outcome}
use Rattle.model_texts.proofs.ModelShapes.{typed, limited, names}
use Rattle.model_texts.proofs.FaultOrModel.{FaultOrModel, fault_or_model}
use Rattle.search_options.specs.declared.options.SearchOptions.{SearchOptions}
use Rattle.solution_blocks.specs.Blocks.{numbers_in}
use Rattle.list_text.specs.declared.verdict.ListVerdict.TheVariants.{All, Partial}
use Rattle.list_text.specs.ListText.{additions_in, verdict_of, list_text}
use Rattle.list_text.specs.Valid.{IsValidList}
use Rattle.list_text.proofs.Truths.{list-law}
use Rattle.list_text.specs.Laws.{WrittenLaw}
use Rattle.list_answer.proofs.Concluded.{additions-same}
use Rattle.all_mode.specs.Listed.{outcome_of, SaysVerdict, ListsHeld, IsListed}
use Rattle.all_mode.specs.AllLaws.{ListsAreAccepted, AllAnswers}

-- the verdict that the outcome tells
says-verdict : (budget count added : ℕ) (complete : Bool) (outcome : Outcome) → outcome ≡ outcome_of complete budget → (complete ≡ false → added ≡ budget)
    → SaysVerdict budget outcome count (if complete then All count else Partial count added)
says-verdict budget count added true outcome is spent = subst (λ (o : Outcome). SaysVerdict budget o count (All count)) (sym is) refl
says-verdict budget count added false outcome is spent =
    subst (λ (o : Outcome). SaysVerdict budget o count (Partial count added)) (sym is) (refl, ap (λ (n : ℕ). Partial count n) (spent refl))

pub given-list : WrittenLaw → (options : SearchOptions) (text : List ℕ) (outcome : Outcome) (written : List ℕ) → ListsHeld options text outcome written → IsListed options text outcome written
given-list written-law options text outcome written h =
    let model = h.model in
    let d = h.is.document in
    let limits = limited text model h.held.within h.held.says in
    let lines : AreLines (map (λ (x : Decl). x.name) model.decls) = declared-lines (map (λ (x : Decl). x.name) model.decls) (names text model h.held.says) in
    let whole : IsValidList model (list_text model.decls d) (verdict_of d) (numbers_in d.solutions) = written-law model d limits lines h.is.is.certified in
    let valid : IsValidList model written (verdict_of d) (numbers_in d.solutions) =
    subst (λ (t : List ℕ). IsValidList model t (verdict_of d) (numbers_in d.solutions)) (sym h.is.writes) whole in
    record {
      lists = h;
      verdict = verdict_of d;
      says = says-verdict options.budget (length d.solutions) (additions_in d.proof) d.complete outcome h.is.outcome_is (λ partial. additions-same d.proof ∙ h.is.is.spent partial);
      valid = valid;
      holds = list-law model written (verdict_of d) (numbers_in d.solutions) (typed text model h.held.says) limits h.held.light valid;
    }

pub lists-accepted : ListsAreAccepted
lists-accepted options text outcome written h =
    record { model = h.lists.model; held = h.lists.held; verdict = h.verdict; valid = (numbers_in h.lists.is.document.solutions, h.valid) }

pub all-answers : AllAnswers
all-answers text no-fault none = by (fault_or_model text)
  where
    by : FaultOrModel text → ⊥
    by (inl f) = no-fault f.0 f.1
    by (inr m) = none m
