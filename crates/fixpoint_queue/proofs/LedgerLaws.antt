-- Ledgers one behind another.
use Rattle.std.proofs.Common.{◌≡◌, ℕ, List, [], ◌∷◌, ◌++◌, refl, sym, ap, ◌∙◌, subst, append_assoc, None}
use Rattle.std.proofs.lemmas.Option.{none-some}
use Rattle.core_forms.specs.declared.equation.Equation.{Equation}
use Rattle.core_forms.specs.declared.form.Core.{Core}
use Rattle.index_ring.specs.Lists.{first_in}
use Rattle.ledger_text.specs.declared.line.Line.{Line}
use Rattle.ledger_text.specs.declared.line.Line.TheVariants.{Equate, Split, Encode}
use Rattle.step_kernel.specs.Kernel.{Kernel}
use Rattle.fixpoint_queue.specs.Ledgers.{Leads, AreEquations, AddsEquations}
use Rattle.fixpoint_queue.specs.Quiet.{IsClosed}
use Rattle.fixpoint_queue.specs.Waits.{Waits}

module _ (told : Core → Equation → Type 0) where
  pub leads-append : (old mid new : Kernel) (lines more : List Line) → Leads told old lines mid → Leads told mid more new → Leads told old (lines ++ more) new
  leads-append old mid new [] more e h = subst (λ (k : Kernel). Leads told k more new) (sym e) h
  leads-append old mid new (line ∷ lines) more l h = (l.0, l.1, l.2, leads-append l.0 mid new lines more l.3 h)

  equations-append : (lines more : List Line) → AreEquations lines → AreEquations more → AreEquations (lines ++ more)
  equations-append [] more h k = k
  equations-append (Equate id e ∷ lines) more h k = equations-append lines more h k
  equations-append (Split id ∷ lines) more h k = absurd h
  equations-append (Encode id ∷ lines) more h k = absurd h

  pub adds-trans : (before behind last : List Line) (old mid new : Kernel) → AddsEquations told before old behind mid → AddsEquations told behind mid last new → AddsEquations told before old last new
  adds-trans before behind last old mid new first next = record {
    added = first.added ++ next.added;
    is = next.is ∙ ap (λ (l : List Line). l ++ next.added) first.is ∙ append_assoc before first.added next.added;
    leads = leads-append old mid new first.added next.added first.leads next.leads;
    equations = equations-append first.added next.added first.equations next.equations;
  }

  -- where no core waits, none tells anything
  pub closed-none : (k : Kernel) (queued : List ℕ) → None ≡ first_in queued → Waits told k queued → IsClosed told k
  closed-none k [] e waits id = waits id refl
  closed-none k (i ∷ queued) e waits id = absurd (none-some i e)

-- a queue without a first core is empty
pub empty-queue : (queued : List ℕ) → None ≡ first_in queued → queued ≡ []
empty-queue [] e = refl
empty-queue (i ∷ queued) e = absurd (none-some i e)
