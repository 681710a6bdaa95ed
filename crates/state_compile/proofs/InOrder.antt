-- Lines in order, one behind another.
use Rattle.std.proofs.Common.{◌≡◌, List, [], ◌∷◌, ◌++◌, refl, sym, ap, ◌∙◌, subst, append_assoc, Ok}
use Rattle.std.proofs.lemmas.List.{append-nil}
use Rattle.core_forms.specs.declared.equation.Equation.{Equation}
use Rattle.core_forms.specs.declared.form.Core.{Core}
use Rattle.ledger_text.specs.declared.line.Line.{Line}
use Rattle.ledger_text.specs.declared.line.Line.TheVariants.{Equate, Split, Encode}
use Rattle.step_kernel.specs.Kernel.{Kernel, IsKernel}
use Rattle.step_kernel.specs.Steps.{step}
use Rattle.step_kernel.proofs.Kept.{Kept, Kept-itself, Kept-trans}
use Rattle.step_kernel.proofs.StepLaws.{step-kept}
use Rattle.fixpoint_queue.specs.Ledgers.{Leads, AreEquations, AddsEquations}
use Rattle.state_compile.specs.Compilation.{IsDue, LeadsInOrder, AddsInOrder}

module _ (told : Core → Equation → Type 0) where
  order-append : (old mid new : Kernel) (lines more : List Line) → LeadsInOrder told old lines mid → LeadsInOrder told mid more new → LeadsInOrder told old (lines ++ more) new
  order-append old mid new [] more e h = subst (λ (k : Kernel). LeadsInOrder told k more new) (sym e) h
  order-append old mid new (line ∷ lines) more l h = (l.0, l.1, l.2, order-append l.0 mid new lines more l.3 h)

  -- equations that are told are due
  order-equations : (old new : Kernel) (lines : List Line) → Leads told old lines new → AreEquations lines → LeadsInOrder told old lines new
  order-equations old new [] e h = e
  order-equations old new (Equate id e ∷ lines) l h = (l.0, l.1, l.2, order-equations l.0 new lines l.3 h)
  order-equations old new (Split id ∷ lines) l h = absurd h
  order-equations old new (Encode id ∷ lines) l h = absurd h

  -- of lines that are due, each equation is told
  pub order-leads : (old new : Kernel) (lines : List Line) → LeadsInOrder told old lines new → Leads told old lines new
  order-leads old new [] e = e
  order-leads old new (Equate id e ∷ lines) l = (l.0, l.1, l.2, order-leads l.0 new lines l.3)
  order-leads old new (Split id ∷ lines) l = (l.0, l.1, tt, order-leads l.0 new lines l.3)
  order-leads old new (Encode id ∷ lines) l = (l.0, l.1, tt, order-leads l.0 new lines l.3)

  -- what each step keeps, all keep
  pub leads-kept : (old new : Kernel) (lines : List Line) → IsKernel old → Leads told old lines new → Kept old new
  leads-kept old new [] is e = subst (Kept old) e (Kept-itself old is)
  leads-kept old new (line ∷ lines) is l =
      let first : Kept old l.0 = step-kept old l.0 line is l.1 in
      Kept-trans old l.0 new is first (leads-kept l.0 new lines first.kernel l.3)

  -- ---- ledgers

  pub adds-none : (ledger : List Line) (k : Kernel) → AddsInOrder told ledger k ledger k
  adds-none ledger k = record { added = []; is = sym (append-nil ledger); leads = refl }

  pub adds-more : (before behind last : List Line) (old mid new : Kernel) → AddsInOrder told before old behind mid → AddsInOrder told behind mid last new → AddsInOrder told before old last new
  adds-more before behind last old mid new first next = record {
    added = first.added ++ next.added;
    is = next.is ∙ ap (λ (l : List Line). l ++ next.added) first.is ∙ append_assoc before first.added next.added;
    leads = order-append old mid new first.added next.added first.leads next.leads;
  }

  pub adds-equations : (before behind : List Line) (old new : Kernel) → AddsEquations told before old behind new → AddsInOrder told before old behind new
  adds-equations before behind old new h = record {
    added = h.added;
    is = h.is;
    leads = order-equations old new h.added h.leads h.equations;
  }

  pub adds-line : (before behind : List Line) (old new : Kernel) (line : Line) → step old line ≡ Ok new → IsDue told old line → behind ≡ before ++ line ∷ [] → AddsInOrder told before old behind new
  adds-line before behind old new line made due is = record {
    added = line ∷ [];
    is = is;
    leads = (new, made, due, refl);
  }
