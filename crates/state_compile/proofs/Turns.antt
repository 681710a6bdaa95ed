-- What each turn of a compilation leaves.
use Rattle.std.proofs.Common.{◌≡◌, ◌⊎◌, ℕ, ◌<◌, Bool, true, false, List, [], ◌∷◌, ◌++◌, sym, ap, ◌∙◌, subst, ⊎_elim, Some, Ok, arith}
use Rattle.std.proofs.lemmas.Bool.{true≢false}
use Rattle.core_forms.specs.declared.equation.Equation.{Equation}
use Rattle.core_forms.specs.declared.form.Core.{Core}
use Rattle.ledger_text.specs.declared.line.Line.{Line}
use Rattle.ledger_text.specs.declared.line.Line.TheVariants.{Split}
use Rattle.step_kernel.specs.Kernel.{Kernel, IsKernel}
use Rattle.step_kernel.specs.Least.{least_compound_of}
use Rattle.step_kernel.specs.Steps.{step}
use Rattle.step_kernel.proofs.StepLaws.{step-kept}
use Rattle.fixpoint_queue.specs.Ledgers.{AddsEquations}
use Rattle.fixpoint_queue.specs.Quiet.{IsClosed}
use Rattle.state_compile.specs.Compilation.{LeadsInOrder, IsAtEnd, IsCompilation, AddsInOrder}
use Rattle.state_compile.specs.Size.{left_to_split}
use Rattle.state_compile.proofs.Found.{compound-there}
use Rattle.state_compile.proofs.InOrder.{adds-more, adds-equations, adds-line}
use Rattle.state_compile.proofs.StepSizes.{equations-size, split-size}

module _ (told : Core → Equation → Type 0) where
  -- a split, and the equations behind it
  pub split-adds : (before behind last : List Line) (old mid new : Kernel) (id : ℕ) → IsClosed told old → least_compound_of old ≡ Some id → step old (Split id) ≡ Ok mid → behind ≡ before ++ Split id ∷ []
      → AddsEquations told behind mid last new → AddsInOrder told before old last new
  split-adds before behind last old mid new id closed least made is equations =
      adds-more told before behind last old mid new
      (adds-line told before behind old mid (Split id) made (closed, least) is)
      (adds-equations told behind last mid new equations)

  pub split-smaller : (behind last : List Line) (old mid new : Kernel) (id : ℕ) → IsKernel old → least_compound_of old ≡ Some id → step old (Split id) ≡ Ok mid → AddsEquations told behind mid last new → left_to_split new < left_to_split old
  split-smaller behind last old mid new id is least made equations =
      let c = compound-there old id least in
      let kept = step-kept old mid (Split id) is made in
      omega (arith, split-size old mid id c.core is c.there c.compound made, equations-size told mid new equations.added kept.kernel equations.leads equations.equations)

-- what holds unless at bottom holds of a state that goes on
pub unless-bottom : {P : Type 0} (b : Bool) → (b ≡ true) ⊎ P → b ≡ false → P
unless-bottom b h running = ⊎_elim (λ t. absurd (true≢false (sym t ∙ running))) (λ p. p) h

-- a compilation, from the ledger without a line: what is given has the last state and the last ledger
pub compilation-given : (told : Core → Equation → Type 0) (start first mid last given : Kernel) (none before behind ledger : List Line) → first ≡ start → none ≡ [] → given ≡ last → ledger ≡ behind
    → AddsInOrder told none first before mid → AddsInOrder told before mid behind last → IsAtEnd last → IsCompilation told start ledger given
compilation-given told start first mid last given none before behind ledger from empty to is one two end =
    let adds = adds-more told none before behind first mid last one two in
    record {
      lines = subst (λ (l : List Line). LeadsInOrder told start l given) (sym (is ∙ adds.is ∙ ap (λ (l : List Line). l ++ adds.added) empty))
          (subst (λ (k : Kernel). LeadsInOrder told k adds.added given) from (subst (λ (k : Kernel). LeadsInOrder told first adds.added k) (sym to) adds.leads));
      end = subst IsAtEnd (sym to) end;
    }
