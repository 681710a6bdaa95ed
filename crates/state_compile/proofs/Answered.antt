-- What the CNF of the last state says of the first one.
use Rattle.std.proofs.Common.{◌≡◌, Bool, true, [], ◌∷◌, List, sym, ◌∙◌, subst, ⊎_elim}
use Rattle.std.specs.Prelude.{IsTrue, if◌then◌else◌}
use Rattle.std.proofs.lemmas.Bool.{false≢true, true≢false}
use Rattle.order_ints.specs.Satisfies.{clauses_truth, Satisfies}
use Rattle.order_ints.specs.OrderedClauses.{ordered_clauses}
use Rattle.order_ints.specs.Truth.{Valuation}
use Rattle.core_forms.specs.declared.equation.Equation.{Equation}
use Rattle.core_forms.specs.declared.form.Core.{Core}
use Rattle.ledger_text.specs.declared.line.Line.{Line}
use Rattle.step_kernel.specs.CnfOf.{cnf_of}
use Rattle.step_kernel.specs.Kernel.{Kernel, pending, IsKernel}
use Rattle.step_kernel.proofs.CnfLaws.{cnf-models}
use Rattle.step_kernel.proofs.Kept.{Kept}
use Rattle.state_compile.specs.StandsFor.{CnfStandsFor}
use Rattle.state_compile.specs.Compilation.{IsAtEnd, IsCompilation}
use Rattle.state_compile.proofs.InOrder.{order-leads, leads-kept}

-- no valuation satisfies the CNF at bottom
unsatisfied : (k : Kernel) (σ : Valuation) → k.bottom ≡ true → Satisfies σ (cnf_of k) → ⊥
unsatisfied k σ bottom h =
    false≢true (subst (λ (b : Bool). IsTrue (clauses_truth σ (if b then [] ∷ [] else ordered_clauses k.view k.clauses))) bottom h)

pub models-at_end : (start last : Kernel) → Kept start last → IsAtEnd last → CnfStandsFor start last
models-at_end start last kept =
    ⊎_elim
    (λ (bottom : last.bottom ≡ true). record {
      back = λ σ meets h. absurd (unsatisfied last σ bottom h);
      forth = λ σ m. let t = kept.keeps.forth σ m in absurd (true≢false (sym bottom ∙ t.2.running));
    })
    (λ (none : pending last.cores ≡ []). record {
      back = λ σ meets h. kept.keeps.back σ ((cnf-models last kept.kernel none σ meets).0 h);
      forth = λ σ m.
          let t = kept.keeps.forth σ m in
          (t.0, t.1, t.2.view, (cnf-models last kept.kernel none t.0 t.2.view).1 t.2);
    })

-- what a compilation keeps
pub compilation-kept : (told : Core → Equation → Type 0) (start last : Kernel) (ledger : List Line) → IsKernel start → IsCompilation told start ledger last → Kept start last
compilation-kept told start last ledger is c = leads-kept told start last ledger is (order-leads told start last ledger c.lines)

pub compilation-models : (told : Core → Equation → Type 0) (start last : Kernel) (ledger : List Line) → IsKernel start → IsCompilation told start ledger last → CnfStandsFor start last
compilation-models told start last ledger is c = models-at_end start last (compilation-kept told start last ledger is c) c.end
