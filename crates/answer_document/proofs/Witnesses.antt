-- What a solution gives at the end of a ledger: a valuation that satisfies the CNF of the last state, and gives the solution.
use Rattle.std.proofs.Common.{◌≡◌, ◌+◌, ◌≤◌, ◌<◌, Bool, true, false, List, [], ◌∷◌, length, Ok, refl, sym, ◌∙◌, subst, ℤ, arith}
use Rattle.std.specs.Prelude.{IsTrue, if◌then◌else◌}
use Rattle.std.proofs.lemmas.Bool.{true≢false}
use Rattle.order_ints.specs.Truth.{Valuation, Agree}
use Rattle.order_ints.specs.View.{MeetsView}
use Rattle.order_ints.specs.Satisfies.{clauses_truth, Satisfies}
use Rattle.order_ints.specs.AtomClauses.{atom_clauses_truth}
use Rattle.order_ints.specs.OrderedClauses.{ordered_clauses}
use Rattle.order_ints.specs.Numbers.{numbers_of}
use Rattle.order_ints.proofs.Labels.{length-own_labels}
use Rattle.order_ints.proofs.OrderedLaws.{clauses_truth-ordered_clauses}
use Rattle.model_meaning.specs.declared.model.Model.{Model}
use Rattle.model_meaning.specs.WellTyped.{WellTyped}
use Rattle.model_meaning.specs.Limits.{InLimits}
use Rattle.model_meaning.specs.Solutions.{IsSolution}
use Rattle.model_weight.specs.Weight.{weight_of}
use Rattle.statement_lower.specs.Entries.{AreOrdered}
use Rattle.statement_lower.proofs.EntryLaws.{numbers_of-agree}
use Rattle.statement_lower.proofs.OrderedEntries.{AreOrdered-depends}
use Rattle.ledger_text.specs.declared.line.Line.{Line}
use Rattle.model_lower.specs.Lowering.{lowered_of}
use Rattle.model_lower.specs.Weighed.{most_weight}
use Rattle.model_lower.proofs.LoweringLaw.{lowering_law}
use Rattle.step_kernel.specs.Kernel.{Kernel, IsKernel, started}
use Rattle.step_kernel.specs.Models.{IsModel}
use Rattle.step_kernel.specs.CnfOf.{cnf_of}
use Rattle.step_kernel.specs.Steps.{replay}
use Rattle.step_kernel.proofs.Started.{started-kernel, started-models}
use Rattle.step_kernel.proofs.StepLaws.{replay-kept}
use Rattle.answer_document.specs.Valid.{start_of}

-- a model of a state satisfies its CNF, whatever cores are pending
pub model-satisfies : (k : Kernel) (σ : Valuation) → IsKernel k → IsModel k σ → Satisfies σ (cnf_of k)
model-satisfies k σ is m = by k.bottom m.running
  where
    same : clauses_truth σ (ordered_clauses k.view k.clauses) ≡ atom_clauses_truth σ k.clauses
    same = clauses_truth-ordered_clauses σ k.view (length k.view + 1) m.view k.clauses is.clauses

    by : (b : Bool) → b ≡ false → IsTrue (clauses_truth σ (if b then [] ∷ [] else ordered_clauses k.view k.clauses))
    by true e = absurd (true≢false e)
    by false e = same ∙ m.clauses

pub record Witness (model : Model) (last : Kernel) (a : List ℤ) : Type 0 where
  pub valuation : Valuation
  pub satisfies : Satisfies valuation (cnf_of last)
  pub view : MeetsView valuation last.view
  pub ordered : AreOrdered valuation (lowered_of model).map.entries
  pub numbers : a ≡ numbers_of valuation (lowered_of model).map.entries

module _ (model : Model) (typed : WellTyped model) (limits : InLimits model) (light : weight_of model ≤ most_weight) where
  -- each solution gives one at the end of each ledger that leads somewhere
  pub witness : (ledger : List Line) (last : Kernel) → replay (start_of model) ledger ≡ Ok last → (a : List ℤ) → IsSolution model a → Witness model last a
  witness ledger last leads a solution =
      let law = lowering_law model typed limits light in
      let l = lowered_of model in
      let decoded = (law.solutions a).0 solution in
      let kernel : IsKernel (start_of model) = started-kernel l.vars l.cores law.fits.well_formed law.fits.below law.fits.size in
      let vars : length (start_of model).view ≡ l.vars = length-own_labels 1 l.vars in
      let kept = replay-kept (start_of model) last ledger kernel leads in
      let later = kept.keeps.forth decoded.0 ((started-models l.vars l.cores decoded.0).1 decoded.1) in
      let agree : Agree (l.vars + 1) decoded.0 later.0 = λ v below. later.1 v (omega (arith, below, vars)) in
      record {
        valuation = later.0;
        satisfies = model-satisfies last later.0 kept.kernel later.2;
        view = later.2.view;
        ordered = AreOrdered-depends (l.vars + 1) model.decls l.map.entries law.fits.entries decoded.0 later.0 agree (law.ordered decoded.0 decoded.1);
        numbers = decoded.2 ∙ numbers_of-agree (l.vars + 1) decoded.0 later.0 model.decls l.map.entries agree law.fits.entries;
      }
