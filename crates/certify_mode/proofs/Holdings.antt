-- What is known of a model that is held with what it is compiled to.
use Rattle.std.proofs.Common.{◌≡◌, ℕ, ◌≤◌, Bool, true, false, List, [], ◌∷◌, length, sym, subst}
use Rattle.std.specs.Prelude.{if◌then◌else◌}
use Rattle.order_ints.specs.declared.cnf.Cnf.{Cnf}
use Rattle.order_ints.specs.OrderedClauses.{ClausesAscend, ordered_clauses}
use Rattle.order_ints.proofs.OrderedLaws.{ClausesAscend-ordered_clauses}
use Rattle.step_kernel.specs.Kernel.{Kernel}
use Rattle.step_kernel.specs.CnfOf.{cnf_of}
use Rattle.model_meaning.specs.declared.model.Model.{Model}
use Rattle.bee_compile.specs.declared.compiled.Compiled.{Compiled}
use Rattle.bee_compile.specs.Compiled.{IsInstance, IsCompiled}
use Rattle.model_weight.specs.Weight.{weight_of}
use Rattle.model_lower.specs.Weighed.{most_weight}
use Rattle.model_texts.specs.ModelTexts.{longest_text, IsModelOf}
use Rattle.model_texts.proofs.OneModel.{one_model}
use Rattle.bee_compile.specs.Fits.{CompiledFits}
use Rattle.certify_mode.specs.Holding.{HoldsLight}

kernel-ascends : (k : Kernel) → ClausesAscend (cnf_of k).clauses
kernel-ascends k = by k.bottom
  where
    by : (b : Bool) → ClausesAscend (if b then [] ∷ [] else ordered_clauses k.view k.clauses)
    by true = (tt, tt)
    by false = ClausesAscend-ordered_clauses k.view k.clauses

-- the clauses of a compilation are in order
pub ascends : (model : Model) (c : Compiled) → IsCompiled IsInstance model c → ClausesAscend c.cnf.clauses
ascends model c is = subst (λ (cnf : Cnf). ClausesAscend cnf.clauses) (sym is.cnf) (kernel-ascends is.last)

-- a text holds its model with what that is compiled to, also where it was read twice
pub held-twin : (text : List ℕ) (model twin : Model) (compiled : Compiled) → length text ≤ longest_text → IsModelOf text model → IsModelOf text twin → weight_of twin ≤ most_weight
    → IsCompiled IsInstance twin compiled → CompiledFits compiled → HoldsLight text (record { model = model; compiled = compiled })
held-twin text model twin compiled short says own light is fits =
    let same : twin ≡ model = one_model text twin model own says in
    record {
      model = record { within = short; says = says; light = subst (λ (m : Model). weight_of m ≤ most_weight) same light };
      compiled = subst (λ (m : Model). IsCompiled IsInstance m compiled) same is;
      fits = fits;
    }
