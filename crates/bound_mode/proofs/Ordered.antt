-- What the names of a compiled model stand for is ordered where the clauses are true.
use Rattle.std.proofs.Common.{◌≡◌, ◌≤◌, ℕ, Bool, not, List, [], ◌∷◌, refl, sym, ap, ap₂, subst, ◌∙◌}
use Rattle.std.specs.Prelude.{◌&&◌, if◌then◌else◌}
use Rattle.order_ints.specs.declared.atom.Atom.{Atom}
use Rattle.order_ints.specs.declared.cnf.Cnf.{Cnf}
use Rattle.order_ints.specs.declared.order_int.OrdInt.{OrdInt}
use Rattle.order_ints.specs.declared.order_int.MapValue.{MapValue}
use Rattle.order_ints.specs.declared.order_int.MapValue.TheVariants as values
use Rattle.order_ints.specs.OrderValue.{none_true, in_order, IsOrdered}
use Rattle.order_ints.specs.Satisfies.{Satisfies}
use Rattle.order_ints.specs.Truth.{Valuation, atom_truth}
use Rattle.order_ints.specs.View.{resolve}
use Rattle.core_forms.specs.Resolved.{map_steps, map_int}
use Rattle.core_forms.specs.Trimmed.{trimmed_int}
use Rattle.core_forms.proofs.Tidied.{in_order-tidied}
use Rattle.model_meaning.specs.declared.model.Model.{Model}
use Rattle.model_meaning.specs.WellTyped.{WellTyped}
use Rattle.model_meaning.specs.Limits.{InLimits}
use Rattle.model_weight.specs.Weight.{weight_of}
use Rattle.statement_lower.specs.Entries.{AreOrdered}
use Rattle.model_lower.specs.declared.state.Lowered.{Lowered}
use Rattle.model_lower.specs.Lowering.{lowered_of}
use Rattle.model_lower.specs.ItemLaws.{LoweringLaw}
use Rattle.model_lower.specs.Weighed.{most_weight}
use Rattle.model_lower.proofs.LoweringLaw.{lowering_law}
use Rattle.name_map.specs.Trimmed.{trimmed_values}
use Rattle.step_kernel.specs.Kernel.{IsKernel}
use Rattle.step_kernel.proofs.Started.{started-kernel, started-models}
use Rattle.state_compile.specs.StandsFor.{read_by}
use Rattle.state_compile.proofs.Answered.{compilation-kept, compilation-models}
use Rattle.state_compile.proofs.Reading.{read-atom, read-model}
use Rattle.bee_compile.specs.declared.compiled.Compiled.{Compiled}
use Rattle.bee_compile.specs.Compiled.{IsInstance, start_of, IsCompiled}

-- A valuation is read by the view.
module _ (view : List Atom) (σ : Valuation) where
  none-read : (steps : List (Atom × ℕ)) → none_true σ (map_steps (resolve view) steps) ≡ none_true (read_by view σ) steps
  none-read [] = refl
  none-read (s ∷ steps) = ap₂ (λ (t r : Bool). not t && r) (sym (read-atom view σ s.0)) (none-read steps)

  order-read : (steps : List (Atom × ℕ)) → in_order σ (map_steps (resolve view) steps) ≡ in_order (read_by view σ) steps
  order-read [] = refl
  order-read (s ∷ steps) =
      ap₂ (λ (t r : Bool). if t then r else none_true σ (map_steps (resolve view) steps)) (sym (read-atom view σ s.0)) (order-read steps)
      ∙ ap (λ (r : Bool). if atom_truth (read_by view σ) s.0 then in_order (read_by view σ) steps else r) (none-read steps)

  int-ordered : (a : OrdInt) → IsOrdered (read_by view σ) a → IsOrdered σ (trimmed_int view a)
  int-ordered a h = in_order-tidied σ (map_int (resolve view) a) ∙ order-read a.steps ∙ h

  entries-ordered : (entries : List MapValue) → AreOrdered (read_by view σ) entries → AreOrdered σ (trimmed_values view entries)
  entries-ordered [] h = tt
  entries-ordered (values.Bool a ∷ entries) h = entries-ordered entries h
  entries-ordered (values.Int a ∷ entries) h = (int-ordered a h.0, entries-ordered entries h.1)

pub compiled-ordered : (model : Model) (c : Compiled) → WellTyped model → InLimits model → weight_of model ≤ most_weight → IsCompiled IsInstance model c → (σ : Valuation) → Satisfies σ c.cnf → AreOrdered σ c.map.entries
compiled-ordered model c typed limits light is σ h =
    let law : LoweringLaw model = lowering_law model typed limits light in
    let l : Lowered = lowered_of model in
    let start : IsKernel (start_of l) = started-kernel l.vars l.cores law.fits.well_formed law.fits.below law.fits.size in
    let kept = compilation-kept IsInstance (start_of l) is.last c.ledger start is.compilation in
    let stands = compilation-models IsInstance (start_of l) is.last c.ledger start is.compilation in
    let τ : Valuation = read_by is.last.view σ in
    let meets = (started-models l.vars l.cores τ).0 (read-model (start_of l) is.last σ kept.kernel stands (subst (λ (f : Cnf). Satisfies σ f) is.cnf h)) in
    subst (AreOrdered σ) (sym is.map) (entries-ordered is.last.view σ l.map.entries (law.ordered τ meets))
