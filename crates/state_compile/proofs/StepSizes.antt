-- What is left to split: equations do not raise it, and a split makes it smaller.
use Rattle.std.proofs.Common.{◌≡◌, ℕ, ◌+◌, ◌<◌, ◌≤◌, Bool, true, false, List, [], ◌∷◌, ◌++◌, map, length, refl, sym, ap, ◌∙◌, subst, arith, Some, Ok}
use Rattle.std.specs.Prelude.{if◌then◌else◌}
use Rattle.order_ints.specs.Label.{with_own_labels}
use Rattle.order_ints.specs.Same.{same_atom}
use Rattle.order_ints.specs.Truth.{not_atom}
use Rattle.core_forms.specs.declared.equation.Equation.{Equation}
use Rattle.core_forms.specs.declared.form.Core.{Core}
use Rattle.core_forms.specs.Trimmed.{trimmed_core}
use Rattle.equation_store.specs.Merge.{merged}
use Rattle.ledger_text.specs.declared.line.Line.{Line}
use Rattle.ledger_text.specs.declared.line.Line.TheVariants.{Equate, Split, Encode}
use Rattle.part_base.specs.declared.parts.Parts.{Parts}
use Rattle.part_base.specs.PartsFor.{ArePartsFor}
use Rattle.step_kernel.specs.Kernel.{Kernel, core_at, trimmed_at, pending, IsKernel}
use Rattle.core_parts.specs.Parts.{parts_at, is_compound_of}
use Rattle.step_kernel.specs.Steps.{step, without, equated, divided}
use Rattle.step_kernel.proofs.Holes.{pending-append, pending-parts, below-there}
use Rattle.step_kernel.proofs.Kept.{Kept}
use Rattle.step_kernel.proofs.StepLaws.{step-kept, parts-there}
use Rattle.step_kernel.proofs.There.{is-there}
use Rattle.fixpoint_queue.specs.Ledgers.{Leads, AreEquations}
use Rattle.core_parts.specs.Size.{size_of, sizes_of}
use Rattle.state_compile.specs.Size.{left_to_split}
use Rattle.state_compile.proofs.Made.{made-by}
use Rattle.core_parts.proofs.PartSizes.{parts-smaller}
use Rattle.state_compile.proofs.Sizes.{trimmed_sizes, sizes-append, sizes-bound, sizes-later, sizes-more, sizes-there}

-- ---- equations

equated-cores : (k : Kernel) (e : Equation) → (equated k e).cores ≡ k.cores
equated-cores k e = by (same_atom e.a (not_atom e.b))
  where
    by : (b : Bool) → (if b then record k { bottom = true } else record k { view = merged k.view e.a e.b }).cores ≡ k.cores
    by true = refl
    by false = refl

equation-size : (k new : Kernel) (id : ℕ) (e : Equation) (core : Core) → IsKernel k → trimmed_at k id ≡ Some core → step k (Equate id e) ≡ Ok new → left_to_split new ≤ left_to_split k
equation-size k new id e core is there made =
    let kept : Kept k new = step-kept k new (Equate id e) is made in
    let cores : new.cores ≡ k.cores = ap (λ (kk : Kernel). kk.cores) (made-by k new (Equate id e) core there made) ∙ equated-cores k e in
    let same : trimmed_sizes new.view (pending new.cores) ≡ trimmed_sizes new.view (pending k.cores) = ap (λ cs. trimmed_sizes new.view (pending cs)) cores in
    omega (arith, same, sizes-later (length k.view + 1) k.view new.view (pending k.cores) kept.later is.below is.formed)

module _ (told : Core → Equation → Type 0) where
  pub equations-size : (old new : Kernel) (lines : List Line) → IsKernel old → Leads told old lines new → AreEquations lines → left_to_split new ≤ left_to_split old
  equations-size old new [] is e h = let same : left_to_split old ≡ left_to_split new = ap left_to_split e in omega (arith, same)
  equations-size old new (Equate id e ∷ lines) is l h =
      let kept : Kept old l.0 = step-kept old l.0 (Equate id e) is l.1 in
      omega (arith, equation-size old l.0 id e l.2.0 is l.2.1 l.1, equations-size l.0 new lines kept.kernel l.3 h)
  equations-size old new (Split id ∷ lines) is l h = absurd h
  equations-size old new (Encode id ∷ lines) is l h = absurd h

-- ---- splits

divided-size : (k : Kernel) (id : ℕ) (core : Core) (parts : Parts) → IsKernel k → core_at k.cores id ≡ Some core → ArePartsFor (trimmed_core k.view core) (length k.view + 1) parts
    → sizes_of parts.cores < size_of (trimmed_core k.view core) → left_to_split (divided k id parts) < left_to_split k
divided-size k id core parts is at for smaller =
    let view = with_own_labels k.view parts.fresh in
    let left = pending (without k.cores id) in
    let all : trimmed_sizes view (pending (without k.cores id ++ map Some parts.cores)) ≡ trimmed_sizes view (left ++ parts.cores) =
    ap (trimmed_sizes view) (pending-append (without k.cores id) (map Some parts.cores) ∙ ap (λ cs. left ++ cs) (pending-parts parts.cores)) in
    omega (
      arith,
      all,
      sizes-append view left parts.cores,
      sizes-more (length k.view + 1) k.view parts.fresh left (below-there k.cores id core at (length k.view + 1) is.below).1,
      sizes-bound view parts.cores for.fit.formed,
      smaller,
      sizes-there k.view k.cores id core at,
    )

pub split-size : (k new : Kernel) (id : ℕ) (core : Core) → IsKernel k → trimmed_at k id ≡ Some core → is_compound_of core ≡ true → step k (Split id) ≡ Ok new → left_to_split new < left_to_split k
split-size k new id core is there compound made =
    let r = is-there k id core there in
    let next = length k.view + 1 in
    let t = trimmed_core k.view r.core in
    let tested : is_compound_of (trimmed_core k.view r.core) ≡ true = ap is_compound_of r.is ∙ compound in
    let for : ArePartsFor t next (parts_at next t) = parts-there k is id r.core r.at tested in
    let parts : new ≡ divided k id (parts_at next t) =
    made-by k new (Split id) core there made ∙ ap (λ c. divided k id (parts_at next c)) (sym r.is) in
    subst (λ (kk : Kernel). left_to_split kk < left_to_split k) (sym parts)
    (divided-size k id r.core (parts_at next t) is r.at for (parts-smaller t next tested for.cost))
