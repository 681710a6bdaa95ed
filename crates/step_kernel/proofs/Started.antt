-- What a state is at the start.
use Rattle.std.proofs.Common.{◌≡◌, ◌↔◌, ℕ, ◌+◌, ◌≤◌, Bool, List, [], map, length, refl, sym, ap, ◌∙◌, subst, arith, Option, Some}
use Rattle.order_ints.specs.declared.atom.Atom.{Atom}
use Rattle.order_ints.specs.Truth.{Valuation}
use Rattle.order_ints.specs.Label.{own_labels}
use Rattle.order_ints.proofs.Labels.{IsLabelled-more, IsLabelled-nil, length-own_labels, MeetsView-more}
use Rattle.core_forms.specs.declared.form.Core.{Core}
use Rattle.core_forms.specs.Cores.{MeetsAll, CoresBelow, AreWellFormed, costs_of}
use Rattle.step_kernel.specs.Kernel.{Kernel, pending, trimmed_costs, started, most_potential, IsKernel}
use Rattle.step_kernel.specs.Models.{IsModel}
use Rattle.step_kernel.proofs.Holes.{pending-parts}
use Rattle.step_kernel.proofs.Costs.{trimmed_costs-bound}

pub started-kernel : (vars : ℕ) (cores : List Core) → AreWellFormed cores → CoresBelow (vars + 1) cores → vars + costs_of cores ≤ most_potential → IsKernel (started vars cores)
started-kernel vars cores formed below small =
    let same : length (own_labels 1 vars) ≡ vars = length-own_labels 1 vars in
    let all : pending (map Some cores) ≡ cores = pending-parts cores in
    let costs : trimmed_costs (own_labels 1 vars) (pending (map Some cores)) ≤ costs_of cores =
    subst (λ (cs : List Core). trimmed_costs (own_labels 1 vars) cs ≤ costs_of cores) (sym all) (trimmed_costs-bound (own_labels 1 vars) cores formed) in
    record {
      labelled = IsLabelled-more [] vars IsLabelled-nil;
      formed = subst AreWellFormed (sym all) formed;
      below = subst (λ (n : ℕ). CoresBelow (n + 1) (pending (map Some cores))) (sym same) (subst (CoresBelow (vars + 1)) (sym all) below);
      clauses = tt;
      small = omega (arith, same, costs, small);
    }

-- its models are the valuations that meet all cores
pub started-models : (vars : ℕ) (cores : List Core) (σ : Valuation) → IsModel (started vars cores) σ ↔ MeetsAll σ cores
started-models vars cores σ = (
  λ m. subst (MeetsAll σ) (pending-parts cores) m.cores,
  λ met. record {
    running = refl;
    view = (MeetsView-more [] vars σ).1 (λ v low high. absurd (omega (arith, low, high)));
    cores = subst (MeetsAll σ) (sym (pending-parts cores)) met;
    clauses = refl;
  },
)

-- states with the same parts
pub same-kernel : (v w : List Atom) (cs ds : List (Option Core)) (ls ms : List (List Atom)) (b : Bool) → v ≡ w → cs ≡ ds → ls ≡ ms →
    ◌≡◌ {A = Kernel} (record { view = v; cores = cs; clauses = ls; bottom = b }) (record { view = w; cores = ds; clauses = ms; bottom = b })
same-kernel v w cs ds ls ms b e f g =
    let made : List Atom → List (Option Core) → List (List Atom) → Kernel = λ x y z. record { view = x; cores = y; clauses = z; bottom = b } in
    ap (λ x. made x cs ls) e ∙ ap (λ y. made w y ls) f ∙ ap (made w ds) g
