-- What a step keeps, and what several do one after another.
use Rattle.std.proofs.Common.{◌+◌, ◌≤◌, length, refl, arith}
use Rattle.order_ints.specs.Truth.{Agree}
use Rattle.order_ints.specs.Label.{IsLater}
use Rattle.order_ints.proofs.Labels.{labels_below, IsLater-itself, IsLater-later}
use Rattle.order_ints.proofs.Standing.{Agree-trans, Agree-fewer}
use Rattle.step_kernel.specs.Kernel.{Kernel, potential, IsKernel}
use Rattle.step_kernel.specs.Models.{Keeps}

-- the new state is one, it has the models of the old one, its store is later and has all variables, and nothing grows
pub record Kept (old new : Kernel) : Type 0 where
  pub kernel : IsKernel new
  pub keeps : Keeps old new
  pub longer : length old.view ≤ length new.view
  pub later : IsLater old.view new.view
  pub potential : potential new ≤ potential old

Keeps-itself : (k : Kernel) → Keeps k k
Keeps-itself k = record { back = λ σ m. m; forth = λ σ m. (σ, (λ v low. refl), m) }

Keeps-trans : (old mid new : Kernel) → length old.view ≤ length mid.view → Keeps old mid → Keeps mid new → Keeps old new
Keeps-trans old mid new longer first next = record {
  back = λ σ m. first.back σ (next.back σ m);
  forth = λ σ m.
      let one = first.forth σ m in
      let two = next.forth one.0 one.2 in
      let agree : Agree (length old.view + 1) one.0 two.0 = Agree-fewer (length old.view + 1) (length mid.view + 1) one.0 two.0 (omega arith) two.1 in
      (two.0, Agree-trans (length old.view + 1) σ one.0 two.0 one.1 agree, two.2);
}

pub Kept-itself : (k : Kernel) → IsKernel k → Kept k k
Kept-itself k is = record {
  kernel = is;
  keeps = Keeps-itself k;
  longer = omega arith;
  later = IsLater-itself k.view is.labelled;
  potential = omega arith;
}

pub Kept-trans : (old mid new : Kernel) → IsKernel old → Kept old mid → Kept mid new → Kept old new
Kept-trans old mid new is first next = record {
  kernel = next.kernel;
  keeps = Keeps-trans old mid new first.longer first.keeps next.keeps;
  longer = omega (arith, first.longer, next.longer);
  later = IsLater-later (length old.view + 1) old.view mid.view new.view (labels_below old.view is.labelled) first.later next.later;
  potential = omega (arith, first.potential, next.potential);
}
