-- What a step leaves of the pairs that can get a new label, and the cores that it makes.
use Rattle.std.proofs.Common.{◌≡◌, ℕ, ◌+◌, ◌-◌, ◌*◌, ◌≤◌, Bool, true, false, List, ◌∷◌, ◌++◌, map, length, refl, ap, ◌∙◌, arith, length-append, Option, Some, None, Ok}
use Rattle.std.specs.Prelude.{if◌then◌else◌}
use Rattle.std.proofs.lemmas.List.{length-set, length-map, drop_at}
use Rattle.order_ints.specs.declared.atom.Atom.{Atom}
use Rattle.order_ints.specs.Label.{own_labels}
use Rattle.order_ints.specs.Same.{same_atom}
use Rattle.order_ints.specs.Truth.{not_atom}
use Rattle.order_ints.proofs.Labels.{label_of-old}
use Rattle.core_forms.specs.declared.equation.Equation.{Equation}
use Rattle.core_forms.specs.declared.form.Core.{Core}
use Rattle.core_forms.specs.Trimmed.{trimmed_core}
use Rattle.part_base.specs.declared.parts.Parts.{Parts}
use Rattle.equation_store.specs.Merge.{merged}
use Rattle.ledger_text.specs.declared.line.Line.{Line}
use Rattle.core_rules.specs.Instances.{is_instance_at}
use Rattle.step_kernel.specs.Kernel.{Kernel, core_at, pending, IsKernel}
use Rattle.core_parts.specs.Parts.{parts_at}
use Rattle.step_kernel.specs.Steps.{step, without, equated, divided, encoded}
use Rattle.step_kernel.proofs.Holes.{between, below-there, pending-append, pending-parts}
use Rattle.step_kernel.proofs.Stepped.{after_step}
use Rattle.fixpoint_queue.specs.Pairs.{pairs_between}
use Rattle.asking_bound.specs.Made.{made_between}
use Rattle.asking_bound.specs.Questions.{binary_digits, occurrences_of}
use Rattle.asking_bound.proofs.CoresLeft.{pairs_left, left-append, pairs-falls, pairs-more, pairs-most, no-pairs}
use Rattle.asking_bound.proofs.StepLabels.{merged-long, merged-labels}

-- ---- the cores that a step makes

made-divided : (k : Kernel) (id : ℕ) (parts : Parts) → made_between k (divided k id parts) ≡ parts.cores
made-divided k id parts =
    ap pending (drop_at (without k.cores id) (map Some parts.cores) (length k.cores) (length-set k.cores (id - 1) None)) ∙ pending-parts parts.cores

-- there are no more new ids than cores made
pub made-as-many : (k new : Kernel) (line : Line) → step k line ≡ Ok new → length new.cores ≤ length k.cores + length (made_between k new)
made-as-many k new line =
    after_step k (λ (kk : Kernel). length kk.cores ≤ length k.cores + length (made_between k kk))
    (λ running id e core at instance. equation (same_atom e.a (not_atom e.b)) e)
    (λ running id core at compound. split id (parts_at (length k.view + 1) (trimmed_core k.view core)))
    (λ running id core at basic. omega (arith, length-set k.cores (id - 1) None))
    line new
  where
    equation : (b : Bool) (e : Equation) → length (if b then record k { bottom = true } else record k { view = merged k.view e.a e.b }).cores ≤ length k.cores + length (made_between k (if b then record k { bottom = true } else record k { view = merged k.view e.a e.b }))
    equation true e = omega arith
    equation false e = omega arith

    split : (id : ℕ) (parts : Parts) → length (divided k id parts).cores ≤ length k.cores + length (made_between k (divided k id parts))
    split id parts =
        omega (
          arith,
          length-append (without k.cores id) (map Some parts.cores),
          length-set k.cores (id - 1) None,
          length-map parts.cores (λ (c : Core). Some c),
          ap length (made-divided k id parts),
        )

-- ---- pairs

-- a core that is gone leaves none
left-without : (digits : ℕ) (view : List Atom) (cores : List (Option Core)) (id : ℕ) (core : Core) → core_at cores id ≡ Some core → pairs_left digits view (pending (without cores id)) ≤ pairs_left digits view (pending cores)
left-without digits view cores id core at =
    let b = between cores id core at in
    omega (
      arith,
      ap (pairs_left digits view) b.is,
      ap (pairs_left digits view) b.gone,
      left-append digits view b.front (core ∷ b.back),
      left-append digits view b.front b.back,
    )

-- the pairs that got a new label, and those that still can, are no more than those that could, and as many for each pair of a new
-- core as it can get new labels
abbrev pub LeavesFewer : ℕ → Kernel → Kernel → Type 0
LeavesFewer digits k new =
    binary_digits (length new.view) ≤ digits →
    pairs_between k new + pairs_left digits new.view (pending new.cores) ≤ pairs_left digits k.view (pending k.cores) + occurrences_of (made_between k new) * digits

module _ (digits : ℕ) (k : Kernel) (is : IsKernel k) where
  equated-pairs : (id : ℕ) (e : Equation) (core : Core) → core_at k.cores id ≡ Some core → is_instance_at (trimmed_core k.view core) e ≡ true → LeavesFewer digits k (equated k e)
  equated-pairs id e core at instance = by (same_atom e.a (not_atom e.b))
    where
      by : (b : Bool) → LeavesFewer digits k (if b then record k { bottom = true } else record k { view = merged k.view e.a e.b })
      by true most = omega (arith, no-pairs k.view k.view (λ v low high. refl) (pending k.cores))
      by false most =
          omega (
            arith,
            pairs-falls digits k.view (merged k.view e.a e.b) (merged-long digits k is id e core at instance) (merged-labels digits k is id e core at instance most) (pending k.cores),
          )

  divided-pairs : (id : ℕ) (core : Core) → core_at k.cores id ≡ Some core → (parts : Parts) → LeavesFewer digits k (divided k id parts)
  divided-pairs id core at parts most =
      let added = own_labels (length k.view + 1) parts.fresh in
      let left = pending (without k.cores id) in
      let all : pairs_left digits (k.view ++ added) (pending (without k.cores id ++ map Some parts.cores)) ≡ pairs_left digits (k.view ++ added) (left ++ parts.cores) =
      ap (pairs_left digits (k.view ++ added)) (pending-append (without k.cores id) (map Some parts.cores) ∙ ap (λ (cs : List Core). left ++ cs) (pending-parts parts.cores)) in
      let made : occurrences_of (made_between k (divided k id parts)) * digits ≡ occurrences_of parts.cores * digits = ap (λ (cs : List Core). occurrences_of cs * digits) (made-divided k id parts) in
      omega (
        arith,
        all,
        made,
        no-pairs k.view (k.view ++ added) (λ v low high. label_of-old k.view added v low high) (pending k.cores),
        left-append digits (k.view ++ added) left parts.cores,
        pairs-more digits k.view added left (below-there k.cores id core at (length k.view + 1) is.below).1,
        left-without digits k.view k.cores id core at,
        pairs-most digits (k.view ++ added) parts.cores,
      )

  encoded-pairs : (id : ℕ) (core : Core) → core_at k.cores id ≡ Some core → (trimmed : Core) → LeavesFewer digits k (encoded k id trimmed)
  encoded-pairs id core at trimmed most = omega (arith, no-pairs k.view k.view (λ v low high. refl) (pending k.cores), left-without digits k.view k.cores id core at)

  pub step-pairs : (line : Line) (new : Kernel) → step k line ≡ Ok new → LeavesFewer digits k new
  step-pairs =
      after_step k (LeavesFewer digits k)
      (λ running id e core at instance. equated-pairs id e core at instance)
      (λ running id core at compound. divided-pairs id core at (parts_at (length k.view + 1) (trimmed_core k.view core)))
      (λ running id core at basic. encoded-pairs id core at (trimmed_core k.view core))
