-- What a step leaves of the new labels that a variable can get.
use Rattle.std.proofs.Common.{◌≡◌, ℕ, ◌+◌, ◌≤◌, ◌<◌, Bool, true, false, List, ◌++◌, length, refl, ap, sym, ◌∙◌, arith, Option, Some, None, Ok}
use Rattle.std.specs.Prelude.{◌≢◌, IsSomeAnd, if◌then◌else◌}
use Rattle.std.proofs.lemmas.Bool.{false≢true}
use Rattle.order_ints.specs.declared.atom.Atom.{Atom}
use Rattle.order_ints.specs.declared.atom.Atom.TheVariants.{True, False, Of}
use Rattle.order_ints.specs.Equality.{same_atom-true, same_atom-refl}
use Rattle.order_ints.specs.Label.{variable, IsLabel, IsLabelled, own_labels, with_own_labels}
use Rattle.order_ints.specs.Same.{same_atom}
use Rattle.order_ints.specs.Truth.{not_atom}
use Rattle.order_ints.specs.View.{label_of}
use Rattle.order_ints.proofs.Labels.{AtomBelow-label, label_of-past, label_of-added, label_of-old}
use Rattle.core_forms.specs.declared.equation.Equation.{Equation}
use Rattle.core_forms.specs.declared.form.Core.{Core}
use Rattle.core_forms.specs.Trimmed.{trimmed_core}
use Rattle.part_base.specs.declared.parts.Parts.{Parts}
use Rattle.equation_store.specs.Class.{is_of, IsMember}
use Rattle.equation_store.specs.Laws.{IsAtomOf, IsConstant}
use Rattle.equation_store.specs.Merge.{loser_of, merged}
use Rattle.equation_store.proofs.Changes.{merge_changes, merge_labelled, merge_never_shrinks}
use Rattle.equation_store.proofs.Merge.{merge_doubles}
use Rattle.ledger_text.specs.declared.line.Line.{Line}
use Rattle.core_rules.specs.Instances.{is_instance_at}
use Rattle.step_kernel.specs.Kernel.{Kernel, core_at, IsKernel}
use Rattle.core_parts.specs.Parts.{parts_at}
use Rattle.step_kernel.specs.Steps.{step, equated, divided}
use Rattle.step_kernel.proofs.Holes.{below-there}
use Rattle.core_rules.proofs.InstanceLaws.{instance-labels}
use Rattle.step_kernel.proofs.Stepped.{after_step}
use Rattle.asking_bound.specs.Questions.{binary_digits}
use Rattle.asking_bound.proofs.CoresLeft.{variable-more}
use Rattle.asking_bound.proofs.LabelsLeft.{labels_left, left-merged, none-new, one_new}

-- a constant is no member of a class that loses
member-literal : (view : List Atom) (v : ℕ) (o : Option ℕ) → IsConstant (label_of view v) → IsSomeAnd o (λ x. IsMember view x v) → ⊥
member-literal view v None is m = absurd m
member-literal view v (Some x) is m = by (label_of view v) is m.2
  where
    by : (a : Atom) → IsConstant a → is_of x a ≡ true → ⊥
    by True c t = absurd (false≢true t)
    by False c t = absurd (false≢true t)
    by (Of l) c t = absurd c

-- so it stays
constant-stays : (view : List Atom) (a b : Atom) (v : ℕ) → IsLabelled view → IsAtomOf view a → IsAtomOf view b → 1 ≤ v → v ≤ length view → IsConstant (label_of view v) → label_of (merged view a b) v ≡ label_of view v
constant-stays view a b v labelled in_a in_b low high is = by (same_atom (label_of (merged view a b) v) (label_of view v)) refl
  where
    by : (t : Bool) → same_atom (label_of (merged view a b) v) (label_of view v) ≡ t → label_of (merged view a b) v ≡ label_of view v
    by true e = same_atom-true (label_of (merged view a b) v) (label_of view v) e
    by false e =
        let changed : label_of (merged view a b) v ≢ label_of view v = λ q. false≢true (sym e ∙ ap (λ (c : Atom). same_atom c (label_of view v)) q ∙ same_atom-refl (label_of view v)) in
        absurd (member-literal view v (loser_of view a b) is ((merge_changes view a b v labelled in_a in_b low high).0 changed))

-- one where the variable got a new label, and what it has left then, are no more than what it had
abbrev pub LeavesLess : ℕ → Kernel → Kernel → Type 0
LeavesLess digits k new =
    binary_digits (length new.view) ≤ digits → (v : ℕ) → 1 ≤ v → v ≤ length k.view →
    one_new k.view new.view v + labels_left digits new.view v ≤ labels_left digits k.view v

-- a label that stays is none
stays-less : (digits : ℕ) (old new : List Atom) (v : ℕ) → label_of new v ≡ label_of old v → labels_left digits new v ≤ labels_left digits old v → one_new old new v + labels_left digits new v ≤ labels_left digits old v
stays-less digits old new v same le =
    let none : one_new old new v ≡ 0 = ap {B = ℕ} (λ (b : Bool). if b then 1 else 0) (none-new old new v same) in
    omega (arith, none, le)

module _ (digits : ℕ) (k : Kernel) (is : IsKernel k) where
  module _ (id : ℕ) (e : Equation) (core : Core) (at : core_at k.cores id ≡ Some core) (instance : is_instance_at (trimmed_core k.view core) e ≡ true) where
    labels : IsLabel k.view e.a × IsLabel k.view e.b
    labels = instance-labels k.view core e is.labelled (below-there k.cores id core at (length k.view + 1) is.below).0 instance

    in_a : IsAtomOf k.view e.a
    in_a = AtomBelow-label k.view e.a labels.0

    in_b : IsAtomOf k.view e.b
    in_b = AtomBelow-label k.view e.b labels.1

    pub merged-long : length (merged k.view e.a e.b) ≡ length k.view
    merged-long = (merge_labelled k.view e.a e.b is.labelled in_a in_b).0

    pub merged-labels : LeavesLess digits k (record k { view = merged k.view e.a e.b })
    merged-labels most v low high =
        left-merged digits k.view (merged k.view e.a e.b) merged-long (omega (arith, most, ap binary_digits merged-long)) v low high
        (merge_doubles k.view e.a e.b is.labelled in_a in_b) (merge_never_shrinks k.view e.a e.b is.labelled in_a in_b)
        (constant-stays k.view e.a e.b v is.labelled in_a in_b low high)

    equated-labels : LeavesLess digits k (equated k e)
    equated-labels = by (same_atom e.a (not_atom e.b))
      where
        by : (b : Bool) → LeavesLess digits k (if b then record k { bottom = true } else record k { view = merged k.view e.a e.b })
        by true most v low high = stays-less digits k.view k.view v refl (omega arith)
        by false most v low high = merged-labels most v low high

  divided-labels : (id : ℕ) (parts : Parts) → LeavesLess digits k (divided k id parts)
  divided-labels id parts most v low high =
      let added = own_labels (length k.view + 1) parts.fresh in
      stays-less digits k.view (k.view ++ added) v (label_of-old k.view added v low high) (variable-more digits k.view added v low high)

  pub step-labels : (line : Line) (new : Kernel) → step k line ≡ Ok new → LeavesLess digits k new
  step-labels =
      after_step k (LeavesLess digits k)
      (λ running id e core at instance. equated-labels id e core at instance)
      (λ running id core at compound. divided-labels id (parts_at (length k.view + 1) (trimmed_core k.view core)))
      (λ running id core at basic most v low high. stays-less digits k.view k.view v refl (omega arith))

  -- ---- a variable that there is not yet

  past-none : (new : List Atom) (v : ℕ) → length k.view < v → label_of new v ≡ variable v → one_new k.view new v ≡ 0
  past-none new v past own = ap {B = ℕ} (λ (b : Bool). if b then 1 else 0) (none-new k.view new v (own ∙ sym (label_of-past k.view v past)))

  equated-past : (id : ℕ) (e : Equation) (core : Core) → core_at k.cores id ≡ Some core → is_instance_at (trimmed_core k.view core) e ≡ true → (v : ℕ) → length k.view < v → one_new k.view (equated k e).view v ≡ 0
  equated-past id e core at instance v past = by (same_atom e.a (not_atom e.b))
    where
      by : (b : Bool) → one_new k.view (if b then record k { bottom = true } else record k { view = merged k.view e.a e.b }).view v ≡ 0
      by true = past-none k.view v past (label_of-past k.view v past)
      by false = past-none (merged k.view e.a e.b) v past (label_of-past (merged k.view e.a e.b) v (omega (arith, past, merged-long id e core at instance)))

  pub step-past : (line : Line) (new : Kernel) → step k line ≡ Ok new → (v : ℕ) → length k.view < v → one_new k.view new.view v ≡ 0
  step-past =
      after_step k (λ (new : Kernel). (v : ℕ) → length k.view < v → one_new k.view new.view v ≡ 0)
      (λ running id e core at instance. equated-past id e core at instance)
      (λ running id core at compound v past.
      let fresh = (parts_at (length k.view + 1) (trimmed_core k.view core)).fresh in
      past-none (with_own_labels k.view fresh) v past (label_of-added k.view fresh v past))
      (λ running id core at basic v past. past-none k.view v past (label_of-past k.view v past))
