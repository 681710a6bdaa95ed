-- The set of the values of sure constants, as members are gone through.
use Rattle.std.proofs.Common.{◌≡◌, ℕ, ◌+◌, suc, Bool, true, false, cond, ◌||◌, List, length, ℤ, Option, None, Some, refl, sym, ap, ◌∙◌, add-one}
use Rattle.std.specs.BTreeSet.{BTreeSet, contains, Updates}
use Rattle.std.specs.Ordering.{int_cmp, int_eq}
use Rattle.order_ints.specs.declared.atom.Atom.{Atom}
use Rattle.order_ints.specs.declared.order_int.OrdInt.{OrdInt}
use Rattle.equation_runs.specs.DifferentRuns.{constant_at, is_value, is_held_before}

-- one value more
either : (t before : Bool) → cond t true before ≡ (before || t)
either true true = refl
either true false = refl
either false true = refl
either false false = refl

pub held-put : (old new : BTreeSet ℤ) (w v : ℤ) → Updates int_cmp old new w true → contains int_cmp new v ≡ (contains int_cmp old v || int_eq w v)
held-put old new w v updates = updates.0 v ∙ either (int_eq w v) (contains int_cmp old v)

module _ (ints : List OrdInt) (cs : List Atom) (n : ℕ) where
  abbrev more : ℤ → Bool
  more v = is_held_before ints cs n v || is_value v (constant_at ints cs n)

  one-more : (v : ℤ) → more v ≡ is_held_before ints cs (n + 1) v
  one-more v = ap (λ (m : ℕ). is_held_before ints cs m v) (sym (add-one n))

  -- a member that is a constant
  pub held-next : (w : ℤ) → Some w ≡ constant_at ints cs n → (old new : BTreeSet ℤ) → Updates int_cmp old new w true
      → ((v : ℤ) → contains int_cmp old v ≡ is_held_before ints cs n v) → (v : ℤ) → contains int_cmp new v ≡ is_held_before ints cs (n + 1) v
  held-next w is old new updates before v =
      held-put old new w v updates ∙ ap (λ (t : Bool). t || int_eq w v) (before v)
      ∙ ap (λ (o : Option ℤ). is_held_before ints cs n v || is_value v o) is ∙ one-more v

  -- one that isn't
  or-none : (t : Bool) → t ≡ (t || false)
  or-none true = refl
  or-none false = refl

  pub held-same : None ≡ constant_at ints cs n → (old : BTreeSet ℤ) → ((v : ℤ) → contains int_cmp old v ≡ is_held_before ints cs n v)
      → (v : ℤ) → contains int_cmp old v ≡ is_held_before ints cs (n + 1) v
  held-same is old before v =
      before v ∙ or-none (is_held_before ints cs n v) ∙ ap (λ (o : Option ℤ). is_held_before ints cs n v || is_value v o) is ∙ one-more v
