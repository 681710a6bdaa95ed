-- How many pairs of a core and one of its variables can still get a new label.
use Rattle.std.proofs.Common.{◌≡◌, ℕ, zero, suc, ◌+◌, ◌*◌, ◌≤◌, Bool, true, false, ◌&&◌, List, [], ◌∷◌, ◌++◌, length, refl, ap, sym, subst, arith, length-append}
use Rattle.std.specs.Prelude.{if◌then◌else◌}
use Rattle.std.proofs.Math.Nat.{mul-le-mul_right}
use Rattle.order_ints.specs.declared.atom.Atom.{Atom}
use Rattle.order_ints.specs.declared.atom.Atom.TheVariants.{True, False, Of}
use Rattle.order_ints.specs.View.{label_of}
use Rattle.order_ints.proofs.Labels.{label_of-old}
use Rattle.core_forms.specs.declared.form.Core.{Core}
use Rattle.core_forms.specs.Cores.{CoresBelow}
use Rattle.core_forms.specs.Place.{CoreBelow}
use Rattle.equation_store.specs.Laws.{size_at}
use Rattle.fixpoint_queue.specs.Pairs.{is_relabelled, has_var, relabelled_in, relabelled_pairs}
use Rattle.asking_bound.specs.Questions.{occurrences_of}
use Rattle.asking_bound.proofs.ClassSizes.{size-more}
use Rattle.asking_bound.proofs.LabelsLeft.{left_at, labels_left, left-most, left-kept, none-new, one_new}
use Rattle.asking_bound.proofs.OwnCounts.{no-var, vars_to, vars-most}

-- of the variables 1 to n of a core
abbrev pub left_in : ℕ → List Atom → Core → ℕ → ℕ
left_in digits view core zero = 0
left_in digits view core (suc n) = (if has_var core (suc n) then labels_left digits view (suc n) else 0) + left_in digits view core n

-- of all these cores
abbrev pub pairs_left : ℕ → List Atom → List Core → ℕ
pairs_left digits view [] = 0
pairs_left digits view (core ∷ cores) = left_in digits view core (length view) + pairs_left digits view cores

pub left-append : (digits : ℕ) (view : List Atom) (cs ds : List Core) → pairs_left digits view (cs ++ ds) ≡ pairs_left digits view cs + pairs_left digits view ds
left-append digits view [] ds = omega arith
left-append digits view (c ∷ cs) ds = omega (arith, left-append digits view cs ds)

-- ---- a view in which labels leave less

module _ (digits : ℕ) (old new : List Atom) (long : length new ≡ length old)
    (falls : (v : ℕ) → 1 ≤ v → v ≤ length old → one_new old new v + labels_left digits new v ≤ labels_left digits old v)
  where
    in-falls : (core : Core) (n : ℕ) → n ≤ length old → relabelled_in old new core n + left_in digits new core n ≤ left_in digits old core n
    in-falls core zero h = omega arith
    in-falls core (suc n) h =
        omega (
          arith,
          in-falls core n (omega (arith, h)),
          one (has_var core (suc n)) (is_relabelled old new (suc n)) (labels_left digits new (suc n)) (labels_left digits old (suc n)) (falls (suc n) (omega arith) h),
        )
      where
        one : (p q : Bool) (x y : ℕ) → (if q then 1 else 0) + x ≤ y → (if p && q then 1 else 0) + (if p then x else 0) ≤ (if p then y else 0)
        one true q x y le = le
        one false q x y le = omega arith

    pub pairs-falls : (cores : List Core) → relabelled_pairs old new cores + pairs_left digits new cores ≤ pairs_left digits old cores
    pairs-falls [] = omega arith
    pairs-falls (core ∷ cores) =
        let same : left_in digits new core (length new) ≡ left_in digits new core (length old) = ap (left_in digits new core) long in
        omega (arith, same, in-falls core (length old) (omega arith), pairs-falls cores)

-- ---- a view with more variables

module _ (digits : ℕ) (view more : List Atom) where
  pub variable-more : (v : ℕ) → 1 ≤ v → v ≤ length view → labels_left digits (view ++ more) v ≤ labels_left digits view v
  variable-more v low high =
      subst (λ (a : Atom). left_at digits (view ++ more) a ≤ labels_left digits view v) (sym (label_of-old view more v low high))
      (left-kept digits view (view ++ more) (label_of view v) (grown (label_of view v)))
    where
      grown : (a : Atom) → size_at view a ≤ size_at (view ++ more) a
      grown True = omega arith
      grown False = omega arith
      grown (Of l) = size-more view more l.var

  in-more : (core : Core) (n : ℕ) → n ≤ length view → left_in digits (view ++ more) core n ≤ left_in digits view core n
  in-more core zero h = omega arith
  in-more core (suc n) h =
      omega (arith, in-more core n (omega (arith, h)), one (has_var core (suc n)) (labels_left digits (view ++ more) (suc n)) (labels_left digits view (suc n)) (variable-more (suc n) (omega arith) h))
    where
      one : (p : Bool) (x y : ℕ) → x ≤ y → (if p then x else 0) ≤ (if p then y else 0)
      one true x y le = le
      one false x y le = omega arith

  -- the variables that came stand in no core that was there
  in-past : (core : Core) → CoreBelow (length view + 1) core → (count : ℕ) → left_in digits (view ++ more) core (length view + count) ≤ left_in digits view core (length view)
  in-past core below zero = subst (λ (n : ℕ). left_in digits (view ++ more) core n ≤ left_in digits view core (length view)) e (in-more core (length view) (omega arith))
    where
      e : length view ≡ length view + zero
      e = omega arith
  in-past core below (suc count) = subst (λ (n : ℕ). left_in digits (view ++ more) core n ≤ left_in digits view core (length view)) e (omega (arith, none, in-past core below count))
    where
      e : suc (length view + count) ≡ length view + suc count
      e = omega arith

      none : (if has_var core (suc (length view + count)) then labels_left digits (view ++ more) (suc (length view + count)) else 0) ≡ 0
      none = ap {B = ℕ} (λ (b : Bool). if b then labels_left digits (view ++ more) (suc (length view + count)) else 0) (no-var (length view + 1) core below (suc (length view + count)) (omega arith))

  pub pairs-more : (cores : List Core) → CoresBelow (length view + 1) cores → pairs_left digits (view ++ more) cores ≤ pairs_left digits view cores
  pairs-more [] below = omega arith
  pairs-more (core ∷ cores) below =
      let here = in-past core below.0 (length more) in
      let same : left_in digits (view ++ more) core (length (view ++ more)) ≡ left_in digits (view ++ more) core (length view + length more) = ap (left_in digits (view ++ more) core) (length-append view more) in
      omega (arith, here, same, pairs-more cores below.1)

-- ---- bounds

in-most : (digits : ℕ) (view : List Atom) (core : Core) (n : ℕ) → left_in digits view core n ≤ vars_to core n * digits
in-most digits view core zero = omega arith
in-most digits view core (suc n) = one (has_var core (suc n)) (labels_left digits view (suc n)) (left_in digits view core n) (vars_to core n) (left-most digits view (label_of view (suc n))) (in-most digits view core n)
  where
    one : (p : Bool) (x y m : ℕ) → x ≤ digits → y ≤ m * digits → (if p then x else 0) + y ≤ ((if p then 1 else 0) + m) * digits
    one true x y m h k = omega (arith, h, k)
    one false x y m h k = omega (arith, k)

-- at most so many for each pair
pub pairs-most : (digits : ℕ) (view : List Atom) (cores : List Core) → pairs_left digits view cores ≤ occurrences_of cores * digits
pairs-most digits view [] = omega arith
pairs-most digits view (core ∷ cores) =
    let own = mul-le-mul_right digits (vars-most core (length view)) in
    omega (arith, in-most digits view core (length view), own, pairs-most digits view cores)

-- ---- where no variable gets a new label

module _ (old new : List Atom) (same : (v : ℕ) → 1 ≤ v → v ≤ length old → label_of new v ≡ label_of old v) where
  none-in : (core : Core) (n : ℕ) → n ≤ length old → relabelled_in old new core n ≡ 0
  none-in core zero h = refl
  none-in core (suc n) h = omega (arith, none-in core n (omega (arith, h)), one (has_var core (suc n)) (is_relabelled old new (suc n)) (none-new old new (suc n) (same (suc n) (omega arith) h)))
    where
      one : (p q : Bool) → q ≡ false → ◌≡◌ {A = ℕ} (if p && q then 1 else 0) 0
      one true q e = ap {B = ℕ} (λ (b : Bool). if b then 1 else 0) e
      one false q e = refl

  pub no-pairs : (cores : List Core) → relabelled_pairs old new cores ≡ 0
  no-pairs [] = refl
  no-pairs (core ∷ cores) = omega (arith, none-in core (length old) (omega arith), no-pairs cores)
