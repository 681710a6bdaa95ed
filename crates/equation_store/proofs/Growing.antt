-- Variables that are added, each its own label and alone in its ring.
use Rattle.std.proofs.Common.{◌≡◌, ℕ, zero, suc, ◌+◌, ◌-◌, ◌≤◌, ◌<◌, ◌^◌, false, List, [], ◌∷◌, ◌++◌, length, get_or, replicate, refl, ap, sym, ◌∙◌, subst, arith, ⊎_elim}
use Rattle.std.specs.Prelude.{◌==◌}
use Rattle.std.specs.List.{range_with_len}
use Rattle.std.proofs.lemmas.Bool.{cases_lt, cases_eq, eq-eqb, ne_eqb}
use Rattle.std.proofs.lemmas.List.{length-append, length-replicate, get_or_append_left, get_or-append_right, get_or-replicate, get_or_default}
use Rattle.std.proofs.lemmas.List.FromFn.{length-range_with_len, get_or-range_with_len}
use Rattle.order_ints.specs.declared.atom.Atom.{Atom}
use Rattle.order_ints.specs.declared.atom.Atom.TheVariants.{True, False, Of}
use Rattle.order_ints.specs.View.{label_of}
use Rattle.order_ints.specs.Label.{variable, IsOwnLabel, IsLabel, own_labels}
use Rattle.order_ints.proofs.Labels.{IsLabelled-more, length-own_labels, label_of-old, label_of-added}
use Rattle.index_ring.specs.Lists.{times}
use Rattle.index_ring.proofs.Times.{times-same, times-other}
use Rattle.equation_store.specs.Class.{is_of, IsWalk, class_size}
use Rattle.equation_store.specs.Merge.{size_in}
use Rattle.equation_store.specs.Ring.{behind, walk_of, place_after, ring_of}
use Rattle.equation_store.specs.Store.{IsKept}
use Rattle.equation_store.proofs.Counts.{one_if, IsCounted, walk-from}
use Rattle.equation_store.proofs.Steps.{walk_of-same, place_after-same}
use Rattle.equation_store.proofs.Rings.{ring-counted, ring-low}

-- sizes of classes in a view that is longer
class_size-append : (xs ys : List Atom) (x : ℕ) → class_size (xs ++ ys) x ≡ class_size xs x + class_size ys x
class_size-append [] ys x = omega arith
class_size-append (a ∷ xs) ys x = omega (arith, class_size-append xs ys x)

class_size-none : (view : List Atom) (x : ℕ) → ((i : ℕ) → i < length view → is_of x (get_or view i True) ≡ false) → class_size view x ≡ 0
class_size-none [] x none = refl
class_size-none (a ∷ view) x none =
    let first : one_if (is_of x a) ≡ 0 = ap one_if (none 0 (omega arith)) in
    omega (arith, first, class_size-none view x (λ i low. none (suc i) (omega arith)))

class_size-below : (first count x : ℕ) → x < first → class_size (own_labels first count) x ≡ 0
class_size-below first zero x h = refl
class_size-below first (suc count) x h =
    let head : one_if (first == x) ≡ 0 = ap one_if (ne_eqb first x (λ e. omega arith)) in
    omega (arith, head, class_size-below (first + 1) count x (omega arith))

class_size-own : (first count x : ℕ) → first ≤ x → x < first + count → class_size (own_labels first count) x ≡ 1
class_size-own first zero x low high = absurd (omega arith)
class_size-own first (suc count) x low high = ⊎_elim here (later (class_size-own (first + 1) count x)) (cases_eq first x)
  where
    here : first ≡ x → one_if (first == x) + class_size (own_labels (first + 1) count) x ≡ 1
    here e = omega (arith, ap one_if (eq-eqb first x e), class_size-below (first + 1) count x (omega arith))

    later : (first + 1 ≤ x → x < first + 1 + count → class_size (own_labels (first + 1) count) x ≡ 1) → (first ≡ x → ⊥) → one_if (first == x) + class_size (own_labels (first + 1) count) x ≡ 1
    later rest ne = omega (arith, ap one_if (ne_eqb first x ne), rest (omega arith) (omega arith))

-- no label is of a variable past the view
of-past : (view : List Atom) (x : ℕ) (a : Atom) → IsLabel view a → length view < x → is_of x a ≡ false
of-past view x True h past = refl
of-past view x False h past = refl
of-past view x (Of l) h past = ne_eqb l.var x (λ e. omega (arith, h.1))

-- variables are added, each its own label and alone in its class
module _ (labels : List Atom) (sizes next : List ℕ) (kept : IsKept labels sizes next) (more : ℕ) (small : length labels + more ≤ 2 ^ 27) where
  abbrev longer : List Atom
  longer = labels ++ own_labels (length labels + 1) more

  length-longer : length longer ≡ length labels + more
  length-longer = omega (arith, length-append labels (own_labels (length labels + 1) more), length-own_labels (length labels + 1) more)

  abbrev longer_sizes : List ℕ
  longer_sizes = sizes ++ replicate more 1

  abbrev longer_next : List ℕ
  longer_next = next ++ range_with_len (length next + 1) more

  -- the rings that were there stay
  old-size_in : (x : ℕ) → 1 ≤ x → x ≤ length labels → size_in longer_sizes x ≡ size_in sizes x
  old-size_in x low high = get_or_append_left sizes (replicate more 1) 0 (x - 1) (omega (arith, kept.sizes_are.count))

  old-behind : (v : ℕ) → 1 ≤ v → v ≤ length labels → behind longer_next v ≡ behind next v
  old-behind v low high = get_or_append_left next (range_with_len (length next + 1) more) 0 (v - 1) (omega (arith, kept.count))

  old-links : (x : ℕ) → 1 ≤ x → x ≤ length labels → IsOwnLabel labels x → (u : ℕ) → 1 ≤ times u (ring_of sizes next x) → behind longer_next u ≡ behind next u
  old-links x low high own u here =
      old-behind u (ring-low labels sizes next kept x u low high own here)
      (⊎_elim (λ (past : length labels < u). absurd (omega (arith, here, (ring-counted labels sizes next kept x low high own).outside u (λ l h. omega arith)))) (λ within. within) (cases_lt (length labels) u))

  old-ring : (x : ℕ) → 1 ≤ x → x ≤ length labels → IsOwnLabel labels x → ring_of longer_sizes longer_next x ≡ ring_of sizes next x
  old-ring x low high own =
      ap (walk_of (behind longer_next) x) (old-size_in x low high)
      ∙ walk_of-same (behind next) (behind longer_next) x (size_in sizes x) (old-links x low high own)

  old-closed : (x : ℕ) → 1 ≤ x → x ≤ length labels → IsOwnLabel labels x → place_after (behind longer_next) x (size_in longer_sizes x) ≡ x
  old-closed x low high own =
      ap (place_after (behind longer_next) x) (old-size_in x low high)
      ∙ place_after-same (behind next) (behind longer_next) x (size_in sizes x) (old-links x low high own)
      ∙ kept.closed x low high own

  old-counted : (x : ℕ) (ring : List ℕ) → x ≤ length labels → IsCounted labels x ring → IsCounted longer x ring
  old-counted x ring high c = record {
    inside = λ v low up. ⊎_elim (λ (past : length labels < v). c.outside v (λ l k. omega arith) ∙ sym (ap one_if (ap (is_of x) (label_of-added labels more v past) ∙ ne_eqb v x (λ e. omega arith))))
        (λ within. c.inside v low within ∙ ap (λ (a : Atom). one_if (is_of x a)) (sym (label_of-old labels (own_labels (length labels + 1) more) v low within))) (cases_lt (length labels) v);
    outside = λ v out. c.outside v (λ low up. out low (omega (arith, length-longer)));
  }

  -- each added variable is alone in its ring
  new-size_in : (x : ℕ) → length labels < x → x ≤ length longer → size_in longer_sizes x ≡ 1
  new-size_in x past high =
      get_or-append_right sizes (replicate more 1) (length sizes) (x - 1) 0 refl (omega (arith, kept.sizes_are.count))
      ∙ get_or-replicate more (x - 1 - length sizes) 1 0 (omega (arith, kept.sizes_are.count, length-longer))

  new-behind : (x : ℕ) → length labels < x → x ≤ length longer → behind longer_next x ≡ x
  new-behind x past high =
      get_or-append_right next (range_with_len (length next + 1) more) (length next) (x - 1) 0 refl (omega (arith, kept.count))
      ∙ get_or-range_with_len (length next + 1) more (x - 1 - length next) 0 (omega (arith, kept.count, length-longer))
      ∙ omega (arith, kept.count)

  new-ring : (x : ℕ) → length labels < x → x ≤ length longer → ring_of longer_sizes longer_next x ≡ x ∷ []
  new-ring x past high = ap (walk_of (behind longer_next) x) (new-size_in x past high)

  new-closed : (x : ℕ) → length labels < x → x ≤ length longer → place_after (behind longer_next) x (size_in longer_sizes x) ≡ x
  new-closed x past high = ap (place_after (behind longer_next) x) (new-size_in x past high) ∙ new-behind x past high

  label-past : (v x : ℕ) → 1 ≤ v → v ≤ length labels → length labels < x → is_of x (label_of longer v) ≡ false
  label-past v x low up past =
      ap (is_of x) (label_of-old labels (own_labels (length labels + 1) more) v low up) ∙ of-past labels x (label_of labels v) (kept.sizes_are.labelled v low up) past

  new-counted : (x : ℕ) → length labels < x → x ≤ length longer → IsCounted longer x (x ∷ [])
  new-counted x past high = record {
    inside = λ v low up. ⊎_elim (λ (far : length labels < v). ⊎_elim (λ (e : x ≡ v). times-same v x [] e ∙ sym (ap one_if (ap (is_of x) (label_of-added labels more v far) ∙ eq-eqb v x (sym e))))
        (λ ne. times-other v x [] ne ∙ sym (ap one_if (ap (is_of x) (label_of-added labels more v far) ∙ ne_eqb v x (λ e. ne (sym e))))) (cases_eq x v))
        (λ within. times-other v x [] (λ e. omega arith) ∙ sym (ap one_if (label-past v x low within past))) (cases_lt (length labels) v);
    outside = λ v out. times-other v x [] (λ e. out (omega arith) (omega arith));
  }

  old-size : (x : ℕ) → x ≤ length labels → class_size longer x ≡ class_size labels x
  old-size x high =
      omega (arith, class_size-append labels (own_labels (length labels + 1) more) x, class_size-below (length labels + 1) more x (omega arith))

  new-size : (x : ℕ) → length labels < x → x ≤ length longer → class_size longer x ≡ 1
  new-size x past high =
      let none : class_size labels x ≡ 0 = class_size-none labels x (λ i low. let e : i + 1 - 1 ≡ i = omega arith in
      ap (is_of x) (get_or_default labels i True (variable (i + 1)) low ∙ ap (λ (j : ℕ). get_or labels j (variable (i + 1))) (sym e))
      ∙ of-past labels x (label_of labels (i + 1)) (kept.sizes_are.labelled (i + 1) (omega arith) (omega arith)) past) in
      omega (arith, class_size-append labels (own_labels (length labels + 1) more) x, none, class_size-own (length labels + 1) more x (omega arith) (omega (arith, length-longer)))

  old-own : (x : ℕ) → 1 ≤ x → x ≤ length labels → IsOwnLabel longer x → IsOwnLabel labels x
  old-own x low high own = sym (label_of-old labels (own_labels (length labels + 1) more) x low high) ∙ own

  pub kept-grown : IsKept longer longer_sizes longer_next
  kept-grown = record {
    small = omega (arith, length-longer);
    sizes_are = record {
      labelled = IsLabelled-more labels more kept.sizes_are.labelled;
      count = omega (arith, length-append sizes (replicate more 1), length-replicate more (suc zero), kept.sizes_are.count, length-longer);
      sized = λ x low high own. ⊎_elim (λ (past : length labels < x). new-size_in x past high ∙ sym (new-size x past high))
          (λ within. old-size_in x low within ∙ kept.sizes_are.sized x low within (old-own x low within own) ∙ sym (old-size x within)) (cases_lt (length labels) x);
    };
    count = omega (arith, length-append next (range_with_len (length next + 1) more), length-range_with_len (length next + 1) more, kept.count, length-longer);
    walked = λ x low high own. ⊎_elim (λ (past : length labels < x). subst (IsWalk longer x) (sym (new-ring x past high)) (walk-from longer x (x ∷ []) (new-counted x past high)))
        (λ within. subst (IsWalk longer x) (sym (old-ring x low within (old-own x low within own))) (walk-from longer x (ring_of sizes next x) (old-counted x (ring_of sizes next x) within (ring-counted labels sizes next kept x low within (old-own x low within own))))) (cases_lt (length labels) x);
    closed = λ x low high own. ⊎_elim (λ (past : length labels < x). new-closed x past high)
        (λ within. old-closed x low within (old-own x low within own)) (cases_lt (length labels) x);
  }

-- the same of what is written step by step
pub written-grown : (labels : List Atom) (sizes next : List ℕ) (more : ℕ) (labels_after : List Atom) (sizes_after next_after : List ℕ) → IsKept labels sizes next → length labels + more ≤ 2 ^ 27 → labels_after ≡ labels ++ own_labels (length labels + 1) more → sizes_after ≡ sizes ++ replicate more 1 → next_after ≡ next ++ range_with_len (length next + 1) more → IsKept labels_after sizes_after next_after
written-grown labels sizes next more labels_after sizes_after next_after kept small e f g =
    subst (λ (l : List Atom). IsKept l sizes_after next_after) (sym e)
    (subst (λ (l : List ℕ). IsKept (labels ++ own_labels (length labels + 1) more) l next_after) (sym f)
    (subst (λ (l : List ℕ). IsKept (labels ++ own_labels (length labels + 1) more) (sizes ++ replicate more 1) l) (sym g)
    (kept-grown labels sizes next kept more small)))
