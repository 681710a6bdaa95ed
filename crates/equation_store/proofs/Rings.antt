-- The ring of a class: it begins at the label's variable, and no other class has its members.
use Rattle.std.proofs.Common.{◌≡◌, ◌≢◌, ℕ, ◌+◌, ◌-◌, ◌≤◌, ◌<◌, true, false, List, length, get_or, refl, ap, sym, ◌∙◌, arith, ⊎_elim, Some, None}
use Rattle.std.specs.Prelude.{if◌then◌else◌, ◌==◌}
use Rattle.std.proofs.lemmas.Bool.{true≢false, cases_lt, cases_eq, eq-eqb, ne_eqb, cond-true, cond-false}
use Rattle.std.proofs.lemmas.List.{get_or_default}
use Rattle.order_ints.specs.declared.atom.Atom.{Atom}
use Rattle.order_ints.specs.View.{label_of}
use Rattle.order_ints.specs.Label.{variable, IsLabel, IsOwnLabel}
use Rattle.index_ring.specs.Lists.{times, first_in, after_in}
use Rattle.equation_store.specs.Class.{is_of}
use Rattle.equation_store.specs.Merge.{size_in}
use Rattle.equation_store.specs.Ring.{behind, ring_of}
use Rattle.equation_store.specs.Store.{IsKept}
use Rattle.equation_store.proofs.Facts.{of_label, own_label}
use Rattle.equation_store.proofs.Counts.{one_if, of-one, IsCounted, counted-from, counted-apart}
use Rattle.equation_store.proofs.Steps.{some-steps, first_in-walk_of, after_in-ring}

-- a member whose link names the label's variable is the last of the walk, and the others are not
module _ (labels : List Atom) (d : Atom) (v x behind : ℕ) (low : 1 ≤ v) (high : v ≤ length labels) (of_x : is_of x (label_of labels v) ≡ true) where
  label-read : get_or labels (v - 1) d ≡ label_of labels v
  label-read = get_or_default labels (v - 1) d (variable v) (omega arith)

  pub comes-back : is_of behind (get_or labels (v - 1) d) ≡ true → None ≡ (if behind == x then None else Some behind)
  comes-back e =
      ⊎_elim (λ (same : behind ≡ x). sym (cond-true (behind == x) None (Some behind) (eq-eqb behind x same)))
      (λ ne. absurd (true≢false (sym e ∙ ap (is_of behind) label-read ∙ of-one x behind (label_of labels v) ne of_x))) (cases_eq behind x)

  pub goes-on : is_of behind (get_or labels (v - 1) d) ≡ false → Some behind ≡ (if behind == x then None else Some behind)
  goes-on e =
      ⊎_elim (λ (same : behind ≡ x). absurd (true≢false (sym of_x ∙ sym (ap (is_of x) label-read) ∙ ap (λ (y : ℕ). is_of y (get_or labels (v - 1) d)) (sym same) ∙ e)))
      (λ ne. sym (cond-false (behind == x) None (Some behind) (ne_eqb behind x ne))) (cases_eq behind x)

module _ (labels : List Atom) (sizes next : List ℕ) (k : IsKept labels sizes next) where
  pub ring-counted : (x : ℕ) → 1 ≤ x → x ≤ length labels → IsOwnLabel labels x → IsCounted labels x (ring_of sizes next x)
  ring-counted x low high own = counted-from labels x (ring_of sizes next x) (k.walked x low high own)

  pub own-once : (x : ℕ) → 1 ≤ x → x ≤ length labels → IsOwnLabel labels x → times x (ring_of sizes next x) ≡ 1
  own-once x low high own = (ring-counted x low high own).inside x low high ∙ ap one_if (ap (is_of x) own ∙ eq-eqb x x refl)

  pub some-size : (x : ℕ) → 1 ≤ x → x ≤ length labels → IsOwnLabel labels x → 1 ≤ size_in sizes x
  some-size x low high own = some-steps (behind next) x (size_in sizes x) (own-once x low high own)

  pub ring-begins : (x : ℕ) → 1 ≤ x → x ≤ length labels → IsOwnLabel labels x → first_in (ring_of sizes next x) ≡ Some x
  ring-begins x low high own = first_in-walk_of (behind next) x (size_in sizes x) (some-size x low high own)

  pub rings-apart : (x y v : ℕ) → y ≢ x → 1 ≤ x → x ≤ length labels → IsOwnLabel labels x → 1 ≤ y → y ≤ length labels → IsOwnLabel labels y → times v (ring_of sizes next y) + times v (ring_of sizes next x) ≤ 1
  rings-apart x y v ne low_x high_x own_x low_y high_y own_y =
      counted-apart labels x y (ring_of sizes next x) (ring_of sizes next y) ne (ring-counted x low_x high_x own_x) (ring-counted y low_y high_y own_y) v

  -- a member of another class is no label's variable
  pub not-within : (x y v : ℕ) → y ≢ x → 1 ≤ x → x ≤ length labels → IsOwnLabel labels x → 1 ≤ y → y ≤ length labels → IsOwnLabel labels y → 1 ≤ times v (ring_of sizes next y) → v ≢ x
  not-within x y v ne low_x high_x own_x low_y high_y own_y here e =
      let at_x : times v (ring_of sizes next y) ≡ times x (ring_of sizes next y) = ap (λ (u : ℕ). times u (ring_of sizes next y)) e in
      omega (arith, here, at_x, own-once x low_x high_x own_x, rings-apart x y x ne low_x high_x own_x low_y high_y own_y)

  -- what stands in a ring is a variable
  pub ring-low : (x v : ℕ) → 1 ≤ x → x ≤ length labels → IsOwnLabel labels x → 1 ≤ times v (ring_of sizes next x) → 1 ≤ v
  ring-low x v low high own here =
      ⊎_elim (λ (none : v < 1). absurd (omega (arith, here, (ring-counted x low high own).outside v (λ l h. omega arith)))) (λ some. some) (cases_lt v 1)

  -- behind a member stands the one that its link names, unless that is the label's variable
  pub ring-after : (x v : ℕ) → 1 ≤ v → v ≤ length labels → is_of x (label_of labels v) ≡ true → after_in v (ring_of sizes next x) ≡ (if behind next v == x then None else Some (behind next v))
  ring-after x v low high of_x =
      let label : IsLabel labels (label_of labels v) = k.sizes_are.labelled v low high in
      let range : (1 ≤ x) × (x ≤ length labels) = of_label labels x (label_of labels v) label of_x in
      let own : IsOwnLabel labels x = own_label labels x (label_of labels v) label of_x in
      after_in-ring (behind next) x (size_in sizes x) v (own-once x range.0 range.1 own) (k.closed x range.0 range.1 own)
      (omega (arith, (ring-counted x range.0 range.1 own).inside v low high, ap one_if of_x))
