-- The parts of a sum by a merge network stand for it.
--
-- Of the two sums' true atoms the odd places have at most two more than the even ones, so that one row of comparators puts all
-- in order.
use Rattle.std.proofs.Common.{◌≡◌, ℕ, zero, suc, ◌+◌, ◌*◌, ◌-◌, ◌≤◌, Bool, true, false, ◌&&◌, List, [], ◌∷◌, ◌++◌, length, ◌+ℤ◌, refl, sym, ap, subst, ◌∙◌, arith}
use Rattle.std.specs.Bool.{beq}
use Rattle.std.specs.Ordering.{int_eq}
use Rattle.std.proofs.lemmas.Int.{ints}
use Rattle.order_ints.specs.Label.{own_labels, variable}
use Rattle.order_ints.specs.declared.atom.Atom.{Atom}
use Rattle.order_ints.specs.declared.atom.Atom.TheVariants.{True}
use Rattle.order_ints.specs.declared.order_int.OrdInt.{OrdInt}
use Rattle.order_ints.specs.Truth.{Valuation, Agree}
use Rattle.order_ints.specs.Place.{AtomsBelow}
use Rattle.order_ints.specs.OrderValue.{gains, value_of}
use Rattle.order_ints.proofs.Gains.{gains-agree}
use Rattle.order_ints.proofs.PlaceLaws.{AtomsBelow-up}
use Rattle.order_ints.proofs.Standing.{Agree-fewer, Agree-trans}
use Rattle.core_cost.specs.Network.{half_up, half_down}
use Rattle.core_forms.specs.declared.form.Core.TheVariants.{Ladder, EqR, Sum3}
use Rattle.core_forms.specs.Truths.{true_count}
use Rattle.core_forms.specs.Place.{CoreBelow}
use Rattle.core_forms.specs.Meaning.{ordered, core_truth, Meets}
use Rattle.core_forms.specs.Cores.{MeetsAll}
use Rattle.core_forms.proofs.Mapped.{core_truth-agree}
use Rattle.core_forms.proofs.CoreLists.{MeetsAll-one, MeetsAll-append, MeetsAll-first}
use Rattle.network_encode.specs.MergeParts.{units_of, odd_places, even_places, unit_sum, odd_steps, even_steps, further_odd, all_even, row_cores, row_wires, comparators, wires, merged_int, half_sums, network_parts}
use Rattle.network_encode.proofs.Halves.{and-left, and-right, int-same, same-int, count-le}
use Rattle.network_encode.proofs.Sorted.{Sorted, sorted-count, sorted-same, sorted-agree, sorted-ordered, sorted-odd, sorted-even, units-sorted, gains-weighted}
use Rattle.network_encode.proofs.Rows.{sorted-row, row-extends, vars-below}
use Rattle.network_encode.proofs.UnitLaws.{AreMultiples, gains-units, length-odd, length-even, all-orders, sum-sorted, sorted-sum, fresh-sorted}

-- ---- the wires

pub first-var : (next n : ℕ) → 1 ≤ n → own_labels next n ≡ variable next ∷ further_odd next n
first-var next zero some = absurd (omega (arith, some))
first-var next (suc n) some =
    let e : n ≡ suc n - 1 = omega arith in ap (λ count. variable next ∷ own_labels (next + 1) count) e

-- the first atom of the odd ones is true where any atom is; the comparators put the others in order
wires-behind : (σ : Valuation) (next x y fresh : ℕ) (ds es : List Atom) → y ≤ x → x ≤ y + 2 → Sorted σ x (variable next ∷ ds) → Sorted σ y es → MeetsAll σ (row_cores fresh ds es) → Sorted σ (x + y) (variable next ∷ row_wires fresh ds es)
wires-behind σ next zero y fresh ds es more few odd even met =
    let none : y ≡ 0 = omega (arith, more) in
    let row = sorted-row σ fresh 0 y ds es (omega arith) (omega (arith, none)) odd.1 even met in
    let count : 0 + y ≡ 0 = omega (arith, none) in
    sorted-same σ 0 (zero + y) (variable next ∷ row_wires fresh ds es) (sym count) (odd.0, sorted-same σ (0 + y) 0 (row_wires fresh ds es) count row)
wires-behind σ next (suc x) y fresh ds es more few odd even met =
    let row = sorted-row σ fresh x y ds es (omega (arith, few)) (omega (arith, more)) odd.1 even met in
    sorted-same σ (suc (x + y)) (suc x + y) (variable next ∷ row_wires fresh ds es) (omega arith) (odd.0, row)

pub wires-sorted : (σ : Valuation) (next n k x y : ℕ) → 1 ≤ n → y ≤ x → x ≤ y + 2 → Sorted σ x (own_labels next n) → Sorted σ y (all_even next n k) → MeetsAll σ (comparators next n k) → Sorted σ (x + y) (wires next n k)
wires-sorted σ next n k x y some more few odd even met =
    wires-behind σ next x y (next + n + k) (further_odd next n) (all_even next n k) more few
    (subst (λ (ls : List Atom). Sorted σ x ls) (first-var next n some) odd) even met

-- ---- meanings of the parts

equal-true : (s t : Bool) (v : Bool) → s ≡ true → t ≡ true → v ≡ true → ((s && t) && beq true v) ≡ true
equal-true true true true a b c = refl
equal-true true true false a b c = absurd (cc)
equal-true true false v a b c = absurd (cc)
equal-true false t v a b c = absurd (cc)

true-equal : (v : Bool) → beq true v ≡ true → v ≡ true
true-equal true h = refl
true-equal false h = absurd (cc)

-- the two rounded halves of two numbers
up-more : (j k : ℕ) → half_down j + half_down k ≤ half_up j + half_up k
up-more j k = omega arith

up-few : (j k : ℕ) → half_up j + half_up k ≤ half_down j + half_down k + 2
up-few j k = omega arith

both-halves : (j k : ℕ) → half_up j + half_up k + (half_down j + half_down k) ≡ j + k
both-halves j k = omega arith

module _ (next : ℕ) (a b c : OrdInt) (g : ℕ) (ls ms : List Atom) (some : 1 ≤ odd_steps ls ms) where
  -- what all wires weigh together
  merged-value : (σ : Valuation) (j k : ℕ) → gains σ a.steps ≡ g * j → gains σ b.steps ≡ g * k → Sorted σ (j + k) (wires next (odd_steps ls ms) (even_steps ls ms)) → value_of σ (merged_int next a b g ls ms) ≡ value_of σ a +ℤ value_of σ b
  merged-value σ j k first second h =
      let whole : gains σ (merged_int next a b g ls ms).steps ≡ g * (j + k) =
      gains-weighted σ g (wires next (odd_steps ls ms) (even_steps ls ms)) ∙ ap (λ n. g * n) (sorted-count σ (j + k) (wires next (odd_steps ls ms) (even_steps ls ms)) h) in
      let split : g * (j + k) ≡ g * j + g * k = omega arith in
      omega (arith, ints, whole, split, first, second)

  -- both sides in order, with so many units that are true
  pub record SidesIn (σ : Valuation) (j k : ℕ) : Type 0 where
    pub first : Sorted σ j ls
    pub second : Sorted σ k ms
    pub first_gain : gains σ a.steps ≡ g * j
    pub second_gain : gains σ b.steps ≡ g * k

  -- the wires are in order where both sides, their sums and the comparators are
  in-order : (σ : Valuation) (j k : ℕ) → SidesIn σ j k → Sorted σ (half_up j + half_up k) (own_labels next (odd_steps ls ms)) → Sorted σ (half_down j + half_down k) (all_even next (odd_steps ls ms) (even_steps ls ms)) → MeetsAll σ (comparators next (odd_steps ls ms) (even_steps ls ms)) → Sorted σ (j + k) (wires next (odd_steps ls ms) (even_steps ls ms))
  in-order σ j k sides odd even row =
      sorted-same σ (half_up j + half_up k + (half_down j + half_down k)) (j + k) (wires next (odd_steps ls ms) (even_steps ls ms)) (both-halves j k)
      (wires-sorted σ next (odd_steps ls ms) (even_steps ls ms) (half_up j + half_up k) (half_down j + half_down k) some (up-more j k) (up-few j k) odd even row)

  -- ---- the parts imply the sum

  implied : (σ : Valuation) (j k : ℕ) → SidesIn σ j k → ordered σ a ≡ true → ordered σ b ≡ true → MeetsAll σ (half_sums next ls ms) → MeetsAll σ (comparators next (odd_steps ls ms) (even_steps ls ms)) → Meets σ (EqR True (merged_int next a b g ls ms) c) → Meets σ (Sum3 a b c)
  implied σ j k sides oa ob sums row equal =
      let f = merged_int next a b g ls ms in
      let both = (MeetsAll-first σ (unit_sum next (odd_places ls) (odd_places ms)) (unit_sum (next + odd_steps ls ms) (even_places ls) (even_places ms) ∷ [])).0 sums in
      let last = (MeetsAll-one σ (unit_sum (next + odd_steps ls ms) (even_places ls) (even_places ms))).0 both.1 in
      let odd = sum-sorted σ next (half_up j) (half_up k) (odd_places ls) (odd_places ms) (sorted-odd σ j ls sides.first) (sorted-odd σ k ms sides.second) both.0 in
      let even = sum-sorted σ (next + odd_steps ls ms) (half_down j) (half_down k) (even_places ls) (even_places ms) (sorted-even σ j ls sides.first) (sorted-even σ k ms sides.second) last in
      let value = merged-value σ j k sides.first_gain sides.second_gain (in-order σ j k sides odd even row) in
      let orders = ordered σ f && ordered σ c in
      let same = int_eq (value_of σ f) (value_of σ c) in
      let oc = and-right (ordered σ f) (ordered σ c) (and-left orders (beq true same) equal) in
      let is = int-same (value_of σ f) (value_of σ c) (true-equal same (and-right orders (beq true same) equal)) in
      all-orders (ordered σ a) (ordered σ b) (ordered σ c) (int_eq (value_of σ a +ℤ value_of σ b) (value_of σ c)) oa ob oc
      (same-int (value_of σ a +ℤ value_of σ b) (value_of σ c) (sym value ∙ is))

  pub implies : (σ : Valuation) → ((τ : Valuation) → ordered τ a ≡ true → ordered τ b ≡ true → (j : ℕ) × (k : ℕ) × SidesIn τ j k) → MeetsAll σ (network_parts next a b c g ls ms).cores → Meets σ (Sum3 a b c)
  implies σ sides met =
      let n = odd_steps ls ms in
      let k = even_steps ls ms in
      let one = (MeetsAll-append σ (Ladder a ∷ Ladder b ∷ half_sums next ls ms) (comparators next n k ++ EqR True (merged_int next a b g ls ms) c ∷ [])).0 met in
      let two = (MeetsAll-append σ (comparators next n k) (EqR True (merged_int next a b g ls ms) c ∷ [])).0 one.1 in
      let la = (MeetsAll-first σ (Ladder a) (Ladder b ∷ half_sums next ls ms)).0 one.0 in
      let lb = (MeetsAll-first σ (Ladder b) (half_sums next ls ms)).0 la.1 in
      let s = sides σ la.0 lb.0 in
      implied σ s.0 s.1 s.2 la.0 lb.0 lb.1 two.0 ((MeetsAll-one σ (EqR True (merged_int next a b g ls ms) c)).0 two.1)

  -- ---- each valuation that meets the sum can be changed so that it meets the parts

  met-parts : (τ : Valuation) (j k : ℕ) → SidesIn τ j k → Meets τ (Sum3 a b c) → Sorted τ (half_up j + half_up k) (own_labels next (odd_steps ls ms)) → Sorted τ (half_down j + half_down k) (all_even next (odd_steps ls ms) (even_steps ls ms)) → MeetsAll τ (comparators next (odd_steps ls ms) (even_steps ls ms)) → MeetsAll τ (network_parts next a b c g ls ms).cores
  met-parts τ j k sides met odd even row =
      let f = merged_int next a b g ls ms in
      let orders = ordered τ a && (ordered τ b && ordered τ c) in
      let same = int_eq (value_of τ a +ℤ value_of τ b) (value_of τ c) in
      let all = and-left orders same met in
      let oa = and-left (ordered τ a) (ordered τ b && ordered τ c) all in
      let others = and-right (ordered τ a) (ordered τ b && ordered τ c) all in
      let ob = and-left (ordered τ b) (ordered τ c) others in
      let oc = and-right (ordered τ b) (ordered τ c) others in
      let is = int-same (value_of τ a +ℤ value_of τ b) (value_of τ c) (and-right orders same met) in
      let first = sorted-sum τ next (half_up j) (half_up k) (odd_places ls) (odd_places ms) (sorted-odd τ j ls sides.first) (sorted-odd τ k ms sides.second) odd in
      let second = sorted-sum τ (next + odd_steps ls ms) (half_down j) (half_down k) (even_places ls) (even_places ms) (sorted-even τ j ls sides.first) (sorted-even τ k ms sides.second) even in
      let whole = in-order τ j k sides odd even row in
      let value = merged-value τ j k sides.first_gain sides.second_gain whole in
      let equal : core_truth τ (EqR True (merged_int next a b g ls ms) c) ≡ true =
      equal-true (ordered τ f) (ordered τ c) (int_eq (value_of τ f) (value_of τ c))
      (sorted-ordered τ g (j + k) (wires next (odd_steps ls ms) (even_steps ls ms)) whole) oc (same-int (value_of τ f) (value_of τ c) (value ∙ is)) in
      let sums = (MeetsAll-first τ (unit_sum next (odd_places ls) (odd_places ms)) (unit_sum (next + odd_steps ls ms) (even_places ls) (even_places ms) ∷ [])).1 (first, (MeetsAll-one τ (unit_sum (next + odd_steps ls ms) (even_places ls) (even_places ms))).1 second) in
      let ladders = (MeetsAll-first τ (Ladder a) (Ladder b ∷ half_sums next ls ms)).1 (oa, (MeetsAll-first τ (Ladder b) (half_sums next ls ms)).1 (ob, sums)) in
      (MeetsAll-append τ (Ladder a ∷ Ladder b ∷ half_sums next ls ms) (comparators next (odd_steps ls ms) (even_steps ls ms) ++ EqR True (merged_int next a b g ls ms) c ∷ [])).1 (
        ladders,
        (MeetsAll-append τ (comparators next (odd_steps ls ms) (even_steps ls ms)) (EqR True (merged_int next a b g ls ms) c ∷ [])).1
            (row, (MeetsAll-one τ (EqR True (merged_int next a b g ls ms) c)).1 equal),
      )

  -- the variables of the wires that the row compares
  odd-places_below : AtomsBelow (next + odd_steps ls ms + even_steps ls ms) (further_odd next (odd_steps ls ms))
  odd-places_below =
      vars-below (next + odd_steps ls ms + even_steps ls ms) (next + 1) (odd_steps ls ms - 1) (omega arith) (omega (arith, some))

  even-places_below : 1 ≤ next → AtomsBelow (next + odd_steps ls ms + even_steps ls ms) (all_even next (odd_steps ls ms) (even_steps ls ms))
  even-places_below least =
      vars-below (next + odd_steps ls ms + even_steps ls ms) (next + odd_steps ls ms) (even_steps ls ms) (omega (arith, least)) (omega arith)

  -- the variables of the first sum, then those of the second and then those of the comparators are changed
  changed : (σ ρ υ τ : Valuation) (j k : ℕ) → 1 ≤ next → CoreBelow next (Sum3 a b c) → AtomsBelow next ls → AtomsBelow next ms → SidesIn σ j k → Meets σ (Sum3 a b c) → Agree next σ ρ → Sorted ρ (half_up j + half_up k) (own_labels next (odd_steps ls ms)) → Agree (next + odd_steps ls ms) ρ υ → Sorted υ (half_down j + half_down k) (all_even next (odd_steps ls ms) (even_steps ls ms)) → Agree (next + odd_steps ls ms + even_steps ls ms) υ τ → MeetsAll τ (comparators next (odd_steps ls ms) (even_steps ls ms)) → Agree next σ τ × MeetsAll τ (network_parts next a b c g ls ms).cores
  changed σ ρ υ τ j k least below bl bm sides met one odd two even three row =
      let n = odd_steps ls ms in
      let m = even_steps ls ms in
      let to_two : Agree next ρ υ = Agree-fewer next (next + n) ρ υ (omega arith) two in
      let to_three : Agree next υ τ = Agree-fewer next (next + n + m) υ τ (omega arith) three in
      let same : Agree next σ τ = Agree-trans next σ υ τ (Agree-trans next σ ρ υ one to_two) to_three in
      let bo : AtomsBelow (next + odd_steps ls ms) (own_labels next (odd_steps ls ms)) = vars-below (next + odd_steps ls ms) next (odd_steps ls ms) least (omega arith) in
      let odd_two = sorted-agree (next + n) ρ υ (half_up j + half_up k) (own_labels next n) two bo odd in
      let odd_three = sorted-agree (next + n + m) υ τ (half_up j + half_up k) (own_labels next n) three (AtomsBelow-up (next + n) (next + n + m) (omega arith) (own_labels next n) bo) odd_two in
      let even_three = sorted-agree (next + n + m) υ τ (half_down j + half_down k) (all_even next n m) three (even-places_below least) even in
      let kept : core_truth τ (Sum3 a b c) ≡ true = sym (core_truth-agree next σ τ (Sum3 a b c) below same) ∙ met in
      let sides_three : SidesIn τ j k = record {
        first = sorted-agree next σ τ j ls same bl sides.first;
        second = sorted-agree next σ τ k ms same bm sides.second;
        first_gain = sym (gains-agree next σ τ a.steps same below.1.0) ∙ sides.first_gain;
        second_gain = sym (gains-agree next σ τ b.steps same below.1.1.0) ∙ sides.second_gain;
      } in
      (same, met-parts τ j k sides_three kept odd_three even_three row)

  extends-at : 1 ≤ next → CoreBelow next (Sum3 a b c) → AtomsBelow next ls → AtomsBelow next ms → (σ : Valuation) (j k : ℕ) → SidesIn σ j k → Meets σ (Sum3 a b c) → (τ : Valuation) × Agree next σ τ × MeetsAll τ (network_parts next a b c g ls ms).cores
  extends-at least below bl bm σ j k sides met =
      let n = odd_steps ls ms in
      let m = even_steps ls ms in
      let fj : j ≤ length ls = omega (arith, sorted-count σ j ls sides.first, count-le σ ls) in
      let fk : k ≤ length ms = omega (arith, sorted-count σ k ms sides.second, count-le σ ms) in
      let one = fresh-sorted σ next n (half_up j + half_up k) (omega (arith, fj, fk, length-odd ls, length-odd ms)) in
      let two = fresh-sorted one.0 (next + n) m (half_down j + half_down k) (omega (arith, fj, fk, length-even ls, length-even ms)) in
      let three = row-extends two.0 (next + n + m) (further_odd next n) (all_even next n m) odd-places_below (even-places_below least) in
      let all = changed σ one.0 two.0 three.0 j k least below bl bm sides met one.1 one.2 two.1 two.2 three.1 three.2 in
      (three.0, all.0, all.1)

  pub extends : 1 ≤ next → CoreBelow next (Sum3 a b c) → AtomsBelow next ls → AtomsBelow next ms → ((τ : Valuation) → ordered τ a ≡ true → ordered τ b ≡ true → (j : ℕ) × (k : ℕ) × SidesIn τ j k) → (σ : Valuation) → Meets σ (Sum3 a b c) → (τ : Valuation) × Agree next σ τ × MeetsAll τ (network_parts next a b c g ls ms).cores
  extends least below bl bm sides σ met =
      let orders = ordered σ a && (ordered σ b && ordered σ c) in
      let all = and-left orders (int_eq (value_of σ a +ℤ value_of σ b) (value_of σ c)) met in
      let oa = and-left (ordered σ a) (ordered σ b && ordered σ c) all in
      let ob = and-left (ordered σ b) (ordered σ c) (and-right (ordered σ a) (ordered σ b && ordered σ c) all) in
      let s = sides σ oa ob in extends-at least below bl bm σ s.0 s.1 s.2 met

-- both sides in order have so many true units
pub sides-of : (next : ℕ) (a b c : OrdInt) (g : ℕ) (some : 1 ≤ odd_steps (units_of g a.steps) (units_of g b.steps)) → AreMultiples g a.steps → AreMultiples g b.steps → (τ : Valuation) → ordered τ a ≡ true → ordered τ b ≡ true → (j : ℕ) × (k : ℕ) × SidesIn next a b c g (units_of g a.steps) (units_of g b.steps) some τ j k
sides-of next a b c g some first second τ oa ob = (
  true_count τ (units_of g a.steps),
  true_count τ (units_of g b.steps),
  record {
    first = units-sorted τ g a.steps oa;
    second = units-sorted τ g b.steps ob;
    first_gain = gains-units τ g a.steps first;
    second_gain = gains-units τ g b.steps second;
  },
)
