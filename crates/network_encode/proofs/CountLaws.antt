-- The parts of a count stand for it.
use Rattle.std.proofs.Common.{◌≡◌, ℕ, zero, suc, ◌+◌, ◌-◌, ◌<◌, ◌≤◌, ◌^◌, Bool, true, false, ◌&&◌, List, [], ◌∷◌, ◌++◌, take, drop, length, length-drop, ℤ, pos, ◌+ℤ◌, refl, sym, ap, ◌∙◌, arith}
use Rattle.std.specs.Ordering.{int_eq}
use Rattle.std.proofs.lemmas.Int.{ints}
use Rattle.order_ints.specs.declared.atom.Atom.{Atom}
use Rattle.order_ints.specs.declared.order_int.OrdInt.{OrdInt}
use Rattle.order_ints.specs.Truth.{Valuation, Agree}
use Rattle.order_ints.specs.Place.{AtomsBelow}
use Rattle.order_ints.specs.OrderValue.{value_of}
use Rattle.order_ints.specs.OrderRange.{IntBelow}
use Rattle.order_ints.proofs.Gains.{StepsBelow-more}
use Rattle.order_ints.proofs.PlaceLaws.{AtomsBelow-up}
use Rattle.order_ints.proofs.Standing.{Agree-fewer, Agree-trans}
use Rattle.core_cost.specs.Network.{half_up, half_down, has_network, cheaper, cost_of_table, cost_of_network, cost_of_sum3_over}
use Rattle.core_cost.specs.Counts.{cost_of_half, cost_of_count}
use Rattle.core_cost.specs.Sums.{cost_of_sum3, unit_steps}
use Rattle.core_cost.proofs.CountLaws as costs
use Rattle.core_cost.proofs.ShapeLaws.{sum3-units}
use Rattle.core_cost.proofs.Monotone.{pairs-mono, one_step-floor}
use Rattle.core_forms.specs.declared.form.Core.TheVariants.{Count, Sum3}
use Rattle.core_forms.specs.Truths.{true_count}
use Rattle.core_forms.specs.Place.{CoreBelow}
use Rattle.core_forms.specs.Meaning.{ordered, core_truth, Meets}
use Rattle.core_forms.specs.WellFormed.{IsSound, IsWellFormed}
use Rattle.core_forms.specs.Shapes.{steps_of, shape_of}
use Rattle.core_forms.specs.Cost.{cost_of}
use Rattle.core_forms.specs.Cores.{MeetsAll, costs_of}
use Rattle.core_forms.proofs.Mapped.{core_truth-agree}
use Rattle.core_forms.proofs.CoreLists.{MeetsAll-one, MeetsAll-append, MeetsAll-agree, CoresBelow-append, CoresBelow-more, AreWellFormed-append, costs_of-append}
use Rattle.part_base.specs.PartsFor.{DoFit, ArePartsFor}
use Rattle.part_base.proofs.PartLaws.{parts-made}
use Rattle.network_encode.specs.CountParts.{half_int, half_fresh, half_cores, halves_parts, count_parts}
use Rattle.network_encode.proofs.TrueCounts.{count-halves}
use Rattle.network_encode.proofs.Halves.{IsCounted, counted, half-extended, shape-half, half-sound, half-greatest, half-below, half-cores_below, half-cores_formed, half-more, half-cost}

joined : (s t : Bool) → s ≡ true → t ≡ true → (s && t) ≡ true
joined true true h k = refl
joined true false h k = absurd (cc)
joined false t h k = absurd (cc)

-- the halves of a list
module _ (next : ℕ) (front back : List Atom) (c : OrdInt) where
  -- where the counts of the halves are met, their sum is met exactly where the count is
  sum-met : (σ : Valuation) → IsCounted σ (half_int next front) front → IsCounted σ (half_int (next + half_fresh front) back) back → (n : ℕ) → true_count σ front + true_count σ back ≡ n → core_truth σ (Sum3 (half_int next front) (half_int (next + half_fresh front) back) c) ≡ (ordered σ c && int_eq (value_of σ c) (pos n))
  sum-met σ first second n total =
      let x = half_int next front in
      let y = half_int (next + half_fresh front) back in
      let values : value_of σ (half_int next front) +ℤ value_of σ (half_int (next + half_fresh front) back) ≡ pos n =
      omega (arith, ints, first.value, second.value, total) in
      ap (λ b. (b && (ordered σ y && ordered σ c)) && int_eq (value_of σ x +ℤ value_of σ y) (value_of σ c)) first.in_order
      ∙ ap (λ b. (b && ordered σ c) && int_eq (value_of σ x +ℤ value_of σ y) (value_of σ c)) second.in_order
      ∙ ap (λ v. ordered σ c && int_eq v (value_of σ c)) values
      ∙ ap (λ b. ordered σ c && b) (turned (pos n) (value_of σ c))
    where
      turned : (v w : ℤ) → int_eq v w ≡ int_eq w v
      turned v w = grind (arith, ints)

  implies : (σ : Valuation) (ls : List Atom) → true_count σ front + true_count σ back ≡ true_count σ ls → MeetsAll σ (halves_parts next front back c).cores → Meets σ (Count ls c)
  implies σ ls total met =
      let x = half_cores next front in
      let y = half_cores (next + half_fresh front) back in
      let s = Sum3 (half_int next front) (half_int (next + half_fresh front) back) c in
      let parts = (MeetsAll-append σ (x ++ y) (s ∷ [])).0 met in
      let halves = (MeetsAll-append σ x y).0 parts.0 in
      sym (sum-met σ (counted σ next front halves.0) (counted σ (next + half_fresh front) back halves.1) (true_count σ ls) total) ∙ (MeetsAll-one σ s).0 parts.1

  extends : 1 ≤ next → AtomsBelow next front → AtomsBelow next back → IntBelow next c → (σ : Valuation) (ls : List Atom) → AtomsBelow next ls → ((τ : Valuation) → true_count τ front + true_count τ back ≡ true_count τ ls) → Meets σ (Count ls c) → (τ : Valuation) × Agree next σ τ × MeetsAll τ (halves_parts next front back c).cores
  extends least bf bb bc σ ls bl total met =
      let x = half_cores next front in
      let y = half_cores (next + half_fresh front) back in
      let s = Sum3 (half_int next front) (half_int (next + half_fresh front) back) c in
      let later : next ≤ next + half_fresh front = omega arith in
      let one = half-extended σ next front bf in
      let two = half-extended one.0 (next + half_fresh front) back (AtomsBelow-up next (next + half_fresh front) later back bb) in
      let same : Agree next σ two.0 = Agree-trans next σ one.0 two.0 one.1 (Agree-fewer next (next + half_fresh front) one.0 two.0 later two.1) in
      let first : MeetsAll two.0 (half_cores next front) =
      MeetsAll-agree (next + half_fresh front) one.0 two.0 x two.1 (half-cores_below next front least bf) one.2 in
      let kept : core_truth two.0 (Count ls c) ≡ true = sym (core_truth-agree next σ two.0 (Count ls c) (bl, (bc, tt)) same) ∙ met in
      let sum : Meets two.0 (Sum3 (half_int next front) (half_int (next + half_fresh front) back) c) =
      sum-met two.0 (counted two.0 next front first) (counted two.0 (next + half_fresh front) back two.2) (true_count two.0 ls) (total two.0) ∙ kept in
      (two.0, same, (MeetsAll-append two.0 (x ++ y) (s ∷ [])).1 ((MeetsAll-append two.0 x y).1 (first, two.2), (MeetsAll-one two.0 s).1 sum))

  fit : 1 ≤ next → AtomsBelow next front → AtomsBelow next back → IntBelow next c → length front + length front < 2 ^ 100 → length back + length back < 2 ^ 100 → length front + length back < 2 ^ 100 → IsSound c → DoFit next (halves_parts next front back c)
  fit least bf bb bc ff fb both sound =
      let x = half_cores next front in
      let y = half_cores (next + half_fresh front) back in
      let m = next + half_fresh front in
      let all = next + (half_fresh front + half_fresh back) in
      let up : next + half_fresh front ≤ next + (half_fresh front + half_fresh back) = omega arith in
      let bb_up = AtomsBelow-up next m (omega arith) back bb in
      let end : next + half_fresh front + half_fresh back ≡ next + (half_fresh front + half_fresh back) = omega arith in
      record {
        formed = AreWellFormed-append (x ++ y) _ (AreWellFormed-append x y (half-cores_formed next front ff) (half-cores_formed m back fb))
            ((half-sound next front (omega (arith, ff)), half-sound m back (omega (arith, fb)), sound, omega (arith, both, half-greatest next front, half-greatest m back)), tt);
        below = CoresBelow-append all (x ++ y) _
            (CoresBelow-append all x y (CoresBelow-more m all x up (half-cores_below next front least bf)) (CoresBelow-more (m + half_fresh back) all y (omega arith) (half-cores_below m back (omega (arith, least)) bb_up))) (
              (
                tt,
                (
                  StepsBelow-more m all (half_int next front).steps up (half-below next front least bf),
                  (StepsBelow-more (m + half_fresh back) all (half_int m back).steps (omega arith) (half-below m back (omega (arith, least)) bb_up), (StepsBelow-more next all c.steps (omega arith) bc, tt)),
                ),
              ),
              tt,
            );
      }

  -- what the parts cost
  parts-cost : half_fresh front + half_fresh back + costs_of (halves_parts next front back c).cores ≡ cost_of_half (length front) (cost_of_count (length front) (length front)) + cost_of_half (length back) (cost_of_count (length back) (length back)) + cost_of_sum3 (unit_steps (length front)) (unit_steps (length back)) (steps_of c)
  parts-cost =
      let x = half_cores next front in
      let y = half_cores (next + half_fresh front) back in
      let s = Sum3 (half_int next front) (half_int (next + half_fresh front) back) c in
      let shapes : cost_of_sum3 (shape_of (half_int next front)) (shape_of (half_int (next + half_fresh front) back)) (steps_of c) ≡ cost_of_sum3 (unit_steps (length front)) (unit_steps (length back)) (steps_of c) =
      λ i. cost_of_sum3 (shape-half next front i) (shape-half (next + half_fresh front) back i) (steps_of c) in
      omega (arith, costs_of-append (x ++ y) (s ∷ []), costs_of-append x y, half-cost next front, half-cost (next + half_fresh front) back, shapes)

-- atoms below a bound, of which some are taken
AtomsBelow-take : (n k : ℕ) (ls : List Atom) → AtomsBelow n ls → AtomsBelow n (take k ls)
AtomsBelow-take n zero ls below = tt
AtomsBelow-take n (suc k) [] below = tt
AtomsBelow-take n (suc k) (l ∷ ls) below = (below.0, AtomsBelow-take n k ls below.1)

AtomsBelow-drop : (n k : ℕ) (ls : List Atom) → AtomsBelow n ls → AtomsBelow n (drop k ls)
AtomsBelow-drop n zero ls below = below
AtomsBelow-drop n (suc k) [] below = tt
AtomsBelow-drop n (suc k) (l ∷ ls) below = AtomsBelow-drop n k ls below.1

taken-length : (k : ℕ) (ls : List Atom) → k ≤ length ls → length (take k ls) ≡ k
taken-length zero ls h = refl
taken-length (suc k) [] h = absurd (omega (arith, h))
taken-length (suc k) (l ∷ ls) h = ap suc (taken-length k ls (omega (arith, h)))

-- a half has at most the members that its cost counts, and one more
half-bound : (h counted : ℕ) → h ≤ cost_of_half h counted + 1
half-bound zero counted = omega arith
half-bound (suc zero) counted = omega arith
half-bound (suc (suc h)) counted = omega (arith, half-more (suc (suc h)) counted (omega arith))

-- the lengths of the halves
up-le : (n : ℕ) → half_up n ≤ n
up-le n = omega arith

down-rest : (n : ℕ) → n - half_up n ≡ half_down n
down-rest n = omega arith

-- the cost of a count by its halves
split-cost : (n c : ℕ) → cost_of_half (half_up n) (cost_of_count (half_up n) (half_up n)) + cost_of_half (half_down n) (cost_of_count (half_down n) (half_down n)) + cost_of_sum3 (unit_steps (half_up n)) (unit_steps (half_down n)) c ≡ cost_of_count n c
split-cost zero c = omega (arith, sum3-units 0 0 c, costs.count_of_few 0 c (omega arith))
split-cost (suc zero) c = omega (arith, sum3-units 1 0 c, costs.count_of_few 1 c (omega arith))
split-cost (suc (suc n)) c =
    omega (arith, sum3-units (half_up (suc (suc n))) (half_down (suc (suc n))) c, costs.count_of_halves (suc (suc n)) c (omega arith))

-- a sum of two integers costs something, and so a count costs at least its members
cheaper-floor : (stands : Bool) (table network : ℕ) → 2 ≤ table → (stands ≡ true → 2 ≤ network) → 2 ≤ cheaper stands table network
cheaper-floor true table network low high = let h = high refl in omega (arith, low, h)
cheaper-floor false table network low high = low

sum-floor : (n m c N M : ℕ) → 2 ≤ cost_of_sum3_over n m c N M
sum-floor n m c N M =
    omega (
      arith,
      cheaper-floor (has_network N M) (cost_of_table n m) (cost_of_network N M c) (omega (arith, pairs-mono 0 0 n m (omega arith) (omega arith)))
          (λ e. omega (arith, one_step-floor N M c e)),
    )

pub count-floor : (n c : ℕ) → n ≤ cost_of_count n c
count-floor n c =
    omega (
      arith,
      split-cost n c,
      half-bound (half_up n) (cost_of_count (half_up n) (half_up n)),
      half-bound (half_down n) (cost_of_count (half_down n) (half_down n)),
      sum3-units (half_up n) (half_down n) c,
      sum-floor (half_up n) (half_down n) c (half_up n) (half_down n),
    )

pub count_parts-for : (next : ℕ) (ls : List Atom) (c : OrdInt) → IsWellFormed (Count ls c) → 1 ≤ next → CoreBelow next (Count ls c) → next + cost_of (Count ls c) ≤ 2 ^ 27 → ArePartsFor (Count ls c) next (count_parts next ls c)
count_parts-for next ls c well least below room =
    let n = length ls in
    let k = half_up (length ls) in
    let front = take (half_up (length ls)) ls in
    let back = drop (half_up (length ls)) ls in
    let ef : length (take (half_up (length ls)) ls) ≡ half_up (length ls) = taken-length (half_up (length ls)) ls (up-le (length ls)) in
    let eb : length (drop (half_up (length ls)) ls) ≡ half_down (length ls) = length-drop (half_up (length ls)) ls ∙ down-rest (length ls) in
    let bf = AtomsBelow-take next (half_up (length ls)) ls below.0 in
    let bb = AtomsBelow-drop next (half_up (length ls)) ls below.0 in
    let bc = below.1.0 in
    let total : (τ : Valuation) → true_count τ (take (half_up (length ls)) ls) + true_count τ (drop (half_up (length ls)) ls) ≡ true_count τ ls =
    λ τ. count-halves τ (half_up (length ls)) ls in
    let costs_so : half_fresh (take (half_up (length ls)) ls) + half_fresh (drop (half_up (length ls)) ls) + costs_of (count_parts next ls c).cores ≡ cost_of_count (length ls) (steps_of c) =
    parts-cost next front back c
    ∙ (λ i. cost_of_half (ef i) (cost_of_count (ef i) (ef i)) + cost_of_half (eb i) (cost_of_count (eb i) (eb i)) + cost_of_sum3 (unit_steps (ef i)) (unit_steps (eb i)) (steps_of c))
    ∙ split-cost (length ls) (steps_of c) in
    let bound_f = half-bound (half_up (length ls)) (cost_of_count (half_up (length ls)) (half_up (length ls))) in
    let bound_b = half-bound (half_down (length ls)) (cost_of_count (half_down (length ls)) (half_down (length ls))) in
    let whole = split-cost (length ls) (steps_of c) in
    let ff : length (take (half_up (length ls)) ls) ≤ 2 ^ 28 = omega (arith, ef, bound_f, whole, room) in
    let fb : length (drop (half_up (length ls)) ls) ≤ 2 ^ 28 = omega (arith, eb, bound_b, whole, room) in
    parts-made (Count ls c) next (count_parts next ls c) below
    (fit next front back c least bf bb bc (omega (arith, ff)) (omega (arith, fb)) (omega (arith, ff, fb)) well.0)
    (omega (arith, costs_so))
    (λ σ. implies next front back c σ ls (total σ))
    (λ σ. extends next front back c least bf bb bc σ ls below.0 total)
