-- The parts of a sum by a merge network are well formed and over the variables that they may have, and what they cost.
use Rattle.std.proofs.Common.{◌≡◌, ℕ, ◌+◌, ◌*◌, ◌-◌, ◌/◌, ◌<◌, ◌≤◌, ◌^◌, min, max, List, [], ◌∷◌, ◌++◌, length, ℤ, pos, ◌+ℤ◌, ap, ◌∙◌, arith}
use Rattle.std.specs.Prelude.{unsigned_abs}
use Rattle.std.proofs.lemmas.Int.{ints}
use Rattle.order_ints.specs.declared.atom.Atom.{Atom}
use Rattle.order_ints.specs.declared.atom.Atom.TheVariants.{True}
use Rattle.order_ints.specs.declared.order_int.OrdInt.{OrdInt}
use Rattle.order_ints.specs.Place.{AtomsBelow}
use Rattle.order_ints.specs.OrderRange.{weights}
use Rattle.order_ints.proofs.Gains.{StepsBelow-more}
use Rattle.order_ints.proofs.PlaceLaws.{AtomsBelow-up}
use Rattle.core_cost.specs.Comparisons.{cost_of_ladder, cost_of_eq}
use Rattle.core_cost.specs.Network.{half_up, half_down, cost_of_unit_sum, cost_of_network}
use Rattle.core_forms.specs.declared.form.Core.TheVariants.{Ladder, EqR, Sum3}
use Rattle.core_forms.specs.Place.{CoreBelow}
use Rattle.core_forms.specs.WellFormed.{IsSound, IsWellFormed, greatest_abs}
use Rattle.core_forms.specs.Shapes.{steps_of}
use Rattle.core_forms.specs.Cores.{CoresBelow, AreWellFormed, costs_of}
use Rattle.core_forms.proofs.CoreLists.{CoresBelow-append, AreWellFormed-append, costs_of-append}
use Rattle.part_base.specs.PartsFor.{DoFit}
use Rattle.network_encode.specs.MergeParts.{odd_places, even_places, weighted, odd_steps, even_steps, further_odd, all_even, comparators, wires, merged_int, half_sums, network_parts}
use Rattle.network_encode.proofs.Sorted.{weights-weighted}
use Rattle.network_encode.proofs.Rows.{vars-below, length-vars, row_cores-below, row_wires-below, row_cores-formed, row_cores-cost, length-row_wires}
use Rattle.network_encode.proofs.UnitLaws.{odd-below, even-below, length-odd, length-even, weighted-below, length-weighted, weighted-rising, unit_sum-cost, unit_sum-formed, unit_sum-below}

-- as many wires as steps of the two sums
length-wires : (next n k : ℕ) → 1 ≤ n → length (wires next n k) ≡ n + k
length-wires next n k some =
    omega (arith, some, length-row_wires (next + n + k) (further_odd next n) (all_even next n k), length-vars (next + 1) (n - 1), length-vars (next + n) k)

-- which are as many as units of both sides
steps-units : (ls ms : List Atom) → odd_steps ls ms + even_steps ls ms ≡ length ls + length ms
steps-units ls ms = omega (arith, length-odd ls, length-odd ms, length-even ls, length-even ms)

module _ (next : ℕ) (a b c : OrdInt) (g : ℕ) (ls ms : List Atom) (some : 1 ≤ odd_steps ls ms) where
  wires-units : length (wires next (odd_steps ls ms) (even_steps ls ms)) ≡ length ls + length ms
  wires-units = length-wires next (odd_steps ls ms) (even_steps ls ms) some ∙ steps-units ls ms

  -- ---- limits

  bounded-sum : (x y : ℤ) (v w : ℕ) → max (unsigned_abs x) (unsigned_abs (x +ℤ pos v)) + max (unsigned_abs y) (unsigned_abs (y +ℤ pos w)) < 2 ^ 100 → (unsigned_abs (x +ℤ y) < 2 ^ 100) × (unsigned_abs (x +ℤ y +ℤ pos (v + w)) < 2 ^ 100)
  bounded-sum x y v w h = (omega (arith, ints, h), omega (arith, ints, h))

  merged-sound : 1 ≤ g → weights a.steps ≡ g * length ls → weights b.steps ≡ g * length ms → greatest_abs a + greatest_abs b < 2 ^ 100 → IsSound (merged_int next a b g ls ms)
  merged-sound unit first second limit =
      let w = wires next (odd_steps ls ms) (even_steps ls ms) in
      let all : weights (merged_int next a b g ls ms).steps ≡ weights a.steps + weights b.steps =
      let weight = weights-weighted g (wires next (odd_steps ls ms) (even_steps ls ms)) ∙ ap (λ n. g * n) wires-units in
      let split : g * (length ls + length ms) ≡ g * length ls + g * length ms = omega arith in
      omega (arith, weight, split, first, second) in
      let bounds = bounded-sum a.base b.base (weights a.steps) (weights b.steps) limit in
      ((bounds.0, lesser (a.base +ℤ b.base) (weights (merged_int next a b g ls ms).steps) (weights a.steps + weights b.steps) all bounds.1), weighted-rising g w unit)
    where
      lesser : (x : ℤ) (m n : ℕ) → m ≡ n → unsigned_abs (x +ℤ pos n) < 2 ^ 100 → unsigned_abs (x +ℤ pos m) < 2 ^ 100
      lesser x m n e h = omega (arith, ints, e, h)

  -- ---- that the parts fit

  formed : 1 ≤ g → weights a.steps ≡ g * length ls → weights b.steps ≡ g * length ms → IsWellFormed (Sum3 a b c) → length ls + length ms < 2 ^ 99 → AreWellFormed (network_parts next a b c g ls ms).cores
  formed unit first second well few =
      let row = comparators next (odd_steps ls ms) (even_steps ls ms) in
      let odd = unit_sum-formed next (odd_places ls) (odd_places ms) (omega (arith, few, length-odd ls, length-odd ms)) in
      let even = unit_sum-formed (next + odd_steps ls ms) (even_places ls) (even_places ms) (omega (arith, few, length-even ls, length-even ms)) in
      AreWellFormed-append (Ladder a ∷ Ladder b ∷ half_sums next ls ms) (row ++ EqR True (merged_int next a b g ls ms) c ∷ [])
      (well.0, (well.1, (odd, (even, tt))))
      (
      AreWellFormed-append row (EqR True (merged_int next a b g ls ms) c ∷ [])
      (row_cores-formed (next + odd_steps ls ms + even_steps ls ms) (further_odd next (odd_steps ls ms)) (all_even next (odd_steps ls ms) (even_steps ls ms)))
      ((merged-sound unit first second well.3, well.2), tt)
      )

  -- below any bound that is past the fresh variables
  module _ (n : ℕ) (least : 1 ≤ next) (past : next + odd_steps ls ms + even_steps ls ms + 2 * min (odd_steps ls ms - 1) (even_steps ls ms) ≤ n) where
    row-room : next + odd_steps ls ms + even_steps ls ms + 2 * min (length (further_odd next (odd_steps ls ms))) (length (all_even next (odd_steps ls ms) (even_steps ls ms))) ≤ n
    row-room = omega (arith, past, length-vars (next + 1) (odd_steps ls ms - 1), length-vars (next + odd_steps ls ms) (even_steps ls ms))

    odd-vars : AtomsBelow n (further_odd next (odd_steps ls ms))
    odd-vars = vars-below n (next + 1) (odd_steps ls ms - 1) (omega arith) (omega (arith, some, past))

    even-vars : AtomsBelow n (all_even next (odd_steps ls ms) (even_steps ls ms))
    even-vars = vars-below n (next + odd_steps ls ms) (even_steps ls ms) (omega (arith, least)) (omega (arith, past))

    wires-below : AtomsBelow n (wires next (odd_steps ls ms) (even_steps ls ms))
    wires-below = (
      (least, omega (arith, some, past)),
      row_wires-below n (next + odd_steps ls ms + even_steps ls ms) (further_odd next (odd_steps ls ms)) (all_even next (odd_steps ls ms) (even_steps ls ms)) (omega (arith, least)) row-room odd-vars even-vars,
    )

    sums-below : AtomsBelow next ls → AtomsBelow next ms → CoresBelow n (half_sums next ls ms)
    sums-below bl bm =
        let bl_up = AtomsBelow-up next n (omega (arith, past)) ls bl in
        let bm_up = AtomsBelow-up next n (omega (arith, past)) ms bm in (
          unit_sum-below n next (odd_places ls) (odd_places ms) least (omega (arith, past)) (odd-below n ls bl_up) (odd-below n ms bm_up),
          (
            unit_sum-below n (next + odd_steps ls ms) (even_places ls) (even_places ms) (omega (arith, least)) (omega (arith, past)) (even-below n ls bl_up) (even-below n ms bm_up),
            tt,
          ),
        )

    below-past : CoreBelow next (Sum3 a b c) → AtomsBelow next ls → AtomsBelow next ms → CoresBelow n (network_parts next a b c g ls ms).cores
    below-past below bl bm =
        let row = comparators next (odd_steps ls ms) (even_steps ls ms) in
        let up : next ≤ n = omega (arith, past) in
        CoresBelow-append n (Ladder a ∷ Ladder b ∷ half_sums next ls ms) (row ++ EqR True (merged_int next a b g ls ms) c ∷ [])
        ((tt, (StepsBelow-more next n a.steps up below.1.0, tt)), ((tt, (StepsBelow-more next n b.steps up below.1.1.0, tt)), sums-below bl bm))
        (
        CoresBelow-append n row (EqR True (merged_int next a b g ls ms) c ∷ [])
        (row_cores-below n (next + odd_steps ls ms + even_steps ls ms) (further_odd next (odd_steps ls ms)) (all_even next (odd_steps ls ms) (even_steps ls ms)) (omega (arith, least)) row-room odd-vars even-vars)
        (((tt, tt), (weighted-below n g (wires next (odd_steps ls ms) (even_steps ls ms)) wires-below, (StepsBelow-more next n c.steps up below.1.1.1.0, tt))), tt)
        )

  pub fit : 1 ≤ next → 1 ≤ g → weights a.steps ≡ g * length ls → weights b.steps ≡ g * length ms → IsWellFormed (Sum3 a b c) → length ls + length ms < 2 ^ 99 → CoreBelow next (Sum3 a b c) → AtomsBelow next ls → AtomsBelow next ms → DoFit next (network_parts next a b c g ls ms)
  fit least unit first second well few below bl bm = record {
    formed = formed unit first second well few;
    below = below-past (next + (network_parts next a b c g ls ms).fresh) least (omega arith) below bl bm;
  }

  -- ---- what the parts cost

  pub cost : (network_parts next a b c g ls ms).fresh + costs_of (network_parts next a b c g ls ms).cores ≤ cost_of_ladder (steps_of a) + cost_of_ladder (steps_of b) + cost_of_network (length ls) (length ms) (steps_of c)
  cost =
      let row = comparators next (odd_steps ls ms) (even_steps ls ms) in
      let equal = EqR True (merged_int next a b g ls ms) c in
      let odd : cost_of_unit_sum (length (odd_places ls)) (length (odd_places ms)) ≡ cost_of_unit_sum (half_up (length ls)) (half_up (length ms)) =
      λ i. cost_of_unit_sum (length-odd ls i) (length-odd ms i) in
      let even : cost_of_unit_sum (length (even_places ls)) (length (even_places ms)) ≡ cost_of_unit_sum (half_down (length ls)) (half_down (length ms)) =
      λ i. cost_of_unit_sum (length-even ls i) (length-even ms i) in
      let halves : costs_of (half_sums next ls ms) ≡ cost_of_unit_sum (half_up (length ls)) (half_up (length ms)) + cost_of_unit_sum (half_down (length ls)) (half_down (length ms)) =
      omega (
        arith,
        unit_sum-cost next (odd_places ls) (odd_places ms),
        unit_sum-cost (next + odd_steps ls ms) (even_places ls) (even_places ms),
        odd,
        even,
      ) in
      let compared : costs_of (comparators next (odd_steps ls ms) (even_steps ls ms)) ≡ 14 * min (odd_steps ls ms - 1) (even_steps ls ms) =
      omega (
        arith,
        row_cores-cost (next + odd_steps ls ms + even_steps ls ms) (further_odd next (odd_steps ls ms)) (all_even next (odd_steps ls ms) (even_steps ls ms)),
        length-vars (next + 1) (odd_steps ls ms - 1),
        length-vars (next + odd_steps ls ms) (even_steps ls ms),
      ) in
      let same : cost_of_eq (length (weighted g (wires next (odd_steps ls ms) (even_steps ls ms)))) (steps_of c) ≡ cost_of_eq (length ls + length ms) (steps_of c) =
      ap (λ n. cost_of_eq n (steps_of c)) (length-weighted g (wires next (odd_steps ls ms) (even_steps ls ms)) ∙ wires-units) in
      let pairs : min (odd_steps ls ms - 1) (even_steps ls ms) ≤ (length ls + length ms - 1) / 2 =
      omega (arith, some, steps-units ls ms) in
      omega (
        arith,
        costs_of-append (Ladder a ∷ Ladder b ∷ half_sums next ls ms) (row ++ equal ∷ []),
        costs_of-append row (equal ∷ []),
        halves,
        compared,
        same,
        pairs,
        steps-units ls ms,
      )
