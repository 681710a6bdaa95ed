-- The parts of a sum stand for it, wherever it has a network.
use Rattle.std.proofs.Common.{◌≡◌, ℕ, zero, suc, ◌+◌, ◌*◌, ◌/◌, ◌<◌, ◌≤◌, ◌^◌, true, length, ap, arith}
use Rattle.std.proofs.Math.Nat.{div-zero}
use Rattle.order_ints.specs.declared.order_int.OrdInt.{OrdInt}
use Rattle.order_ints.specs.Truth.{Valuation, Agree}
use Rattle.order_ints.specs.OrderRange.{weights}
use Rattle.core_cost.specs.Network.{has_network, cost_of_network}
use Rattle.core_cost.specs.Comparisons.{cost_of_ladder}
use Rattle.core_cost.specs.Sums.{first_units, second_units}
use Rattle.core_cost.proofs.NetworkLaws.{sides}
use Rattle.core_cost.proofs.ShapeLaws.{common-divides_first, common-divides_second}
use Rattle.core_forms.specs.Sums.{gap_of}
use Rattle.core_forms.specs.declared.form.Core.{Core}
use Rattle.core_forms.specs.declared.form.Core.TheVariants.{Sum3}
use Rattle.core_forms.specs.Place.{CoreBelow}
use Rattle.core_forms.specs.Meaning.{Meets}
use Rattle.core_forms.specs.WellFormed.{IsWellFormed}
use Rattle.core_forms.specs.Shapes.{divisor_of, shape_of, steps_of}
use Rattle.core_forms.specs.Cores.{MeetsAll, costs_of}
use Rattle.core_forms.proofs.Mapped.{core_truth-agree}
use Rattle.core_forms.proofs.CoreLists.{MeetsAll-depends}
use Rattle.part_base.specs.declared.parts.Parts.{Parts}
use Rattle.part_base.specs.PartsFor.{DoFit}
use Rattle.network_encode.specs.MergeParts.{units_of, odd_steps, network_parts, merge_parts}
use Rattle.network_encode.specs.NetworkParts.{cost_by_parts, StandFor}
use Rattle.network_encode.proofs.UnitLaws.{AreMultiples, multiples-of_divisor, weights-units, length-units, units-below, length-odd}
use Rattle.network_encode.proofs.MergeLaws.{implies, extends, sides-of}
use Rattle.network_encode.proofs.MergePlaces.{fit, cost}

-- what makes parts stand for a core
pub stands-made : (core : Core) (next : ℕ) (parts : Parts) → CoreBelow next core → DoFit next parts → parts.fresh + costs_of parts.cores ≤ cost_by_parts core → ((σ : Valuation) → MeetsAll σ parts.cores → Meets σ core) → ((σ : Valuation) → Meets σ core → (τ : Valuation) × Agree next σ τ × MeetsAll τ parts.cores) → StandFor core next parts
stands-made core next parts below fits costs implied extended = record {
  meaning = record {
    fewer = omega arith;
    constrains = MeetsAll-depends (next + parts.fresh) parts.cores fits.below;
    depends = depends-below;
    implies = implied;
    extends = extended;
  };
  fit = fits;
  cost = costs;
}
  where
    depends-below : (σ τ : Valuation) → Agree next σ τ → Meets σ core → Meets τ core
    depends-below σ τ same met = let e = core_truth-agree next σ τ core below same in cc

-- a number of units is not 0 where the unit isn't
unit-some : (w g : ℕ) → 1 ≤ w / g → 0 < g
unit-some w zero h = absurd (omega (arith, h, div-zero w))
unit-some w (suc g) h = omega arith

-- what a network asks of the units
pub record HasUnits (a b : OrdInt) (g : ℕ) : Type 0 where
  pub unit : 0 < g
  pub first_multiples : AreMultiples g a.steps
  pub second_multiples : AreMultiples g b.steps
  pub first_some : 1 ≤ weights a.steps / g
  pub second_some : 1 ≤ weights b.steps / g

pub has-units : (a b : OrdInt) → has_network (first_units (shape_of a) (shape_of b)) (second_units (shape_of a) (shape_of b)) ≡ true → HasUnits a b (gap_of a b)
has-units a b network =
    let s = sides (first_units (shape_of a) (shape_of b)) (second_units (shape_of a) (shape_of b)) network in
    record {
      unit = unit-some (weights a.steps) (gap_of a b) s.0;
      first_multiples = multiples-of_divisor (gap_of a b) a.steps (common-divides_first (divisor_of a.steps) (divisor_of b.steps));
      second_multiples = multiples-of_divisor (gap_of a b) b.steps (common-divides_second (divisor_of a.steps) (divisor_of b.steps));
      first_some = s.0;
      second_some = s.1;
    }

-- both sides in units of any divisor
units-stand : (next : ℕ) (a b c : OrdInt) (g : ℕ) → HasUnits a b g → IsWellFormed (Sum3 a b c) → 1 ≤ next → CoreBelow next (Sum3 a b c) → cost_of_network (weights a.steps / g) (weights b.steps / g) (steps_of c) ≤ 2 ^ 27 → cost_of_ladder (steps_of a) + cost_of_ladder (steps_of b) + cost_of_network (weights a.steps / g) (weights b.steps / g) (steps_of c) ≤ cost_by_parts (Sum3 a b c) → StandFor (Sum3 a b c) next (network_parts next a b c g (units_of g a.steps) (units_of g b.steps))
units-stand next a b c g units well least below room bound =
    let ls = units_of g a.steps in
    let ms = units_of g b.steps in
    let n : length (units_of g a.steps) ≡ weights a.steps / g = length-units g a.steps units.unit units.first_multiples in
    let m : length (units_of g b.steps) ≡ weights b.steps / g = length-units g b.steps units.unit units.second_multiples in
    let some : 1 ≤ odd_steps (units_of g a.steps) (units_of g b.steps) =
    omega (arith, n, units.first_some, length-odd (units_of g a.steps)) in
    let bl = units-below next g a.steps below.1.0 in
    let bm = units-below next g b.steps below.1.1.0 in
    let few : length (units_of g a.steps) + length (units_of g b.steps) < 2 ^ 99 = omega (arith, n, m, room) in
    let network : cost_of_network (length (units_of g a.steps)) (length (units_of g b.steps)) (steps_of c) ≡ cost_of_network (weights a.steps / g) (weights b.steps / g) (steps_of c) =
    λ i. cost_of_network (n i) (m i) (steps_of c) in
    let costs = cost next a b c g ls ms some in
    stands-made (Sum3 a b c) next (network_parts next a b c g ls ms) below
    (fit next a b c g ls ms some least units.unit (weights-units g a.steps units.first_multiples) (weights-units g b.steps units.second_multiples) well few below bl bm)
    (omega (arith, costs, network, bound))
    (λ σ. implies next a b c g ls ms some σ (sides-of next a b c g some units.first_multiples units.second_multiples))
    (extends next a b c g ls ms some least below bl bm (sides-of next a b c g some units.first_multiples units.second_multiples))

pub merge-stands : (next : ℕ) (a b c : OrdInt) → has_network (first_units (shape_of a) (shape_of b)) (second_units (shape_of a) (shape_of b)) ≡ true → IsWellFormed (Sum3 a b c) → 1 ≤ next → CoreBelow next (Sum3 a b c) → next + cost_by_parts (Sum3 a b c) ≤ 2 ^ 27 → StandFor (Sum3 a b c) next (merge_parts next a b c)
merge-stands next a b c network well least below room =
    units-stand next a b c (gap_of a b) (has-units a b network) well least below (omega (arith, room)) (omega arith)

-- ---- what the call that makes them needs

pub units-some : (a b : OrdInt) (g : ℕ) → has_network (first_units (shape_of a) (shape_of b)) (second_units (shape_of a) (shape_of b)) ≡ true → g ≡ gap_of a b → 1 ≤ length (units_of g a.steps)
units-some a b g network is =
    let units = has-units a b network in
    omega (
      arith,
      units.first_some,
      length-units (gap_of a b) a.steps units.unit units.first_multiples,
      ap (λ n. length (units_of n a.steps)) is,
    )

pub units-room : (a b c : OrdInt) (g next : ℕ) → has_network (first_units (shape_of a) (shape_of b)) (second_units (shape_of a) (shape_of b)) ≡ true → g ≡ gap_of a b → next + cost_by_parts (Sum3 a b c) ≤ 2 ^ 27 → next + 2 * (length (units_of g a.steps) + length (units_of g b.steps)) ≤ 2 ^ 27 + 1
units-room a b c g next network is room =
    let units = has-units a b network in
    omega (
      arith,
      length-units (gap_of a b) a.steps units.unit units.first_multiples,
      length-units (gap_of a b) b.steps units.unit units.second_multiples,
      ap (λ n. length (units_of n a.steps)) is,
      ap (λ n. length (units_of n b.steps)) is,
      network-floor (first_units (shape_of a) (shape_of b)) (second_units (shape_of a) (shape_of b)) (steps_of c) units.first_some,
      room,
    )
  where
    -- two fresh variables for each unit are within the cost of the network
    network-floor : (n m c : ℕ) → 1 ≤ n → 2 * (n + m) ≤ cost_of_network n m c + 1
    network-floor n m c some = omega (arith, some)
