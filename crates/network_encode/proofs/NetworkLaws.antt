-- The parts of each form stand for the core.
use Rattle.std.proofs.Common.{◌≡◌, ℕ, ◌+◌, ◌<◌, ◌≤◌, ◌^◌, Bool, true, false, not, Ok, Err, List, length, refl, sym, ap, subst, arith}
use Rattle.std.specs.Prelude.{IfOk, nat_le, nat_lt}
use Rattle.std.specs.declared.result.Result.{Result}
use Rattle.std.proofs.lemmas.Bool.Decides.{nat_tests}
use Rattle.order_ints.specs.declared.atom.Atom.{Atom}
use Rattle.order_ints.specs.declared.order_int.OrdInt.{OrdInt}
use Rattle.core_cost.specs.Comparisons.{cost_of_ladder}
use Rattle.core_cost.specs.Network.{has_network, cost_of_table, cost_of_network, cheaper}
use Rattle.core_cost.specs.Sums.{first_units, second_units, network_is_cheaper}
use Rattle.part_base.specs.declared.parts.Parts.{Parts}
use Rattle.core_forms.specs.declared.form.Core.{Core}
use Rattle.core_forms.specs.declared.form.Core.TheVariants.{Ladder, Clause, Parity, Conj, Comp, LeqR, EqR, Sum3, Count, Sum, Max, AllDiff, Amo, Prod, DivMod, Lex}
use Rattle.core_forms.specs.Place.{CoreBelow}
use Rattle.core_forms.specs.WellFormed.{IsWellFormed}
use Rattle.core_forms.specs.Shapes.{steps_of, shape_of}
use Rattle.core_forms.specs.Cost.{cost_of}
use Rattle.core_forms.specs.Basic.{is_basic_of}
use Rattle.part_base.specs.PartsFor.{ArePartsFor}
use Rattle.network_encode.specs.NetworkParts.{parts_of, IsSplit, cost_by_parts, StandFor}
use Rattle.network_encode.proofs.Halves.{and-left, and-right}
use Rattle.network_encode.proofs.ParityLaws.{parity_parts-for}
use Rattle.network_encode.proofs.AmoLaws.{amo_parts-for}
use Rattle.network_encode.proofs.CountLaws.{count_parts-for}
use Rattle.network_encode.proofs.MergeStands.{merge-stands}

-- parts that cost no more than the core, where its cost is that by parts
stands : (core : Core) (next : ℕ) (parts : Parts) → cost_of core ≤ cost_by_parts core → ArePartsFor core next parts → StandFor core next parts
stands core next parts same are = record { meaning = are.meaning; fit = are.fit; cost = omega (arith, same, are.cost) }

pub parts-stand : (core : Core) (next : ℕ) → IsSplit core → IsWellFormed core → 1 ≤ next → CoreBelow next core → next + cost_by_parts core ≤ 2 ^ 27 → StandFor core next (parts_of next core)
parts-stand (Ladder a) next form well least below room = absurd form
parts-stand (Clause ls) next form well least below room = absurd form
parts-stand (Parity ls odd) next form well least below room =
    stands (Parity ls odd) next (parts_of next (Parity ls odd)) (omega arith) (parity_parts-for next ls odd form least below)
parts-stand (Conj r ls) next form well least below room = absurd form
parts-stand (Comp a b hi lo) next form well least below room = absurd form
parts-stand (LeqR r a b) next form well least below room = absurd form
parts-stand (EqR r a b) next form well least below room = absurd form
parts-stand (Sum3 a b c) next form well least below room = merge-stands next a b c form well least below room
parts-stand (Count ls c) next form well least below room =
    stands (Count ls c) next (parts_of next (Count ls c)) (omega arith) (count_parts-for next ls c well least below room)
parts-stand (Sum xs k) next form well least below room = absurd form
parts-stand (Max xs c) next form well least below room = absurd form
parts-stand (AllDiff xs cs) next form well least below room = absurd form
parts-stand (Amo ls) next form well least below room =
    stands (Amo ls) next (parts_of next (Amo ls)) (omega arith) (amo_parts-for next ls form least below)
parts-stand (Prod a b c) next form well least below room = absurd form
parts-stand (DivMod a b q r) next form well least below room = absurd form
parts-stand (Lex r strict front back) next form well least below room = absurd form

-- ---- compound cores

untrue : (t : Bool) → not t ≡ false → t ≡ true
untrue true h = refl
untrue false h = absurd (cc)

above : (m n : ℕ) → nat_le m n ≡ false → n < m
above m n h = grind (arith, nat_tests)

below-test : (m n : ℕ) → nat_lt m n ≡ true → m < n
below-test m n h = grind (arith, nat_tests)

cheaper-network : (t : Bool) (table network : ℕ) → t ≡ true → network < table → cheaper t table network ≡ network
cheaper-network true table network stands less = omega (arith, less)
cheaper-network false table network stands less = absurd (cc)

pub compound_parity : (ls : List Atom) (odd : Bool) → is_basic_of (Parity ls odd) ≡ false → IsSplit (Parity ls odd)
compound_parity ls odd compound = omega (arith, above (length ls) 3 compound)

pub compound_amo : (ls : List Atom) → is_basic_of (Amo ls) ≡ false → IsSplit (Amo ls)
compound_amo ls compound = omega (arith, above (length ls) 4 compound)

pub compound_sum : (a b c : OrdInt) → is_basic_of (Sum3 a b c) ≡ false → IsSplit (Sum3 a b c)
compound_sum a b c compound =
    and-left (has_network (first_units (shape_of a) (shape_of b)) (second_units (shape_of a) (shape_of b))) _
    (untrue (network_is_cheaper (shape_of a) (shape_of b) (steps_of c)) compound)

-- the cost of a compound core is that by its parts
sum-cost : (a b c : OrdInt) → is_basic_of (Sum3 a b c) ≡ false → cost_by_parts (Sum3 a b c) ≡ cost_of (Sum3 a b c)
sum-cost a b c compound =
    let n = first_units (shape_of a) (shape_of b) in
    let m = second_units (shape_of a) (shape_of b) in
    let table = cost_of_table (steps_of a) (steps_of b) in
    let network = cost_of_network n m (steps_of c) in
    let cheap = untrue (network_is_cheaper (shape_of a) (shape_of b) (steps_of c)) compound in
    let has = and-left (has_network n m) (nat_lt network table) cheap in
    let less = below-test network table (and-right (has_network n m) (nat_lt network table) cheap) in
    ap (λ rest. cost_of_ladder (steps_of a) + cost_of_ladder (steps_of b) + cost_of_ladder (steps_of c) + rest) (sym (cheaper-network (has_network n m) table network has less))

pub compound_cost : (core : Core) → is_basic_of core ≡ false → cost_by_parts core ≡ cost_of core
compound_cost (Ladder a) compound = refl
compound_cost (Clause ls) compound = refl
compound_cost (Parity ls odd) compound = refl
compound_cost (Conj r ls) compound = refl
compound_cost (Comp a b hi lo) compound = refl
compound_cost (LeqR r a b) compound = refl
compound_cost (EqR r a b) compound = refl
compound_cost (Sum3 a b c) compound = sum-cost a b c compound
compound_cost (Count ls c) compound = refl
compound_cost (Sum xs k) compound = refl
compound_cost (Max xs c) compound = refl
compound_cost (AllDiff xs cs) compound = refl
compound_cost (Amo ls) compound = refl
compound_cost (Prod a b c) compound = refl
compound_cost (DivMod a b q r) compound = refl
compound_cost (Lex r strict front back) compound = refl

pub compound-parts : (core : Core) (next : ℕ) (parts : Parts) → is_basic_of core ≡ false → StandFor core next parts → ArePartsFor core next parts
compound-parts core next parts compound stand = record {
  meaning = stand.meaning;
  fit = stand.fit;
  cost = omega (arith, stand.cost, compound_cost core compound);
}

-- ---- what a call gives, where it gives these parts

pub stand-made_so : {E : Type 0} (core : Core) (next : ℕ) (r : Result Parts E) → StandFor core next (parts_of next core) → IfOk r (λ p. p ≡ parts_of next core) → IfOk r (λ p. StandFor core next p)
stand-made_so core next (Ok p) holds is = subst (λ (q : Parts). StandFor core next q) (sym is) holds
stand-made_so core next (Err e) holds is = tt

pub parts-made_so : {E : Type 0} (core : Core) (next : ℕ) (r : Result Parts E) → StandFor core next (parts_of next core) → IfOk r (λ p. p ≡ parts_of next core) → is_basic_of core ≡ false → IfOk r (λ p. ArePartsFor core next p)
parts-made_so core next (Ok p) holds is compound =
    compound-parts core next p compound (subst (λ (q : Parts). StandFor core next q) (sym is) holds)
parts-made_so core next (Err e) holds is compound = tt
