-- The parts of a core that a network stands for, form by form.
use Rattle.std.specs.Prelude.{ℕ, ◌+◌, ◌≤◌, length, IsTrue}
use Rattle.order_ints.specs.Represents.{Represents}
use Rattle.core_cost.specs.Comparisons.{cost_of_ladder}
use Rattle.core_cost.specs.Network.{has_network, cost_of_network}
use Rattle.core_cost.specs.Sums.{first_units, second_units}
use Rattle.core_forms.specs.declared.form.Core.{Core}
use Rattle.core_forms.specs.declared.form.Core.TheVariants.{Ladder, Clause, Parity, Conj, Comp, LeqR, EqR, Sum3, Count}
use Rattle.core_forms.specs.declared.form.Core.TheVariants.{Sum, Max, AllDiff, Amo, Prod, DivMod, Lex}
use Rattle.core_forms.specs.Meaning.{Meets}
use Rattle.core_forms.specs.Shapes.{steps_of, shape_of}
use Rattle.core_forms.specs.Cost.{cost_of}
use Rattle.core_forms.specs.Cores.{MeetsAll, costs_of}
use Rattle.part_base.specs.declared.parts.Parts.{Parts}
use Rattle.part_base.specs.PartsFor.{DoFit}
use Rattle.network_encode.specs.AtomParts.{no_parts, parity_parts, amo_parts}
use Rattle.network_encode.specs.CountParts.{count_parts}
use Rattle.network_encode.specs.MergeParts.{merge_parts}

-- the parts, of which the fresh variables are those from next on; the other forms have none here
abbrev pub parts_of : ℕ → Core → Parts
parts_of next (Ladder a) = no_parts
parts_of next (Clause ls) = no_parts
parts_of next (Parity ls odd) = parity_parts next ls odd
parts_of next (Conj r ls) = no_parts
parts_of next (Comp a b hi lo) = no_parts
parts_of next (LeqR r a b) = no_parts
parts_of next (EqR r a b) = no_parts
parts_of next (Sum3 a b c) = merge_parts next a b c
parts_of next (Count ls c) = count_parts next ls c
parts_of next (Sum ints k) = no_parts
parts_of next (Max ints c) = no_parts
parts_of next (AllDiff ints cs) = no_parts
parts_of next (Amo ls) = amo_parts next ls
parts_of next (Prod a b c) = no_parts
parts_of next (DivMod a b q r) = no_parts
parts_of next (Lex r strict front back) = no_parts

-- a core has a form that is split here, and is compound; a sum is split wherever it has a network, also where its table
-- costs less
abbrev pub IsSplit : Core → Type 0
IsSplit (Ladder a) = ⊥
IsSplit (Clause ls) = ⊥
IsSplit (Parity ls odd) = 4 ≤ length ls
IsSplit (Conj r ls) = ⊥
IsSplit (Comp a b hi lo) = ⊥
IsSplit (LeqR r a b) = ⊥
IsSplit (EqR r a b) = ⊥
IsSplit (Sum3 a b c) =
    IsTrue (has_network (first_units (shape_of a) (shape_of b)) (second_units (shape_of a) (shape_of b)))
IsSplit (Count ls c) = Unit {0}
IsSplit (Sum ints k) = ⊥
IsSplit (Max ints c) = ⊥
IsSplit (AllDiff ints cs) = ⊥
IsSplit (Amo ls) = 5 ≤ length ls
IsSplit (Prod a b c) = ⊥
IsSplit (DivMod a b q r) = ⊥
IsSplit (Lex r strict front back) = ⊥

-- the cost of a core by its parts: of a sum by its network, also where its table costs less
abbrev pub cost_by_parts : Core → ℕ
cost_by_parts (Ladder a) = cost_of (Ladder a)
cost_by_parts (Clause ls) = cost_of (Clause ls)
cost_by_parts (Parity ls odd) = cost_of (Parity ls odd)
cost_by_parts (Conj r ls) = cost_of (Conj r ls)
cost_by_parts (Comp a b hi lo) = cost_of (Comp a b hi lo)
cost_by_parts (LeqR r a b) = cost_of (LeqR r a b)
cost_by_parts (EqR r a b) = cost_of (EqR r a b)
cost_by_parts (Sum3 a b c) =
    cost_of_ladder (steps_of a) + cost_of_ladder (steps_of b) + cost_of_ladder (steps_of c)
    + cost_of_network (first_units (shape_of a) (shape_of b)) (second_units (shape_of a) (shape_of b)) (steps_of c)
cost_by_parts (Count ls c) = cost_of (Count ls c)
cost_by_parts (Sum ints k) = cost_of (Sum ints k)
cost_by_parts (Max ints c) = cost_of (Max ints c)
cost_by_parts (AllDiff ints cs) = cost_of (AllDiff ints cs)
cost_by_parts (Amo ls) = cost_of (Amo ls)
cost_by_parts (Prod a b c) = cost_of (Prod a b c)
cost_by_parts (DivMod a b q r) = cost_of (DivMod a b q r)
cost_by_parts (Lex r strict front back) = cost_of (Lex r strict front back)

-- Parts of a core stand for it, both ways, and fit; fresh variables and costs are at most its cost by parts.
pub record StandFor (core : Core) (next : ℕ) (parts : Parts) : Type 0 where
  pub meaning : Represents next (next + parts.fresh) (λ σ. MeetsAll σ parts.cores) (λ σ. Meets σ core)
  pub fit : DoFit next parts
  pub cost : parts.fresh + costs_of parts.cores ≤ cost_by_parts core
