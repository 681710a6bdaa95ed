-- The tables of sure members with one value or two.
use Rattle.std.specs.Prelude.{◌<◌, ℕ, Bool, true, false, ◌||◌, List, length, ℤ}
use Rattle.std.specs.BTreeMap.{get}
use Rattle.std.specs.Ordering.{int_cmp}
use Rattle.order_ints.specs.declared.atom.Atom.{Atom}
use Rattle.order_ints.specs.declared.order_int.OrdInt.{OrdInt}
use Rattle.alldiff_rules.specs.declared.narrow.Narrow.{Narrow}
use Rattle.alldiff_rules.specs.Table.{has_others, Shows}
use Rattle.alldiff_rules.specs.Members.{IsConstantAt, IsHolderAt}

-- for each value the first three constants, and the first three of those that share their two values with others and
-- have it as the lower or as the greater one
pub record IsNarrow (ints : List OrdInt) (cs : List Atom) (tables : Narrow) : Type 0 where
  pub constants : (v : ℤ)
      → Shows (λ i. (i < length ints) × IsConstantAt ints cs v i) (get int_cmp tables.constants v)
  pub lows : (v : ℤ) → Shows (λ i. (i < length ints) × IsHolderAt ints cs false v i) (get int_cmp tables.lows v)
  pub highs : (v : ℤ) → Shows (λ i. (i < length ints) × IsHolderAt ints cs true v i) (get int_cmp tables.highs v)

-- by the tables: members at other places than k need the value
abbrev pub is_needed : Narrow → ℕ → ℤ → Bool
is_needed tables k v =
    has_others 1 k (get int_cmp tables.constants v)
    || (has_others 2 k (get int_cmp tables.lows v) || has_others 2 k (get int_cmp tables.highs v))
