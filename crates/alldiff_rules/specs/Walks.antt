-- The equations that tables of an all-different constraint give, member by member and value by value.
use Rattle.std.specs.Prelude.{◌≡◌, ◌<◌, ℕ, Bool, true, not, ◌&&◌, List, [], ◌∷◌, ◌++◌, length}
use Rattle.std.specs.Prelude.{ℤ, pos, ◌+ℤ◌}
use Rattle.std.specs.BTreeMap.{get}
use Rattle.std.specs.Ordering.{int_cmp}
use Rattle.order_ints.specs.declared.atom.Atom.{Atom}
use Rattle.order_ints.specs.declared.atom.Atom.TheVariants.{False}
use Rattle.order_ints.specs.declared.order_int.OrdInt.{OrdInt}
use Rattle.order_ints.specs.OrderRange.{low_of}
use Rattle.order_ints.specs.OrderLevels.{levels_of, values_of, at_of, is_among}
use Rattle.order_ints.specs.Same.{is_true}
use Rattle.rule_base.specs.Pairs.{only_if}
use Rattle.rule_base.specs.Constant.{is_constant}
use Rattle.alldiff_rules.specs.declared.member_tables.Tables.{Tables}
use Rattle.alldiff_rules.specs.Table.{has_others, Shows}
use Rattle.alldiff_rules.specs.Members.{int_at, condition_at}
use Rattle.alldiff_rules.specs.Narrow.{IsNarrow, is_needed}
use Rattle.alldiff_rules.specs.RowLists.{are_too_few, are_as_many, value_equations}
use Rattle.alldiff_rules.specs.Instances.{IsOneOf}

-- the tables of members: those of the sure ones with one value or two, whether there are fewer values than members,
-- which all differ, or as many, and in this case each value with up to three different places at which it stands
pub record AreTables (ints : List OrdInt) (cs : List Atom) (tables : Tables) : Type 0 where
  pub narrow : IsNarrow ints cs tables.narrow
  pub values : tables.as_many ≡ true → (v : ℤ)
      → Shows (λ i. (i < length ints) × (is_among v (values_of (int_at ints i)) ≡ true))
      (get int_cmp tables.tally.values v)
  pub too_few : tables.too_few ≡ are_too_few ints cs
  pub as_many : tables.as_many ≡ are_as_many ints cs

-- by the tables: there are as many values as members, which all differ, and no member at another place has the value
abbrev pub is_alone : Tables → ℕ → ℤ → Bool
is_alone tables k v = tables.as_many && not (has_others 1 k (get int_cmp tables.tally.values v))

-- at each of some levels of the member at place k
abbrev pub level_equations : Tables → ℕ → Bool → OrdInt → List (ℤ × Atom) → List (Atom × Atom)
level_equations tables k sure a [] = []
level_equations tables k sure a (l ∷ ls) =
    value_equations (sure && is_needed tables.narrow k l.0) (is_alone tables k l.0) l.1 (at_of a (l.0 +ℤ pos 1))
    ++ level_equations tables k sure a ls

-- by the tables: the member at place k is a constant whose value another sure constant has
abbrev pub is_shared_constant : Tables → ℕ → OrdInt → Bool
is_shared_constant tables k a = is_constant a && has_others 1 k (get int_cmp tables.narrow.constants (low_of a))

-- at such a member, whose condition is c
abbrev pub constant_equations : Tables → ℕ → Atom → OrdInt → List (Atom × Atom)
constant_equations tables k c a = only_if (is_shared_constant tables k a) ((c, False) ∷ [])

-- of the member at place k, whose condition is c
abbrev pub equations_of_member : Tables → ℕ → Atom → OrdInt → List (Atom × Atom)
equations_of_member tables k c a = constant_equations tables k c a
    ++ level_equations tables k (is_true c) a (levels_of a)

abbrev pub member_equations : Tables → List OrdInt → List Atom → ℕ → List (Atom × Atom)
member_equations tables ints cs k = equations_of_member tables k (condition_at cs k) (int_at ints k)

-- of some member
abbrev pub IsOfSomeMember : Tables → List OrdInt → List Atom → Atom → Atom → Type 0
IsOfSomeMember tables ints cs a b = (k : ℕ) × (k < length ints) × IsOneOf a b (member_equations tables ints cs k)
