-- The basic cores, which clauses say at once; the others, the compound ones, are split into parts first.
use Rattle.std.specs.Prelude.{Bool, true, false, not, nat_le, length}
use Rattle.core_cost.specs.Sums.{network_is_cheaper}
use Rattle.core_forms.specs.declared.form.Core.{Core}
use Rattle.core_forms.specs.declared.form.Core.TheVariants.{Ladder, Clause, Parity, Conj, Comp, LeqR, EqR, Sum3, Count}
use Rattle.core_forms.specs.declared.form.Core.TheVariants.{Sum, Max, AllDiff, Amo, Prod, DivMod, Lex}
use Rattle.core_forms.specs.Shapes.{steps_of, shape_of}

-- whether a core is basic: a parity of at most three members, at most one of at most four members, and a sum of two
-- integers of which no network is cheaper than its table
abbrev pub is_basic_of : Core → Bool
is_basic_of (Ladder a) = true
is_basic_of (Clause ls) = true
is_basic_of (Parity ls odd) = nat_le (length ls) 3
is_basic_of (Conj r ls) = true
is_basic_of (Comp a b hi lo) = true
is_basic_of (LeqR r a b) = true
is_basic_of (EqR r a b) = true
is_basic_of (Sum3 a b c) = not (network_is_cheaper (shape_of a) (shape_of b) (steps_of c))
is_basic_of (Count ls c) = false
is_basic_of (Sum ints k) = false
is_basic_of (Max ints c) = true
is_basic_of (AllDiff ints cs) = false
is_basic_of (Amo ls) = nat_le (length ls) 4
is_basic_of (Prod a b c) = true
is_basic_of (DivMod a b q r) = true
is_basic_of (Lex r strict front back) = false
