-- A core that is a long list and is split at its front: some parts, and what is left of the list.
use Rattle.std.specs.Prelude.{◌≡◌, ◌⊎◌, ℕ, ℤ, Bool, ◌+◌, ◌<◌, ◌≤◌, List, [], ◌∷◌}
use Rattle.std.specs.Prelude.{◌++◌, drop, length, Contains}
use Rattle.order_ints.specs.declared.atom.Atom.{Atom}
use Rattle.order_ints.specs.declared.order_int.OrdInt.{OrdInt}
use Rattle.core_forms.specs.declared.form.Core.{Core}
use Rattle.core_forms.specs.declared.form.Core.TheVariants.{Ladder, Clause, Parity, Conj, Comp, LeqR, EqR, Sum3, Count}
use Rattle.core_forms.specs.declared.form.Core.TheVariants.{Sum, Max, AllDiff, Amo, Prod, DivMod, Lex}
use Rattle.core_forms.specs.Edges.{listed_vars}
use Rattle.core_forms.specs.Stable.{IsStableCore}
use Rattle.core_forms.specs.Variables.{core_vars}
use Rattle.part_base.specs.declared.cut.Coming.{Coming}
use Rattle.part_base.specs.declared.cut.Coming.TheVariants.{Member, Integer, Nothing}
use Rattle.part_base.specs.declared.cut.Cut.{Cut}
use Rattle.part_base.specs.declared.parts.Parts.{Parts}

-- what comes is of the kind of the list's members, and nothing comes behind an order of words
pub data CanCome (coming : Coming) (core : Core) : Type 0 where
  by_parity : (a : Atom) (ls : List Atom) (odd : Bool) → coming ≡ Member a → core ≡ Parity ls odd
      → CanCome coming core
  by_amo : (a : Atom) (ls : List Atom) → coming ≡ Member a → core ≡ Amo ls → CanCome coming core
  by_sum : (a : OrdInt) (ints : List OrdInt) (k : ℤ) → coming ≡ Integer a → core ≡ Sum ints k
      → CanCome coming core
  by_words : (r : Atom) (strict : Bool) (front back : List OrdInt) → core ≡ Lex r strict front back
      → CanCome coming core

abbrev pub with_member : List Atom → Coming → List Atom
with_member ls (Member a) = ls ++ a ∷ []
with_member ls (Integer a) = ls
with_member ls Nothing = ls

abbrev pub with_integer : List OrdInt → Coming → List OrdInt
with_integer ints (Member a) = ints
with_integer ints (Integer a) = ints ++ a ∷ []
with_integer ints Nothing = ints

-- the list with what comes behind it
abbrev pub longer_of : Coming → Core → Core
longer_of coming (Ladder a) = Ladder a
longer_of coming (Clause ls) = Clause ls
longer_of coming (Parity ls odd) = Parity (with_member ls coming) odd
longer_of coming (Conj r ls) = Conj r ls
longer_of coming (Comp a b hi lo) = Comp a b hi lo
longer_of coming (LeqR r a b) = LeqR r a b
longer_of coming (EqR r a b) = EqR r a b
longer_of coming (Sum3 a b c) = Sum3 a b c
longer_of coming (Count ls c) = Count ls c
longer_of coming (Sum ints k) = Sum (with_integer ints coming) k
longer_of coming (Max ints c) = Max ints c
longer_of coming (AllDiff ints cs) = AllDiff ints cs
longer_of coming (Amo ls) = Amo (with_member ls coming)
longer_of coming (Prod a b c) = Prod a b c
longer_of coming (DivMod a b q r) = DivMod a b q r
longer_of coming (Lex r strict front back) = Lex r strict front back

-- the list without its first members: two of a parity or a sum, three of at-most-one, and one of both lists of an order
-- of words, whose truth another atom then is
abbrev pub shorter_of : Atom → Core → Core
shorter_of head (Ladder a) = Ladder a
shorter_of head (Clause ls) = Clause ls
shorter_of head (Parity ls odd) = Parity (drop 2 ls) odd
shorter_of head (Conj r ls) = Conj r ls
shorter_of head (Comp a b hi lo) = Comp a b hi lo
shorter_of head (LeqR r a b) = LeqR r a b
shorter_of head (EqR r a b) = EqR r a b
shorter_of head (Sum3 a b c) = Sum3 a b c
shorter_of head (Count ls c) = Count ls c
shorter_of head (Sum ints k) = Sum (drop 2 ints) k
shorter_of head (Max ints c) = Max ints c
shorter_of head (AllDiff ints cs) = AllDiff ints cs
shorter_of head (Amo ls) = Amo (drop 3 ls)
shorter_of head (Prod a b c) = Prod a b c
shorter_of head (DivMod a b q r) = DivMod a b q r
shorter_of head (Lex r strict front back) = Lex head strict (drop 1 front) (drop 1 back)

-- what is left of a core that is cut
abbrev pub rest_of : Cut → Core → Core
rest_of cut core = shorter_of cut.head (longer_of cut.coming core)

-- A cut makes the parts of a core: those in front, what is left of the list, and those behind it. The variables of what
-- is left are those listed in the core, and fresh ones, which are those from next on; and it is stable where the core
-- is.
pub record IsCut (next : ℕ) (core : Core) (parts : Parts) (cut : Cut) : Type 0 where
  pub cores : parts.cores ≡ cut.front ++ rest_of cut core ∷ cut.back
  pub fresh : parts.fresh ≡ cut.fresh
  pub comes : CanCome cut.coming core
  pub vars : (v : ℕ) → Contains (core_vars (rest_of cut core)) v → Contains (listed_vars core) v
      ⊎ ((next ≤ v) × (v < next + cut.fresh))
  pub stable : (view : List Atom) → next ≡ length view + 1 → IsStableCore view core
      → IsStableCore view (rest_of cut core)
