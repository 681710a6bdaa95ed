-- What the parts of a core are less of than the core.
use Rattle.std.specs.Prelude.{ℕ, ◌+◌, List, [], ◌∷◌, length}
use Rattle.core_forms.specs.declared.form.Core.{Core}
use Rattle.core_forms.specs.declared.form.Core.TheVariants.{Count, Sum, AllDiff, Lex}
use Rattle.core_forms.specs.Shapes.{pairs_of_steps}
use Rattle.core_forms.specs.Cost.{cost_of}

-- one and the number of members of a count, a sum, different members, and of pairs of an order of words; nothing for
-- the other forms
abbrev pub members_of : Core → ℕ
members_of (Count ls c) = 1 + length ls
members_of (Sum ints k) = 1 + length ints
members_of (AllDiff ints cs) = 1 + length ints
members_of (Lex r strict front back) = 1 + length (pairs_of_steps front back)
members_of core = 0

-- the size of a core: its cost, and its members
abbrev pub size_of : Core → ℕ
size_of core = cost_of core + members_of core

abbrev pub sizes_of : List Core → ℕ
sizes_of [] = 0
sizes_of (core ∷ cores) = size_of core + sizes_of cores
