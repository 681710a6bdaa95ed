-- The costs of the forms over lists of atoms, by the lists' lengths.
use Rattle.std.specs.Prelude.{ℕ, ◌+◌, ◌*◌}
use Rattle.std.proofs.Common.{zero, suc}

-- a clause of k members: its literals
abbrev pub cost_of_clause : ℕ → ℕ
cost_of_clause k = k

-- a conjunction of k members, true exactly where its atom is
abbrev pub cost_of_conj : ℕ → ℕ
cost_of_conj k = 3 * k + 1

-- a comparator: six clauses
abbrev pub cost_of_comp : ℕ
cost_of_comp = 14

-- a parity of k members: the literals of its clauses up to three members, and else, for a fresh variable in the place
-- of two members, 1 and the parity of three, and the parity of one member fewer
abbrev pub cost_of_parity : ℕ → ℕ
cost_of_parity zero = 0
cost_of_parity (suc zero) = 1
cost_of_parity (suc (suc zero)) = 4
cost_of_parity (suc (suc (suc zero))) = 12
cost_of_parity (suc (suc (suc (suc k)))) = 13 + cost_of_parity (suc (suc (suc k)))

-- at most one of k members: two literals for each two members up to four members, and else, for a fresh variable in the
-- place of three members, 1 and at most one of four, and at most one of two members fewer
abbrev pub cost_of_amo : ℕ → ℕ
cost_of_amo zero = 0
cost_of_amo (suc zero) = 0
cost_of_amo (suc (suc zero)) = 2
cost_of_amo (suc (suc (suc zero))) = 6
cost_of_amo (suc (suc (suc (suc zero)))) = 12
cost_of_amo (suc (suc (suc (suc (suc k))))) = 13 + cost_of_amo (suc (suc (suc k)))
