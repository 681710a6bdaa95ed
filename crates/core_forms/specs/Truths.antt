-- What lists of atoms say: whether all are true, how many are, and whether a number is odd.
use Rattle.std.specs.Prelude.{ℕ, zero, suc, Bool, true, false, not, ◌&&◌, List, [], ◌∷◌}
use Rattle.std.specs.Prelude.{if◌then◌else◌}
use Rattle.order_ints.specs.declared.atom.Atom.{Atom}
use Rattle.order_ints.specs.Truth.{Valuation, atom_truth}

-- all atoms are true
abbrev pub all_true : Valuation → List Atom → Bool
all_true σ [] = true
all_true σ (a ∷ atoms) = atom_truth σ a && all_true σ atoms

-- the number of true atoms
abbrev pub true_count : Valuation → List Atom → ℕ
true_count σ [] = 0
true_count σ (a ∷ atoms) = if atom_truth σ a then suc (true_count σ atoms) else true_count σ atoms

-- whether each atom is true
abbrev pub truths : Valuation → List Atom → List Bool
truths σ [] = []
truths σ (a ∷ atoms) = atom_truth σ a ∷ truths σ atoms

-- whether a number is odd
abbrev pub is_odd : ℕ → Bool
is_odd zero = false
is_odd (suc n) = not (is_odd n)
