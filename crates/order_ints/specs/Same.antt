-- Tests of equality: of atoms, of steps, of integers.
use Rattle.std.specs.Prelude.{ℕ, Bool, true, false, ◌&&◌, ◌==◌}
use Rattle.std.specs.Ordering.{int_eq}
use Rattle.std.specs.Cmp.Lexicographic.{pointwise}
use Rattle.order_ints.specs.declared.atom.Atom.{Atom}
use Rattle.order_ints.specs.declared.atom.Atom.TheVariants.{True, False, Of}
use Rattle.order_ints.specs.declared.order_int.OrdInt.{OrdInt}
use Rattle.order_ints.specs.OrderedClauses.{same_lit}

abbrev pub is_true : Atom → Bool
is_true True = true
is_true False = false
is_true (Of l) = false

abbrev pub is_false : Atom → Bool
is_false True = false
is_false False = true
is_false (Of l) = false

-- the atoms are one
abbrev pub same_atom : Atom → Atom → Bool
same_atom True b = is_true b
same_atom False b = is_false b
same_atom (Of l) True = false
same_atom (Of l) False = false
same_atom (Of l) (Of m) = same_lit l m

-- the steps have one atom and one weight
abbrev pub same_step : Atom × ℕ → Atom × ℕ → Bool
same_step s t = same_atom s.0 t.0 && (s.1 == t.1)

-- the integers have one base and the same steps
abbrev pub same_int : OrdInt → OrdInt → Bool
same_int a b = int_eq a.base b.base && pointwise same_step a.steps b.steps
