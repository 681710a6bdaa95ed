-- The equations at the levels of an integer are those at its values.
use Rattle.std.proofs.Common.{◌≡◌, Bool, map, ℤ, pos, ◌+ℤ◌}
use Rattle.std.specs.Prelude.{filter, int_lt}
use Rattle.order_ints.specs.declared.atom.Atom.{Atom}
use Rattle.order_ints.specs.declared.atom.Atom.TheVariants.{False}
use Rattle.order_ints.specs.declared.order_int.OrdInt.{OrdInt}
use Rattle.order_ints.specs.Truth.{not_atom}
use Rattle.order_ints.specs.OrderLevels.{levels_of, at_of}
use Rattle.order_ints.proofs.Everywhere.{map_levels, filter_levels}
use Rattle.core_forms.specs.WellFormed.{IsSound}
use Rattle.arith_rules.specs.Links.{linked, linked_back, opposed, opposed_above, alike_where}
use Rattle.arith_rules.specs.Tops.{false_above}

-- at a level: its atom, and that of b where the level's value is linked
abbrev pub linked_pair : (ℤ → ℤ) → OrdInt → ℤ × Atom → Atom × Atom
linked_pair link b level = (level.1, at_of b (link level.0))

-- the same with the atom of b first
abbrev pub back_pair : (ℤ → ℤ) → OrdInt → ℤ × Atom → Atom × Atom
back_pair link b level = (at_of b (link level.0), level.1)

abbrev pub opposed_pair : (ℤ → ℤ) → OrdInt → ℤ × Atom → Atom × Atom
opposed_pair link b level = (level.1, not_atom (at_of b (link level.0)))

-- that of b, and the negation of the atom above the level
abbrev pub above_pair : (ℤ → ℤ) → OrdInt → OrdInt → ℤ × Atom → Atom × Atom
above_pair link a b level = (at_of b (link level.0), not_atom (at_of a (level.0 +ℤ pos 1)))

-- the level's atom is false
abbrev pub false_pair : ℤ × Atom → Atom × Atom
false_pair level = (level.1, False)

module _ (link : ℤ → ℤ) (a b : OrdInt) (sound : IsSound a) where
  pub linked-is : map (linked_pair link b) (levels_of a) ≡ linked link a b
  linked-is = map_levels (λ v x. (x, at_of b (link v))) a sound.1

  pub back-is : map (back_pair link b) (levels_of a) ≡ linked_back link a b
  back-is = map_levels (λ v x. (at_of b (link v), x)) a sound.1

  pub opposed-is : map (opposed_pair link b) (levels_of a) ≡ opposed link a b
  opposed-is = map_levels (λ v x. (x, not_atom (at_of b (link v)))) a sound.1

  pub above-is : map (above_pair link a b) (levels_of a) ≡ opposed_above link a b
  above-is = map_levels (λ v x. (at_of b (link v), not_atom (at_of a (v +ℤ pos 1)))) a sound.1

-- at the levels that pass a test
module _ (test : ℤ → Bool) (a b : OrdInt) (sound : IsSound a) where
  pub alike-is : map (linked_pair (λ v. v) b) (filter (λ (level : ℤ × Atom). test level.0) (levels_of a)) ≡ alike_where test a b
  alike-is = filter_levels (λ v x. (x, at_of b v)) test a sound.1

pub false-is : (n : ℤ) (c : OrdInt) → IsSound c → map false_pair (filter (λ (level : ℤ × Atom). int_lt n level.0) (levels_of c)) ≡ false_above n c
false-is n c sound = filter_levels (λ v x. (x, False)) (int_lt n) c sound.1
