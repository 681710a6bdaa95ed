-- How a long sum and a long order of words are split at their front.
use Rattle.std.specs.Prelude.{ℕ, ◌+◌, ◌-◌, List, [], ◌∷◌, length, Option, None, Some}
use Rattle.order_ints.specs.Label.{variable}
use Rattle.order_ints.specs.declared.atom.Atom.{Atom}
use Rattle.order_ints.specs.declared.atom.Atom.TheVariants.{True}
use Rattle.order_ints.specs.declared.order_int.OrdInt.{OrdInt}
use Rattle.core_forms.specs.declared.form.Core.{Core}
use Rattle.core_forms.specs.declared.form.Core.TheVariants.{Sum3, Sum, Lex}
use Rattle.core_forms.specs.Sums.{sums_of}
use Rattle.part_base.specs.declared.cut.Coming.TheVariants.{Integer, Nothing}
use Rattle.part_base.specs.declared.cut.Cut.{Cut}
use Rattle.decompose.specs.LexParts.{before_rest, behind_rest}
use Rattle.decompose.specs.SumParts.{fresh_of}

-- the first two members leave, and the fresh integer that stands for their sum comes
abbrev pub added_cut : ℕ → OrdInt → OrdInt → Cut
added_cut next a b = record {
  front = Sum3 a b (fresh_of next a b) ∷ [];
  back = [];
  coming = Integer (fresh_of next a b);
  head = True;
  fresh = length (sums_of a b) - 1;
}

-- so it is of a sum of four members and more
abbrev pub sum_cut : ℕ → List OrdInt → Option Cut
sum_cut next (a ∷ b ∷ c ∷ d ∷ rest) = Some (added_cut next a b)
sum_cut next ints = None

-- the first pair leaves, and the order of the rests has a fresh truth
abbrev pub compared_cut : ℕ → Atom → OrdInt → OrdInt → Cut
compared_cut next r a b = record {
  front = before_rest next a b;
  back = behind_rest next r;
  coming = Nothing;
  head = variable (next + 2);
  fresh = 4;
}

-- so it is of an order of words where the first pair is not the last
abbrev pub lex_cut : ℕ → Atom → List OrdInt → List OrdInt → Option Cut
lex_cut next r (a ∷ c ∷ front) (b ∷ back) = Some (compared_cut next r a b)
lex_cut next r front back = None

-- a core's cut, form by form, of which the fresh variables are those from next on
abbrev pub cut_of : Core → ℕ → Option Cut
cut_of (Sum ints k) next = sum_cut next ints
cut_of (Lex r strict front back) next = lex_cut next r front back
cut_of core next = None
