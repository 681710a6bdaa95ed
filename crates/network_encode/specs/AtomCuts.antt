-- How a parity and at-most-one are split at their front: one fresh variable stands for the members that leave, and
-- comes behind the others.
use Rattle.std.specs.Prelude.{ℕ, false, List, [], ◌∷◌, ◌++◌, take}
use Rattle.order_ints.specs.Label.{variable}
use Rattle.order_ints.specs.declared.atom.Atom.{Atom}
use Rattle.order_ints.specs.declared.atom.Atom.TheVariants.{True}
use Rattle.order_ints.specs.Truth.{not_atom}
use Rattle.core_forms.specs.declared.form.Core.{Core}
use Rattle.core_forms.specs.declared.form.Core.TheVariants.{Parity, Amo}
use Rattle.part_base.specs.declared.cut.Coming.TheVariants.{Member}
use Rattle.part_base.specs.declared.cut.Cut.{Cut}

-- the part is all that stands before the list, and the fresh variable comes behind it
abbrev pub front_cut : ℕ → Core → Cut
front_cut next part = record {
  front = part ∷ [];
  back = [];
  coming = Member (variable next);
  head = True;
  fresh = 1;
}

-- the fresh variable is true exactly where one of the first two members is
abbrev pub parity_cut : ℕ → List Atom → Cut
parity_cut next ls = front_cut next (Parity (take 2 ls ++ variable next ∷ []) false)

-- the fresh variable is true where one of the first three members is
abbrev pub amo_cut : ℕ → List Atom → Cut
amo_cut next ls = front_cut next (Amo (take 3 ls ++ not_atom (variable next) ∷ []))
