-- The parts of a parity and of at-most-one: one fresh variable stands for the first members.
use Rattle.std.specs.Prelude.{ℕ, Bool, false, List, [], ◌∷◌, ◌++◌, take, drop}
use Rattle.order_ints.specs.Label.{variable}
use Rattle.order_ints.specs.declared.atom.Atom.{Atom}
use Rattle.order_ints.specs.Truth.{not_atom}
use Rattle.core_forms.specs.declared.form.Core.TheVariants.{Parity, Amo}
use Rattle.part_base.specs.declared.parts.Parts.{Parts}

abbrev pub no_parts : Parts
no_parts = record { cores = []; fresh = 0 }

-- a fresh variable is true exactly where one of the first two members is; it stands for them beside the others
abbrev pub parity_parts : ℕ → List Atom → Bool → Parts
parity_parts next ls odd = record {
  cores = Parity (take 2 ls ++ variable next ∷ []) false ∷ Parity (drop 2 ls ++ variable next ∷ []) odd ∷ [];
  fresh = 1;
}

-- a fresh variable is true where one of the first three members is; it stands for them beside the others
abbrev pub amo_parts : ℕ → List Atom → Parts
amo_parts next ls = record {
  cores = Amo (take 3 ls ++ not_atom (variable next) ∷ []) ∷ Amo (drop 3 ls ++ variable next ∷ []) ∷ [];
  fresh = 1;
}
