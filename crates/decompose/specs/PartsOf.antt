-- The parts of a core, form by form.
use Rattle.std.specs.Prelude.{ℕ, []}
use Rattle.core_forms.specs.declared.form.Core.{Core}
use Rattle.core_forms.specs.declared.form.Core.TheVariants.{Sum, AllDiff, Lex}
use Rattle.part_base.specs.declared.parts.Parts.{Parts}
use Rattle.decompose.specs.LexParts.{lex_parts}
use Rattle.decompose.specs.SumParts.{sum_parts}
use Rattle.decompose.specs.DifferingParts.{differing_parts}

-- the core is of a form that has its parts here
abbrev pub HasParts : Core → Type 0
HasParts (Sum ints k) = Unit {0}
HasParts (AllDiff ints cs) = Unit {0}
HasParts (Lex r strict front back) = Unit {0}
HasParts core = ⊥

-- its parts, of which the fresh variables are those from next on
abbrev pub parts_of : Core → ℕ → Parts
parts_of (Sum ints k) next = sum_parts next ints k
parts_of (AllDiff ints cs) next = differing_parts next ints cs
parts_of (Lex r strict front back) next = lex_parts next r strict front back
parts_of core next = record { cores = []; fresh = 0 }
