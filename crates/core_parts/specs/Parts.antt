-- The parts that a core is split into.
use Rattle.std.specs.Prelude.{ℕ, Bool, not}
use Rattle.core_forms.specs.declared.form.Core.{Core}
use Rattle.core_forms.specs.declared.form.Core.TheVariants.{Sum, AllDiff, Lex}
use Rattle.core_forms.specs.Basic.{is_basic_of}
use Rattle.part_base.specs.declared.parts.Parts.{Parts}
use Rattle.decompose.specs.PartsOf.{parts_of as decomposed}
use Rattle.network_encode.specs.NetworkParts.{parts_of as networked}

-- sums, different members and orders of words are decomposed, and for the other compound forms there are networks; the
-- fresh variables are those from next on
abbrev pub parts_at : ℕ → Core → Parts
parts_at next (Sum ints k) = decomposed (Sum ints k) next
parts_at next (AllDiff ints cs) = decomposed (AllDiff ints cs) next
parts_at next (Lex r strict front back) = decomposed (Lex r strict front back) next
parts_at next core = networked next core

-- a compound core is one that is not basic
abbrev pub is_compound_of : Core → Bool
is_compound_of core = not (is_basic_of core)
