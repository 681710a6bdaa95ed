-- The assignments that cores and a map of names stand for.
use Rattle.std.specs.Prelude.{◌≡◌, ℤ, List}
use Rattle.order_ints.specs.Truth.{Valuation}
use Rattle.order_ints.specs.Numbers.{numbers_of}
use Rattle.core_forms.specs.Cores.{MeetsAll}
use Rattle.model_lower.specs.declared.state.Lowered.{Lowered}

-- an assignment is what the declared names have under a valuation that meets all cores
abbrev pub IsDecoded : Lowered → List ℤ → Type 0
IsDecoded l a = (σ : Valuation) × MeetsAll σ l.cores × (a ≡ numbers_of σ l.map.entries)
