-- The laws of what is read that other crates build on.
use Rattle.std.specs.Prelude.{◌≡◌, ◌⊎◌, ℕ, List}
use Rattle.opb_front.specs.declared.items.Opb.{Opb}
use Rattle.opb_front.specs.declared.fault.Misfit.{Misfit}
use Rattle.opb_front.specs.Grammar.{IsOpbText}
use Rattle.opb_front.specs.Faults.{OpbFails}

-- each text says something or has a first fault
abbrev pub EachTextEnds : Type 0
EachTextEnds = (text : List ℕ) → ((opb : Opb) × IsOpbText text opb)
    ⊎ ((m : Misfit) × ((line : ℕ) × OpbFails text m line))

-- and never both, nor two of either
abbrev pub OneEnd : Type 0
OneEnd =
    (text : List ℕ)
    → ((a b : Opb) → IsOpbText text a → IsOpbText text b → a ≡ b)
    × ((opb : Opb) (m : Misfit) (line : ℕ) → IsOpbText text opb → OpbFails text m line → ⊥)
    × ((m n : Misfit) (line other : ℕ) → OpbFails text m line → OpbFails text n other → (m ≡ n)
    × (line ≡ other))
