-- An integer is known by its base and its steps.
use Rattle.std.proofs.Common.{◌≡◌, ℕ, List, ℤ, ap, ◌∙◌}
use Rattle.order_ints.specs.declared.atom.Atom.{Atom}
use Rattle.order_ints.specs.declared.order_int.OrdInt.{OrdInt}

pub int_is : (a : OrdInt) (base : ℤ) (steps : List (Atom × ℕ)) → base ≡ a.base → steps ≡ a.steps → record { base = base; steps = steps } ≡ a
int_is a base steps b s = ap (λ (z : ℤ). record { base = z; steps = steps }) b ∙ ap (λ (xs : List (Atom × ℕ)). record { base = a.base; steps = xs }) s
