-- What a search along stated equations answers.
use Rattle.std.specs.Prelude.{◌≡◌, true, false, Option, None, Some}
use Rattle.order_ints.specs.declared.atom.Atom.{Atom}
use Rattle.rule_base.specs.declared.sought.SoughtEquation.{SoughtEquation}
use Rattle.rule_base.specs.Pairs.{is_sought}

-- the answer is a stated equation that is looked for, and there is none exactly where none is looked for
abbrev pub Finds : SoughtEquation → (Atom → Atom → Type 0) → Option (Atom × Atom) → Type 0
Finds sought IsStated None = (a b : Atom) → IsStated a b → is_sought sought (a, b) ≡ false
Finds sought IsStated (Some p) = IsStated p.0 p.1 × (is_sought sought p ≡ true)

-- no equation of an atom with itself is looked for
abbrev pub IsOfTwo : SoughtEquation → Type 0
IsOfTwo sought = (a : Atom) → is_sought sought (a, a) ≡ false
