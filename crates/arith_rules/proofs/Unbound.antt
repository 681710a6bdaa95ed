-- A range binds no integer whose own range is within it.
use Rattle.std.proofs.Common.{◌≡◌, [], ◌∷◌, ℤ, pos, ◌+ℤ◌, ◌≤ℤ◌, ◌<ℤ◌, sym, ap, ◌∙◌, arith, None}
use Rattle.std.proofs.lemmas.Int.{ints}
use Rattle.order_ints.specs.declared.atom.Atom.{Atom}
use Rattle.order_ints.specs.declared.atom.Atom.TheVariants.{True, False}
use Rattle.order_ints.specs.declared.order_int.OrdInt.{OrdInt}
use Rattle.order_ints.specs.OrderRange.{low_of, high_of}
use Rattle.order_ints.specs.OrderLevels.{at_of}
use Rattle.order_ints.proofs.Reaching.{at_of-low, at_of-high}
use Rattle.rule_base.specs.Pairs.{first_sought}
use Rattle.rule_base.specs.declared.sought.SoughtEquation.TheVariants.{Apart}
use Rattle.arith_rules.specs.Links.{within}

pub unbound : (a : OrdInt) (low high : ℤ) → low ≤ℤ low_of a → high_of a ≤ℤ high → None ≡ first_sought Apart (within a low high)
unbound a low high from to =
    let above : high_of a <ℤ (high +ℤ pos 1) = omega (arith, ints, to) in
    let first : at_of a low ≡ True = at_of-low a low from in
    let last : at_of a (high +ℤ pos 1) ≡ False = at_of-high a (high +ℤ pos 1) above in
    ap (λ (b : Atom). first_sought Apart ((True, True) ∷ (b, False) ∷ [])) (sym last)
    ∙ ap (λ (b : Atom). first_sought Apart ((b, True) ∷ (at_of a (high +ℤ pos 1), False) ∷ [])) (sym first)
