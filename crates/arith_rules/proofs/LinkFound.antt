-- What searches of two links find, with the numbers that the code computes.
use Rattle.std.proofs.Common.{◌≡◌, true, false, ℤ, ap, ◌∙◌}
use Rattle.std.specs.Prelude.{Option}
use Rattle.std.specs.Option.{is_some}
use Rattle.order_ints.specs.declared.atom.Atom.{Atom}
use Rattle.order_ints.specs.declared.order_int.OrdInt.{OrdInt}
use Rattle.rule_base.specs.declared.sought.SoughtEquation.{SoughtEquation}
use Rattle.rule_base.specs.Pairs.{first_sought}
use Rattle.rule_base.proofs.PairLaws.{front-found, back-found}
use Rattle.arith_rules.specs.declared.links.Link.TheVariants.{Plus, Minus, From, Above}
use Rattle.arith_rules.specs.Links.{linked, linked_back, opposed, opposed_above}
use Rattle.arith_rules.specs.SumRows.{raised_equations, mirrored_equations}
use Rattle.arith_rules.specs.CodeLinks.{link_of}

module _ (sought : SoughtEquation) (x y : OrdInt) (k k' : ℤ) (o : Option (Atom × Atom)) where
  pub raised-first : o ≡ first_sought sought (linked (link_of (Plus k')) x y) → is_some o ≡ true → k' ≡ k → o ≡ first_sought sought (raised_equations k x y)
  raised-first first some e = front-found sought (linked (link_of (Plus k')) x y) (linked_back (link_of (Minus k')) y x) o first some ∙ ap (λ n. first_sought sought (raised_equations n x y)) e

  pub raised-second : (p : Option (Atom × Atom)) → o ≡ first_sought sought (linked (link_of (Plus k')) x y) → is_some o ≡ false → p ≡ first_sought sought (linked_back (link_of (Minus k')) y x) → k' ≡ k → p ≡ first_sought sought (raised_equations k x y)
  raised-second p first none second e = back-found sought (linked (link_of (Plus k')) x y) (linked_back (link_of (Minus k')) y x) o p first none second ∙ ap (λ n. first_sought sought (raised_equations n x y)) e

  pub mirrored-first : o ≡ first_sought sought (opposed (link_of (Above k')) x y) → is_some o ≡ true → k' ≡ k → o ≡ first_sought sought (mirrored_equations k x y)
  mirrored-first first some e = front-found sought (opposed (link_of (Above k')) x y) (opposed_above (link_of (From k')) y x) o first some ∙ ap (λ n. first_sought sought (mirrored_equations n x y)) e

  pub mirrored-second : (p : Option (Atom × Atom)) → o ≡ first_sought sought (opposed (link_of (Above k')) x y) → is_some o ≡ false → p ≡ first_sought sought (opposed_above (link_of (From k')) y x) → k' ≡ k → p ≡ first_sought sought (mirrored_equations k x y)
  mirrored-second p first none second e = back-found sought (opposed (link_of (Above k')) x y) (opposed_above (link_of (From k')) y x) o p first none second ∙ ap (λ n. first_sought sought (mirrored_equations n x y)) e
