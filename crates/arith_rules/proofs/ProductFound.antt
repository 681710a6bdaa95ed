-- What the searches of products find, and that the numbers on their way stay within the limits.
use Rattle.std.proofs.Common.{◌≡◌, true, false, ℕ, suc, ◌<◌, ◌^◌, Contains, List, [], ◌∷◌, map, ℤ, pos, ◌+ℤ◌, ◌*ℤ◌, refl, ap, subst, ◌∙◌, arith}
use Rattle.std.specs.Prelude.{Option, unsigned_abs}
use Rattle.std.specs.Option.{is_some}
use Rattle.std.specs.List.{AllByRecursion}
use Rattle.std.proofs.Math.IntN.{*ℤ_comm}
use Rattle.std.proofs.lemmas.Int.{ints}
use Rattle.order_ints.specs.declared.atom.Atom.{Atom}
use Rattle.order_ints.specs.declared.atom.Atom.TheVariants.{True}
use Rattle.order_ints.specs.declared.order_int.OrdInt.{OrdInt}
use Rattle.order_ints.specs.OrderRange.{weights, low_of, high_of}
use Rattle.order_ints.specs.OrderLevels.{levels, levels_of, values_of}
use Rattle.core_forms.specs.WellFormed.{HasSmallProducts}
use Rattle.rule_base.specs.declared.sought.SoughtEquation.{SoughtEquation}
use Rattle.rule_base.specs.Pairs.{first_sought}
use Rattle.rule_base.proofs.PairLaws.{front-found, back-found}
use Rattle.arith_rules.specs.declared.links.Link.TheVariants.{Times, Ceiling, Over}
use Rattle.arith_rules.specs.Links.{linked, linked_back, opposed, opposed_above}
use Rattle.arith_rules.specs.Ranges.{range_of}
use Rattle.arith_rules.specs.ProductRows.{multiple_equations, negative_equations}
use Rattle.arith_rules.specs.ProductRanges.{HaveSmallCorners}
use Rattle.arith_rules.specs.CodeLinks.{link_of, HasSmallMultiples}

-- ---- the ends of an integer's range are values

further : (xs : List ℤ) (x y z : ℤ) → Contains xs x → x ≡ z → Contains (y ∷ xs) z
further xs x y z c e = subst (λ t. Contains (y ∷ xs) t) e (suc c.0, omega (arith, c.1), c.2)

pub least-among : (a : OrdInt) → Contains (values_of a) (low_of a)
least-among a = first a.base True a.steps
  where
    first : (low : ℤ) (x : Atom) (steps : List (Atom × ℕ)) → Contains (map (λ level. level.0) (levels low x steps)) low
    first low x [] = (0, omega arith, refl)
    first low x (s ∷ steps) = (0, omega arith, refl)

greatest-above : (low : ℤ) (x : Atom) (steps : List (Atom × ℕ)) → Contains (map (λ level. level.0) (levels low x steps)) (low +ℤ pos (weights steps))
greatest-above low x [] = (0, omega arith, omega (arith, ints))
greatest-above low x (s ∷ steps) = further _ (low +ℤ pos s.1 +ℤ pos (weights steps)) low _ (greatest-above (low +ℤ pos s.1) s.0 steps) (omega (arith, ints))

pub greatest-among : (a : OrdInt) → Contains (values_of a) (high_of a)
greatest-among a = greatest-above a.base True a.steps

-- what holds of each value holds at each level
from-values : (P : ℤ → Type 0) (ls : List (ℤ × Atom)) → ((v : ℤ) → Contains (map (λ level. level.0) ls) v → P v) → AllByRecursion (λ level. P level.0) ls
from-values P [] each = tt
from-values P (l ∷ ls) each = (each l.0 (0, omega arith, refl), from-values P ls (λ v c. each v (further _ v l.0 v c refl)))

-- ---- products within the limits

pub multiples-small : (a b : OrdInt) → HasSmallProducts a b → HasSmallMultiples (low_of a) b
multiples-small a b small = from-values (λ v. unsigned_abs (low_of a *ℤ v) < 2 ^ 100) (levels_of b) (λ v c. small (low_of a) v (least-among a) c)

pub turned-small : (a b : OrdInt) → HasSmallProducts a b → HasSmallProducts b a
turned-small a b small v w cv cw = subst (λ (z : ℤ). unsigned_abs z < 2 ^ 100) (*ℤ_comm w v) (small w v cw cv)

pub corners-small : (a b : OrdInt) → HasSmallProducts a b → HaveSmallCorners (range_of a) (range_of b)
corners-small a b small = (
  small (low_of a) (low_of b) (least-among a) (least-among b),
  small (low_of a) (high_of b) (least-among a) (greatest-among b),
  small (high_of a) (low_of b) (greatest-among a) (least-among b),
  small (high_of a) (high_of b) (greatest-among a) (greatest-among b),
)

-- ---- two links, with the number that the code computes

module _ (sought : SoughtEquation) (x y : OrdInt) (k k' : ℤ) (o : Option (Atom × Atom)) where
  pub multiple-first : o ≡ first_sought sought (linked_back (link_of (Times k')) x y) → is_some o ≡ true → k' ≡ k → o ≡ first_sought sought (multiple_equations k x y)
  multiple-first first some e = front-found sought (linked_back (link_of (Times k')) x y) (linked (link_of (Ceiling k')) y x) o first some ∙ ap (λ n. first_sought sought (multiple_equations n x y)) e

  pub multiple-second : (p : Option (Atom × Atom)) → o ≡ first_sought sought (linked_back (link_of (Times k')) x y) → is_some o ≡ false → p ≡ first_sought sought (linked (link_of (Ceiling k')) y x) → k' ≡ k → p ≡ first_sought sought (multiple_equations k x y)
  multiple-second p first none second e = back-found sought (linked_back (link_of (Times k')) x y) (linked (link_of (Ceiling k')) y x) o p first none second ∙ ap (λ n. first_sought sought (multiple_equations n x y)) e

  pub negative-first : o ≡ first_sought sought (opposed_above (link_of (Times k')) x y) → is_some o ≡ true → k' ≡ k → o ≡ first_sought sought (negative_equations k x y)
  negative-first first some e = front-found sought (opposed_above (link_of (Times k')) x y) (opposed (link_of (Over k')) y x) o first some ∙ ap (λ n. first_sought sought (negative_equations n x y)) e

  pub negative-second : (p : Option (Atom × Atom)) → o ≡ first_sought sought (opposed_above (link_of (Times k')) x y) → is_some o ≡ false → p ≡ first_sought sought (opposed (link_of (Over k')) y x) → k' ≡ k → p ≡ first_sought sought (negative_equations k x y)
  negative-second p first none second e = back-found sought (opposed_above (link_of (Times k')) x y) (opposed (link_of (Over k')) y x) o p first none second ∙ ap (λ n. first_sought sought (negative_equations n x y)) e
