-- What a loop along the levels of one integer finds, beside a walk along the other.
use Rattle.std.proofs.Common.{◌≡◌, true, List, [], ◌∷◌, map, ℤ, sym, ap, ◌∙◌}
use Rattle.std.specs.Prelude.{Option}
use Rattle.std.specs.Option.{is_some}
use Rattle.order_ints.specs.declared.atom.Atom.{Atom}
use Rattle.order_ints.specs.declared.order_int.OrdInt.{OrdInt}
use Rattle.order_ints.specs.OrderLevels.{levels_of, values_of, at_of}
use Rattle.order_ints.proofs.Everywhere.{map_levels}
use Rattle.core_forms.specs.WellFormed.{IsSound}
use Rattle.rule_base.specs.declared.sought.SoughtEquation.{SoughtEquation}
use Rattle.rule_base.specs.Pairs.{first_sought}
use Rattle.rule_base.proofs.PairLaws.{front-found}
use Rattle.equi_rules.specs.CompareRows.{equal_at}

-- at each level of a: its atom, and that of b
abbrev pub first_beside : OrdInt → List (ℤ × Atom) → List (Atom × Atom)
first_beside b ls = map (λ (l : ℤ × Atom). (l.1, at_of b l.0)) ls

-- at each level of b: that of a, and its atom
abbrev pub second_beside : OrdInt → List (ℤ × Atom) → List (Atom × Atom)
second_beside a ls = map (λ (l : ℤ × Atom). (at_of a l.0, l.1)) ls

-- along whole integers these are the equations at their values
pub first_is : (a b : OrdInt) → IsSound a → first_beside b (levels_of a) ≡ map (equal_at a b) (values_of a)
first_is a b sound = map_levels (λ v x. (x, at_of b v)) a sound.1

pub second_is : (a b : OrdInt) → IsSound b → second_beside a (levels_of b) ≡ map (equal_at a b) (values_of b)
second_is a b sound = map_levels (λ v x. (at_of a v, x)) b sound.1

-- a loop along the levels stops at the first pair that is looked for
pub first-stop : (sought : SoughtEquation) (b : OrdInt) (ls rest : List (ℤ × Atom)) (v : ℤ) (x y : Atom) (o : Option (Atom × Atom)) → ls ≡ (v, x) ∷ rest → y ≡ at_of b v → o ≡ first_sought sought ((x, y) ∷ []) → is_some o ≡ true → o ≡ first_sought sought (first_beside b ls)
first-stop sought b ls rest v x y o is at found some =
    front-found sought ((x, at_of b v) ∷ []) (first_beside b rest) o (found ∙ ap (λ (z : Atom). first_sought sought ((x, z) ∷ [])) at) some
    ∙ ap (λ (xs : List (ℤ × Atom)). first_sought sought (first_beside b xs)) (sym is)

pub second-stop : (sought : SoughtEquation) (a : OrdInt) (ls rest : List (ℤ × Atom)) (v : ℤ) (x y : Atom) (o : Option (Atom × Atom)) → ls ≡ (v, x) ∷ rest → y ≡ at_of a v → o ≡ first_sought sought ((y, x) ∷ []) → is_some o ≡ true → o ≡ first_sought sought (second_beside a ls)
second-stop sought a ls rest v x y o is at found some =
    front-found sought ((at_of a v, x) ∷ []) (second_beside a rest) o (found ∙ ap (λ (z : Atom). first_sought sought ((z, x) ∷ [])) at) some
    ∙ ap (λ (xs : List (ℤ × Atom)). first_sought sought (second_beside a xs)) (sym is)
