-- What a loop along a list finds: it stops at the first member whose equations have what is looked for.
use Rattle.std.proofs.Common.{◌≡◌, Bool, true, false, cond, List, [], ◌∷◌, ◌++◌, map, refl, sym, ap, subst, ◌∙◌}
use Rattle.std.specs.Prelude.{Option, filter}
use Rattle.std.specs.Option.{is_some}
use Rattle.std.specs.List.{AllByRecursion}
use Rattle.order_ints.specs.declared.atom.Atom.{Atom}
use Rattle.rule_base.specs.declared.sought.SoughtEquation.{SoughtEquation}
use Rattle.rule_base.specs.Pairs.{first_sought, only_if}
use Rattle.rule_base.proofs.PairLaws.{front-found, back-found}

-- one equation for each member
module _ {X : Type 0} (sought : SoughtEquation) (pair : X → Atom × Atom) (xs rest : List X) (x : X) (p : Atom × Atom) (o : Option (Atom × Atom))
    (is : xs ≡ x ∷ rest) (at : p ≡ pair x) (found : o ≡ first_sought sought (p ∷ [])) where
  pub pair-stop : is_some o ≡ true → o ≡ first_sought sought (map pair xs)
  pair-stop some =
      front-found sought (pair x ∷ []) (map pair rest) o (found ∙ ap (λ q. first_sought sought (q ∷ [])) at) some
      ∙ ap (λ ys. first_sought sought (map pair ys)) (sym is)

  pub pair-next : is_some o ≡ false → first_sought sought (map pair rest) ≡ first_sought sought (map pair xs)
  pair-next none =
      back-found sought (pair x ∷ []) (map pair rest) o (first_sought sought (map pair rest)) (found ∙ ap (λ q. first_sought sought (q ∷ [])) at) none refl
      ∙ ap (λ ys. first_sought sought (map pair ys)) (sym is)

-- the first of a list, where it passes a test, and those of the rest that do
filter-first : {X : Type 0} (pair : X → Atom × Atom) (test : X → Bool) (x : X) (rest : List X) → only_if (test x) (pair x ∷ []) ++ map pair (filter test rest) ≡ map pair (filter test (x ∷ rest))
filter-first pair test x rest =
    elim (test x) as (λ t. only_if t (pair x ∷ []) ++ map pair (filter test rest) ≡ map pair (cond t (x ∷ filter test rest) (filter test rest))) [
      | true ↦ refl
      | false ↦ refl
    ]

-- one equation for each member that passes a test
module _ {X : Type 0} (sought : SoughtEquation) (pair : X → Atom × Atom) (test : X → Bool) (xs rest : List X) (x : X) (p : Atom × Atom) (o : Option (Atom × Atom))
    (is : xs ≡ x ∷ rest) (at : p ≡ pair x) (found : o ≡ first_sought sought (only_if (test x) (p ∷ []))) where
  pub where-stop : is_some o ≡ true → o ≡ first_sought sought (map pair (filter test xs))
  where-stop some =
      front-found sought (only_if (test x) (pair x ∷ [])) (map pair (filter test rest)) o (found ∙ ap (λ q. first_sought sought (only_if (test x) (q ∷ []))) at) some
      ∙ ap (first_sought sought) (filter-first pair test x rest) ∙ ap (λ ys. first_sought sought (map pair (filter test ys))) (sym is)

  pub where-next : is_some o ≡ false → first_sought sought (map pair (filter test rest)) ≡ first_sought sought (map pair (filter test xs))
  where-next none =
      back-found sought (only_if (test x) (pair x ∷ [])) (map pair (filter test rest)) o (first_sought sought (map pair (filter test rest))) (found ∙ ap (λ q. first_sought sought (only_if (test x) (q ∷ []))) at) none refl
      ∙ ap (first_sought sought) (filter-first pair test x rest) ∙ ap (λ ys. first_sought sought (map pair (filter test ys))) (sym is)

-- what holds of all holds of the first and of the rest
pub all-first : {X : Type 0} (P : X → Type 0) (xs rest : List X) (x : X) → xs ≡ x ∷ rest → AllByRecursion P xs → P x × AllByRecursion P rest
all-first P xs rest x is all = subst (AllByRecursion P) is all

pub all-both : {X : Type 0} (P Q : X → Type 0) (xs : List X) → AllByRecursion P xs → AllByRecursion Q xs → AllByRecursion (λ x. P x × Q x) xs
all-both P Q [] h k = tt
all-both P Q (x ∷ xs) h k = ((h.0, k.0), all-both P Q xs h.1 k.1)
