-- The greatest variable of integers: what has a place has one up to it.
use Rattle.std.proofs.Common.{◌≡◌, ℕ, ◌+◌, ◌<◌, ◌≤◌, max, List, [], ◌∷◌, Option, None, Some, IfSome, pos, subst, sym, arith}
use Rattle.order_ints.specs.declared.atom.Atom.{Atom}
use Rattle.order_ints.specs.declared.atom.Atom.TheVariants.{True, False, Of}
use Rattle.order_ints.specs.declared.order_int.OrdInt.{OrdInt}
use Rattle.order_ints.specs.OrderRange.{IntBelow}
use Rattle.order_ints.specs.Place.{AtomBelow, StepsBelow}
use Rattle.core_forms.specs.declared.form.Core.TheVariants.{Ladder, Sum}
use Rattle.core_forms.specs.Edges.{var_of, greatest_var, greatest_vars}
use Rattle.core_forms.specs.Place.{IntsBelow}
use Rattle.core_forms.proofs.Places.{CoreBelow-more}

atom-below : (n m : ℕ) (a : Atom) → AtomBelow n a → var_of a < m → AtomBelow m a
atom-below n m True h lt = tt
atom-below n m False h lt = tt
atom-below n m (Of l) h lt = (h.0, lt)

greatest_var-least : (most : ℕ) (steps : List (Atom × ℕ)) → most ≤ greatest_var most steps
greatest_var-least most [] = omega arith
greatest_var-least most (s ∷ steps) = omega (arith, greatest_var-least (max most (var_of s.0)) steps)

greatest_var-below : (n most : ℕ) (steps : List (Atom × ℕ)) → StepsBelow n steps → StepsBelow (greatest_var most steps + 1) steps
greatest_var-below n most [] h = tt
greatest_var-below n most (s ∷ steps) h = (
  atom-below n (greatest_var most (s ∷ steps) + 1) s.0 h.0 (omega (arith, greatest_var-least (max most (var_of s.0)) steps)),
  greatest_var-below n (max most (var_of s.0)) steps h.1,
)

int-more : (n m : ℕ) (a : OrdInt) → n ≤ m → IntBelow n a → IntBelow m a
int-more n m a le h = (CoreBelow-more n m (Ladder a) le (tt, (h, tt))).1.0

pub ints-more : (n m : ℕ) (xs : List OrdInt) → n ≤ m → IntsBelow n xs → IntsBelow m xs
ints-more n m xs le h = (CoreBelow-more n m (Sum xs (pos 0)) le (tt, h)).1

greatest_vars-least : (most : ℕ) (xs : List OrdInt) → most ≤ greatest_vars most xs
greatest_vars-least most [] = omega arith
greatest_vars-least most (a ∷ xs) = omega (arith, greatest_var-least most a.steps, greatest_vars-least (greatest_var most a.steps) xs)

greatest_vars-below : (n most : ℕ) (xs : List OrdInt) → IntsBelow n xs → IntsBelow (greatest_vars most xs + 1) xs
greatest_vars-below n most [] h = tt
greatest_vars-below n most (a ∷ xs) h = (
  int-more (greatest_var most a.steps + 1) (greatest_vars most (a ∷ xs) + 1) a (omega (arith, greatest_vars-least (greatest_var most a.steps) xs)) (greatest_var-below n most a.steps h.0),
  greatest_vars-below n (greatest_var most a.steps) xs h.1,
)

pub some-below : (r : Option ℕ) (n most : ℕ) (xs : List OrdInt) → IntsBelow n xs → IfSome r (λ all. all ≡ greatest_vars most xs)
    → IfSome r (λ all. IntsBelow (all + 1) xs)
some-below None n most xs h is = tt
some-below (Some all) n most xs h is = subst (λ (m : ℕ). IntsBelow (m + 1) xs) (sym is) (greatest_vars-below n most xs h)

pub some-words : (r : Option ℕ) (n most first : ℕ) (front back : List OrdInt) → IntsBelow n front × IntsBelow n back → first ≡ greatest_vars most front
    → IfSome r (λ all. all ≡ greatest_vars first back) → IfSome r (λ all. IntsBelow (all + 1) front × IntsBelow (all + 1) back)
some-words None n most first front back h e is = tt
some-words (Some all) n most first front back h e is = (
  ints-more (greatest_vars most front + 1) (all + 1) front (omega (arith, is, e, greatest_vars-least first back)) (greatest_vars-below n most front h.0),
  subst (λ (m : ℕ). IntsBelow (m + 1) back) (sym is) (greatest_vars-below n first back h.1),
)
