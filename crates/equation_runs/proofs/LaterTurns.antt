-- Equations that are told once those before them are made.
use Rattle.std.proofs.Common.{List, [], ◌∷◌, ◌++◌}
use Rattle.order_ints.specs.declared.atom.Atom.{Atom}
use Rattle.core_forms.specs.declared.equation.Equation.{Equation}
use Rattle.core_forms.specs.declared.form.Core.{Core}
use Rattle.equation_runs.specs.Turns.{IsMade, IsMadeOrTold, IsBehind, AreToldFrom, AreToldAfter}

module _ (told : Core → Equation → Type 0) (core : Core) where
  -- what needs no more than that the one before it is made
  pub from-after : (done : List Equation) (before : Equation) (es : List Equation) → ((view : List Atom) → IsBehind core done view → IsMade view before) → AreToldAfter told core before es → AreToldFrom told core done es
  from-after done before [] made after = tt
  from-after done before (e ∷ es) made after =
      ((λ view behind. after.0 view (made view behind)), from-after (e ∷ done) e es (λ view behind. behind.made.0) after.1)

  -- what is told in every view
  abbrev pub AreToldAlways : List Equation → Type 0
  AreToldAlways [] = Unit {0}
  AreToldAlways (e ∷ es) = ((view : List Atom) → IsMadeOrTold told core view e) × AreToldAlways es

  pub from-always : (done es : List Equation) → AreToldAlways es → AreToldFrom told core done es
  from-always done [] always = tt
  from-always done (e ∷ es) always = ((λ view _. always.0 view), from-always (e ∷ done) es always.1)

  -- a list behind another one, where it is told whatever was made
  pub from-append : (done xs ys : List Equation) → AreToldFrom told core done xs → ((others : List Equation) → AreToldFrom told core others ys) → AreToldFrom told core done (xs ++ ys)
  from-append done [] ys first second = second done
  from-append done (e ∷ xs) ys first second = (first.0, from-append (e ∷ done) xs ys first.1 second)
