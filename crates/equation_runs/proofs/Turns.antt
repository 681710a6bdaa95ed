-- A run is told in turn.
use Rattle.std.proofs.Common.{◌≡◌, ℕ, true, List, [], ◌∷◌, ◌++◌, map, refl, sym, subst, Result, Ok, Err}
use Rattle.std.specs.Prelude.{IfOk}
use Rattle.std.specs.Global.{Vec}
use Rattle.order_ints.specs.declared.order_int.OrdInt.{OrdInt}
use Rattle.core_forms.specs.declared.equation.Rule.TheVariants.{Order, Form}
use Rattle.core_forms.specs.declared.form.Core.{Core}
use Rattle.core_forms.specs.declared.equation.Equation.{Equation}
use Rattle.core_forms.specs.Contents.{ints_of}
use Rattle.core_forms.specs.Place.{CoreBelow}
use Rattle.equation_runs.specs.Turns.{AreToldInTurn, EquationsBelow, made_equation, is_stated}
use Rattle.equation_runs.specs.BoundRows.{bound_pairs}
use Rattle.equation_runs.specs.RunRows.{equation_of, chain_pairs, chains_of, link_pairs, run_of}
use Rattle.equation_runs.proofs.Always.{Told}
use Rattle.equation_runs.proofs.ChainTurns.{chains-turn, last-turn}
use Rattle.equation_runs.proofs.FormTurns.{links-turn, bounds-turn}
use Rattle.equation_runs.proofs.LaterTurns.{from-after, from-always, from-append}
use Rattle.equation_runs.proofs.RunBelow.{run-below, form-below, last-below}

-- first what is told once those before it are made, then what follows along the integers, and then the links, both whatever was made before
pub run-turn : (core : Core) → AreToldInTurn (λ c e. is_stated c e ≡ true) core (run_of core)
run-turn core =
    from-append Told core [] (bounds ++ chains) links
    (from-append Told core [] bounds chains (bounds-turn core)
    (λ others. from-after Told core others made_equation chains (λ _ _. refl) (chains-turn core made_equation)))
    (λ others. from-always Told core others links (links-turn core))
  where
    bounds : List Equation
    bounds = map (equation_of Form) (bound_pairs core)

    chains : List Equation
    chains = map (equation_of Order) (chains_of (ints_of core))

    links : List Equation
    links = map (equation_of Form) (link_pairs core)

-- and so is what is the run
pub told-of : {E : Type 0} (core : Core) (r : Result (Vec Equation) E) → IfOk r (λ run. run.items ≡ run_of core)
    → IfOk r (λ run. AreToldInTurn (λ c e. is_stated c e ≡ true) core run.items)
told-of core (Ok run) is = subst (AreToldInTurn (λ c e. is_stated c e ≡ true) core) (sym is) (run-turn core)
told-of core (Err e) is = tt

-- its variables are those of the core
pub below-of : {E : Type 0} (core : Core) (r : Result (Vec Equation) E) → IfOk r (λ run. run.items ≡ run_of core)
    → (n : ℕ) → CoreBelow n core → IfOk r (λ run. EquationsBelow n run.items)
below-of core (Ok run) is n below = subst (EquationsBelow n) (sym is) (run-below n core below)
below-of core (Err e) is n below = tt

-- the same of a run without what follows along the integers
abbrev pub of_form : Core → List Equation
of_form core = map (equation_of Form) (bound_pairs core) ++ map (equation_of Form) (link_pairs core)

form-turn : (core : Core) → AreToldInTurn (λ c e. is_stated c e ≡ true) core (of_form core)
form-turn core =
    let bounds = map (equation_of Form) (bound_pairs core) in
    let links = map (equation_of Form) (link_pairs core) in
    from-append Told core [] bounds links (bounds-turn core) (λ others. from-always Told core others links (links-turn core))

pub form-told : {E : Type 0} (core : Core) (r : Result (Vec Equation) E) → IfOk r (λ run. run.items ≡ of_form core)
    → IfOk r (λ run. AreToldInTurn (λ c e. is_stated c e ≡ true) core run.items)
form-told core (Ok run) is = subst (AreToldInTurn (λ c e. is_stated c e ≡ true) core) (sym is) (form-turn core)
form-told core (Err e) is = tt

pub form-over : {E : Type 0} (core : Core) (r : Result (Vec Equation) E) → IfOk r (λ run. run.items ≡ of_form core)
    → (n : ℕ) → CoreBelow n core → IfOk r (λ run. EquationsBelow n run.items)
form-over core (Ok run) is n below = subst (EquationsBelow n) (sym is) (form-below n core below)
form-over core (Err e) is n below = tt

-- the same of the equations along the last integer of a core
module _ {E : Type 0} (core : Core) (xs : List OrdInt) (a : OrdInt) (last : ints_of core ≡ xs ++ a ∷ []) where
  pub last-told : (r : Result (Vec Equation) E) → IfOk r (λ run. run.items ≡ map (equation_of Order) (chain_pairs a))
      → IfOk r (λ run. AreToldInTurn (λ c e. is_stated c e ≡ true) core run.items)
  last-told (Ok run) is =
      subst (AreToldInTurn (λ c e. is_stated c e ≡ true) core) (sym is)
      (from-after Told core [] made_equation (map (equation_of Order) (chain_pairs a)) (λ _ _. refl) (last-turn core xs a made_equation last))
  last-told (Err e) is = tt

  pub last-over : (r : Result (Vec Equation) E) → IfOk r (λ run. run.items ≡ map (equation_of Order) (chain_pairs a))
      → (n : ℕ) → CoreBelow n core → IfOk r (λ run. EquationsBelow n run.items)
  last-over (Ok run) is n below = subst (EquationsBelow n) (sym is) (last-below n core xs a last below)
  last-over (Err e) is n below = tt
