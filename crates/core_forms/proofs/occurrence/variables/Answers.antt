use Rattle.std.proofs.Common.{◌≡◌, ◌++◌, ◌∙◌, ℕ, List, Contains, ap, subst, sym}
use Rattle.core_forms.specs.Contents.{ints_of, atoms_of}
use Rattle.core_forms.specs.Variables.{atoms_vars, ints_vars}
use Rattle.core_forms.proofs.Ordered.{exchanged}
use Rattle.core_forms.proofs.occurrence.variables.Goals as goal

pub returns-clause-exact : goal.returns-clause-exact
returns-clause-exact c =
    let atoms : List ℕ = atoms_vars (atoms_of c.args.core.now) in
    let ints : List ℕ = ints_vars (ints_of c.args.core.now) in
    let all : c.put_core.new.vars.items ≡ ints ++ atoms = c.in_ok-put_core.ensures ∙ ap (λ (xs : List ℕ). (xs ++ ints) ++ atoms) c.new-vars.ensures.items in
    λ v. (
      λ h. exchanged ints atoms v (subst (λ (xs : List ℕ). Contains xs v) all ((c.put_in_order.ensures.same v).0 h)),
      λ h. (c.put_in_order.ensures.same v).1 (subst (λ (xs : List ℕ). Contains xs v) (sym all) (exchanged atoms ints v h)),
    )
