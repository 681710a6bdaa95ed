use Rattle.std.proofs.Common.{◌≡◌, ℕ, ◌<◌, ◌++◌, ◌∷◌, length, take, drop, get_or, sym, subst, arith}
use Rattle.std.specs.Prelude.{nat_lt}
use Rattle.std.proofs.lemmas.List.Sums.{prefix_len-le-length}
use Rattle.core_forms.specs.OwnVars.{with_var}
use Rattle.core_forms.proofs.OwnVars.{with_var-there, with_var-between}
use Rattle.core_forms.proofs.few.place_for.Goals as goal
use Rattle.core_forms.proofs.few.place_for.Goals.{else-place-vars-via-then-place-vars+else-vars-place, else-place-vars-via-else-place-vars}

pub returns-then-vars-place-clause-there : goal.returns-then-vars-place-clause-there
returns-then-vars-place-clause-there c =
    let vars = c.args.vars.now in
    let var = c.args.var in
    sym (with_var-there var vars (subst (λ (n : ℕ). n < length vars) c.count_below-place.ensures c.if-place-vars.true) (subst (λ (n : ℕ). get_or vars n 0 ≡ var) c.count_below-place.ensures c.if-vars-place.true))

pub returns-else-place-vars-clause-range : goal.returns-else-place-vars-clause-range
returns-else-place-vars-clause-range c =
    omega (arith, c.count_below-place.ensures, prefix_len-le-length (λ other. nat_lt other c.args.var) c.args.vars.now)

pub returns-else-place-vars-clause-place : goal.returns-else-place-vars-clause-place
returns-else-place-vars-clause-place c =
    let vars = c.args.vars.now in
    let var = c.args.var in
    let place = c.count_below-place.result in
    let absent : place < length vars → get_or vars place 0 ≡ var → ⊥ =
    elim c.else-place-vars.branch [
      | else-place-vars-via-then-place-vars+else-vars-place w ↦ λ h e. absurd (w.if-vars-place.false e)
      | else-place-vars-via-else-place-vars w ↦ λ h e. omega (arith, h, w.if-place-vars.false)
    ] in
    subst (λ (n : ℕ). take n vars ++ var ∷ drop n vars ≡ with_var var vars) (sym c.count_below-place.ensures)
    (with_var-between var vars (subst (λ (n : ℕ). n < length vars → get_or vars n 0 ≡ var → ⊥) c.count_below-place.ensures absent))
