use Rattle.std.proofs.Common.{◌≡◌, ℕ, ◌<◌, ◌++◌, [], List, length, length-take, refl, ap, subst, ◌∙◌, arith}
use Rattle.core_forms.specs.Variables.{atoms_vars, ints_vars}
use Rattle.core_forms.specs.OwnVars.{with_vars}
use Rattle.core_forms.proofs.OwnVars.{others-left, too-many, few-none, few-some}
use Rattle.core_forms.proofs.few.few_of.Goals as goal

pub returns-in_err-put_atoms : goal.returns-in_err-put_atoms
returns-in_err-put_atoms c =
    let atoms = atoms_vars c.args.atoms in
    let ints = ints_vars c.args.ints in
    let many : 8 < length (with_vars atoms []) = subst (λ (vars : List ℕ). 8 < length (with_vars atoms vars)) c.none-vars.ensures c.in_err-put_atoms.ensures.full in
    let none = few-none (with_vars (atoms ++ ints) []) (too-many atoms ints [] (with_vars (atoms ++ ints) []) refl many) in
    cc

pub returns-in_err-put_ints : goal.returns-in_err-put_ints
returns-in_err-put_ints c =
    let atoms = atoms_vars c.args.atoms in
    let ints = ints_vars c.args.ints in
    let first : c.put_atoms.new.vars ≡ with_vars atoms [] = c.in_ok-put_atoms.ensures.put ∙ ap (with_vars atoms) c.none-vars.ensures in
    let all = others-left atoms ints [] c.put_atoms.new.vars (with_vars (atoms ++ ints) []) refl first in
    let none = few-none (with_vars (atoms ++ ints) []) (subst (λ (vars : List ℕ). 8 < length vars) all c.in_err-put_ints.ensures.full) in
    cc

pub returns : goal.returns
returns c =
    let atoms = atoms_vars c.args.atoms in
    let ints = ints_vars c.args.ints in
    let first : c.put_atoms.new.vars ≡ with_vars atoms [] = c.in_ok-put_atoms.ensures.put ∙ ap (with_vars atoms) c.none-vars.ensures in
    let all = others-left atoms ints [] c.put_atoms.new.vars (with_vars (atoms ++ ints) []) refl first in
    let is : c.put_ints.new.vars ≡ with_vars (atoms ++ ints) [] = c.in_ok-put_ints.ensures.put ∙ all in
    let some = few-some (with_vars (atoms ++ ints) []) (omega (arith, length-take c.vars.inside.count c.vars.inside.vars, ap length c.vars.view_is, ap length is)) in
    cc
