use Rattle.std.proofs.Common.{◌≡◌, ◌∷◌, ap, sym, ◌∙◌}
use Rattle.core_forms.specs.Variables.{atom_vars, atoms_vars}
use Rattle.core_forms.specs.OwnVars.{with_vars}
use Rattle.core_forms.proofs.OwnVars.{too-many, where-none}
use Rattle.core_forms.proofs.few.put_atoms.Goals as goal

pub returns-in_err-put_atom-clause-full : goal.returns-in_err-put_atom-clause-full
returns-in_err-put_atom-clause-full c =
    let it : c.loop-atom.atom-iterator ≡ c.in-Some.atom.now ∷ c.next.new.self = c.in-Some.ensures.steps in
    where-none c.from_residual.result
    (too-many (atom_vars c.in-Some.atom.now) (atoms_vars c.next.new.self) c.loop-atom.vars _ (ap (λ xs. with_vars (atoms_vars xs) c.loop-atom.vars) (sym it) ∙ c.loop-atom.invariant) c.in_err-put_atom.ensures.full)
