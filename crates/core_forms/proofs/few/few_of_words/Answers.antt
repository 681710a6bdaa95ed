use Rattle.std.proofs.Common.{rules, ◌≡◌, ◌∷◌, ◌++◌, ℕ, [], List, ap, ◌∙◌}
use Rattle.core_forms.specs.Variables.{atoms_vars, ints_vars}
use Rattle.core_forms.specs.OwnVars.{with_vars, if_few}
use Rattle.core_forms.proofs.OwnVars.{words-vars}
use Rattle.core_forms.proofs.few.few_of_words.Goals as goal

pub returns : goal.returns
returns c =
    let truth : c.of.result ≡ c.args.truth ∷ [] = search rules in
    let words : c.of_two.result ≡ c.args.front.now ++ c.args.back.now = search rules in
    c.few_of.ensures ∙ (λ i. if_few (with_vars (atoms_vars (truth i) ++ ints_vars (words i)) []))
    ∙ ap (λ (vs : List ℕ). if_few (with_vars vs [])) (words-vars c.args.truth c.args.front.now c.args.back.now)
