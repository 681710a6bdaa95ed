use Rattle.std.proofs.Common.{◌≡◌, ◌+◌, ◌++◌, ◌∷◌, [], List, ℕ, take, sym, ap, ◌∙◌, subst}
use Rattle.std.proofs.lemmas.List.{take_more}
use Rattle.core_forms.specs.declared.form.Core.{Core}
use Rattle.fixpoint_queue.specs.Standing.{AreVars, AreAllVars}
use Rattle.fixpoint_queue.proofs.Entries.{all-vars-put}
use Rattle.fixpoint_queue.proofs.entering.all_variables.Goals as goal

pub loop-core-preserved : goal.loop-core-preserved
loop-core-preserved c =
    let cores = c.args.cores.now in
    let i = c.loop-core.core-index in
    let taken : take (i + 1) cores ≡ take i cores ++ c.core-item.result ∷ [] =
    take_more cores i c.core-item.result c.loop-core-test.true ∙ ap (λ (x : Core). take i cores ++ x ∷ []) (sym c.core-item.is) in
    let are : AreVars c.from_vec.result c.core-item.result =
    subst (λ (l : List ℕ). AreVars l c.core-item.result) (sym c.from_vec.ensures)
    (record { ascending = c.in_ok-variables.ensures.ascending; exact = c.in_ok-variables.ensures.exact }) in
    let lists : c.push.new.self.items ≡ c.loop-core.lists.items ++ c.from_vec.result ∷ [] = c.in_ok-push.ensures.items in
    subst (λ (ls : List (List ℕ)). AreAllVars ls (take (i + 1) cores)) (sym lists)
    (subst (AreAllVars (c.loop-core.lists.items ++ c.from_vec.result ∷ [])) (sym taken)
    (all-vars-put c.loop-core.lists.items (take i cores) c.from_vec.result c.core-item.result c.loop-core.invariant are))
