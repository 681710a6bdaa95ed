use Rattle.std.proofs.Common.{[], ◌∷◌, ◌++◌, ◌∙◌, List, ℕ, ap, subst, append_assoc}
use Rattle.core_forms.specs.declared.form.Core.{Core}
use Rattle.fixpoint_queue.specs.Standing.{AreAllVars}
use Rattle.fixpoint_queue.proofs.cutting.lists_of_cut.Goals as goal

pub returns : goal.returns
returns c = record {
  before = c.in_ok-lists.lists.items;
  behind = c.in_ok-behind.behind.items;
  are = c.in_ok-append.ensures.items
      ∙ ap (λ (l : List (List ℕ)). l ++ c.in_ok-behind.behind.items) c.in_ok-push.ensures.items
      ∙ ap (λ (l : List ℕ). (c.in_ok-lists.lists.items ++ l ∷ []) ++ c.in_ok-behind.behind.items) (c.from_vec.ensures ∙ c.new.ensures.items)
      ∙ append_assoc c.in_ok-lists.lists.items ([] ∷ []) c.in_ok-behind.behind.items;
  front = subst (λ (cs : List Core). AreAllVars c.in_ok-lists.lists.items cs) c.as_slice.ensures c.in_ok-lists.ensures;
  back = subst (λ (cs : List Core). AreAllVars c.in_ok-behind.behind.items cs) c.as_slice-2.ensures c.in_ok-behind.ensures;
}
