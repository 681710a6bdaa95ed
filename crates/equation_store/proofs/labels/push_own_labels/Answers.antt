use Rattle.std.proofs.Common.{◌≡◌, ◌+◌, ◌++◌, ◌∷◌, [], List, true, ap, ◌∙◌, sym, arith, append_assoc}
use Rattle.std.specs.Prelude.{is_ok, vec_len}
use Rattle.std.proofs.lemmas.Bool.{cond-true}
use Rattle.order_ints.specs.declared.atom.Atom.{Atom}
use Rattle.order_ints.specs.Label.{variable, own_labels}
use Rattle.equation_store.proofs.Own.{own_labels-more}
use Rattle.equation_store.proofs.labels.push_own_labels.Goals as goal

pub loop-k-preserved : goal.loop-k-preserved
loop-k-preserved c =
    let first = c.len.result + 1 in
    let added : is_ok c.push.result ≡ true = c.push.ensures.succeeds (omega arith) in
    let items : c.push.new.self.items ≡ c.loop-k.labels.items ++ variable (first + c.loop-k.k) ∷ [] = c.push.ensures.items ∙ cond-true _ _ _ added in
    let longer : vec_len c.push.new.self ≡ vec_len c.loop-k.labels + 1 = c.push.ensures.len ∙ cond-true _ _ _ added in (
      items
          ∙ ap (λ (xs : List Atom). xs ++ variable (first + c.loop-k.k) ∷ []) c.loop-k.invariant.0
          ∙ append_assoc c.args.labels.now.items (own_labels first c.loop-k.k) (variable (first + c.loop-k.k) ∷ [])
          ∙ sym (ap (λ (xs : List Atom). c.args.labels.now.items ++ xs) (own_labels-more first c.loop-k.k)),
      omega arith,
      omega arith,
    )
