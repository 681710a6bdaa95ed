use Rattle.std.proofs.Common.{◌≡◌, ℕ, ◌+◌, ◌++◌, ◌∷◌, [], List, true, ap, ◌∙◌, sym, arith, append_assoc}
use Rattle.std.specs.Prelude.{is_ok, vec_len}
use Rattle.std.specs.List.{range_with_len}
use Rattle.std.proofs.lemmas.Bool.{cond-true}
use Rattle.equation_store.proofs.Own.{range_with_len-more}
use Rattle.equation_store.proofs.labels.push_alone.Goals as goal

pub loop-k-preserved : goal.loop-k-preserved
loop-k-preserved c =
    let first = c.len.result + 1 in
    let added : is_ok c.push.result ≡ true = c.push.ensures.succeeds (omega arith) in
    let items : c.push.new.self.items ≡ c.loop-k.next.items ++ (first + c.loop-k.k) ∷ [] = c.push.ensures.items ∙ cond-true _ _ _ added in
    let longer : vec_len c.push.new.self ≡ vec_len c.loop-k.next + 1 = c.push.ensures.len ∙ cond-true _ _ _ added in (
      items
          ∙ ap (λ (xs : List ℕ). xs ++ (first + c.loop-k.k) ∷ []) c.loop-k.invariant.0
          ∙ append_assoc c.args.next.now.items (range_with_len first c.loop-k.k) ((first + c.loop-k.k) ∷ [])
          ∙ sym (ap (λ (xs : List ℕ). c.args.next.now.items ++ xs) (range_with_len-more first c.loop-k.k)),
      omega arith,
      omega arith,
    )
