use Rattle.std.proofs.Common.{◌≡◌, ℕ, ◌+◌, ◌++◌, ◌∷◌, [], List, true, replicate, ap, ◌∙◌, arith, append_assoc}
use Rattle.std.specs.Prelude.{is_ok, vec_len}
use Rattle.std.proofs.lemmas.Bool.{cond-true}
use Rattle.std.proofs.lemmas.List.{replicate_more}
use Rattle.clause_rings.proofs.room.push_blockers.Goals as goal

pub loop-k-preserved : goal.loop-k-preserved
loop-k-preserved c =
    let added : is_ok c.push.result ≡ true = c.push.ensures.succeeds (omega arith) in
    let items : c.push.new.self.items ≡ c.loop-k.blockers.items ++ 0 ∷ [] = c.push.ensures.items ∙ cond-true _ _ _ added in
    let longer : vec_len c.push.new.self ≡ vec_len c.loop-k.blockers + 1 = c.push.ensures.len ∙ cond-true _ _ _ added in (
      items
          ∙ ap (λ (xs : List ℕ). xs ++ 0 ∷ []) c.loop-k.invariant.0
          ∙ append_assoc c.args.blockers.now.items (replicate c.loop-k.k 0) (0 ∷ [])
          ∙ ap (λ (xs : List ℕ). c.args.blockers.now.items ++ xs) (replicate_more c.loop-k.k 0),
      omega arith,
      omega arith,
    )
