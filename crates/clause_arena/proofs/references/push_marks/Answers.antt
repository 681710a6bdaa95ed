use Rattle.std.proofs.Common.{◌≡◌, Bool, false, ◌+◌, ◌++◌, ◌∷◌, [], List, true, replicate, ap, ◌∙◌, arith, append_assoc}
use Rattle.std.specs.Prelude.{is_ok, vec_len}
use Rattle.std.proofs.lemmas.Bool.{cond-true}
use Rattle.std.proofs.lemmas.List.{replicate_more}
use Rattle.clause_arena.proofs.references.push_marks.Goals as goal

pub loop-k-preserved : goal.loop-k-preserved
loop-k-preserved c =
    let added : is_ok c.push.result ≡ true = c.push.ensures.succeeds (omega arith) in
    let items : c.push.new.self.items ≡ c.loop-k.marks.items ++ false ∷ [] = c.push.ensures.items ∙ cond-true _ _ _ added in
    let longer : vec_len c.push.new.self ≡ vec_len c.loop-k.marks + 1 = c.push.ensures.len ∙ cond-true _ _ _ added in (
      items
          ∙ ap (λ (xs : List Bool). xs ++ false ∷ []) c.loop-k.invariant.0
          ∙ append_assoc c.args.marks.now.items (replicate c.loop-k.k false) (false ∷ [])
          ∙ ap (λ (xs : List Bool). c.args.marks.now.items ++ xs) (replicate_more c.loop-k.k false),
      omega arith,
      omega arith,
    )
