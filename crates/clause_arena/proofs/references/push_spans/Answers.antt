use Rattle.std.proofs.Common.{◌≡◌, ◌+◌, ◌++◌, ◌∷◌, [], List, true, replicate, ap, ◌∙◌, arith, append_assoc}
use Rattle.std.specs.Prelude.{is_ok, vec_len}
use Rattle.std.proofs.lemmas.Bool.{cond-true}
use Rattle.std.proofs.lemmas.List.{replicate_more}
use Rattle.clause_arena.specs.declared.codes.Span.{Span}
use Rattle.clause_arena.specs.Codes.{no_span}
use Rattle.clause_arena.proofs.references.push_spans.Goals as goal

pub loop-k-preserved : goal.loop-k-preserved
loop-k-preserved c =
    let added : is_ok c.push.result ≡ true = c.push.ensures.succeeds (omega arith) in
    let items : c.push.new.self.items ≡ c.loop-k.spans.items ++ no_span ∷ [] = c.push.ensures.items ∙ cond-true _ _ _ added in
    let longer : vec_len c.push.new.self ≡ vec_len c.loop-k.spans + 1 = c.push.ensures.len ∙ cond-true _ _ _ added in (
      items
          ∙ ap (λ (xs : List Span). xs ++ no_span ∷ []) c.loop-k.invariant.0
          ∙ append_assoc c.args.spans.now.items (replicate c.loop-k.k no_span) (no_span ∷ [])
          ∙ ap (λ (xs : List Span). c.args.spans.now.items ++ xs) (replicate_more c.loop-k.k no_span),
      omega arith,
      omega arith,
    )
