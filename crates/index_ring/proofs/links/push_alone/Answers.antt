use Rattle.std.proofs.Common.{◌≡◌, ◌+◌, ◌++◌, ◌∷◌, [], List, true, ap, ◌∙◌, sym, arith, append_assoc}
use Rattle.std.specs.Prelude.{is_ok, vec_len}
use Rattle.std.proofs.lemmas.Bool.{cond-true}
use Rattle.index_ring.specs.declared.links.Links.{Links}
use Rattle.index_ring.specs.Links.{alone}
use Rattle.index_ring.proofs.Alone.{itself, alone-more}
use Rattle.index_ring.proofs.links.push_alone.Goals as goal

pub loop-k-preserved : goal.loop-k-preserved
loop-k-preserved c =
    let first = c.args.first + c.len.result in
    let added : is_ok c.push.result ≡ true = c.push.ensures.succeeds (omega arith) in
    let items : c.push.new.self.items ≡ c.loop-k.links.items ++ itself (first + c.loop-k.k) ∷ [] = c.push.ensures.items ∙ cond-true _ _ _ added in
    let longer : vec_len c.push.new.self ≡ vec_len c.loop-k.links + 1 = c.push.ensures.len ∙ cond-true _ _ _ added in (
      items
          ∙ ap (λ (xs : List Links). xs ++ itself (first + c.loop-k.k) ∷ []) c.loop-k.invariant.0
          ∙ append_assoc c.args.links.now.items (alone first c.loop-k.k) (itself (first + c.loop-k.k) ∷ [])
          ∙ sym (ap (λ (xs : List Links). c.args.links.now.items ++ xs) (alone-more first c.loop-k.k)),
      omega arith,
      omega arith,
    )
