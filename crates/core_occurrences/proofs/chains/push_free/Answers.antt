use Rattle.std.proofs.Common.{◌≡◌, ◌+◌, ◌++◌, ◌∷◌, [], true, get_or, ◌∙◌, subst, arith}
use Rattle.std.specs.Prelude.{is_ok, vec_len}
use Rattle.std.proofs.lemmas.Bool.{cond-true}
use Rattle.core_occurrences.specs.Chains.{IsFreed}
use Rattle.core_occurrences.proofs.Added.{freeing-none, freeing-more}
use Rattle.core_occurrences.proofs.chains.push_free.Goals as goal

pub loop-k-init : goal.loop-k-init
loop-k-init c = (freeing-none c.args.nodes.now.items c.args.heads.now c.requires.chains, omega arith, omega arith)

pub loop-k-preserved : goal.loop-k-preserved
loop-k-preserved c =
    let added : is_ok c.push.result ≡ true = c.push.ensures.succeeds (omega arith) in
    let items : c.push.new.self.items ≡ c.loop-k.nodes.items ++ record { owner = 0; next = get_or c.loop-k.heads 0 0 } ∷ [] = c.push.ensures.items ∙ cond-true _ _ _ added in
    let longer : vec_len c.push.new.self ≡ vec_len c.loop-k.nodes + 1 = c.push.ensures.len ∙ cond-true _ _ _ added in (
      freeing-more c.args.nodes.now.items c.loop-k.nodes.items c.push.new.self.items c.loop-k.heads c.loop-k.k c.loop-k.invariant.0 (omega arith) (omega (arith, c.loop-k.invariant.0.freed.count)) items _ (omega (arith, c.loop-k.invariant.0.freed.count)),
      omega arith,
      omega arith,
    )

pub returns : goal.returns
returns c =
    let e : c.loop-k.k ≡ c.args.more = omega arith in
    record { freed = subst (IsFreed c.args.nodes.now.items c.loop-k.nodes.items) e c.loop-k.invariant.0.freed; chains = c.loop-k.invariant.0.chains }
