use Rattle.std.proofs.Common.{◌∙◌, get_or, sym}
use Rattle.std.specs.Prelude.{Contains}
use Rattle.std.proofs.lemmas.Bool.{true≢false}
use Rattle.std.proofs.lemmas.List.{get_or_default}
use Rattle.fixpoint_queue.proofs.handing.are_bare.Goals as goal

pub is_bare-requires : goal.is_bare-requires
is_bare-requires c =
    let vars = c.args.vars.now in
    let index = c.loop-var.var-index in
    c.requires (get_or vars index 0) (index, c.loop-var-test.true, get_or_default vars index (get_or vars index 0) 0 c.loop-var-test.true)

pub returns-then-not-is_bare : goal.returns-then-not-is_bare
returns-then-not-is_bare c =
    let vars = c.args.vars.now in
    let index = c.loop-var.var-index in
    let there : Contains vars (get_or vars index 0) = (index, c.loop-var-test.true, get_or_default vars index (get_or vars index 0) 0 c.loop-var-test.true) in (
      λ no. absurd (true≢false (sym no)),
      λ bare. absurd (true≢false (sym (c.is_bare.ensures.bare.1 (bare (get_or vars index 0) there)) ∙ c.if-not-is_bare.true)),
    )
