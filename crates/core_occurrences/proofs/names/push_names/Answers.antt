use Rattle.std.proofs.Common.{◌≡◌, List, ℕ, true, length, ap, ◌∙◌, arith}
use Rattle.std.specs.Prelude.{is_ok}
use Rattle.std.proofs.lemmas.Bool.{cond-true}
use Rattle.std.proofs.lemmas.List.{length_push}
use Rattle.core_occurrences.specs.Bodies.{named_by}
use Rattle.core_occurrences.proofs.Named.{named-push}
use Rattle.core_occurrences.proofs.names.push_names.Goals as goal

pub loop-k-preserved : goal.loop-k-preserved
loop-k-preserved c =
    let added : is_ok c.push.result ≡ true = c.push.ensures.succeeds (omega (arith, c.loop-k.invariant.long, c.loop-k.invariant.room, c.loop-k-test.true)) in
    let items = c.push.ensures.items ∙ cond-true _ _ _ added in
    record {
      same = λ b. ap (λ (l : List ℕ). named_by l b) items ∙ named-push c.loop-k.names.items _ b (omega (arith, c.loop-k.invariant.count, c.requires.last, c.loop-k-test.true)) ∙ c.loop-k.invariant.same b;
      count = ap length items ∙ length_push c.loop-k.names.items _ ∙ (omega (arith, c.loop-k.invariant.count));
      long = c.push.ensures.len ∙ cond-true _ _ _ added ∙ (omega (arith, c.loop-k.invariant.long));
      room = omega (arith, c.loop-k.invariant.room, c.push.ensures.capacity);
    }
