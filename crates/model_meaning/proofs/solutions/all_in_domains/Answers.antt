use Rattle.std.proofs.Common.{arith, length, sym, ◌∙◌, drop}
use Rattle.std.proofs.lemmas.List.{length-drop}
use Rattle.model_meaning.proofs.DomainLaws.{in_domains-values_end, in_domains-decls_end}
use Rattle.model_meaning.proofs.solutions.all_in_domains.Goals as goal

pub returns-then-i-values : goal.returns-then-i-values
returns-then-i-values c =
    sym (in_domains-values_end (drop c.loop-i.i c.args.decls.now) (drop c.loop-i.i c.args.values.now) (simp length-drop (omega arith)) (simp length-drop (omega arith))) ∙ c.loop-i.invariant.rest

pub returns : goal.returns
returns c =
    let ds = c.args.decls.now in
    let vs = c.args.values.now in
    in_domains-decls_end (drop c.loop-i.i ds) (drop c.loop-i.i vs) (length ds) (length vs) (simp length-drop (omega arith)) (simp length-drop (omega arith)) (omega arith) ∙ c.loop-i.invariant.rest
