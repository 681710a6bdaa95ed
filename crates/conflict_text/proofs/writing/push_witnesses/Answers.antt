use Rattle.std.proofs.Common.{ℕ, List, ◌++◌, length, ap, sym, ◌∙◌, arith}
use Rattle.std.proofs.lemmas.List.{append-nil}
use Rattle.bee_text.specs.Lines.{join_lines}
use Rattle.model_meaning.specs.declared.model.Assignment.{Assignment}
use Rattle.conflict_text.specs.ConflictDocuments.{witness_lines}
use Rattle.conflict_text.proofs.Written.{whole-at, none-left, witness-step}
use Rattle.conflict_text.proofs.writing.push_witnesses.Goals as goal

pub push_witness-requires : goal.push_witness-requires
push_witness-requires c =
    let given = c.args.assignments.now in
    let a = c.index-assignments-i.result in
    whole-at c.args.decls.now given c.loop-i.i a c.requires c.if-i-assignments.false c.index-assignments-i.is
    ∙ ap length (sym (c.as_slice.ensures ∙ ap (λ (b : Assignment). b.values) (sym c.index-assignments-i.is)))

pub returns-then-i-assignments : goal.returns-then-i-assignments
returns-then-i-assignments c =
    let ns = c.args.statements.now in
    let given = c.args.assignments.now in
    let out = c.loop-i.out.items in
    sym (append-nil out)
    ∙ (ap (λ (ls : List (List ℕ)). out ++ join_lines ls) (sym (none-left c.args.decls.now ns given c.loop-i.i (omega (arith, c.if-i-assignments.true)))) ∙ c.loop-i.invariant)

pub loop-i-preserved : goal.loop-i-preserved
loop-i-preserved c =
    let ds = c.args.decls.now in
    let ns = c.args.statements.now in
    let given = c.args.assignments.now in
    witness-step ds c.loop-i.out.items c.push_witness.new.out.items (c.args.out.now.items ++ join_lines (witness_lines ds ns given)) ns given c.loop-i.i
    c.index-assignments-i.result c.as_slice.result.now c.loop-i-test.true c.if-i-assignments.false c.index-assignments-i.is
    (c.as_slice.ensures ∙ ap (λ (b : Assignment). b.values) (sym c.index-assignments-i.is)) c.in_ok-push_witness.ensures c.loop-i.invariant
