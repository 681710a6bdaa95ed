use Rattle.std.proofs.Common.{◌∙◌}
use Rattle.state_compile.specs.Compilation.{IsCompilation}
use Rattle.fixpoint_queue.proofs.QueueSizes.{queued-pending}
use Rattle.state_compile.proofs.Answered.{compilation-models}
use Rattle.state_compile.proofs.Askings.{all-asked}
use Rattle.state_compile.proofs.InOrder.{order-leads}
use Rattle.state_compile.proofs.Turns.{compilation-given}
use Rattle.state_compile.proofs.compiling.compile_state.Given
use Rattle.state_compile.proofs.compiling.compile_state.Goals as goal

whole : (g : Given.Over) (c : goal.After-from_vec-ledger-2 g) → IsCompilation g.F.Oracle.told c.args.state c.from_vec-ledger-2.result c.finish-state.result.0
whole g c =
    compilation-given g.F.Oracle.told c.args.state c.in_ok-runner.runner.kernel c.split_all.new.runner.kernel c.encode_all.new.runner.kernel c.finish-state.result.0
    c.in_ok-runner.runner.ledger c.split_all.new.runner.ledger c.encode_all.new.runner.ledger c.from_vec-ledger-2.result
    c.in_ok-runner.ensures.kernel c.in_ok-runner.ensures.ledger c.finish-state.ensures.state (c.from_vec-ledger-2.ensures ∙ c.finish-state.ensures.ledger)
    c.in_ok-split_all.ensures.adds c.in_ok-encode_all.ensures.adds c.in_ok-encode_all.ensures.end

pub returns-clause-compilation : goal.returns-clause-compilation
returns-clause-compilation g c = whole g c

pub returns-clause-leads : goal.returns-clause-leads
returns-clause-leads g c = order-leads g.F.Oracle.told c.args.state c.finish-state.result.0 c.from_vec-ledger-2.result (whole g c).lines

pub returns-clause-models : goal.returns-clause-models
returns-clause-models g c = compilation-models g.F.Oracle.told c.args.state c.finish-state.result.0 c.from_vec-ledger-2.result c.bottom.ensures.kernel (whole g c)

pub returns-clause-asked : goal.returns-clause-asked
returns-clause-asked g c =
    all-asked g.F.Oracle.told c.args.state c.in_ok-runner.runner.kernel c.split_all.new.runner.kernel c.encode_all.new.runner.kernel c.finish-state.result.0
    c.in_ok-runner.runner.ledger c.split_all.new.runner.ledger c.encode_all.new.runner.ledger c.from_vec-ledger-2.result
    c.in_ok-runner.runner.queued c.args.steps.now c.split_all.new.steps
    c.bottom.ensures.kernel (queued-pending c.args.state.cores c.in_ok-runner.runner.queued c.in_ok-runner.ensures.queued)
    c.in_ok-runner.ensures.kernel c.in_ok-runner.ensures.ledger c.finish-state.ensures.state (c.from_vec-ledger-2.ensures ∙ c.finish-state.ensures.ledger)
    c.in_ok-split_all.ensures.adds c.in_ok-encode_all.ensures.adds c.in_ok-split_all.ensures.asked (whole g c)
