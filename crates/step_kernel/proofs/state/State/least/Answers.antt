use Rattle.std.proofs.Common.{◌≡◌, ap, ◌∙◌, length, arith, rules}
use Rattle.step_kernel.specs.Least.{least_of}
use Rattle.step_kernel.proofs.Cursors.{least-found, least-none}
use Rattle.step_kernel.proofs.state.State.least.Goals as goal

pub returns-then-self-len-clause-least : goal.returns-then-self-len-clause-least
returns-then-self-len-clause-least c =
    let count : c.len.result ≡ length c.self.inside.cores.items = search rules in
    least-found c.self.inside.cores.items c.self.inside.first c.self.invariant.cursor (omega (arith, count, c.if-self-len.true)) ∙ ap least_of c.self.view_is

pub returns-else-self-len-clause-least : goal.returns-else-self-len-clause-least
returns-else-self-len-clause-least c =
    let count : c.len.result ≡ length c.self.inside.cores.items = search rules in
    least-none c.self.inside.cores.items c.self.inside.first c.self.invariant.cursor (omega (arith, count, c.if-self-len.false)) ∙ ap least_of c.self.view_is
