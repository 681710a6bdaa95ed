use Rattle.std.proofs.Common.{◌≡◌, false, Some, Ok, ap, ◌∙◌, rules}
use Rattle.ledger_text.specs.declared.line.Line.TheVariants.{Encode}
use Rattle.step_kernel.specs.Kernel.{trimmed_at}
use Rattle.step_kernel.specs.Steps.{step}
use Rattle.fixpoint_queue.specs.Saturation.{Saturation}
use Rattle.fixpoint_queue.proofs.Encodings.{encoded-is, saturation-encoded}
use Rattle.fixpoint_queue.proofs.runner.Runner.encode.Goals as goal

pub invariant_of-self-2 : goal.invariant_of-self-2
invariant_of-self-2 g c =
    let k = c.self.inside.state in
    let basic = c.requires.basic in
    let there : trimmed_at k c.args.id ≡ Some basic.0 = ap (λ (r : Saturation). trimmed_at r.kernel c.args.id) c.self.view_is ∙ basic.1 in
    let running : k.bottom ≡ false = ap (λ (r : Saturation). r.kernel.bottom) c.self.view_is ∙ c.requires.running in
    let made : step k (Encode c.args.id) ≡ Ok c.apply.new.self = search rules in
    saturation-encoded g.F.Oracle.told k c.apply.new.self c.args.id c.self.inside.work.occurs c.leave.new.self.occurs c.self.inside.work.queue c.leave.new.self.queue c.self.inside.work.marks c.leave.new.self.marks c.self.invariant
    basic.0 there (encoded-is k c.apply.new.self c.args.id basic.0 running there basic.2 made) c.apply.ensures.kernel c.leave.ensures.occurs c.leave.ensures.occurrences c.leave.ensures.queued c.leave.ensures.places
    c.leave.ensures.ids c.leave.ensures.marks
