use Rattle.std.proofs.Common.{◌≡◌, sym, ap, ◌∙◌, List, Some}
use Rattle.std.specs.Prelude.{option_map}
use Rattle.order_ints.specs.declared.atom.Atom.{Atom}
use Rattle.core_forms.specs.Trimmed.{trimmed_core}
use Rattle.step_kernel.specs.Kernel.{Kernel}
use Rattle.step_kernel.proofs.Holes.{formed-there}
use Rattle.step_kernel.proofs.state.State.trimmed.Goals as goal

pub trim-requires : goal.trim-requires
trim-requires c = (formed-there c.args.self.now.cores c.args.id c.in-Some.core.now (sym c.in-Some.ensures.core) c.in-Some.ensures.kernel.formed).0

pub returns-in_ok-trim-in-Some-clause-trimmed : goal.returns-in_ok-trim-in-Some-clause-trimmed
returns-in_ok-trim-in-Some-clause-trimmed c =
    let view : c.view.result.now ≡ c.args.self.now.view = c.view.ensures.view ∙ ap (λ (k : Kernel). k.view) c.self.view_is in
    ap Some (c.in_ok-trim-in-Some.ensures.shape ∙ ap (λ (v : List Atom). trimmed_core v c.in-Some.core.now) view)
    ∙ ap (option_map (trimmed_core c.args.self.now.view)) c.in-Some.ensures.core
