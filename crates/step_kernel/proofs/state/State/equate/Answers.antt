use Rattle.std.proofs.Common.{◌≡◌, ◌<◌, ℕ, List, sym, ◌∙◌, subst, Option, rules}
use Rattle.std.specs.Prelude.{IfSome}
use Rattle.order_ints.specs.declared.atom.Atom.{Atom}
use Rattle.step_kernel.specs.Cursor.{kernel_of}
use Rattle.step_kernel.specs.Kernel.{IsKernel}
use Rattle.step_kernel.specs.StableMarks.{IsMarked, AreStableMarks}
use Rattle.step_kernel.specs.Steps.{equated}
use Rattle.step_kernel.proofs.StableLaws.{stable-merged}
use Rattle.step_kernel.proofs.state.State.equate.Goals as goal

pub invariant_of-self-in_default : goal.invariant_of-self-in_default
invariant_of-self-in_default c =
    let made : kernel_of c.merge.new.self c.self.inside.cores.items c.self.inside.clauses c.self.inside.bottom ≡ equated c.args.self.now c.args.e.now = search rules in
    record {
      kernel = subst IsKernel (sym made) c.requires.kernel;
      cursor = c.self.invariant.cursor;
      stable =
          subst (λ (view : List Atom). AreStableMarks view c.self.inside.cores.items c.lose.new.self) (sym c.merge.ensures.view)
          (stable-merged c.self.inside.store.view c.args.e.now.a c.args.e.now.b c.self.inside.cores.items c.self.inside.stable c.lose.new.self
          (subst (λ (o : Option ℕ). IfSome o (λ x. (place : ℕ) → IsMarked c.lose.new.self place
          → IsMarked c.self.inside.stable place × (c.self.inside.stable.top < x) × (c.lose.new.self.top ≡ c.self.inside.stable.top))) c.loser.ensures.value c.lose.ensures.lost)
          (λ none. c.lose.ensures.none (c.loser.ensures.value ∙ none)) c.self.invariant.stable);
    }
