use Rattle.std.proofs.Common.{◌≡◌, ◌≤◌, true, List, ◌++◌, map, length, sym, ap, ◌∙◌, subst, arith, Option, Some}
use Rattle.std.specs.Prelude.{is_ok}
use Rattle.std.proofs.lemmas.Bool.{cond-true}
use Rattle.core_forms.specs.declared.form.Core.{Core}
use Rattle.step_kernel.specs.Kernel.{Kernel, IsKernel}
use Rattle.step_kernel.specs.Steps.{divided, without}
use Rattle.step_kernel.specs.Cursor.{kernel_of, gone_first}
use Rattle.step_kernel.proofs.Cursors.{gone-append}
use Rattle.step_kernel.specs.StableMarks.{AreStableMarks}
use Rattle.step_kernel.proofs.StableLaws.{stable-fewer, stable-divided}
use Rattle.step_kernel.proofs.Splits.{divided-from, divided-room}
use Rattle.step_kernel.proofs.state.State.divide.Goals as goal
use Rattle.step_kernel.proofs.state.State.divide.Goals.{After-take_out-arg-1, After-drop-cores-2}

pub grow-requires-2 : goal.grow-requires-2
grow-requires-2 c =
    let room = divided-room c.args.self.now c.args.id c.args.parts c.requires.kernel in
    omega (arith, room, ap (λ (k : Kernel). length k.view) c.self.view_is)

-- the cores with the parts behind them
appended : (c : After-take_out-arg-1) → c.append.new.self.items ≡ c.self.inside.cores.items ++ c.in_ok-cores.cores.items
appended c =
    let room : is_ok c.append.result ≡ true = c.append.ensures.succeeds (omega (arith, c.in_ok-reserve.ensures.ok, c.len.ensures)) in
    c.append.ensures.items ∙ cond-true _ _ _ room ∙ ap (λ (cs : List (Option Core)). cs ++ c.in_ok-cores.cores.items) c.reserve.ensures.items

pub take_out-self-inside-requires-clause-known : goal.take_out-self-inside-requires-clause-known
take_out-self-inside-requires-clause-known c =
    subst (λ (cs : List (Option Core)). c.self.inside.first ≤ gone_first cs) (sym (appended c))
    (omega (arith, c.self.invariant.cursor, gone-append c.self.inside.cores.items c.in_ok-cores.cores.items))

made : (c : After-drop-cores-2) → kernel_of c.grow-2.new.self c.take_out-self-inside.new.cores.items c.self.inside.clauses c.self.inside.bottom ≡ divided c.args.self.now c.args.id c.args.parts
made c =
    let high : c.args.id ≤ length c.self.inside.cores.items = omega (arith, c.requires.high, ap (λ (k : Kernel). length k.cores) c.self.view_is) in
    let pending : c.in_ok-cores.cores.items ≡ map Some c.args.parts.cores = c.in_ok-cores.ensures ∙ ap (map Some) c.into_vec.ensures in
    let room : is_ok c.append.result ≡ true = c.append.ensures.succeeds (omega (arith, c.in_ok-reserve.ensures.ok, c.len.ensures)) in
    let behind : c.append.new.self.items ≡ c.self.inside.cores.items ++ c.in_ok-cores.cores.items =
    c.append.ensures.items ∙ cond-true _ _ _ room ∙ ap (λ (cs : List (Option Core)). cs ++ c.in_ok-cores.cores.items) c.reserve.ensures.items in
    divided-from c.args.self.now c.args.id c.args.parts c.self.inside.store c.grow-2.new.self c.self.inside.cores.items c.in_ok-cores.cores.items c.take_out-self-inside.new.cores.items c.self.inside.clauses c.self.inside.bottom
    c.self.view_is c.in_ok-grow-2.ensures.view (c.take_out-self-inside.ensures.cores ∙ ap (λ (cs : List (Option Core)). without cs c.args.id) behind) pending c.requires.low high

pub invariant_of-self-2 : goal.invariant_of-self-2
invariant_of-self-2 c = record {
  kernel = subst IsKernel (sym (made c)) c.requires.kernel;
  cursor = c.take_out-self-inside.ensures.gone;
  stable =
      let kernel : IsKernel c.args.self.now = subst IsKernel c.self.view_is c.self.invariant.kernel in
      let before : AreStableMarks c.args.self.now.view c.args.self.now.cores c.self.inside.stable =
      subst (λ (k : Kernel). AreStableMarks k.view k.cores c.self.inside.stable) c.self.view_is c.self.invariant.stable in
      let new = divided c.args.self.now c.args.id c.args.parts in
      subst (λ (k : Kernel). AreStableMarks k.view k.cores c.grow.new.self) (sym (made c))
      (stable-fewer new.view new.cores c.self.inside.stable c.grow.new.self c.grow.ensures.fewer (omega (arith, c.grow.ensures.top))
      (stable-divided c.args.self.now c.args.id c.args.parts c.self.inside.stable kernel before));
}

pub returns-clause-divided : goal.returns-clause-divided
returns-clause-divided c = made c
