use Rattle.std.proofs.Common.{◌≡◌, ◌+◌, ◌-◌, List, set, sym, ap, ◌∙◌, subst, Option, Some, rules}
use Rattle.std.specs.Prelude.{slice_set}
use Rattle.core_forms.specs.declared.form.Core.{Core}
use Rattle.core_forms.specs.Edges.{settled_core, restored}
use Rattle.core_forms.proofs.EdgeLaws.{settled-stable, settled-inside}
use Rattle.step_kernel.specs.StableMarks.{IsInsideAt, AreStableMarks}
use Rattle.step_kernel.proofs.Holes.{the, place-there, formed-there, put-again, put-same}
use Rattle.step_kernel.proofs.StableLaws.{stable-put}
use Rattle.step_kernel.proofs.settling.settle_at.Goals as goal
use Rattle.step_kernel.proofs.settling.settle_at.Goals.{After-from_residual, In_ok-edge}

pub settle-edge-requires : goal.settle-edge-requires
settle-edge-requires c =
    let at : IsInsideAt c.args.view.now c.args.cores.now.items c.mark_inside.new.stable c.args.id = search rules in
    let same : Some at.core ≡ Some c.in-Some.core = sym (place-there c.args.cores.now.items c.args.id at.core at.there) ∙ sym c.take_core.ensures.core ∙ c.in-Some.is in
    (formed-there c.args.cores.now.items c.args.id c.in-Some.core (at.there ∙ same) c.requires.formed).0

-- the core that was there, and where it is put again
stays : (c : After-from_residual) → c.put_core.new.cores.items ≡ c.args.cores.now.items
stays c =
    put-again c.args.cores.now.items c.take_core.new.cores.items c.put_core.new.cores.items (c.args.id - 1) c.settle-edge.new.self c.take_core.ensures.cores c.put_core.ensures.cores
    ∙ ap (λ (x : Core). set c.args.cores.now.items (c.args.id - 1) (Some x)) (c.in_err-edge.ensures.stays)
    ∙ put-same c.args.cores.now.items (c.args.id - 1) c.in-Some.core (sym c.take_core.ensures.core ∙ c.in-Some.is)

pub returns-in_err-edge-clause-stays : goal.returns-in_err-edge-clause-stays
returns-in_err-edge-clause-stays c = let same : c.put_core.new.cores.items ≡ c.args.cores.now.items = stays c in search rules

pub returns-in_err-edge-clause-marks : goal.returns-in_err-edge-clause-marks
returns-in_err-edge-clause-marks c =
    let before : AreStableMarks c.args.view.now c.args.cores.now.items c.mark_inside.new.stable = search rules in
    subst (λ (cs : List (Option Core)). AreStableMarks c.args.view.now cs c.mark_inside.new.stable) (sym (stays c)) before

at : (c : In_ok-edge) → IsInsideAt c.args.view.now c.args.cores.now.items c.mark_inside.new.stable c.args.id
at c = search rules

same : (c : In_ok-edge) → c.in-Some.core ≡ (at c).core
same c = ap (the c.in-Some.core) (sym c.in-Some.is ∙ c.take_core.ensures.core ∙ place-there c.args.cores.now.items c.args.id (at c).core (at c).there)

settled : (c : In_ok-edge) → c.settle-edge.new.self ≡ settled_core c.args.view.now (at c).core
settled c = c.in_ok-edge.ensures.settled ∙ ap (settled_core c.args.view.now) (same c)

made : (c : In_ok-edge) → c.put_core.new.cores.items ≡ slice_set c.args.cores.now.items (c.args.id - 1) (Some (settled_core c.args.view.now (at c).core))
made c =
    put-again c.args.cores.now.items c.take_core.new.cores.items c.put_core.new.cores.items (c.args.id - 1) c.settle-edge.new.self c.take_core.ensures.cores c.put_core.ensures.cores
    ∙ ap (λ (x : Core). set c.args.cores.now.items (c.args.id - 1) (Some x)) (settled c)

pub returns-clause-settled : goal.returns-clause-settled
returns-clause-settled c = record {
  at = at c;
  is = made c;
  restored = ap (restored c.in_ok-edge.field-0) (sym (settled c)) ∙ c.in_ok-edge.ensures.restored ∙ same c;
}

pub returns-clause-marks : goal.returns-clause-marks
returns-clause-marks c =
    let before : AreStableMarks c.args.view.now c.args.cores.now.items c.mark_inside.new.stable = search rules in
    subst (λ (cs : List (Option Core)). AreStableMarks c.args.view.now cs c.mark_inside.new.stable) (sym (made c))
    (stable-put c.args.view.now c.args.cores.now.items c.mark_inside.new.stable (c.args.id - 1) (settled_core c.args.view.now (at c).core) before
    (λ marked. (
      settled-stable c.args.view.now (at c).core (at c).inside,
      settled-inside c.args.view.now (c.mark_inside.new.stable.top + 1) (at c).core (at c).below,
    )))
