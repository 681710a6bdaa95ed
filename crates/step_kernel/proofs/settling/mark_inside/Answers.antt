use Rattle.std.proofs.Common.{◌≡◌, ◌+◌, ◌-◌, length, sym, ap, ◌∙◌, subst, arith, Some}
use Rattle.core_forms.specs.declared.form.Core.{Core}
use Rattle.core_forms.specs.Edges.{IsStableInside, InsideBelow}
use Rattle.core_forms.proofs.EdgeLaws.{inside-more}
use Rattle.step_kernel.specs.Kernel.{core_at}
use Rattle.step_kernel.proofs.Holes.{the, read-id, place-there, below-there}
use Rattle.step_kernel.proofs.StableLaws.{stable-more}
use Rattle.step_kernel.proofs.settling.mark_inside.Goals as goal
use Rattle.step_kernel.proofs.settling.mark_inside.Goals.{After-mark}

pub stable_below-requires-clause-below : goal.stable_below-requires-clause-below
stable_below-requires-clause-below c =
    let there : core_at c.args.cores.now c.args.id ≡ Some c.in-Some.core =
    read-id c.args.cores.now c.args.id c.index-cores-place.result c.in-Some.core (omega (arith, c.if-id-eq0.false)) c.if-id-cores.false c.index-cores-place.is c.in-Some.is in
    (below-there c.args.cores.now c.args.id c.in-Some.core there (length c.args.view.now + 1) c.requires.below).0

there : (c : After-mark) → core_at c.args.cores.now c.args.id ≡ Some c.in-Some.core
there c =
    read-id c.args.cores.now c.args.id c.index-cores-place.result c.in-Some.core (omega (arith, c.if-id-eq0.false)) c.if-id-cores.false c.index-cores-place.is c.in-Some.is

inside : (c : After-mark) → IsStableInside c.args.view.now c.in-Some.core × InsideBelow (c.mark.new.self.top + 1) c.in-Some.core
inside c = (
  c.in-Some-stable_below.ensures.stable,
  inside-more (c.in-Some-stable_below.most + 1) (c.mark.new.self.top + 1) c.in-Some.core (omega (arith, c.mark.ensures.top.1)) c.in-Some-stable_below.ensures.below,
)

pub returns-in-Some-stable_below-clause-inside : goal.returns-in-Some-stable_below-clause-inside
returns-in-Some-stable_below-clause-inside c seen = record { core = c.in-Some.core; there = there c; inside = (inside c).0; below = (inside c).1 }

pub returns-in-Some-stable_below-clause-marks : goal.returns-in-Some-stable_below-clause-marks
returns-in-Some-stable_below-clause-marks c =
    stable-more c.args.view.now c.args.cores.now c.args.stable.now c.mark.new.self (c.args.id - 1) c.mark.ensures.more c.mark.ensures.top.0 c.requires.marks
    (omega (arith, c.if-id-cores.false, c.if-id-eq0.false))
    (λ core is.
    subst (λ (x : Core). IsStableInside c.args.view.now x × InsideBelow (c.mark.new.self.top + 1) x)
    (ap (the core) (sym (place-there c.args.cores.now c.args.id c.in-Some.core (there c)) ∙ is)) (inside c))
