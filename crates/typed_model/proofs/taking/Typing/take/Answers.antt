use Rattle.std.proofs.Common.{◌≡◌, sym, ◌∙◌, ap, refl, None, Some, is_some, Option, false}
use Rattle.typed_model.specs.declared.fault.TypeFault.{TypeFault}
use Rattle.typed_model.specs.Taken.{Taken}
use Rattle.typed_model.proofs.TakenLaws.{HasTaken-stays, HasTaken-stopped, HasTaken-with_item}
use Rattle.typed_model.proofs.taking.Typing.take.Goals as goal

none : (o : Option TypeFault) → is_some o ≡ false → o ≡ None
none None e = refl
none (Some f) e = absurd (cc)

pub returns-then-is_some-clause-taken : goal.returns-then-is_some-clause-taken
returns-then-is_some-clause-taken c = λ items h.
    HasTaken-stays c.args.self.now items c.args.item.now h _ (sym (ap (λ (t : Taken). t.fault) c.self.view_is)) (sym c.is_some.ensures ∙ c.if-is_some.true)

pub returns-in-Some-clause-taken : goal.returns-in-Some-clause-taken
returns-in-Some-clause-taken c = λ items h.
    HasTaken-stopped _ items c.args.item.now (rw (← c.self.view_is) at h) _ c.in-Some.fault (none _ (sym c.is_some.ensures ∙ c.if-is_some.false)) (sym (rw c.is_some-2.ensures at c.in-Some.ensures)) refl

pub returns-in-Ok-clause-taken : goal.returns-in-Ok-clause-taken
returns-in-Ok-clause-taken c = λ items h.
    HasTaken-with_item _ items c.args.item.now (rw (← c.self.view_is) at h) c.add.new.self (none _ (sym c.is_some.ensures ∙ c.if-is_some.false)) (sym (rw c.is_some-2.ensures at c.in_default.ensures)) (rw (← c.self.view_is) at c.in-Ok.ensures)
