use Rattle.std.proofs.Common.{◌∙◌, inr}
use Rattle.typed_model.proofs.TakenLaws.{fault-found, none-found, goal-missing, typed-made}
use Rattle.typed_model.proofs.taking.Typing.finish.Goals as goal

pub returns-in-Some-clause-fault : goal.returns-in-Some-clause-fault
returns-in-Some-clause-fault c = λ items h.
    inr (fault-found _ items (rw (← c.self.view_is) at h) c.in-Some.fault c.in-Some.is)

pub returns-in-Some-goal-clause-accepted : goal.returns-in-Some-goal-clause-accepted
returns-in-Some-goal-clause-accepted c = λ items h.
    none-found _ items (rw (← c.self.view_is) at h) c.in-Some-goal.goal c.in_default.is c.in-Some-goal.is

pub returns-in-Some-goal-clause-typed : goal.returns-in-Some-goal-clause-typed
returns-in-Some-goal-clause-typed c = λ items h.
    typed-made _ items (rw (← c.self.view_is) at h) _ _ c.in-Some-goal.goal (c.from_vec.ensures ∙ c.into_decls.ensures) c.from_vec-in-Some-goal.ensures c.in_default.is c.in-Some-goal.is

pub returns-in-None-clause-fault : goal.returns-in-None-clause-fault
returns-in-None-clause-fault c = λ items h.
    inr (goal-missing _ items (rw (← c.self.view_is) at h) c.in_default.is c.in-None.is)
