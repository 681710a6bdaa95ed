use Rattle.std.proofs.Common.{◌≡◌, ℕ, ◌+◌, List, [], inr, refl, sym, subst, arith}
use Rattle.std.specs.Prelude.{Contains}
use Rattle.std.specs.List.Sorted.{IsStrictlyIncreasing}
use Rattle.core_occurrences.specs.Lists.{cores_at}
use Rattle.fixpoint_queue.specs.Handed.{AreComing}
use Rattle.fixpoint_queue.proofs.Comings.{come-range, come-absent, come-room, handed-room, handed-stand, have-come}
use Rattle.fixpoint_queue.proofs.worklist.Worklist.enter_around.Goals as goal
use Rattle.fixpoint_queue.proofs.worklist.Worklist.enter_around.Goals.{After-as_slice}

-- the same of the slice
coming : (c : After-as_slice)
    → AreComing c.args.state.now c.args.before c.args.gone c.args.rest.now.place (c.args.before + c.args.rest.now.place + 1) c.as_slice.result.now c.args.lists.now c.args.self.now.occurs c.args.self.now.queue
coming c =
    subst
    (λ (l : List ℕ).
    AreComing c.args.state.now c.args.before c.args.gone c.args.rest.now.place (c.args.before + c.args.rest.now.place + 1) l c.args.lists.now c.args.self.now.occurs c.args.self.now.queue)
    (sym c.as_slice.ensures.value) c.requires.coming

pub hand_over-requires-clause-vars : goal.hand_over-requires-clause-vars
hand_over-requires-clause-vars c =
    come-range c.args.state.now c.args.before c.args.gone c.args.rest.now.place (c.args.before + c.args.rest.now.place + 1) c.as_slice.result.now c.args.lists.now c.args.self.now.occurs c.args.self.now.queue
    (coming (goal.at.hand_over-requires-clause-vars c).After-as_slice)

pub hand_over-requires-clause-increasing : goal.hand_over-requires-clause-increasing
hand_over-requires-clause-increasing c = subst IsStrictlyIncreasing (sym c.as_slice.ensures.value) c.requires.increasing

pub hand_over-requires-clause-bare : goal.hand_over-requires-clause-bare
hand_over-requires-clause-bare c =
    subst (λ (l : List ℕ). (v : ℕ) → Contains l v → cores_at c.args.self.now.occurs v ≡ []) (sym c.as_slice.ensures.value) c.requires.bare

pub hand_over-requires-clause-room : goal.hand_over-requires-clause-room
hand_over-requires-clause-room c =
    come-room c.args.state.now c.args.before c.args.gone c.args.rest.now.place (c.args.before + c.args.rest.now.place + 1) c.as_slice.result.now c.args.lists.now c.args.self.now.occurs c.args.self.now.queue
    (coming (goal.at.hand_over-requires-clause-room c).After-as_slice)

pub hand_over-requires-clause-absent : goal.hand_over-requires-clause-absent
hand_over-requires-clause-absent c = λ v.
    come-absent c.args.state.now c.args.before c.args.gone c.args.rest.now.place (c.args.before + c.args.rest.now.place + 1) c.as_slice.result.now c.args.lists.now c.args.self.now.occurs c.args.self.now.queue
    (coming (goal.at.hand_over-requires-clause-absent c).After-as_slice) v (c.args.before + c.args.rest.now.place + 1) (omega arith)

pub enter_all-requires-clause-stand : goal.enter_all-requires-clause-stand
enter_all-requires-clause-stand c =
    handed-stand c.args.state.now c.args.before c.args.gone c.args.rest.now.place (c.args.before + c.args.rest.now.place + 1) c.as_slice.result.now c.args.lists.now c.args.self.now.occurs c.args.self.now.queue
    (coming (goal.at.enter_all-requires-clause-stand c).After-as_slice) c.hand_over.new.occurs (c.args.before + c.args.rest.now.place + 1) c.hand_over.ensures.handed c.hand_over.ensures.room

pub enter_all-requires-clause-room : goal.enter_all-requires-clause-room
enter_all-requires-clause-room c =
    handed-room c.args.state.now c.args.before c.args.gone c.args.rest.now.place (c.args.before + c.args.rest.now.place + 1) c.as_slice.result.now c.args.lists.now c.args.self.now.occurs c.args.self.now.queue
    (coming (goal.at.enter_all-requires-clause-room c).After-as_slice) c.hand_over.new.occurs (c.args.before + c.args.rest.now.place + 1) c.hand_over.ensures.handed c.hand_over.ensures.room

pub returns-clause-come : goal.returns-clause-come
returns-clause-come c =
    have-come c.args.state.now c.args.before c.args.gone c.args.rest.now.place (c.args.before + c.args.rest.now.place + 1) c.as_slice.result.now c.args.lists.now c.args.self.now.occurs c.args.self.now.queue
    (coming (goal.at.returns-clause-come c).After-as_slice) c.hand_over.new.occurs (c.args.before + c.args.rest.now.place + 1) c.hand_over.ensures.handed c.hand_over.ensures.room
    (inr (c.requires.inside, refl, c.hand_over.ensures.holds)) c.enter_all.new.self.occurs c.enter_all.new.self.queue c.enter_all.ensures.entered
