use Rattle.std.proofs.Common.{ℕ, List, sym, subst}
use Rattle.fixpoint_queue.specs.Handed.{AreComing}
use Rattle.fixpoint_queue.proofs.Comings.{come-range, come-absent, come-room, handed-room, handed-stand, have-come, listed-but}
use Rattle.fixpoint_queue.proofs.worklist.Worklist.enter_parts.Goals as goal
use Rattle.fixpoint_queue.proofs.worklist.Worklist.enter_parts.Goals.{After-as_slice}

-- the same of the slice
coming : (c : After-as_slice) → AreComing c.args.state.now c.args.before c.args.gone c.args.rest.now.place 0 c.as_slice.result.now c.args.lists.now c.args.self.now.occurs c.args.self.now.queue
coming c =
    subst (λ (l : List ℕ). AreComing c.args.state.now c.args.before c.args.gone c.args.rest.now.place 0 l c.args.lists.now c.args.self.now.occurs c.args.self.now.queue) (sym c.as_slice.ensures.value)
    c.requires

pub hand_on-held-requires-clause-vars : goal.hand_on-held-requires-clause-vars
hand_on-held-requires-clause-vars c =
    come-range c.args.state.now c.args.before c.args.gone c.args.rest.now.place 0 c.as_slice.result.now c.args.lists.now c.args.self.now.occurs c.args.self.now.queue
    (coming (goal.at.hand_on-held-requires-clause-vars c).After-as_slice)

pub hand_on-held-requires-clause-room : goal.hand_on-held-requires-clause-room
hand_on-held-requires-clause-room c =
    come-room c.args.state.now c.args.before c.args.gone c.args.rest.now.place 0 c.as_slice.result.now c.args.lists.now c.args.self.now.occurs c.args.self.now.queue
    (coming (goal.at.hand_on-held-requires-clause-room c).After-as_slice)

pub hand_on-held-requires-clause-absent : goal.hand_on-held-requires-clause-absent
hand_on-held-requires-clause-absent c =
    come-absent c.args.state.now c.args.before c.args.gone c.args.rest.now.place 0 c.as_slice.result.now c.args.lists.now c.args.self.now.occurs c.args.self.now.queue
    (coming (goal.at.hand_on-held-requires-clause-absent c).After-as_slice)

pub enter_all-requires-clause-lists : goal.enter_all-requires-clause-lists
enter_all-requires-clause-lists c = listed-but c.args.state.now.cores c.args.before c.hand_on-held.result c.args.lists.now c.requires.listed

pub enter_all-requires-clause-stand : goal.enter_all-requires-clause-stand
enter_all-requires-clause-stand c =
    handed-stand c.args.state.now c.args.before c.args.gone c.args.rest.now.place 0 c.as_slice.result.now c.args.lists.now c.args.self.now.occurs c.args.self.now.queue
    (coming (goal.at.enter_all-requires-clause-stand c).After-as_slice) c.hand_on-held.new.occurs c.hand_on-held.result c.hand_on-held.ensures.handed c.hand_on-held.ensures.room

pub enter_all-requires-clause-room : goal.enter_all-requires-clause-room
enter_all-requires-clause-room c =
    handed-room c.args.state.now c.args.before c.args.gone c.args.rest.now.place 0 c.as_slice.result.now c.args.lists.now c.args.self.now.occurs c.args.self.now.queue
    (coming (goal.at.enter_all-requires-clause-room c).After-as_slice) c.hand_on-held.new.occurs c.hand_on-held.result c.hand_on-held.ensures.handed c.hand_on-held.ensures.room

pub returns-clause-come : goal.returns-clause-come
returns-clause-come c =
    have-come c.args.state.now c.args.before c.args.gone c.args.rest.now.place 0 c.as_slice.result.now c.args.lists.now c.args.self.now.occurs c.args.self.now.queue
    (coming (goal.at.returns-clause-come c).After-as_slice) c.hand_on-held.new.occurs c.hand_on-held.result c.hand_on-held.ensures.handed c.hand_on-held.ensures.room c.hand_on-held.ensures.holds
    c.enter_all.new.self.occurs c.enter_all.new.self.queue c.enter_all.ensures.entered
