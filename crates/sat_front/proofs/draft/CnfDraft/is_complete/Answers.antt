use Rattle.std.proofs.Common.{sym, subst, ◌∙◌}
use Rattle.std.specs.Prelude.{IsTrue}
use Rattle.sat_front.specs.CnfLines.{Draft, IsComplete}
use Rattle.sat_front.proofs.Lists.{complete_exactly}
use Rattle.sat_front.proofs.draft.CnfDraft.is_complete.Goals as goal

pub returns-then-is_some : goal.returns-then-is_some
returns-then-is_some c =
    let P : Draft → Type 0 = λ d. (IsTrue c.is_ended.result → IsComplete d) × (IsComplete d → IsTrue c.is_ended.result) in
    subst P c.self.view_is (complete_exactly c.self.inside.vars c.self.inside.listed.begun c.is_ended.result (sym c.is_some.ensures ∙ c.if-is_some.true) c.is_ended.ensures)
