use Rattle.std.proofs.Common.{List, sym, ap, ◌∙◌}
use Rattle.proof_check.specs.declared.arena.Place.{Place}
use Rattle.proof_check.specs.Arena.{Kept, kept_ids, place_ids, last_from}
use Rattle.proof_check.proofs.Placed.{ids-kept}
use Rattle.proof_check.proofs.arena.Arena.last_id.Goals as goal

pub returns : goal.returns
returns c =
    c.last_id.ensures ∙ ap (λ (ps : List Place). last_from 0 (place_ids ps)) c.deref.ensures.value
    ∙ sym (ap (last_from 0) (ids-kept c.self.inside.codes.items c.self.inside.places.items))
    ∙ ap (λ (ks : List Kept). last_from 0 (kept_ids ks)) c.self.view_is
