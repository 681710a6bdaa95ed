-- The ring of the entry at the head is empty, so the entry is worked off.
use Rattle.std.proofs.Common.{◌∙◌, ◌*◌, ◌+◌, ap, arith, length, ◌<◌}
use Rattle.literal_trail.specs.Trail.{Trail}
use Rattle.clause_rings.proofs.Propagated.{kept-next}
use Rattle.clause_rings.proofs.moves.park_all.Goals as goal

pub entries-preserved : goal.entries-preserved
entries-preserved c =
    let n = c.park_ring.new.watches in
    let there : n.head < length n.trail.entries = omega (arith, c.entries-test.true, c.len.ensures.count, c.park_ring.ensures.head, ap (λ (t : Trail). length t.entries) c.park_ring.ensures.trail) in
    (kept-next n c.park_ring.ensures.kept there (λ d i lt stands. absurd (c.park_ring.ensures.none (2 * d + i) stands)), c.park_ring.ensures.arena ∙ c.entries.invariant.1, c.park_ring.ensures.trail ∙ c.entries.invariant.2)
