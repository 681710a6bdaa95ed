-- Propagation at its start, on its ways out, and with one entry more worked off.
use Rattle.std.proofs.Common.{◌≡◌, ◌≢◌, ◌≤◌, ◌<◌, length, arith}
use Rattle.clause_rings.specs.Keeping.{seen, Advances}
use Rattle.clause_rings.specs.declared.watches.Watches.{Watches}
use Rattle.clause_rings.proofs.Looked.{advances-none, advances-both}
use Rattle.clause_rings.proofs.Walked.{follows-longer, longer-length}
use Rattle.clause_rings.proofs.Propagated.{complete, kept-next}
use Rattle.clause_rings.proofs.propagate.propagate.Goals as goal

pub entries-init : goal.entries-init
entries-init c = (c.requires.kept, advances-none (seen c.args.watches.now))

pub returns-in-Some-clause-advances : goal.returns-in-Some-clause-advances
returns-in-Some-clause-advances c = advances-both (seen c.args.watches.now) (seen c.entries.watches) (seen c.attach_all.new.watches) c.entries.invariant.1 c.in-Some.ensures.advances

pub returns-then-watches-len-clause-advances : goal.returns-then-watches-len-clause-advances
returns-then-watches-len-clause-advances c = advances-both (seen c.args.watches.now) (seen c.entries.watches) (seen c.attach_all.new.watches) c.entries.invariant.1 c.in_default.ensures.advances

pub returns-then-watches-len-clause-none : goal.returns-then-watches-len-clause-none
returns-then-watches-len-clause-none c = complete c.attach_all.new.watches c.in_default.ensures.kept (omega (arith, c.if-watches-len.true, c.len.ensures.count)) c.in_default.ensures.none

pub returns-in-Some-walk-clause-advances : goal.returns-in-Some-walk-clause-advances
returns-in-Some-walk-clause-advances c = advances-both (seen c.args.watches.now) (seen c.entries.watches) (seen c.walk.new.watches) c.entries.invariant.1 (advances-both (seen c.entries.watches) (seen c.attach_all.new.watches) (seen c.walk.new.watches) c.in_default.ensures.advances c.in-Some-walk.ensures.advances)

-- a walk has an entry at the head still
still-entry : (w n : Watches) → Advances (seen w) (seen n) → n.head ≡ w.head → w.head < length w.trail.entries → n.head < length n.trail.entries
still-entry w n adv head lt = omega (arith, head, longer-length w.trail n.trail (follows-longer n.arena.clauses w.trail n.trail adv.trail))

pub entries-preserved : goal.entries-preserved
entries-preserved c =
    let s = c.attach_all.new.watches in
    let worked : s.head ≤ length s.trail.entries = c.in_default.ensures.kept.watching.worked in
    let apart : s.head ≢ c.len.result = c.if-watches-len.false in
    let there : s.head < length s.trail.entries = omega (arith, c.len.ensures.count) in (
      kept-next c.walk.new.watches c.in_default-walk.ensures.kept (still-entry s c.walk.new.watches c.in_default-walk.ensures.advances c.in_default-walk.ensures.head there) c.in_default-walk.ensures.none,
      advances-both (seen c.args.watches.now) (seen c.entries.watches) (seen c.walk.new.watches) c.entries.invariant.1 (advances-both (seen c.entries.watches) (seen s) (seen c.walk.new.watches) c.in_default.ensures.advances c.in_default-walk.ensures.advances),
    )
