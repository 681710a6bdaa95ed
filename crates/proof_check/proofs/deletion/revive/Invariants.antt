use Rattle.std.proofs.Common.{◌≡◌, List, take}
use Rattle.proof_check.specs.Arena.{Kept}
use Rattle.proof_check.specs.Checking.{kill_all, Killable}
use Rattle.proof_check.proofs.deletion.revive.Given as goal

-- where they were killed, those before the place still are
abbrev pub invariant-loop-i : goal.invariant-loop-i
invariant-loop-i l = (ks : List Kept) → Killable ks l.ids → l.initial.arena ≡ kill_all l.ids ks → l.arena ≡ kill_all (take l.i l.ids) ks
