use Rattle.std.proofs.Common.{◌≡◌, drop, ◌||◌}
use Rattle.model_meaning.specs.Terms.{numbers_of}
use Rattle.model_meaning.specs.Integers.{is_member, not_undercut}
use Rattle.model_meaning.proofs.integers.is_least.Given as goal

abbrev pub invariant-loop-member : goal.invariant-loop-member
invariant-loop-member l =
    record {
      reached : (l.reached || is_member l.value (numbers_of l.values (drop l.member-index l.members))) ≡ is_member l.value (numbers_of l.values l.members);
      bound : not_undercut l.value (numbers_of l.values (drop l.member-index l.members)) ≡ not_undercut l.value (numbers_of l.values l.members);
    }
