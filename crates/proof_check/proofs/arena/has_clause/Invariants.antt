use Rattle.std.proofs.Common.{◌≡◌, drop}
use Rattle.std.specs.List.{list_any}
use Rattle.proof_check.specs.Named.{literals_of}
use Rattle.proof_check.specs.Known as known
use Rattle.proof_check.specs.Arena.{AreWithin, clauses_in, kept_in}
use Rattle.proof_check.proofs.arena.has_clause.Given as goal

abbrev pub invariant-loop-place : goal.invariant-loop-place
invariant-loop-place l = record {
  within : AreWithin l.codes (drop l.place-index l.places);
  left : list_any (known.same_literals l.lits) (literals_of (clauses_in (kept_in l.codes (drop l.place-index l.places))))
      ≡ list_any (known.same_literals l.lits) (literals_of (clauses_in (kept_in l.codes l.places)));
}
