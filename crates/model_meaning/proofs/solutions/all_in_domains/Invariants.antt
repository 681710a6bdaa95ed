use Rattle.std.proofs.Common.{◌≡◌, ◌≤◌, length, drop}
use Rattle.model_meaning.specs.Domains.{in_domains}
use Rattle.model_meaning.proofs.solutions.all_in_domains.Given as goal

abbrev pub invariant-loop-i : goal.invariant-loop-i
invariant-loop-i l =
    record {
      rest : in_domains (drop l.i l.decls) (drop l.i l.values) ≡ in_domains l.decls l.values;
      within : l.i ≤ length l.values;
    }
