-- The state of the checker as a proof, and what its answers tell.
use Rattle.std.specs.Prelude.{◌≡◌, ℕ, ◌+◌, ◌≤◌, ◌^◌, Bool, false, Option, None, Some, Result, Ok}
use Rattle.std.specs.Prelude.{Err, List, [], ◌∷◌, length, take, drop}
use Rattle.order_ints.specs.declared.literal.Lit.{Lit}
use Rattle.order_ints.specs.Place.{ClausesBelow}
use Rattle.proof_check.specs.declared.fault.ProofFault.{ProofFault}
use Rattle.proof_check.specs.declared.fault.TakeFault.{TakeFault}
use Rattle.proof_check.specs.declared.fault.TakeFault.TheVariants as takes
use Rattle.proof_check.specs.Named.{literals_of}
use Rattle.proof_check.specs.Values.{no_values}
use Rattle.proof_check.specs.Lrat.{Proof}
use Rattle.proof_check.specs.Assigned.{value_at}
use Rattle.proof_check.specs.Arena.{Kept, kept_ids, last_from, clauses_in, live_in, life_to, IsLiveAt}

-- the proof of clauses of which the first ones are those of the CNF
abbrev pub proof_in : ℕ → ℕ → List Kept → Proof
proof_in vars given ks = record {
  cnf = record { vars = vars; clauses = literals_of (clauses_in (take given ks)) };
  live = live_in ks;
  added = clauses_in (drop given ks);
  last = last_from 0 (kept_ids ks);
}

-- between two lines no variable has a value
pub record IsChecker (vars given : ℕ) (ks : List Kept) (values : List (Option Bool)) : Type 0 where
  pub small : vars ≤ 2 ^ 27
  pub enough : given ≤ length ks
  pub below : ClausesBelow (vars + 1) (literals_of (clauses_in ks))
  pub size : length values ≡ vars + 1
  pub free : value_at values ≡ no_values

-- the fault of a line is this; want of memory tells nothing
abbrev pub IsFault : TakeFault → Option ProofFault → Type 0
IsFault (takes.Proof e) fault = fault ≡ Some e
IsFault takes.Memory fault = Unit {0}

-- what a hint came to: a fault, or a literal for the hints behind it, or the end of the test
abbrev pub goes_on : Result (Option Lit) ProofFault → (Lit → Option ProofFault) → Option ProofFault
goes_on (Ok None) next = None
goes_on (Ok (Some l)) next = next l
goes_on (Err e) next = Some e

-- clauses of the ids live no more
abbrev pub kill_all : List ℕ → List Kept → List Kept
kill_all [] ks = ks
kill_all (id ∷ ids) ks = kill_all ids (life_to false id ks)

-- each lives when its turn comes
abbrev pub Killable : List Kept → List ℕ → Type 0
Killable ks [] = Unit {0}
Killable ks (id ∷ ids) = IsLiveAt id ks × Killable (life_to false id ks) ids
