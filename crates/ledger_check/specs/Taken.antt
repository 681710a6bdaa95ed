-- How far a text was read, as a standing, and what comes of the next line.
use Rattle.std.specs.Prelude.{◌≡◌, ℕ, ◌+◌, ◌≤◌, List, [], length, slice_get, Option, Some, None}
use Rattle.std.specs.Prelude.{Result, Ok, Err}
use Rattle.order_ints.specs.declared.order_int.MapValue.{MapValue}
use Rattle.order_ints.specs.OrderRange.{IsBounded, IntBelow}
use Rattle.statement_lower.specs.Terms.{integer_at}
use Rattle.model_meaning.specs.declared.model.Model.{Model}
use Rattle.proof_check.specs.declared.fault.ProofFault.{ProofFault}
use Rattle.proof_check.specs.Lrat.{Proof}
use Rattle.step_kernel.specs.Kernel.{started}
use Rattle.model_lower.specs.declared.state.Lowered.{Lowered}
use Rattle.answer_document.specs.declared.verdict.Verdict.TheVariants.{Unsatisfiable}
use Rattle.ledger_check.specs.declared.part.Part.TheVariants as part
use Rattle.ledger_check.specs.declared.fault.Why.{Why}
use Rattle.ledger_check.specs.declared.reading.Reading.{Reading}
use Rattle.ledger_check.specs.Items.{Standing}
use Rattle.ledger_check.specs.Reading.{IsNext, IsBecause}

-- before the first line
abbrev pub begun : Lowered → Standing
begun l = record {
  part = part.Version;
  verdict = Unsatisfiable;
  values = [];
  kernel = started l.vars l.cores;
  entries = l.map.entries;
  first = None;
  second = None;
}

abbrev pub standing_of : Reading → Standing
standing_of r = record {
  part = r.part;
  verdict = r.verdict;
  values = r.values.items;
  kernel = r.state;
  entries = r.map.entries;
  first = r.first;
  second = r.second;
}

-- what was said is taken, and leads to a standing, or something stands against it
abbrev pub Took : Result Standing Why → Standing → Option Why → Type 0
Took r t None = r ≡ Ok t
Took r t (Some w) = r ≡ Err w

-- a line of a derivation is taken, and leads so far, or has a fault
abbrev pub Derives : Result Proof ProofFault → Option Proof → Option ProofFault → Type 0
Derives r now None = (p : Proof) × (r ≡ Ok p) × (now ≡ Some p)
Derives r now (Some fault) = r ≡ Err fault

-- the line is the next, and leads to this standing alone
pub record IsOnly (model : Model) (s : Standing) (line : List ℕ) (t : Standing) : Type 0 where
  pub next : IsNext model s line t
  pub alone : (u : Standing) → IsNext model s line u → u ≡ t

-- the line isn't the next, for a cause
pub record IsMisfitFor (model : Model) (s : Standing) (line : List ℕ) (why : Why) : Type 0 where
  pub misfit : (u : Standing) → IsNext model s line u → ⊥
  pub because : IsBecause model s line why

-- what comes of a line
abbrev pub Takes : Model → Standing → List ℕ → Standing → Option Why → Type 0
Takes model s line t None = IsOnly model s line t
Takes model s line t (Some why) = IsMisfitFor model s line why

-- each integer that names stand for is bounded, over variables below a number
abbrev pub AreWithin : ℕ → List MapValue → Type 0
AreWithin n entries = (place : ℕ) → IsBounded (integer_at (slice_get entries place))
    × IntBelow n (integer_at (slice_get entries place))

abbrev pub IsWithin : Reading → Type 0
IsWithin r = AreWithin (length r.state.view + 1) r.map.entries

-- a later reading has all variables of an earlier one, and the same names
abbrev pub IsLater : Reading → Reading → Type 0
IsLater old new = (length old.state.view ≤ length new.state.view) × (new.map ≡ old.map)
