-- A trail whose reasons are clauses under ids.
use Rattle.std.specs.Prelude.{◌≡◌, ◌==◌, ℕ, suc, ◌<◌, List, [], ◌∷◌, length, take, Option, None}
use Rattle.std.specs.Prelude.{Some, unwrap_or, if◌then◌else◌}
use Rattle.literal_trail.specs.declared.entry.Entry.{Entry}
use Rattle.literal_trail.specs.Trail.{no_entry, entry_at, entry_of}
use Rattle.literal_trail.specs.Standing.{IsUnit}
use Rattle.proof_check.specs.Named.{Named}

-- the entry of a variable; `no_entry` where it is free
abbrev pub the_entry : List Entry → ℕ → Entry
the_entry entries v = unwrap_or (entry_of entries v) no_entry

-- the level of a variable; 0 where it is free
abbrev pub level_at : List Entry → ℕ → ℕ
level_at entries v = (the_entry entries v).level

-- the place of a variable's first entry; as many as there are entries where it is free
abbrev pub place_of : List Entry → ℕ → ℕ
place_of [] v = 0
place_of (e ∷ es) v = if e.lit.var == v then 0 else suc (place_of es v)

abbrev pub no_clause : Named
no_clause = record { id = 0; lits = [] }

-- the clause of a reference, if there is one
abbrev pub named_by : (ℕ → Named) → Option ℕ → Named
named_by named None = no_clause
named_by named (Some c) = named c

-- the clause that made a variable's literal true; `no_clause` where it is free or was decided
abbrev pub reason_at : (ℕ → Named) → List Entry → ℕ → Named
reason_at named entries v = named_by named (the_entry entries v).reason

-- each reason lives, and was unit for its literal when that became true
pub record AreReasons (entries : List Entry) (named : ℕ → Named) (lives : ℕ → Type 0) : Type 0 where
  pub live : (j c : ℕ) → j < length entries → (entry_at entries j).reason ≡ Some c → lives c
  pub unit : (j c : ℕ) → j < length entries → (entry_at entries j).reason ≡ Some c
      → IsUnit (take j entries) (named c).lits (entry_at entries j).lit

-- the variable was made true by a clause that lives
pub record HasReason (entries : List Entry) (lives : ℕ → Type 0) (v : ℕ) : Type 0 where
  pub entry : Entry
  pub found : entry_of entries v ≡ Some entry
  pub reference : ℕ
  pub because : entry.reason ≡ Some reference
  pub live : lives reference
