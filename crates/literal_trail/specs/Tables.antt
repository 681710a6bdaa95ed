-- The tables beside the entries: the value of each literal, the place of each variable, the end of each level.
use Rattle.std.specs.Prelude.{◌≡◌, ℕ, zero, suc, ◌+◌, ◌*◌, ◌<◌, ◌≤◌, true, false, List}
use Rattle.std.specs.Prelude.{length, take, Option, Some, None, slice_index, slice_index_or, if◌then◌else◌, Bool}
use Rattle.order_ints.specs.declared.literal.Lit.{Lit}
use Rattle.order_ints.specs.Place.{LitBelow}
use Rattle.literal_trail.specs.declared.entry.Entry.{Entry}
use Rattle.literal_trail.specs.declared.tables.Value.{Value}
use Rattle.literal_trail.specs.declared.tables.Value.TheVariants.{Free, Holds, Fails}
use Rattle.literal_trail.specs.Trail.{IsTrail, entry_at, entry_of, truth_in, up_to}

-- what a value in the table says
abbrev pub truth_of : Value → Option Bool
truth_of Free = None
truth_of Holds = Some true
truth_of Fails = Some false

-- the place of a literal in the table of values
abbrev pub code_of : Lit → ℕ
code_of l = 2 * l.var + (if l.positive then 1 else 0)

-- the entry that a place in the table of places says: 0 is none
abbrev pub entry_by : List Entry → ℕ → Option Entry
entry_by entries zero = None
entry_by entries (suc j) = Some (entry_at entries j)

-- the tables say what the entries do
pub record AreTables (entries : List Entry) (values : List Value) (places : List ℕ) : Type 0 where
  pub lengths : length values ≡ 2 * length places
  pub valued : (l : Lit) → l.var < length places
      → truth_of (slice_index_or values (code_of l) Free) ≡ truth_in entries l
  pub placed : (v : ℕ) → v < length places → entry_by entries (slice_index places v) ≡ entry_of entries v
  pub within : (v : ℕ) → v < length places → slice_index places v ≤ length entries

-- the entries' variables are from 1 to below n, and each was free before
pub record AreFresh (n : ℕ) (entries : List Entry) : Type 0 where
  pub inside : (j : ℕ) → j < length entries → LitBelow n (entry_at entries j).lit
  pub fresh : (j : ℕ) → j < length entries → entry_of (take j entries) (entry_at entries j).lit.var ≡ None

-- the number of entries up to the end of each level but the last
abbrev pub AreEnds : List Entry → List ℕ → Type 0
AreEnds entries ends = (k : ℕ) → k < length ends → slice_index ends k ≡ length (up_to k entries)

-- what a trail keeps: tables, ends of levels, and room for every variable
pub record IsKept (vars : ℕ) (entries : List Entry) (values : List Value) (places ends : List ℕ)
    (entry_room end_room : ℕ) : Type 0 where
  pub trail : IsTrail (record { vars = vars; entries = entries; level = length ends })
  pub tables : AreTables entries values places
  pub count : length places ≡ vars + 1
  pub ended : AreEnds entries ends
  pub entries_fit : vars ≤ entry_room
  pub ends_fit : vars ≤ end_room
