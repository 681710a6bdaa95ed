-- What contracts see of a trail: its entries, the oldest first, and the current level.
use Rattle.std.specs.Prelude.{◌≡◌, ◌==◌, ℕ, ◌+◌, ◌<◌, ◌≤◌, ◌^◌, nat_le, Bool, false, not}
use Rattle.std.specs.Prelude.{List, [], ◌∷◌, ◌++◌, length, take, slice_index_or, Option, Some, None}
use Rattle.std.specs.Prelude.{if◌then◌else◌}
use Rattle.std.specs.Option.{option_map, option_and_then}
use Rattle.order_ints.specs.declared.literal.Lit.{Lit}
use Rattle.order_ints.specs.Place.{LitBelow}
use Rattle.literal_trail.specs.declared.entry.Entry.{Entry}

-- variables 1 to `vars`, the entries, and the current level
pub record Trail : Type 0 where
  pub vars : ℕ
  pub entries : List Entry
  pub level : ℕ

abbrev pub no_entry : Entry
no_entry = record { lit = record { var = 0; positive = false }; level = 0; reason = None }

-- the entry at a place, counted from 0
abbrev pub entry_at : List Entry → ℕ → Entry
entry_at entries j = slice_index_or entries j no_entry

-- the first entry of a variable, none where the variable is free
abbrev pub entry_of : List Entry → ℕ → Option Entry
entry_of [] v = None
entry_of (e ∷ es) v = if e.lit.var == v then Some e else entry_of es v

-- the value of a variable, none where it is free
abbrev pub value_in : List Entry → ℕ → Option Bool
value_in entries v = option_map (λ e. e.lit.positive) (entry_of entries v)

-- the truth of a literal, none where its variable is free
abbrev pub truth_in : List Entry → Lit → Option Bool
truth_in entries l = option_map (λ b. if l.positive then b else not b) (value_in entries l.var)

-- the level of a variable, none where it is free
abbrev pub level_in : List Entry → ℕ → Option ℕ
level_in entries v = option_map (λ e. e.level) (entry_of entries v)

-- the reason of a variable, none where it is free or was decided
abbrev pub reason_in : List Entry → ℕ → Option ℕ
reason_in entries v = option_and_then (λ e. e.reason) (entry_of entries v)

-- the prefix of the levels 0 to k
abbrev pub up_to : ℕ → List Entry → List Entry
up_to k [] = []
up_to k (e ∷ es) = if nat_le e.level k then e ∷ up_to k es else []

-- the level of an entry with this reason that comes at level n: a decision begins a new one
abbrev pub level_behind : ℕ → Option ℕ → ℕ
level_behind n None = n + 1
level_behind n (Some reason) = n

-- entries that come at level n are of the levels that their decisions begin, and lead to the last level
abbrev pub AreLevelled : ℕ → List Entry → ℕ → Type 0
AreLevelled n [] last = n ≡ last
AreLevelled n (e ∷ es) last = (e.level ≡ level_behind n e.reason) × AreLevelled e.level es last

-- variables in range, each made true or false once; each entry without a reason begins a level, and each other one is
-- of the level of the one before it, or of level 0 where there is none
pub record IsTrail (t : Trail) : Type 0 where
  pub few : t.vars ≤ 2 ^ 27
  pub inside : (j : ℕ) → j < length t.entries → LitBelow (t.vars + 1) (entry_at t.entries j).lit
  pub fresh : (j : ℕ) → j < length t.entries → entry_of (take j t.entries) (entry_at t.entries j).lit.var ≡ None
  pub levelled : AreLevelled 0 t.entries t.level
  -- what follows from these
  pub fits : length t.entries ≤ t.vars
  pub high : t.level ≤ length t.entries
  pub top : (j : ℕ) → j < length t.entries → (entry_at t.entries j).level ≤ t.level
  pub rising : (i j : ℕ) → i ≤ j → j < length t.entries
      → (entry_at t.entries i).level ≤ (entry_at t.entries j).level
  pub begins : (i j : ℕ) → i < j → j < length t.entries → (entry_at t.entries j).reason ≡ None
      → (entry_at t.entries i).level < (entry_at t.entries j).level

-- no entry, at level 0
abbrev pub empty_trail : ℕ → Trail
empty_trail vars = record { vars = vars; entries = []; level = 0 }

-- a literal is made true at the current level, forced by the clause of a reference
abbrev pub implied : Trail → Lit → ℕ → Trail
implied t l reason = record {
  vars = t.vars;
  entries = t.entries ++ record { lit = l; level = t.level; reason = Some reason } ∷ [];
  level = t.level;
}

-- a new level begins with a literal that is decided
abbrev pub chosen : Trail → Lit → Trail
chosen t l = record {
  vars = t.vars;
  entries = t.entries ++ record { lit = l; level = t.level + 1; reason = None } ∷ [];
  level = t.level + 1;
}

-- the trail at the end of an earlier level, or of the current one
abbrev pub cut_back : Trail → ℕ → Trail
cut_back t k = record { vars = t.vars; entries = up_to k t.entries; level = k }
