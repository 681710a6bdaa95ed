-- Clauses in one flat list of packed literals, with a table of their places.
use Rattle.std.specs.Prelude.{◌≡◌, ◌==◌, ℕ, ◌+◌, ◌*◌, ◌/◌, ◌%◌, ◌<◌, ◌≤◌, Bool}
use Rattle.std.specs.Prelude.{true, false, List, [], ◌∷◌, map, length, slice_range, slice_index_or}
use Rattle.std.specs.Prelude.{if◌then◌else◌}
use Rattle.order_ints.specs.declared.literal.Lit.{Lit}
use Rattle.proof_check.specs.declared.arena.Place.{Place}
use Rattle.proof_check.specs.Named.{Named}

-- a literal in one number: twice the variable, and 1 for the positive one
abbrev pub packed : Lit → ℕ
packed l = 2 * l.var + (if l.positive then 1 else 0)

abbrev pub unpacked : ℕ → Lit
unpacked code = record { var = code / 2; positive = code % 2 == 1 }

-- a clause that was taken, and whether it lives
pub record Kept : Type 0 where
  pub clause : Named
  pub live : Bool

-- the clause at a place
abbrev pub kept_at : List ℕ → Place → Kept
kept_at codes place = record {
  clause = record { id = place.id; lits = map unpacked (slice_range codes place.start (place.start + place.len)) };
  live = place.live;
}

-- the clauses of a table of places
abbrev pub kept_in : List ℕ → List Place → List Kept
kept_in codes places = map (kept_at codes) places

-- each place lies within the flat list
abbrev pub AreWithin : List ℕ → List Place → Type 0
AreWithin codes [] = Unit {0}
AreWithin codes (p ∷ ps) = (p.start + p.len ≤ length codes) × AreWithin codes ps

-- ids ascend, each above the one before, and the first above a given one
abbrev pub Ascend : ℕ → List ℕ → Type 0
Ascend low [] = Unit {0}
Ascend low (id ∷ ids) = (low < id) × Ascend id ids

-- the last id, or the one given where there is none
abbrev pub last_from : ℕ → List ℕ → ℕ
last_from low [] = low
last_from low (id ∷ ids) = last_from id ids

-- the ids of the places of a table, and of clauses
abbrev pub place_ids : List Place → List ℕ
place_ids places = map (λ p. p.id) places

abbrev pub kept_ids : List Kept → List ℕ
kept_ids ks = map (λ k. k.clause.id) ks

-- the table is in order
pub record IsArena (codes : List ℕ) (places : List Place) : Type 0 where
  pub within : AreWithin codes places
  pub ascend : Ascend 0 (place_ids places)

-- a clause that isn't there
abbrev pub no_kept : Kept
no_kept = record { clause = record { id = 0; lits = [] }; live = false }

-- the clause at a place of the table
abbrev pub nth_kept : List Kept → ℕ → Kept
nth_kept ks i = slice_index_or ks i no_kept

-- clauses that live
abbrev pub all_live : List Named → List Kept
all_live cs = map (λ c. record { clause = c; live = true }) cs

-- the clauses of all places
abbrev pub clauses_in : List Kept → List Named
clauses_in ks = map (λ k. k.clause) ks

-- the clauses that live
abbrev pub live_in : List Kept → List Named
live_in [] = []
live_in (k ∷ ks) = if k.live then k.clause ∷ live_in ks else live_in ks

-- the clause with life or without
abbrev pub with_life : Bool → Kept → Kept
with_life b k = record { clause = k.clause; live = b }

-- each clause with the id lives, or not
abbrev pub life_to : Bool → ℕ → List Kept → List Kept
life_to b id ks = map (λ k. if k.clause.id == id then with_life b k else k) ks

-- each clause with the id lives
abbrev pub IsLiveAt : ℕ → List Kept → Type 0
IsLiveAt id [] = Unit {0}
IsLiveAt id (k ∷ ks) = (k.clause.id ≡ id → k.live ≡ true) × IsLiveAt id ks
