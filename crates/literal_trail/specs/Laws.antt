-- Laws of trails and of their prefixes.
use Rattle.std.specs.Prelude.{◌≡◌, ℕ, ◌+◌, ◌<◌, ◌≤◌, List, [], ◌∷◌, ◌++◌, length, take}
use Rattle.std.specs.Prelude.{Bool, Some, None}
use Rattle.order_ints.specs.declared.literal.Lit.{Lit}
use Rattle.order_ints.specs.Place.{LitBelow}
use Rattle.literal_trail.specs.declared.entry.Entry.{Entry}
use Rattle.literal_trail.specs.Trail.{Trail, IsTrail, entry_at, entry_of, truth_in, up_to, implied, chosen, cut_back}

-- the prefix up to a level is a front of the entries
abbrev pub PrefixIsFront : Type 0
PrefixIsFront = (k : ℕ) (entries : List Entry) → take (length (up_to k entries)) entries ≡ up_to k entries

-- at the current level the prefix is the whole
abbrev pub PrefixIsWhole : Type 0
PrefixIsWhole = (t : Trail) → IsTrail t → up_to t.level t.entries ≡ t.entries

-- the prefix of a prefix is that of the lower level
abbrev pub PrefixOfPrefix : Type 0
PrefixOfPrefix = (j k : ℕ) (entries : List Entry) → j ≤ k → up_to j (up_to k entries) ≡ up_to j entries

-- entries that come at a higher level change no prefix
abbrev pub PrefixStays : Type 0
PrefixStays = (k : ℕ) (entries : List Entry) (e : Entry) → k < e.level
    → up_to k (entries ++ e ∷ []) ≡ up_to k entries

-- a place is in the prefix exactly where its level is not above
abbrev pub PrefixByLevel : Type 0
PrefixByLevel = (t : Trail) (k j : ℕ) → IsTrail t → j < length t.entries
    → ((entry_at t.entries j).level ≤ k → j < length (up_to k t.entries))
    × (j < length (up_to k t.entries) → (entry_at t.entries j).level ≤ k)

-- behind the prefix up to a level below the current one stands the decision that begins the next level
abbrev pub DecisionBehind : Type 0
DecisionBehind = (t : Trail) (k : ℕ) → IsTrail t → k < t.level → (length (up_to k t.entries) < length t.entries)
    × ((entry_at t.entries (length (up_to k t.entries))).level ≡ k + 1)
    × ((entry_at t.entries (length (up_to k t.entries))).reason ≡ None)

-- an entry at a place is that of its variable
abbrev pub EntryOfPlace : Type 0
EntryOfPlace = (t : Trail) (j : ℕ) → IsTrail t → j < length t.entries
    → entry_of t.entries (entry_at t.entries j).lit.var ≡ Some (entry_at t.entries j)

-- the entry of a variable stands at a place
abbrev pub PlaceOfEntry : Type 0
PlaceOfEntry = (entries : List Entry) (v : ℕ) (e : Entry) → entry_of entries v ≡ Some e → (e.lit.var ≡ v)
    × ((j : ℕ) × (j < length entries) × (entry_at entries j ≡ e))

-- under the prefix up to a level the variables of that level and below have their entries, and the others are free
abbrev pub EntryInPrefix : Type 0
EntryInPrefix = (t : Trail) (k v : ℕ) (e : Entry) → IsTrail t → entry_of t.entries v ≡ Some e
    → (e.level ≤ k → entry_of (up_to k t.entries) v ≡ Some e)
    × (k < e.level → entry_of (up_to k t.entries) v ≡ None)

-- what a front of the entries says stays
abbrev pub EntryStays : Type 0
EntryStays = (front more : List Entry) (v : ℕ) (e : Entry) → entry_of front v ≡ Some e
    → entry_of (front ++ more) v ≡ Some e

-- a variable that is free is free in each front
abbrev pub FreeBefore : Type 0
FreeBefore = (front more : List Entry) (v : ℕ) → entry_of (front ++ more) v ≡ None → entry_of front v ≡ None

-- a truth value stays
abbrev pub TruthStays : Type 0
TruthStays = (front more : List Entry) (l : Lit) (b : Bool) → truth_in front l ≡ Some b
    → truth_in (front ++ more) l ≡ Some b

-- the three moves keep a trail
abbrev pub ImpliedIsTrail : Type 0
ImpliedIsTrail = (t : Trail) (l : Lit) (reason : ℕ) → IsTrail t → LitBelow (t.vars + 1) l
    → entry_of t.entries l.var ≡ None → IsTrail (implied t l reason)

abbrev pub ChosenIsTrail : Type 0
ChosenIsTrail = (t : Trail) (l : Lit) → IsTrail t → LitBelow (t.vars + 1) l → entry_of t.entries l.var ≡ None
    → IsTrail (chosen t l)

abbrev pub CutIsTrail : Type 0
CutIsTrail = (t : Trail) (k : ℕ) → IsTrail t → k ≤ t.level → IsTrail (cut_back t k)

-- where a variable is free, not every variable has an entry
abbrev pub RoomWhereFree : Type 0
RoomWhereFree = (t : Trail) (v : ℕ) → IsTrail t → 1 ≤ v → v ≤ t.vars → entry_of t.entries v ≡ None
    → length t.entries < t.vars
