-- How the number of the trail changes as the search goes on.
use Rattle.std.proofs.Common.{◌≡◌, ℕ, ◌+◌, ◌≤◌, ◌<◌, ◌^◌, Bool, true, false, List, [], ◌∷◌, ◌++◌, length, Option, Some, None, ap, ◌∙◌, arith}
use Rattle.std.specs.Prelude.{is_none}
use Rattle.std.proofs.lemmas.List.{map-append, length-map}
use Rattle.order_ints.specs.declared.literal.Lit.{Lit}
use Rattle.literal_trail.specs.declared.entry.Entry.{Entry}
use Rattle.literal_trail.specs.Trail.{Trail, implied, chosen}
use Rattle.clause_arena.specs.Clauses.{Clause}
use Rattle.clause_rings.specs.Clauses.{Follows}
use Rattle.clause_rings.specs.Clauses.Follows.{same, more}
use Rattle.search_laws.specs.TrailNumber.{trail_number}
use Rattle.search_laws.proofs.TrailLaws.{never_rises, falls_when_turned, stays_below}
use Rattle.learning_solver.specs.Height.{decided, height}

pub height-below : (t : Trail) → height t < 2 ^ t.vars
height-below t = stays_below t.vars (decided t.entries)

-- an entry more
pub height-more : (vars : ℕ) (entries : List Entry) (e : Entry) → trail_number vars (decided (entries ++ e ∷ [])) ≤ trail_number vars (decided entries)
height-more vars entries e =
    let both = map-append (λ (x : Entry). is_none x.reason) entries (e ∷ []) in
    omega (arith, never_rises vars (decided entries) (is_none e.reason ∷ []), ap (λ (l : List Bool). trail_number vars l) both)

pub height-chosen : (t : Trail) (l : Lit) → height (chosen t l) ≤ height t
height-chosen t l = height-more t.vars t.entries (record { lit = l; level = t.level + 1; reason = None })

pub height-implied : (t : Trail) (l : Lit) (c : ℕ) → height (implied t l c) ≤ height t
height-implied t l c = height-more t.vars t.entries (record { lit = l; level = t.level; reason = Some c })

pub height-follows : (cs : List Clause) (t u : Trail) → Follows cs t u → height u ≤ height t
height-follows cs t _ same = omega arith
height-follows cs t _ (more u l c before live unit) = omega (arith, height-follows cs t u before, height-implied u l c)

-- a decision gives way to a literal with a reason
pub height-falls : (vars : ℕ) (kept : List Entry) (d : Entry) (rest : List Entry) (e : Entry) (c : ℕ) → length kept < vars → d.reason ≡ None → e.reason ≡ Some c → trail_number vars (decided (kept ++ e ∷ [])) < trail_number vars (decided (kept ++ d ∷ rest))
height-falls vars kept d rest e c few decision reason =
    let before = map-append (λ (x : Entry). is_none x.reason) kept (d ∷ rest) in
    let after = map-append (λ (x : Entry). is_none x.reason) kept (e ∷ []) in
    let first : is_none d.reason ≡ true = ap (λ (o : Option ℕ). is_none o) decision in
    let last : is_none e.reason ≡ false = ap (λ (o : Option ℕ). is_none o) reason in
    let whole : decided (kept ++ d ∷ rest) ≡ decided kept ++ true ∷ decided rest = before ∙ ap (λ (b : Bool). decided kept ++ b ∷ decided rest) first in
    let turned : decided (kept ++ e ∷ []) ≡ decided kept ++ false ∷ [] = after ∙ ap (λ (b : Bool). decided kept ++ b ∷ []) last in
    omega (
      arith,
      falls_when_turned vars (decided kept) (decided rest) (omega (arith, length-map kept (λ (x : Entry). is_none x.reason))),
      ap (λ (l : List Bool). trail_number vars l) whole,
      ap (λ (l : List Bool). trail_number vars l) turned,
    )
