-- A clause whose two literals of the highest ranks have come to the first places.
use Rattle.std.proofs.Common.{◌≡◌, ◌≢◌, ℕ, ◌≤◌, ◌<◌, List, length, set, refl, ap, sym, ◌∙◌, subst, arith, ◌⊎◌, ⊎_elim}
use Rattle.std.specs.List.{swap}
use Rattle.std.proofs.lemmas.List.Edits.{swapped_from_swap, length-swap}
use Rattle.std.proofs.lemmas.List.Sorted.{IsPermutation-trans}
use Rattle.order_ints.specs.declared.literal.Lit.{Lit}
use Rattle.literal_trail.specs.declared.entry.Entry.{Entry}
use Rattle.clause_arena.specs.Clauses.{Clause, Arena, no_lit, clause_at, IsLive, lits_of, lit_in, swapped}
use Rattle.clause_rings.specs.Clauses.{SameClause}
use Rattle.clause_rings.specs.Looks.{rank_of, IsBestFrom}
use Rattle.clause_rings.specs.Attaching.{AreRanked, IsReordered}
use Rattle.clause_rings.proofs.Db.{IsChanged, changed-set, live-inside, same-swapped, came-from}
use Rattle.clause_rings.proofs.Kept.{swapped_clause}

-- two literals of a clause have changed places
pub record IsSwapped (old new : Arena) (c i j : ℕ) : Type 0 where
  pub reordered : IsReordered old new c
  pub lits : lits_of new.clauses c ≡ swap (lits_of old.clauses c) i j
  pub live : IsLive new.clauses c

pub swapped-is : (old new : Arena) (c i j : ℕ) → IsLive old.clauses c → i < length (lits_of old.clauses c) → j < length (lits_of old.clauses c) → new ≡ swapped old c i j → IsSwapped old new c i j
swapped-is old new c i j live i_in j_in e = subst (λ (a : Arena). IsSwapped old a c i j) (sym e) made
  where
    x : Clause
    x = swapped_clause old.clauses c i j

    change : IsChanged old.clauses (set old.clauses c x) c x
    change = changed-set old.clauses c x (live-inside old.clauses c live)

    made : IsSwapped old (swapped old c i j) c i j
    made = record {
      reordered = record { count = change.count; here = subst (λ (y : Clause). SameClause (clause_at old.clauses c) y) (sym change.here) (same-swapped (clause_at old.clauses c) i j live i_in j_in); others = change.others; spare_lits = refl; spare_clauses = refl };
      lits = ap (λ (y : Clause). y.lits) change.here;
      live = ap (λ (y : Clause). y.live) change.here;
    }

pub reordered-both : (a b d : Arena) (c : ℕ) → IsReordered a b c → IsReordered b d c → IsReordered a d c
reordered-both a b d c f g = record {
  count = g.count ∙ f.count;
  here = record { id = g.here.id ∙ f.here.id; live = g.here.live ∙ f.here.live; lits = IsPermutation-trans (lits_of a.clauses c) (lits_of b.clauses c) (lits_of d.clauses c) f.here.lits g.here.lits };
  others = λ k ne. g.others k ne ∙ f.others k ne;
  spare_lits = g.spare_lits ∙ f.spare_lits;
  spare_clauses = g.spare_clauses ∙ f.spare_clauses;
}

-- the best of all comes first
pub ranked-first : (es : List Entry) (ls : List Lit) (best k : ℕ) → IsBestFrom es ls 0 best → k < length ls → rank_of es (lit_in (swap ls 0 best) k) ≤ rank_of es (lit_in (swap ls 0 best) 0)
ranked-first es ls best k b lt =
    let inside : best < length ls = b.inside in
    let s = swapped_from_swap ls (swap ls 0 best) 0 best no_lit (omega arith) inside refl in
    let from = came-from ls 0 best k (omega arith) inside lt in
    omega (arith, ap (rank_of es) s.0, ap (rank_of es) from.same_lit, b.highest from.place (omega arith) from.inside)

-- and then the best of the others
pub ranked-second : (es : List Entry) (ms : List Lit) (best : ℕ) → ((k : ℕ) → k < length ms → rank_of es (lit_in ms k) ≤ rank_of es (lit_in ms 0)) → IsBestFrom es ms 1 best → AreRanked es (swap ms 1 best)
ranked-second es ms best top b = record { first = first; second = second }
  where
    inside : best < length ms
    inside = b.inside

    after : 1 ≤ best
    after = b.after

    count : length (swap ms 1 best) ≡ length ms
    count = length-swap ms 1 best

    first : (k : ℕ) → k < length (swap ms 1 best) → rank_of es (lit_in (swap ms 1 best) k) ≤ rank_of es (lit_in (swap ms 1 best) 0)
    first k lt =
        let s = swapped_from_swap ms (swap ms 1 best) 1 best no_lit (omega (arith, after, inside)) inside refl in
        let from = came-from ms 1 best k (omega (arith, after, inside)) inside (omega (arith, count)) in
        omega (arith, ap (rank_of es) (s.2 0 (λ e. absurd (omega arith)) (λ e. absurd (omega (arith, after)))), ap (rank_of es) from.same_lit, top from.place from.inside)

    second : (k : ℕ) → 1 ≤ k → k < length (swap ms 1 best) → rank_of es (lit_in (swap ms 1 best) k) ≤ rank_of es (lit_in (swap ms 1 best) 1)
    second k ge lt =
        let s = swapped_from_swap ms (swap ms 1 best) 1 best no_lit (omega (arith, after, inside)) inside refl in
        let from = came-from ms 1 best k (omega (arith, after, inside)) inside (omega (arith, count)) in
        let place : 1 ≤ from.place = ⊎_elim (λ (m : (k ≡ 1) × (from.place ≡ best)). omega (arith, m.1, after)) (λ (r : ((k ≡ best) × (from.place ≡ 1)) ⊎ ((k ≢ 1) × (k ≢ best) × (from.place ≡ k))). ⊎_elim (λ (m : (k ≡ best) × (from.place ≡ 1)). omega (arith, m.1, after)) (λ (m : (k ≢ 1) × (k ≢ best) × (from.place ≡ k)). omega (arith, m.2)) r) from.moved in
        omega (arith, ap (rank_of es) s.0, ap (rank_of es) from.same_lit, b.highest from.place place from.inside)

-- what the two swaps leave
pub ordered-two : (es : List Entry) (a b d : Arena) (c i j : ℕ) → IsLive a.clauses c → b ≡ swapped a c 0 i → IsBestFrom es (lits_of a.clauses c) 0 i → d ≡ swapped b c 1 j → 1 < length (lits_of a.clauses c) → IsBestFrom es (lits_of b.clauses c) 1 j → IsReordered a d c × AreRanked es (lits_of d.clauses c)
ordered-two es a b d c i j live e f g two h =
    let best_in : i < length (lits_of a.clauses c) = f.inside in
    let one = swapped-is a b c 0 i live (omega arith) best_in e in
    let count : length (lits_of b.clauses c) ≡ length (lits_of a.clauses c) = ap length one.lits ∙ length-swap (lits_of a.clauses c) 0 i in
    let other = swapped-is b d c 1 j one.live (omega arith) h.inside g in
    let top : (k : ℕ) → k < length (lits_of b.clauses c) → rank_of es (lit_in (lits_of b.clauses c) k) ≤ rank_of es (lit_in (lits_of b.clauses c) 0) = (λ k lt. subst (λ (ls : List Lit). rank_of es (lit_in ls k) ≤ rank_of es (lit_in ls 0)) (sym one.lits) (ranked-first es (lits_of a.clauses c) i k f (omega arith))) in
    (reordered-both a b d c one.reordered other.reordered, subst (λ (ls : List Lit). AreRanked es ls) (sym other.lits) (ranked-second es (lits_of b.clauses c) j top h))

pub ordered-one : (es : List Entry) (a b : Arena) (c i : ℕ) → IsLive a.clauses c → b ≡ swapped a c 0 i → IsBestFrom es (lits_of a.clauses c) 0 i → length (lits_of a.clauses c) ≤ 1 → IsReordered a b c × AreRanked es (lits_of b.clauses c)
ordered-one es a b c i live e f one =
    let best_in : i < length (lits_of a.clauses c) = f.inside in
    let s = swapped-is a b c 0 i live (omega arith) best_in e in
    let count : length (lits_of b.clauses c) ≡ length (lits_of a.clauses c) = ap length s.lits ∙ length-swap (lits_of a.clauses c) 0 i in
    (s.reordered, record { first = λ k lt. subst (λ (ls : List Lit). rank_of es (lit_in ls k) ≤ rank_of es (lit_in ls 0)) (sym s.lits) (ranked-first es (lits_of a.clauses c) i k f (omega arith)); second = λ k ge lt. absurd (omega arith) })
