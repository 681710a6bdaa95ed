-- Clauses, trail and rings that belong together, through the moves.
use Rattle.std.proofs.Common.{◌≡◌, ◌≢◌, ℕ, ◌+◌, ◌*◌, ◌≤◌, ◌<◌, true, false, List, [], ◌∷◌, ◌++◌, length, take, drop, refl, ap, sym, ◌∙◌, subst, arith, ⊎_elim, Option, Some, None}
use Rattle.std.specs.List.{swap}
use Rattle.std.specs.Prelude.{◌==◌}
use Rattle.std.specs.List.Sorted.{IsPermutation}
use Rattle.std.proofs.lemmas.List.Sorted.{length_permutation}
use Rattle.std.proofs.lemmas.List.Edits.{swapped_from_swap}
use Rattle.std.proofs.lemmas.Bool.{cases_eq, cases_lt, cond-true, eq-eqb}
use Rattle.std.proofs.lemmas.List.{take-append-le, take-append-drop, take_more, length_push, get_or_append_left, get_or_push, drop_more}
use Rattle.order_ints.specs.declared.literal.Lit.{Lit}
use Rattle.order_ints.specs.Truth.{not_lit}
use Rattle.literal_trail.specs.declared.entry.Entry.{Entry}
use Rattle.literal_trail.specs.Trail.{Trail, IsTrail, entry_at, no_entry, entry_of, truth_in, implied, chosen}
use Rattle.literal_trail.specs.Standing.{HasTrue}
use Rattle.clause_arena.specs.Clauses.{Clause, clause_at, lits_of, lit_in, no_lit}
use Rattle.clause_arena.specs.Codes.{code_of}
use Rattle.index_ring.specs.Lists.{RingLists, IsRings, IsFree, Stands}
use Rattle.clause_rings.specs.Watches.{IsGuarded, IsWatched, IsWaiting, IsIdle, IsAttended, IsWatching}
use Rattle.clause_rings.proofs.Entries.{entry-append_free}
use Rattle.clause_rings.proofs.Nodes.{OthersStand, IsMovedTo, stands-once, stands-held}
use Rattle.clause_rings.proofs.Db.{IsChanged}
use Rattle.clause_rings.proofs.Guards.{attended-append, attended-next, attended-elsewhere, guarded-open, guarded-permuted}

-- the trail's entry at a place is that of its variable
pub entry-at_place : (t : Trail) (j : ℕ) → IsTrail t → j < length t.entries → entry_of t.entries (entry_at t.entries j).lit.var ≡ Some (entry_at t.entries j)
entry-at_place t j trail lt =
    let here : entry_of ((entry_at t.entries j) ∷ drop (j + 1) t.entries) (entry_at t.entries j).lit.var ≡ Some (entry_at t.entries j) = first (entry_at t.entries j) (drop (j + 1) t.entries) in
    let cut : t.entries ≡ take j t.entries ++ (entry_at t.entries j ∷ drop (j + 1) t.entries) = sym (take-append-drop j t.entries) ∙ ap (λ (l : List Entry). take j t.entries ++ l) (drop_more t.entries j no_entry lt) in
    ap (λ (l : List Entry). entry_of l (entry_at t.entries j).lit.var) cut ∙ (entry-append_free (take j t.entries) ((entry_at t.entries j) ∷ drop (j + 1) t.entries) (entry_at t.entries j).lit.var (trail.fresh j lt) ∙ here)
  where
    first : (e : Entry) (more : List Entry) → entry_of (e ∷ more) e.lit.var ≡ Some e
    first e more = cond-true {A = Option Entry} (e.lit.var == e.lit.var) (Some e) (entry_of more e.lit.var) (eq-eqb e.lit.var e.lit.var refl)

-- an entry more behind the trail, at the current level
pub late-pushed : (es : List Entry) (x : Entry) (head level : ℕ) → x.level ≡ level → ((j : ℕ) → head ≤ j → j < length es → (entry_at es j).level ≡ level) → (j : ℕ) → head ≤ j → j < length (es ++ x ∷ []) → (entry_at (es ++ x ∷ []) j).level ≡ level
late-pushed es x head level e h j ge lt = ⊎_elim (λ (in_old : j < length es). ap (λ (y : Entry). y.level) (get_or_append_left es (x ∷ []) no_entry j in_old) ∙ h j ge in_old) (λ (past : length es ≤ j). let at : length es ≡ j = omega (arith, length_push es x) in ap (λ (y : Entry). y.level) (get_or_push es x no_entry j at) ∙ e) (cases_lt j (length es))

pub watching-implied : (cs : List Clause) (t : Trail) (l : Lit) (c : ℕ) (rings : RingLists) (head : ℕ) → IsWatching cs t rings head → IsWatching cs (implied t l c) rings head
watching-implied cs t l c rings head h =
    let x : Entry = record { lit = l; level = t.level; reason = Some c } in
    record {
      made = h.made;
      ring_count = h.ring_count;
      node_count = h.node_count;
      attended = λ d. subst (λ (done : List Entry). IsAttended (clause_at cs d) rings (t.entries ++ x ∷ []) done d) (sym (take-append-le head t.entries (x ∷ []) h.worked)) (attended-append (clause_at cs d) rings t.entries (x ∷ []) (take head t.entries) d (h.attended d));
      worked = omega (arith, length_push t.entries x, h.worked);
      late = late-pushed t.entries x head t.level refl h.late;
    }

-- a decision, where all entries are worked off
pub watching-chosen : (cs : List Clause) (t : Trail) (l : Lit) (rings : RingLists) (head : ℕ) → head ≡ length t.entries → IsWatching cs t rings head → IsWatching cs (chosen t l) rings head
watching-chosen cs t l rings head all h =
    let x : Entry = record { lit = l; level = t.level + 1; reason = None } in
    record {
      made = h.made;
      ring_count = h.ring_count;
      node_count = h.node_count;
      attended = λ d. subst (λ (done : List Entry). IsAttended (clause_at cs d) rings (t.entries ++ x ∷ []) done d) (sym (take-append-le head t.entries (x ∷ []) h.worked)) (attended-append (clause_at cs d) rings t.entries (x ∷ []) (take head t.entries) d (h.attended d));
      worked = omega (arith, length_push t.entries x, h.worked);
      late = late-pushed t.entries x head (t.level + 1) refl (λ j ge lt. absurd (omega arith));
    }

-- the entry at the head is worked off where each clause that watches its negation has a literal that is true by its level
pub watching-next : (cs : List Clause) (t : Trail) (rings : RingLists) (head : ℕ) → head < length t.entries → ((c i : ℕ) → i < 2 → Stands rings (code_of (not_lit (entry_at t.entries head).lit)) (2 * c + i) → HasTrue t.entries (lits_of cs c) (entry_at t.entries head).level) → IsWatching cs t rings head → IsWatching cs t rings (head + 1)
watching-next cs t rings head lt new h = record {
  made = h.made;
  ring_count = h.ring_count;
  node_count = h.node_count;
  attended = λ d. subst (λ (done : List Entry). IsAttended (clause_at cs d) rings t.entries done d) (sym (take_more t.entries head no_entry lt)) (attended-next (clause_at cs d) rings t.entries (take head t.entries) (entry_at t.entries head) d (new d) (h.attended d));
  worked = omega arith;
  late = λ j ge in_trail. h.late j (omega arith) in_trail;
}

-- a clause whose watch has moved to a literal that isn't false
pub watched-moved : (x y : Clause) (old new : RingLists) (es done rest : List Entry) (c p k : ℕ) → es ≡ done ++ rest → y.live ≡ true → IsPermutation x.lits y.lits → p < 2 → 2 ≤ k → k < length x.lits → y.lits ≡ swap x.lits p k → truth_in es (lit_in x.lits k) ≢ Some false → IsMovedTo old new (code_of (lit_in x.lits k)) (2 * c + p) → IsWatched x old es done c → IsWatched y new es done c
watched-moved x y old new es done rest c p k cut live perm small far inside is not_false moved w =
    let s = swapped_from_swap x.lits y.lits p k no_lit (omega arith) inside is in
    record {
      live = live;
      two = omega (arith, length_permutation x.lits y.lits perm, w.two);
      stands = λ i lt. ⊎_elim (λ (e : i ≡ p). subst (λ (j : ℕ). Stands new (code_of (lit_in y.lits j)) (2 * c + j)) (sym e) (subst (λ (l : Lit). Stands new (code_of l) (2 * c + p)) (sym s.0) moved.here)) (λ (ne : i ≡ p → ⊥). subst (λ (l : Lit). Stands new (code_of l) (2 * c + i)) (sym (s.2 i ne (λ e. absurd (omega arith)))) (moved.others.stand (2 * c + i) (code_of (lit_in x.lits i)) (λ e. ne (omega arith)) (w.stands i lt))) (cases_eq i p);
      guarded = λ i lt. ⊎_elim (λ (e : i ≡ p). subst (λ (j : ℕ). IsGuarded es done y.lits (lit_in y.lits j)) (sym e) (subst (λ (l : Lit). IsGuarded es done y.lits l) (sym s.0) (guarded-open es done rest y.lits (lit_in x.lits k) cut not_false))) (λ (ne : i ≡ p → ⊥). subst (λ (l : Lit). IsGuarded es done y.lits l) (sym (s.2 i ne (λ e. absurd (omega arith)))) (guarded-permuted es done x.lits y.lits (lit_in x.lits i) perm (w.guarded i lt))) (cases_eq i p);
    }

-- one clause is attended anew, and each other one as it was
pub watching-changed : (old new : List Clause) (t : Trail) (rings moved : RingLists) (head c p : ℕ) (x : Clause) → IsChanged old new c x → p < 2 → OthersStand rings moved (2 * c + p) → IsRings moved → length moved.lists ≡ length rings.lists → moved.nodes ≡ rings.nodes → IsAttended x moved t.entries (take head t.entries) c → IsWatching old t rings head → IsWatching new t moved head
watching-changed old new t rings moved head c p x change small others made count nodes here h = record {
  made = made;
  ring_count = count ∙ h.ring_count;
  node_count = omega (arith, change.count, nodes, h.node_count);
  attended = λ d. ⊎_elim (λ (e : d ≡ c). subst (λ (n : ℕ). IsAttended (clause_at new n) moved t.entries (take head t.entries) n) (sym e) (subst (λ (y : Clause). IsAttended y moved t.entries (take head t.entries) c) (sym change.here) here)) (λ (ne : d ≡ c → ⊥). subst (λ (y : Clause). IsAttended y moved t.entries (take head t.entries) d) (sym (change.others d ne)) (attended-elsewhere (clause_at old d) rings moved t.entries (take head t.entries) d (2 * c + p) others (λ e. ne (omega arith)) (λ e. ne (omega arith)) (h.attended d))) (cases_eq d c);
  worked = h.worked;
  late = h.late;
}

-- of a clause that is watched or whatever else, a node that stands in the ring of a literal watches it
pub watched-by : (cs : List Clause) (t : Trail) (rings : RingLists) (head c i : ℕ) (r : ℕ) → IsWatching cs t rings head → i < 2 → 2 ≤ r → Stands rings r (2 * c + i) → IsWatched (clause_at cs c) rings t.entries (take head t.entries) c × (code_of (lit_in (lits_of cs c) i) ≡ r)
watched-by cs t rings head c i r h small high stands = ⊎_elim watched (⊎_elim waiting idle) (h.attended c)
  where
    watched : IsWatched (clause_at cs c) rings t.entries (take head t.entries) c → IsWatched (clause_at cs c) rings t.entries (take head t.entries) c × (code_of (lit_in (lits_of cs c) i) ≡ r)
    watched w = (w, stands-once rings (code_of (lit_in (lits_of cs c) i)) r (2 * c + i) h.made (w.stands i small) stands)

    waiting : IsWaiting (clause_at cs c) rings c → IsWatched (clause_at cs c) rings t.entries (take head t.entries) c × (code_of (lit_in (lits_of cs c) i) ≡ r)
    waiting w = absurd (⊎_elim
        (λ (e : i ≡ 0). let other : 0 ≡ r = stands-once rings 0 r (2 * c) h.made w.stands (subst (λ (n : ℕ). Stands rings r n) (omega arith) stands) in omega arith)
        (λ (ne : i ≡ 0 → ⊥). stands-held rings r (2 * c + i) stands (subst (λ (n : ℕ). IsFree rings n) (omega arith) w.free)) (cases_eq i 0))

    idle : IsIdle (clause_at cs c) rings t.entries c → IsWatched (clause_at cs c) rings t.entries (take head t.entries) c × (code_of (lit_in (lits_of cs c) i) ≡ r)
    idle d = absurd (⊎_elim
        (λ (e : i ≡ 0). stands-held rings r (2 * c + i) stands (subst (λ (n : ℕ). IsFree rings n) (omega arith) d.first))
        (λ (ne : i ≡ 0 → ⊥). stands-held rings r (2 * c + i) stands (subst (λ (n : ℕ). IsFree rings n) (omega arith) d.second)) (cases_eq i 0))
