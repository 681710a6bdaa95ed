-- What a look at a watched clause leaves.
use Rattle.std.proofs.Common.{◌≡◌, ◌≢◌, ℕ, ◌+◌, ◌*◌, ◌/◌, ◌%◌, ◌≤◌, ◌<◌, Bool, true, false, not, List, [], ◌∷◌, ◌++◌, length, set, refl, ap, sym, ◌∙◌, subst, arith, Option, Some, None}
use Rattle.std.specs.List.{Contains}
use Rattle.std.specs.Prelude.{if◌then◌else◌, ◌==◌}
use Rattle.std.proofs.lemmas.Bool.{eq-eqb, cond-true}
use Rattle.std.proofs.lemmas.List.{get_or_append_left}
use Rattle.order_ints.specs.declared.literal.Lit.{Lit}
use Rattle.literal_trail.specs.declared.entry.Entry.{Entry}
use Rattle.literal_trail.specs.Trail.{Trail, IsTrail, entry_at, no_entry, entry_of, truth_in, implied}
use Rattle.literal_trail.specs.Standing.{HasTrue, IsUnit}
use Rattle.clause_arena.specs.Clauses.{Clause, Arena, IsLive, lits_of, lit_in, swapped}
use Rattle.clause_arena.specs.Codes.{code_of}
use Rattle.index_ring.specs.Lists.{RingLists, IsRings, list_of, without, pushed_back, unlinked}
use Rattle.clause_rings.specs.Clauses.{ClauseLists, SameClauses}
use Rattle.clause_rings.specs.Clauses.Follows.{same, more}
use Rattle.clause_rings.specs.Looks.{IsOpenPlace}
use Rattle.clause_rings.specs.Watches.{IsKept}
use Rattle.clause_rings.specs.Keeping.{Keeps, seen, Advances, head_ring}
use Rattle.clause_rings.specs.declared.watches.Watches.{Watches}
use Rattle.clause_rings.proofs.Entries.{place-of-entry, truth-has, truth-entry, entry-append_free}
use Rattle.clause_rings.proofs.Literals.{contains-at}
use Rattle.clause_rings.proofs.Nodes.{IsMovedTo, moved-node}
use Rattle.clause_rings.proofs.Guards.{code-same}
use Rattle.clause_rings.proofs.Kept.{IsAtWatch, ringed-lit, kept-moved, swapped_clause, same-after_swap}
use Rattle.clause_rings.proofs.Db.{same-clauses, same-both, follows-same, follows-both}

-- nothing has changed
pub advances-none : (d : ClauseLists) → Advances d d
advances-none d = record { clauses = same-clauses d.clauses; trail = same; spare_lits = refl; spare_clauses = refl }

pub advances-both : (a b c : ClauseLists) → Advances a b → Advances b c → Advances a c
advances-both a b c f g = record {
  clauses = same-both a.clauses b.clauses c.clauses f.clauses g.clauses;
  trail = follows-both c.clauses a.trail b.trail c.trail (follows-same b.clauses c.clauses a.trail b.trail g.clauses f.trail) g.trail;
  spare_lits = g.spare_lits ∙ f.spare_lits;
  spare_clauses = g.spare_clauses ∙ f.spare_clauses;
}

-- literals of a clause in another order
pub advances-same : (old : List Clause) (new : List Clause) (t : Trail) (lits clauses : ℕ) → SameClauses old new → Advances (record { clauses = old; trail = t; spare_lits = lits; spare_clauses = clauses }) (record { clauses = new; trail = t; spare_lits = lits; spare_clauses = clauses })
advances-same old new t lits clauses s = record { clauses = s; trail = same; spare_lits = refl; spare_clauses = refl }

-- a literal that a clause makes true
pub advances-implied : (cs : List Clause) (t : Trail) (lits clauses : ℕ) (l : Lit) (c : ℕ) → IsLive cs c → IsUnit t.entries (lits_of cs c) l → Advances (record { clauses = cs; trail = t; spare_lits = lits; spare_clauses = clauses }) (record { clauses = cs; trail = implied t l c; spare_lits = lits; spare_clauses = clauses })
advances-implied cs t lits clauses l c live unit = record { clauses = same-clauses cs; trail = more t l c same live unit; spare_lits = refl; spare_clauses = refl }

-- a true literal is true by the current level
pub true-now : (t : Trail) (ls : List Lit) (l : Lit) (k : ℕ) → IsTrail t → t.level ≤ k → Contains ls l → truth_in t.entries l ≡ Some true → HasTrue t.entries ls k
true-now t ls l k trail le is_in h =
    let e = truth-has t.entries l true h in
    record { lit = l; is_in = is_in; entry = e.0; given = e.1; is_true = h; low = low e.0 e.1 }
  where
    low : (e : Entry) → entry_of t.entries l.var ≡ Some e → e.level ≤ k
    low e is = let at = place-of-entry t.entries l.var e is in
        let top : (entry_at t.entries at.0).level ≤ t.level = trail.top at.0 at.1 in
        let same_level : (entry_at t.entries at.0).level ≡ e.level = ap (λ (x : Entry). x.level) at.2 in
        omega arith

-- a literal that has just become true
pub true-implied : (t : Trail) (ls : List Lit) (l : Lit) (c k : ℕ) → t.level ≤ k → Contains ls l → entry_of t.entries l.var ≡ None → HasTrue (implied t l c).entries ls k
true-implied t ls l c k le is_in free =
    let x : Entry = record { lit = l; level = t.level; reason = Some c } in
    let given : entry_of (t.entries ++ x ∷ []) l.var ≡ Some x = entry-append_free t.entries (x ∷ []) l.var free ∙ cond-true {A = Option Entry} (l.var == l.var) (Some x) None (eq-eqb l.var l.var refl) in
    record { lit = l; is_in = is_in; entry = x; given = given; is_true = truth-entry (t.entries ++ x ∷ []) l x given ∙ ap (λ (b : Bool). Some b) (sign l.positive); low = le }
  where
    sign : (p : Bool) → (if p then p else not p) ≡ true
    sign true = refl
    sign false = refl

-- a literal of the clause that a look has found, and its clause's literals as they are lent
pub lent-in : (lent ls : List Lit) (l : Lit) → lent ≡ ls → Contains lent l → Contains ls l
lent-in lent ls l e h = subst (λ (x : List Lit). Contains x l) e h

-- the watch has moved to an open place
pub record IsRewatched (w : Watches) (node k : ℕ) (arena : Arena) (rings : RingLists) : Type 0 where
  pub arena_is : arena ≡ swapped w.arena (node / 2) (node % 2) k
  pub rings_is : rings ≡ pushed_back (unlinked w.rings (2 * (node / 2) + node % 2)) (code_of (lit_in (lits_of w.arena.clauses (node / 2)) k)) (2 * (node / 2) + node % 2)
  pub made : IsRings rings
  pub is_open : IsOpenPlace w.trail.entries (lits_of w.arena.clauses (node / 2)) k

pub rewatched-kept : (w : Watches) (node k : ℕ) (arena : Arena) (rings : RingLists) → Keeps w → IsAtWatch w node → IsRewatched w node k arena rings → IsKept arena.clauses w.trail rings w.blockers.items w.head
rewatched-kept w node k arena rings kept at r =
    let c = node / 2 in
    let ring = ringed-lit w c (lit_in (lits_of w.arena.clauses c) k) kept at.watched.live (contains-at (lits_of w.arena.clauses c) k r.is_open.1) in
    let moved : IsMovedTo w.rings rings (code_of (lit_in (lits_of w.arena.clauses c) k)) (2 * c + node % 2) = subst (λ (x : RingLists). IsMovedTo w.rings x (code_of (lit_in (lits_of w.arena.clauses c) k)) (2 * c + node % 2)) (sym r.rings_is) (moved-node w.rings (code_of (lit_in (lits_of w.arena.clauses c) k)) (2 * c + node % 2) ring.ring_high) in
    subst (λ (a : Arena). IsKept a.clauses w.trail rings w.blockers.items w.head) (sym r.arena_is) (kept-moved w.arena.clauses w.trail w.rings rings w.blockers.items w.head c (node % 2) k at.small r.is_open.0 r.is_open.1 r.is_open.2 r.made moved at.watched kept)

pub rewatched-advances : (w : Watches) (node k : ℕ) (arena : Arena) (rings : RingLists) → IsAtWatch w node → IsRewatched w node k arena rings → Advances (seen w) (record { clauses = arena.clauses; trail = w.trail; spare_lits = arena.spare_lits; spare_clauses = arena.spare_clauses })
rewatched-advances w node k arena rings at r =
    let two : 2 ≤ length (lits_of w.arena.clauses (node / 2)) = at.watched.two in
    let small : node % 2 < 2 = at.small in
    subst (λ (a : Arena). Advances (seen w) (record { clauses = a.clauses; trail = w.trail; spare_lits = a.spare_lits; spare_clauses = a.spare_clauses })) (sym r.arena_is) (advances-same w.arena.clauses (set w.arena.clauses (node / 2) (swapped_clause w.arena.clauses (node / 2) (node % 2) k)) w.trail w.arena.spare_lits w.arena.spare_clauses (same-after_swap w.arena.clauses (node / 2) (node % 2) k at.watched.live (omega arith) r.is_open.1))

-- the node has left the ring that is walked, since the literal of that ring is false
pub rewatched-left : (w : Watches) (node k : ℕ) (arena : Arena) (rings : RingLists) → Keeps w → IsAtWatch w node → IsRewatched w node k arena rings → list_of rings (head_ring w) ≡ without node (list_of w.rings (head_ring w))
rewatched-left w node k arena rings kept at r =
    let c = node / 2 in
    let l = lit_in (lits_of w.arena.clauses c) k in
    let ring = ringed-lit w c l kept at.watched.live (contains-at (lits_of w.arena.clauses c) k r.is_open.1) in
    let ne : head_ring w ≢ code_of l = λ e. r.is_open.2 (ap (λ (x : Lit). truth_in w.trail.entries x) (sym (code-same (lit_in (lits_of w.arena.clauses c) (node % 2)) l (at.is_head ∙ e))) ∙ at.is_false) in
    ap (λ (x : RingLists). list_of x (head_ring w)) r.rings_is ∙ ((moved-node w.rings (code_of l) (2 * c + node % 2) ring.ring_high).left (head_ring w) ne ∙ ap (λ (n : ℕ). without n (list_of w.rings (head_ring w))) at.node_is)

-- the level of the entry at the head is the current one
pub head-level : (w : Watches) → Keeps w → w.head < length w.trail.entries → w.trail.level ≤ (entry_at w.trail.entries w.head).level
head-level w kept lt = let e = kept.watching.late w.head (omega arith) lt in omega (arith, e)

-- an entry more leaves the entry at the head
pub head-pushed : (es : List Entry) (x : Entry) (head : ℕ) → head < length es → entry_at (es ++ x ∷ []) head ≡ entry_at es head
head-pushed es x head lt = get_or_append_left es (x ∷ []) no_entry head lt
