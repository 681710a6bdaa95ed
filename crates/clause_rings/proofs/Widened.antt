-- What a clause store keeps when room is made, and at its beginning.
use Rattle.std.proofs.Common.{◌≡◌, ℕ, zero, suc, ◌+◌, ◌-◌, ◌*◌, ◌≤◌, ◌<◌, true, false, List, [], ◌∷◌, ◌++◌, length, get_or, set, take, replicate, refl, ap, sym, ◌∙◌, subst, arith, inr, ⊎_elim}
use Rattle.std.specs.Prelude.{slice_index}
use Rattle.std.specs.List.{Contains}
use Rattle.std.proofs.lemmas.Bool.{cases_eq, cases_lt}
use Rattle.std.proofs.lemmas.List.{get_or_append_left, get_or-append_right, get_or_past, length-replicate, get_or-set_same, get_or-set_other}
use Rattle.order_ints.specs.declared.literal.Lit.{Lit}
use Rattle.order_ints.specs.Place.{LitBelow, ClauseBelow, ClausesBelow}
use Rattle.literal_trail.specs.declared.entry.Entry.{Entry}
use Rattle.literal_trail.specs.Trail.{Trail, IsTrail, empty_trail, up_to}
use Rattle.literal_trail.specs.Standing.{IsUnit, IsQuiet}
use Rattle.clause_arena.specs.Clauses.{Clause, no_clause, live_clause, clause_at, IsLive, lits_of}
use Rattle.index_ring.specs.Lists.{RingLists, IsRings, times, times_in_all, no_lists}
use Rattle.index_ring.proofs.Times.{all-empty}
use Rattle.clause_rings.specs.Clauses.{IsApart}
use Rattle.clause_rings.specs.Watches.{IsAttended, Blocks, IsKept}
use Rattle.clause_rings.specs.Moves.{HasNodesMore, HasMore, IsNext}
use Rattle.clause_rings.proofs.Db.{live-inside}
use Rattle.clause_rings.proofs.Linked.{OthersOf, attended-apart}

-- more blockers
pub kept-blockers : (cs : List Clause) (t : Trail) (rings : RingLists) (blockers more : List ℕ) (head : ℕ) → HasMore blockers more → IsKept cs t rings blockers head → IsKept cs t rings more head
kept-blockers cs t rings blockers more head m h = record {
  db = h.db;
  watching = h.watching;
  blocked = λ c i small live some. (let lt : c < length cs = live-inside cs c live in subst (λ (n : ℕ). Blocks (lits_of cs c) n) (sym (m.same (2 * c + i) (omega (arith, h.room)))) (h.blocked c i small live some));
  room = omega (arith, h.room, m.count);
}

-- more nodes
pub kept-nodes : (cs : List Clause) (t : Trail) (rings more : RingLists) (blockers : List ℕ) (head : ℕ) → HasNodesMore rings more → IsRings more → IsKept cs t rings blockers head → IsKept cs t more blockers head
kept-nodes cs t rings more blockers head m made h = record {
  db = h.db;
  watching = record {
    made = made;
    ring_count = ap (length {A = List ℕ}) m.lists ∙ h.watching.ring_count;
    node_count = omega (arith, m.nodes, h.watching.node_count);
    attended = λ d. attended-apart (clause_at cs d) rings more t.entries (take head t.entries) d (suc d) (λ e. absurd (omega arith)) (all (suc d)) (h.watching.attended d);
    worked = h.watching.worked;
    late = h.watching.late;
  };
  blocked = h.blocked;
  room = h.room;
}
  where
    all : (c : ℕ) → OthersOf rings more c
    all c = record {
      stand = λ w q n k s. subst (λ (ls : List (List ℕ)). 1 ≤ times w (get_or ls q [])) (sym m.lists) s;
      free = λ w n k f. subst (λ (ls : List (List ℕ)). times_in_all w ls ≡ 0) (sym m.lists) f;
    }

-- more references, none of them in use
pub wider-at : (cs : List Clause) (more d : ℕ) → clause_at (cs ++ replicate more no_clause) d ≡ clause_at cs d
wider-at cs more d = ⊎_elim (λ (lt : d < length cs). get_or_append_left cs (replicate more no_clause) no_clause d lt) past (cases_lt d (length cs))
  where
    none : (n k : ℕ) → get_or (replicate n no_clause) k no_clause ≡ no_clause
    none zero k = refl
    none (suc n) zero = refl
    none (suc n) (suc k) = none n k

    past : length cs ≤ d → clause_at (cs ++ replicate more no_clause) d ≡ clause_at cs d
    past ge = get_or-append_right cs (replicate more no_clause) (length cs) d no_clause refl ge ∙ (none more (d - length cs) ∙ sym (get_or_past cs d no_clause ge))

pub kept-wider : (cs new : List Clause) (t : Trail) (rings : RingLists) (blockers : List ℕ) (head : ℕ) → ((d : ℕ) → clause_at new d ≡ clause_at cs d) → 2 * length new ≤ rings.nodes → 2 * length new ≤ length blockers → IsKept cs t rings blockers head → IsKept new t rings blockers head
kept-wider cs new t rings blockers head each nodes room h = record {
  db = record {
    trail = h.db.trail;
    in_range = λ c live. subst (λ (x : Clause). (l : Lit) → Contains x.lits l → LitBelow (t.vars + 1) l) (sym (each c)) (h.db.in_range c (was c live));
    apart = λ c live. subst (λ (x : Clause). IsApart x.lits) (sym (each c)) (h.db.apart c (was c live));
    reasons = λ before after e c cut reason. subst (λ (x : Clause). (x.live ≡ true) × IsUnit before x.lits e.lit) (sym (each c)) (h.db.reasons before after e c cut reason);
    below = λ k lt c live. subst (λ (x : Clause). IsQuiet (up_to k t.entries) x.lits) (sym (each c)) (h.db.below k lt c (was c live));
  };
  watching = record {
    made = h.watching.made;
    ring_count = h.watching.ring_count;
    node_count = nodes;
    attended = λ d. subst (λ (x : Clause). IsAttended x rings t.entries (take head t.entries) d) (sym (each d)) (h.watching.attended d);
    worked = h.watching.worked;
    late = h.watching.late;
  };
  blocked = λ c i small live some. subst (λ (x : Clause). Blocks x.lits (slice_index blockers (2 * c + i))) (sym (each c)) (h.blocked c i small (was c live) (subst (λ (x : Clause). 1 ≤ length x.lits) (each c) some));
  room = room;
}
  where
    was : (c : ℕ) → IsLive new c → IsLive cs c
    was c live = subst (λ (x : Clause). x.live ≡ true) (each c) live

-- no clause and no entry
pub kept-none : (vars : ℕ) → IsTrail (empty_trail vars) → IsRings (no_lists (2 * vars + 2) 0) → IsKept [] (empty_trail vars) (no_lists (2 * vars + 2) 0) [] 0
kept-none vars trail made = record {
  db = record {
    trail = trail;
    in_range = λ c live. absurd (dead c live);
    apart = λ c live. absurd (dead c live);
    reasons = λ before after e c cut reason. absurd (nothing before after e cut);
    below = λ k lt. absurd (omega arith);
  };
  watching = record {
    made = made;
    ring_count = length-replicate (2 * vars + 2) [];
    node_count = omega arith;
    attended = λ d. inr (inr (record { done = λ live. absurd (dead d live); first = all-empty (2 * d) (2 * vars + 2); second = all-empty (2 * d + 1) (2 * vars + 2) }));
    worked = omega arith;
    late = λ j ge lt. absurd (omega arith);
  };
  blocked = λ c i small live some. absurd (dead c live);
  room = omega arith;
}
  where
    dead : (c : ℕ) → IsLive [] c → ⊥
    dead c live = let no : false ≡ true = live in cc

    nothing : (before after : List Entry) (e : Entry) → [] ≡ before ++ e ∷ after → ⊥
    nothing [] after e k = cc
    nothing (x ∷ before) after e k = cc

-- the clause that has come, behind room that was made
pub next-added : (old mid new : List Clause) (c id : ℕ) (ls : List Lit) → ((d : ℕ) → clause_at mid d ≡ clause_at old d) → c < length mid → (clause_at mid c).live ≡ false → new ≡ set mid c (live_clause id ls) → IsNext old new id ls
next-added old mid new c id ls each lt dead is = record {
  reference = c;
  dead = ap (λ (x : Clause). x.live) (sym (each c)) ∙ dead;
  here = ap (λ (cs : List Clause). clause_at cs c) is ∙ get_or-set_same mid c (live_clause id ls) no_clause lt;
  others = λ d ne. ap (λ (cs : List Clause). clause_at cs d) is ∙ (get_or-set_other mid c d (live_clause id ls) no_clause ne ∙ each d);
}

-- the first clauses of a list are there, each once, and no others
pub record HoldsFirst (clauses : List (List Lit)) (n : ℕ) (cs : List Clause) : Type 0 where
  pub stored : (k : ℕ) → k < n → (c : ℕ) × (clause_at cs c ≡ live_clause (k + 1) (get_or clauses k []))
  pub alone : (c : ℕ) → IsLive cs c → (k : ℕ) × (k < n) × (clause_at cs c ≡ live_clause (k + 1) (get_or clauses k []))
  pub once : (c d : ℕ) → IsLive cs c → IsLive cs d → (clause_at cs c).id ≡ (clause_at cs d).id → c ≡ d

pub holds-none : (clauses : List (List Lit)) (cs : List Clause) → ((d : ℕ) → clause_at cs d ≡ no_clause) → HoldsFirst clauses 0 cs
holds-none clauses cs each = record {
  stored = λ k lt. absurd (omega arith);
  alone = λ c live. absurd (dead c live);
  once = λ c d live there same. absurd (dead c live);
}
  where
    dead : (c : ℕ) → IsLive cs c → ⊥
    dead c live = let no : false ≡ true = ap (λ (x : Clause). x.live) (sym (each c)) ∙ live in cc

pub holds-next : (clauses : List (List Lit)) (n : ℕ) (old new : List Clause) (ls : List Lit) → ls ≡ get_or clauses n [] → HoldsFirst clauses n old → IsNext old new (n + 1) ls → HoldsFirst clauses (n + 1) new
holds-next clauses n old new ls is h next = record { stored = stored; alone = alone; once = once }
  where
    here : clause_at new next.reference ≡ live_clause (n + 1) (get_or clauses n [])
    here = next.here ∙ ap (live_clause (n + 1)) is

    stored : (k : ℕ) → k < n + 1 → (c : ℕ) × (clause_at new c ≡ live_clause (k + 1) (get_or clauses k []))
    stored k lt = ⊎_elim (λ (small : k < n). before k (h.stored k small)) (λ (ge : n ≤ k). (let e : n ≡ k = omega arith in (next.reference, here ∙ ap (λ (m : ℕ). live_clause (m + 1) (get_or clauses m [])) e))) (cases_lt k n)
      where
        before : (m : ℕ) → (c : ℕ) × (clause_at old c ≡ live_clause (m + 1) (get_or clauses m [])) → (c : ℕ) × (clause_at new c ≡ live_clause (m + 1) (get_or clauses m []))
        before m (c, at) = (c, next.others c (λ e. (let no : false ≡ true = sym next.dead ∙ (ap (λ (d : ℕ). (clause_at old d).live) (sym e) ∙ ap (λ (x : Clause). x.live) at) in cc)) ∙ at)

    alone : (c : ℕ) → IsLive new c → (k : ℕ) × (k < n + 1) × (clause_at new c ≡ live_clause (k + 1) (get_or clauses k []))
    alone c live = ⊎_elim (λ (e : c ≡ next.reference). (n, omega arith, ap (clause_at new) e ∙ here)) there (cases_eq c next.reference)
      where
        there : (c ≡ next.reference → ⊥) → (k : ℕ) × (k < n + 1) × (clause_at new c ≡ live_clause (k + 1) (get_or clauses k []))
        there ne = let r = h.alone c (subst (λ (x : Clause). x.live ≡ true) (next.others c ne) live) in (r.0, omega (arith, r.1), next.others c ne ∙ r.2)

    was : (c : ℕ) → (c ≡ next.reference → ⊥) → IsLive new c → IsLive old c
    was c ne live = subst (λ (x : Clause). x.live ≡ true) (next.others c ne) live

    id-there : (c : ℕ) → (c ≡ next.reference → ⊥) → (clause_at new c).id ≡ (clause_at old c).id
    id-there c ne = ap (λ (x : Clause). x.id) (next.others c ne)

    id-here : (c : ℕ) → c ≡ next.reference → (clause_at new c).id ≡ n + 1
    id-here c e = ap (λ (m : ℕ). (clause_at new m).id) e ∙ ap (λ (x : Clause). x.id) here

    low-there : (c : ℕ) → (c ≡ next.reference → ⊥) → IsLive new c → (clause_at new c).id < n + 1
    low-there c ne live = let r = h.alone c (was c ne live) in omega (arith, id-there c ne, ap (λ (x : Clause). x.id) r.2, r.1)

    once : (c d : ℕ) → IsLive new c → IsLive new d → (clause_at new c).id ≡ (clause_at new d).id → c ≡ d
    once c d live there same =
        ⊎_elim
        (λ (first : c ≡ next.reference).
        ⊎_elim
        (λ (second : d ≡ next.reference). first ∙ sym second)
        (λ (ne : d ≡ next.reference → ⊥). absurd (omega (arith, id-here c first, low-there d ne there, same)))
        (cases_eq d next.reference))
        (λ (ne : c ≡ next.reference → ⊥).
        ⊎_elim
        (λ (second : d ≡ next.reference). absurd (omega (arith, id-here d second, low-there c ne live, same)))
        (λ (other : d ≡ next.reference → ⊥). h.once c d (was c ne live) (was d other there) (sym (id-there c ne) ∙ same ∙ id-there d other))
        (cases_eq d next.reference))
        (cases_eq c next.reference)

-- the literals of a clause of the list are in range
pub clause-below : (n : ℕ) (ls : List Lit) → ClauseBelow n ls → (l : Lit) → Contains ls l → LitBelow n l
clause-below n ls h l (k, lt, e) = subst (LitBelow n) e (at ls k h lt)
  where
    at : (ms : List Lit) (j : ℕ) → ClauseBelow n ms → j < length ms → LitBelow n (get_or ms j l)
    at [] j b inside = absurd (omega arith)
    at (x ∷ ms) zero b inside = b.0
    at (x ∷ ms) (suc j) b inside = at ms j b.1 (omega arith)

pub clauses-below : (n : ℕ) (clauses : List (List Lit)) (k : ℕ) → ClausesBelow n clauses → k < length clauses → ClauseBelow n (get_or clauses k [])
clauses-below n [] k h lt = absurd (omega arith)
clauses-below n (c ∷ clauses) zero h lt = h.0
clauses-below n (c ∷ clauses) (suc k) h lt = clauses-below n clauses k h.1 (omega arith)
