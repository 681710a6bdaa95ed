-- A walk through a ring: the nodes that stay behind, and those that are still to come.
use Rattle.std.proofs.Common.{◌≡◌, ◌≢◌, ℕ, ◌+◌, ◌*◌, ◌/◌, ◌≤◌, ◌<◌, List, [], ◌∷◌, ◌++◌, length, refl, ap, sym, ◌∙◌, subst, arith, ⊎_elim, Option, Some, None}
use Rattle.std.specs.Prelude.{◌==◌, IfSome}
use Rattle.std.proofs.lemmas.Bool.{cases_eq, cond-true, cond-false, eq-eqb, ne_eqb}
use Rattle.std.proofs.lemmas.List.{append_assoc, append-nil, append_cancel_left, length-append, get_or_append_left}
use Rattle.order_ints.specs.Truth.{not_lit}
use Rattle.literal_trail.specs.declared.entry.Entry.{Entry}
use Rattle.literal_trail.specs.Trail.{Trail, entry_at, no_entry}
use Rattle.literal_trail.specs.Standing.{HasTrue}
use Rattle.clause_arena.specs.Clauses.{Clause, lits_of}
use Rattle.clause_arena.specs.Codes.{code_of}
use Rattle.index_ring.specs.Lists.{RingLists, IsRings, Stands, list_of, times, without, first_in, after_in}
use Rattle.index_ring.proofs.Times.{times-same, times-other, times-append, all-get, without-cut, times-grows}
use Rattle.index_ring.proofs.Seen.{after_in-cut}
use Rattle.clause_rings.specs.Clauses.{Follows}
use Rattle.clause_rings.specs.Clauses.Follows.{same, more}
use Rattle.clause_rings.specs.Keeping.{Keeps, seen, Advances, head_ring, IsMet, AreMet, IsBlocker, IsVisited}
use Rattle.index_ring.specs.Lists.{rest_from}
use Rattle.clause_rings.specs.declared.watches.Watches.{Watches}
use Rattle.clause_rings.proofs.Literals.{true-append, true-permuted}
use Rattle.clause_rings.proofs.Kept.{blocks-permuted}
use Rattle.clause_rings.proofs.Looked.{advances-none, advances-both}

-- what propagation leaves of a trail: its entries in front, its level, its variables
pub record IsLonger (t u : Trail) : Type 0 where
  pub rest : List Entry
  pub entries : u.entries ≡ t.entries ++ rest
  pub level : u.level ≡ t.level
  pub vars : u.vars ≡ t.vars

pub follows-longer : (cs : List Clause) (t u : Trail) → Follows cs t u → IsLonger t u
follows-longer cs t u same = record { rest = []; entries = sym (append-nil t.entries); level = refl; vars = refl }
follows-longer cs t u (more v l c f live unit) =
    let h = follows-longer cs t v f in
    let x : Entry = record { lit = l; level = v.level; reason = Some c } in
    record { rest = h.rest ++ x ∷ []; entries = ap (λ (es : List Entry). es ++ x ∷ []) h.entries ∙ append_assoc t.entries h.rest (x ∷ []); level = h.level; vars = h.vars }

-- the entry at a place stays
pub longer-entry : (t u : Trail) (j : ℕ) → IsLonger t u → j < length t.entries → entry_at u.entries j ≡ entry_at t.entries j
longer-entry t u j h lt = ap (λ (es : List Entry). entry_at es j) h.entries ∙ get_or_append_left t.entries h.rest no_entry j lt

pub longer-length : (t u : Trail) → IsLonger t u → length t.entries ≤ length u.entries
longer-length t u h = omega (arith, ap length h.entries, length-append t.entries h.rest)

-- a clause that has a true literal has it still
pub met-advances : (a b : Watches) (c : ℕ) → Advances (seen a) (seen b) → b.head ≡ a.head → a.head < length a.trail.entries → IsMet a c → IsMet b c
met-advances a b c f head lt h =
    let t = follows-longer b.arena.clauses a.trail b.trail f.trail in
    let there : HasTrue (a.trail.entries ++ t.rest) (lits_of a.arena.clauses c) (entry_at a.trail.entries a.head).level = true-append a.trail.entries t.rest (lits_of a.arena.clauses c) (entry_at a.trail.entries a.head).level h in
    let longer : HasTrue b.trail.entries (lits_of a.arena.clauses c) (entry_at a.trail.entries a.head).level = subst (λ (es : List Entry). HasTrue es (lits_of a.arena.clauses c) (entry_at a.trail.entries a.head).level) (sym t.entries) there in
    let permuted : HasTrue b.trail.entries (lits_of b.arena.clauses c) (entry_at a.trail.entries a.head).level = true-permuted b.trail.entries (lits_of a.arena.clauses c) (lits_of b.arena.clauses c) (entry_at a.trail.entries a.head).level (f.clauses.each c).lits longer in
    let entry : entry_at a.trail.entries a.head ≡ entry_at b.trail.entries b.head = sym (ap (entry_at b.trail.entries) head ∙ longer-entry a.trail b.trail a.head t lt) in
    subst (λ (e : Entry). HasTrue b.trail.entries (lits_of b.arena.clauses c) e.level) entry permuted

-- the ring that is walked stays the same one
pub ring-advances : (a b : Watches) → Advances (seen a) (seen b) → b.head ≡ a.head → a.head < length a.trail.entries → head_ring b ≡ head_ring a
ring-advances a b f head lt = ap (λ (e : Entry). code_of (not_lit e.lit)) (ap (entry_at b.trail.entries) head ∙ longer-entry a.trail b.trail a.head (follows-longer b.arena.clauses a.trail b.trail f.trail) lt)

-- a list from its first node on that is to come
pub from-first : (front rest : List ℕ) (at : Option ℕ) → at ≡ first_in rest → ((v : ℕ) → times v (front ++ rest) ≤ 1) → rest_from at (front ++ rest) ≡ rest
from-first [] [] at e once = ap (λ (o : Option ℕ). rest_from o []) e
from-first [] (v ∷ rest) at e once = ap (λ (o : Option ℕ). rest_from o (v ∷ rest)) e ∙ cond-true {A = List ℕ} (v == v) (v ∷ rest) (rest_from (Some v) rest) (eq-eqb v v refl)
from-first (w ∷ front) [] at e once = ap (λ (o : Option ℕ). rest_from o ((w ∷ front) ++ [])) e
from-first (w ∷ front) (v ∷ rest) at e once =
    let ne : w ≢ v = λ s. absurd (omega (arith, once v, times-same v w (front ++ v ∷ rest) s, times-append v front (v ∷ rest), times-same v v rest refl)) in
    ap (λ (o : Option ℕ). rest_from o ((w ∷ front) ++ v ∷ rest)) e ∙ (cond-false {A = List ℕ} (w == v) (w ∷ (front ++ v ∷ rest)) (rest_from (Some v) (front ++ v ∷ rest)) (ne_eqb w v ne) ∙ from-first front (v ∷ rest) (Some v) refl (λ u. omega (arith, once u, times-grows u w (front ++ v ∷ rest))))

-- the nodes that have been looked at and stay, and those to come
pub record IsSplit (list : List ℕ) (at : Option ℕ) : Type 0 where
  pub front : List ℕ
  pub rest : List ℕ
  pub list_is : list ≡ front ++ rest
  pub at_is : at ≡ first_in rest

-- a walk through the ring of the entry at the head, on the way
pub record IsWalked (a w : Watches) (ring : ℕ) (at : Option ℕ) (blocker : ℕ) : Type 0 where
  pub kept : Keeps w
  pub advances : Advances (seen a) (seen w)
  pub head : w.head ≡ a.head
  pub in_trail : w.head < length w.trail.entries
  pub ring_is : head_ring w ≡ ring
  pub split : IsSplit (list_of w.rings ring) at
  pub met : (n : ℕ) → 1 ≤ times n split.front → IsMet w (n / 2)
  pub blocked : IsBlocker w at blocker

pub list-once : (rings : RingLists) (r v : ℕ) → IsRings rings → times v (list_of rings r) ≤ 1
list-once rings r v made = omega (arith, all-get v rings.lists r, made.once v)

-- what is left of the walk
pub left-is : (rings : RingLists) (r : ℕ) (at : Option ℕ) → IsRings rings → (s : IsSplit (list_of rings r) at) → rest_from at (list_of rings r) ≡ s.rest
left-is rings r at made s = ap (rest_from at) s.list_is ∙ from-first s.front s.rest at s.at_is (λ v. subst (λ (l : List ℕ). times v l ≤ 1) s.list_is (list-once rings r v made))

pub walked-start : (a : Watches) (ring : ℕ) (at : Option ℕ) (blocker : ℕ) → Keeps a → a.head < length a.trail.entries → head_ring a ≡ ring → at ≡ first_in (list_of a.rings ring) → IsBlocker a at blocker → IsWalked a a ring at blocker
walked-start a ring at blocker kept lt is first blocked = record {
  kept = kept;
  advances = advances-none (seen a);
  head = refl;
  in_trail = lt;
  ring_is = is;
  split = record { front = []; rest = list_of a.rings ring; list_is = refl; at_is = first };
  met = λ n h. absurd (omega arith);
  blocked = blocked;
}

-- the node at which a walk stands, and what is behind it
pub record IsAtNode (w : Watches) (ring : ℕ) (front : List ℕ) (node : ℕ) : Type 0 where
  pub back : List ℕ
  pub list_is : list_of w.rings ring ≡ front ++ node ∷ back
  pub front_clear : times node front ≡ 0
  pub back_clear : times node back ≡ 0
  pub stands : Stands w.rings ring node
  pub follows : after_in node (list_of w.rings ring) ≡ first_in back

pub first-some : (rest : List ℕ) (node : ℕ) → Some node ≡ first_in rest → (back : List ℕ) × (rest ≡ node ∷ back)
first-some [] node e = absurd (let no : Some node ≡ None = e in cc)
first-some (v ∷ rest) node e = (rest, let is : v ≡ node = cc in ap (λ (x : ℕ). x ∷ rest) is)

pub at-node : (a w : Watches) (ring : ℕ) (at : Option ℕ) (blocker node : ℕ) → (h : IsWalked a w ring at blocker) → at ≡ Some node → IsAtNode w ring h.split.front node
at-node a w ring at blocker node h is =
    let b = first-some h.split.rest node (sym is ∙ h.split.at_is) in
    let list : list_of w.rings ring ≡ h.split.front ++ node ∷ b.0 = h.split.list_is ∙ ap (λ (l : List ℕ). h.split.front ++ l) b.1 in
    let once : times node (list_of w.rings ring) ≤ 1 = list-once w.rings ring node h.kept.watching.made in
    let count : times node (list_of w.rings ring) ≡ times node h.split.front + times node (node ∷ b.0) = ap (times node) list ∙ times-append node h.split.front (node ∷ b.0) in
    let here : times node (node ∷ b.0) ≡ 1 + times node b.0 = times-same node node b.0 refl in
    let clear : times node h.split.front ≡ 0 = omega arith in
    record {
      back = b.0;
      list_is = list;
      front_clear = clear;
      back_clear = omega arith;
      stands = omega arith;
      follows = ap (after_in node) list ∙ after_in-cut node h.split.front b.0 clear;
    }

-- the node behind, if there is one, stands in the ring too
pub next-stands : (list front back : List ℕ) (node v : ℕ) → list ≡ front ++ node ∷ back → first_in back ≡ Some v → 1 ≤ times v list
next-stands list front back node v e first =
    let b = first-some back v (sym first) in
    omega (arith, ap (times v) e, times-append v front (node ∷ back), times-grows v node back, ap (times v) b.1, times-same v v b.0 refl)

pub if-some : (o : Option ℕ) (P : ℕ → Type 0) → ((v : ℕ) → o ≡ Some v → P v) → IfSome o P
if-some None P h = tt
if-some (Some v) P h = h v refl

-- one node on
pub walked-next : (a w n : Watches) (ring : ℕ) (at next : Option ℕ) (blocker ahead node : ℕ) → (h : IsWalked a w ring at blocker) → at ≡ Some node → next ≡ after_in node (list_of w.rings ring) → IsBlocker w next ahead → Keeps n → Advances (seen w) (seen n) → n.head ≡ w.head → IsVisited w n node → IsWalked a n ring next ahead × (length (rest_from next (list_of n.rings ring)) < length (rest_from at (list_of w.rings ring)))
walked-next a w n ring at next blocker ahead node h is next_is blocked kept adv head visited = ⊎_elim stays leaves visited
  where
    there : IsAtNode w ring h.split.front node
    there = at-node a w ring at blocker node h is

    was_left : length (rest_from at (list_of w.rings ring)) ≡ length h.split.rest
    was_left = ap length (left-is w.rings ring at h.kept.watching.made h.split)

    rest_is : h.split.rest ≡ node ∷ there.back
    rest_is = append_cancel_left h.split.front h.split.rest (node ∷ there.back) (sym h.split.list_is ∙ there.list_is)

    still_blocked : IsBlocker n next ahead
    still_blocked v e = blocks-permuted (lits_of w.arena.clauses (v / 2)) (lits_of n.arena.clauses (v / 2)) ahead (adv.clauses.each (v / 2)).lits (blocked v e)

    longer : IsLonger w.trail n.trail
    longer = follows-longer n.arena.clauses w.trail n.trail adv.trail

    in_trail : n.head < length n.trail.entries
    in_trail = omega (arith, h.in_trail, head, longer-length w.trail n.trail longer)

    ring_is : head_ring n ≡ ring
    ring_is = ring-advances w n adv head h.in_trail ∙ h.ring_is

    still_met : (m : ℕ) → 1 ≤ times m h.split.front → IsMet n (m / 2)
    still_met m k = met-advances w n (m / 2) adv head h.in_trail (h.met m k)

    on : (s : IsSplit (list_of n.rings ring) next) → ((m : ℕ) → 1 ≤ times m s.front → IsMet n (m / 2)) → length s.rest + 1 ≡ length h.split.rest → IsWalked a n ring next ahead × (length (rest_from next (list_of n.rings ring)) < length (rest_from at (list_of w.rings ring)))
    on s met less = (
      record {
        kept = kept;
        advances = advances-both (seen a) (seen w) (seen n) h.advances adv;
        head = head ∙ h.head;
        in_trail = in_trail;
        ring_is = ring_is;
        split = s;
        met = met;
        blocked = still_blocked;
      },
      omega (arith, was_left, less, ap length (left-is n.rings ring next kept.watching.made s)),
    )

    met_here : IsMet n (node / 2) → (m : ℕ) → 1 ≤ times m (h.split.front ++ node ∷ []) → IsMet n (m / 2)
    met_here now m k = ⊎_elim (λ (e : node ≡ m). subst (λ (x : ℕ). IsMet n (x / 2)) e now) (λ (ne : node ≡ m → ⊥). still_met m (omega (arith, times-append m h.split.front (node ∷ []), times-other m node [] ne))) (cases_eq node m)

    stays : (list_of n.rings (head_ring w) ≡ list_of w.rings (head_ring w)) × IsMet n (node / 2) → IsWalked a n ring next ahead × (length (rest_from next (list_of n.rings ring)) < length (rest_from at (list_of w.rings ring)))
    stays (same_list, now) =
        let list : list_of n.rings ring ≡ list_of w.rings ring = subst (λ (r : ℕ). list_of n.rings r ≡ list_of w.rings r) h.ring_is same_list in
        on (record { front = h.split.front ++ node ∷ []; rest = there.back; list_is = list ∙ (there.list_is ∙ sym (append_assoc h.split.front (node ∷ []) there.back)); at_is = next_is ∙ there.follows }) (met_here now) (omega (arith, ap length rest_is))

    leaves : list_of n.rings (head_ring w) ≡ without node (list_of w.rings (head_ring w)) → IsWalked a n ring next ahead × (length (rest_from next (list_of n.rings ring)) < length (rest_from at (list_of w.rings ring)))
    leaves gone =
        let list : list_of n.rings ring ≡ without node (list_of w.rings ring) = subst (λ (r : ℕ). list_of n.rings r ≡ without node (list_of w.rings r)) h.ring_is gone in
        on (record { front = h.split.front; rest = there.back; list_is = list ∙ (ap (without node) there.list_is ∙ without-cut node h.split.front there.back there.front_clear there.back_clear); at_is = next_is ∙ there.follows }) still_met (omega (arith, ap length rest_is))

-- behind the last node each clause of the ring has a true literal
pub walked-end : (a w : Watches) (ring : ℕ) (at : Option ℕ) (blocker : ℕ) → IsWalked a w ring at blocker → at ≡ None → AreMet w
walked-end a w ring at blocker h is c i small stands =
    let none : h.split.rest ≡ [] = nothing h.split.rest (sym is ∙ h.split.at_is) in
    let list : list_of w.rings ring ≡ h.split.front = h.split.list_is ∙ (ap (λ (l : List ℕ). h.split.front ++ l) none ∙ append-nil h.split.front) in
    let there : 1 ≤ times (2 * c + i) (list_of w.rings ring) = subst (λ (r : ℕ). 1 ≤ times (2 * c + i) (list_of w.rings r)) h.ring_is stands in
    let half : (2 * c + i) / 2 ≡ c = omega arith in
    subst (λ (d : ℕ). IsMet w d) half (h.met (2 * c + i) (omega (arith, there, ap (times (2 * c + i)) list)))
  where
    nothing : (rest : List ℕ) → None ≡ first_in rest → rest ≡ []
    nothing [] e = refl
    nothing (v ∷ rest) e = absurd (let no : None ≡ Some v = e in cc)
