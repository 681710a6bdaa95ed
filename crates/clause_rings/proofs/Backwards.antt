-- What a clause store keeps when the trail is cut back, and when a level begins.
use Rattle.std.proofs.Common.{◌≡◌, ℕ, zero, suc, ◌+◌, ◌≤◌, ◌<◌, min, Bool, true, false, List, [], ◌∷◌, ◌++◌, length, take, drop, refl, ap, sym, ◌∙◌, subst, arith, ⊎_elim, Some, None}
use Rattle.std.specs.Prelude.{if◌then◌else◌, nat_le}
use Rattle.std.proofs.lemmas.Bool.{cases_lt, leb-true}
use Rattle.std.proofs.lemmas.List.{append_assoc, append-nil, take-append-drop, take-append-le, take_all, length-append, get_or_append_left}
use Rattle.order_ints.specs.declared.literal.Lit.{Lit}
use Rattle.literal_trail.specs.declared.entry.Entry.{Entry}
use Rattle.literal_trail.specs.Trail.{Trail, IsTrail, entry_at, no_entry, entry_of, up_to, chosen, cut_back}
use Rattle.clause_arena.specs.Clauses.{Clause, clause_at}
use Rattle.index_ring.specs.Lists.{RingLists}
use Rattle.clause_rings.specs.Clauses.{IsComplete, HaveReasons, IsDb}
use Rattle.clause_rings.specs.Watches.{IsWatching, IsKept}
use Rattle.clause_rings.proofs.Entries.{entry-append, up-front, up-entry, up-push, up-whole, up-up}
use Rattle.clause_rings.proofs.Db.{reasons-pushed}
use Rattle.clause_rings.proofs.Guards.{IsFrontUpTo, attended-cut}
use Rattle.clause_rings.proofs.Watching.{watching-chosen}

-- an entry of the prefix is of a level up to k
pub up-level : (k : ℕ) (es : List Entry) (j : ℕ) → j < length (up_to k es) → (entry_at (up_to k es) j).level ≤ k
up-level k [] j lt = absurd (omega arith)
up-level k (e ∷ es) j lt = test (up-level k es) (nat_le e.level k) refl j lt
  where
    test : ((i : ℕ) → i < length (up_to k es) → (entry_at (up_to k es) i).level ≤ k) → (b : Bool) → nat_le e.level k ≡ b → (i : ℕ) → i < length (if b then e ∷ up_to k es else []) → (entry_at (if b then e ∷ up_to k es else []) i).level ≤ k
    test rest true is zero inside = leb-true e.level k is
    test rest true is (suc i) inside = rest i (omega arith)
    test rest false is i inside = absurd (omega arith)

-- a front of a list that is longer than the first of two begins with it
pub take-past : (n : ℕ) (xs ys : List Entry) → length xs ≤ n → (more : List Entry) × (take n (xs ++ ys) ≡ xs ++ more)
take-past n [] ys le = (take n ys, refl)
take-past zero (x ∷ xs) ys le = absurd (omega arith)
take-past (suc n) (x ∷ xs) ys le = let r = take-past n xs ys (omega arith) in (r.0, ap (λ (l : List Entry). x ∷ l) r.1)

-- what is worked off of the prefix is a front of what was worked off
pub worked-front : (k head : ℕ) (es : List Entry) → (more : List Entry) × (take head es ≡ take (min head (length (up_to k es))) (up_to k es) ++ more)
worked-front k head es = ⊎_elim short long (cases_lt (length (up_to k es)) head)
  where
    long : head ≤ length (up_to k es) → (more : List Entry) × (take head es ≡ take (min head (length (up_to k es))) (up_to k es) ++ more)
    long le =
        let r = up-front k es in
        let n : min head (length (up_to k es)) ≡ head = omega arith in
        ([], ap (take head) r.1 ∙ (take-append-le head (up_to k es) r.0 le ∙ (ap (λ (m : ℕ). take m (up_to k es)) (sym n) ∙ sym (append-nil (take (min head (length (up_to k es))) (up_to k es))))))

    short : length (up_to k es) < head → (more : List Entry) × (take head es ≡ take (min head (length (up_to k es))) (up_to k es) ++ more)
    short lt =
        let r = up-front k es in
        let p = take-past head (up_to k es) r.0 (omega arith) in
        (p.0, ap (take head) r.1 ∙ (p.1 ∙ ap (λ (l : List Entry). l ++ p.0) (sym (take_all (min head (length (up_to k es))) (up_to k es) (omega arith)))))

pub front-up_to : (k head : ℕ) (es : List Entry) → IsFrontUpTo k (take head es) (take (min head (length (up_to k es))) (up_to k es))
front-up_to k head es v s is =
    let less = take (min head (length (up_to k es))) (up_to k es) in
    let m = worked-front k head es in
    let whole : entry_of (up_to k es) v ≡ Some s = ap (λ (l : List Entry). entry_of l v) (sym (take-append-drop (min head (length (up_to k es))) (up_to k es))) ∙ entry-append less (drop (min head (length (up_to k es))) (up_to k es)) v s is in
    (ap (λ (l : List Entry). entry_of l v) m.1 ∙ entry-append less m.0 v s is, (up-entry k es v s whole).1)

pub reasons-front : (cs : List Clause) (es front rest : List Entry) → es ≡ front ++ rest → HaveReasons cs es → HaveReasons cs front
reasons-front cs es front rest cut h before after e c is reason = h before (after ++ rest) e c (cut ∙ (ap (λ (l : List Entry). l ++ rest) is ∙ append_assoc before (e ∷ after) rest)) reason

pub db-cut : (cs : List Clause) (t : Trail) (k : ℕ) → k ≤ t.level → IsTrail (cut_back t k) → IsDb cs t → IsDb cs (cut_back t k)
db-cut cs t k le trail h = record {
  trail = trail;
  in_range = h.in_range;
  apart = h.apart;
  reasons = (let r = up-front k t.entries in reasons-front cs t.entries (up_to k t.entries) r.0 r.1 h.reasons);
  below = λ j lt. subst (λ (es : List Entry). IsComplete es cs) (sym (up-up j k t.entries (omega arith))) (h.below j (omega arith));
}

-- no entry of a prefix below the current level waits to be worked off
pub late-cut : (cs : List Clause) (t : Trail) (rings : RingLists) (head k : ℕ) → k ≤ t.level → IsTrail t → IsWatching cs t rings head → (j : ℕ) → min head (length (up_to k t.entries)) ≤ j → j < length (up_to k t.entries) → (entry_at (up_to k t.entries) j).level ≡ k
late-cut cs t rings head k le trail h j ge lt =
    let r = up-front k t.entries in
    let long : j < length t.entries = omega (arith, ap (length {A = Entry}) r.1, length-append (up_to k t.entries) r.0) in
    let same : entry_at t.entries j ≡ entry_at (up_to k t.entries) j = ap (λ (es : List Entry). entry_at es j) r.1 ∙ get_or_append_left (up_to k t.entries) r.0 no_entry j lt in
    let low : (entry_at (up_to k t.entries) j).level ≤ k = up-level k t.entries j lt in
    let top : (entry_at t.entries j).level ≡ t.level = h.late j (omega arith) long in
    omega (arith, ap (λ (e : Entry). e.level) same)

pub kept-cut : (cs : List Clause) (t : Trail) (rings : RingLists) (blockers : List ℕ) (head k n : ℕ) → k ≤ t.level → IsTrail (cut_back t k) → n ≡ min head (length (up_to k t.entries)) → IsKept cs t rings blockers head → IsKept cs (cut_back t k) rings blockers n
kept-cut cs t rings blockers head k n le trail is h = subst (λ (m : ℕ). IsKept cs (cut_back t k) rings blockers m) (sym is) (record {
  db = db-cut cs t k le trail h.db;
  watching = record {
    made = h.watching.made;
    ring_count = h.watching.ring_count;
    node_count = h.watching.node_count;
    attended = λ d. attended-cut (clause_at cs d) rings t.entries (take head t.entries) (take (min head (length (up_to k t.entries))) (up_to k t.entries)) d k h.db.trail.rising (front-up_to k head t.entries) (h.watching.attended d);
    worked = omega arith;
    late = late-cut cs t rings head k le h.db.trail h.watching;
  };
  blocked = h.blocked;
  room = h.room;
})

-- a level begins where no clause is false or unit
pub db-chosen : (cs : List Clause) (t : Trail) (l : Lit) → IsTrail (chosen t l) → IsComplete t.entries cs → IsDb cs t → IsDb cs (chosen t l)
db-chosen cs t l trail complete h = record {
  trail = trail;
  in_range = h.in_range;
  apart = h.apart;
  reasons = reasons-pushed cs t.entries (record { lit = l; level = t.level + 1; reason = None }) h.reasons (λ c is. absurd (let no : None ≡ Some c = is in cc));
  below = below;
}
  where
    x : Entry
    x = record { lit = l; level = t.level + 1; reason = None }

    below : (k : ℕ) → k < t.level + 1 → IsComplete (up_to k (t.entries ++ x ∷ [])) cs
    below k lt = subst (λ (es : List Entry). IsComplete es cs) (sym (up-push k t.entries x lt)) (⊎_elim (h.below k) (λ (ge : t.level ≤ k). subst (λ (es : List Entry). IsComplete es cs) (sym (up-whole k t.entries (λ j in_trail. let top : (entry_at t.entries j).level ≤ t.level = h.trail.top j in_trail in omega arith))) complete) (cases_lt k t.level))

pub kept-chosen : (cs : List Clause) (t : Trail) (l : Lit) (rings : RingLists) (blockers : List ℕ) (head : ℕ) → head ≡ length t.entries → IsTrail (chosen t l) → IsComplete t.entries cs → IsKept cs t rings blockers head → IsKept cs (chosen t l) rings blockers head
kept-chosen cs t l rings blockers head all trail complete h = record {
  db = db-chosen cs t l trail complete h.db;
  watching = watching-chosen cs t l rings head all h.watching;
  blocked = h.blocked;
  room = h.room;
}
