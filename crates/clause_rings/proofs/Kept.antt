-- What a clause store keeps, through a look at a watched clause.
use Rattle.std.proofs.Common.{◌≡◌, ◌≢◌, ℕ, ◌+◌, ◌*◌, ◌/◌, ◌%◌, ◌^◌, ◌≤◌, ◌<◌, Bool, true, false, List, length, set, take, drop, refl, ap, sym, ◌∙◌, subst, arith, inl, ⊎_elim, Some}
use Rattle.std.specs.Prelude.{if◌then◌else◌, ◌==◌, slice_index}
use Rattle.std.specs.List.{Contains, swap}
use Rattle.std.proofs.lemmas.Bool.{cases_eq, eq-eqb, ne_eqb, eqb-true}
use Rattle.std.proofs.lemmas.List.{length-set, get_or-set_same, get_or-set_other, take-append-drop}
use Rattle.std.specs.List.Sorted.{IsPermutation}
use Rattle.std.proofs.lemmas.List.Sorted.{IsPermutation-swap, Contains-permutation, length_permutation}
use Rattle.order_ints.specs.declared.literal.Lit.{Lit}
use Rattle.order_ints.specs.Place.{LitBelow}
use Rattle.order_ints.specs.Truth.{not_lit}
use Rattle.literal_trail.specs.declared.entry.Entry.{Entry}
use Rattle.literal_trail.specs.Trail.{Trail, IsTrail, entry_at, truth_in, implied}
use Rattle.literal_trail.specs.Standing.{IsUnit}
use Rattle.clause_arena.specs.Clauses.{Clause, clause_at, IsLive, lits_of, lit_in, live_clause}
use Rattle.clause_arena.specs.Codes.{code_of, lit_of}
use Rattle.index_ring.specs.Lists.{RingLists, IsRings, Stands}
use Rattle.clause_rings.specs.Clauses.{SameClauses}
use Rattle.clause_rings.specs.Watches.{IsWatched, marked, Blocks, AreBlockers, IsKept}
use Rattle.clause_rings.specs.Keeping.{Keeps, head_ring}
use Rattle.clause_rings.specs.declared.watches.Watches.{Watches}
use Rattle.clause_rings.proofs.Nodes.{IsMovedTo, stands-inside}
use Rattle.clause_rings.proofs.Db.{changed-set, live-inside, same-changed, same-swapped, db-same, db-implied}
use Rattle.clause_rings.proofs.Guards.{code-same, lit-same, made-false}
use Rattle.clause_rings.proofs.Watching.{entry-at_place, watched-by, watched-moved, watching-changed, watching-implied}

-- a literal is that of its number
pub lit-of_code : (l : Lit) → lit_of (code_of l) ≡ l
lit-of_code l = lit-same (lit_of (code_of l)) l (var l.positive) (sign l.positive)
  where
    var : (p : Bool) → (2 * l.var + (if p then 1 else 0)) / 2 ≡ l.var
    var true = omega arith
    var false = omega arith

    sign : (p : Bool) → ((2 * l.var + (if p then 1 else 0)) % 2 == 1) ≡ p
    sign true = eq-eqb ((2 * l.var + 1) % 2) 1 (omega arith)
    sign false = ne_eqb ((2 * l.var + 0) % 2) 1 (omega arith)

-- where a literal's ring is
pub record IsRinged (vars count : ℕ) (l : Lit) : Type 0 where
  pub low : 1 ≤ l.var
  pub high : l.var ≤ vars
  pub small : l.var < 2 ^ 27 + 1
  pub ring_low : 2 ≤ code_of l
  pub ring_high : code_of l < count

pub ringed : (vars count : ℕ) (l : Lit) → vars ≤ 2 ^ 27 → count ≡ 2 * vars + 2 → LitBelow (vars + 1) l → IsRinged vars count l
ringed vars count l few is below = record { low = below.0; high = omega arith; small = omega arith; ring_low = low l.positive; ring_high = high l.positive }
  where
    low : (p : Bool) → 2 ≤ 2 * l.var + (if p then 1 else 0)
    low true = let h : 1 ≤ l.var = below.0 in omega arith
    low false = let h : 1 ≤ l.var = below.0 in omega arith

    high : (p : Bool) → 2 * l.var + (if p then 1 else 0) < count
    high true = let h : l.var < vars + 1 = below.1 in omega arith
    high false = let h : l.var < vars + 1 = below.1 in omega arith

pub ringed-lit : (w : Watches) (c : ℕ) (l : Lit) → Keeps w → IsLive w.arena.clauses c → Contains (lits_of w.arena.clauses c) l → IsRinged w.trail.vars (length w.rings.lists) l
ringed-lit w c l kept live is_in = ringed w.trail.vars (length w.rings.lists) l kept.db.trail.few kept.watching.ring_count (kept.db.in_range c live l is_in)

-- the literal that the entry at the head makes false
pub head_lit : Watches → Lit
head_lit w = not_lit (entry_at w.trail.entries w.head).lit

-- what is known of a node in the ring that is walked
pub record IsAtWatch (w : Watches) (node : ℕ) : Type 0 where
  pub watched : IsWatched (clause_at w.arena.clauses (node / 2)) w.rings w.trail.entries (take w.head w.trail.entries) (node / 2)
  pub small : node % 2 < 2
  pub node_is : 2 * (node / 2) + node % 2 ≡ node
  pub node_in : node < w.rings.nodes
  pub stands : Stands w.rings (head_ring w) (2 * (node / 2) + node % 2)
  pub is_head : code_of (lit_in (lits_of w.arena.clauses (node / 2)) (node % 2)) ≡ head_ring w
  pub is_false : truth_in w.trail.entries (lit_in (lits_of w.arena.clauses (node / 2)) (node % 2)) ≡ Some false

pub at-watch : (w : Watches) (node : ℕ) → Keeps w → w.head < length w.trail.entries → Stands w.rings (head_ring w) node → IsAtWatch w node
at-watch w node kept lt stands =
    let e : Entry = entry_at w.trail.entries w.head in
    let is : 2 * (node / 2) + node % 2 ≡ node = omega arith in
    let there : Stands w.rings (head_ring w) (2 * (node / 2) + node % 2) = subst (λ (n : ℕ). Stands w.rings (head_ring w) n) (sym is) stands in
    let below = kept.db.trail.inside w.head lt in
    let ring = ringed w.trail.vars (length w.rings.lists) (not_lit e.lit) kept.db.trail.few kept.watching.ring_count below in
    let by = watched-by w.arena.clauses w.trail w.rings w.head (node / 2) (node % 2) (head_ring w) kept.watching (omega arith) ring.ring_low there in
    let same : lit_in (lits_of w.arena.clauses (node / 2)) (node % 2) ≡ not_lit e.lit = code-same (lit_in (lits_of w.arena.clauses (node / 2)) (node % 2)) (not_lit e.lit) by.1 in
    record {
      watched = by.0;
      small = omega arith;
      node_is = is;
      node_in = stands-inside w.rings (head_ring w) node kept.watching.made stands;
      stands = there;
      is_head = by.1;
      is_false = ap (λ (l : Lit). truth_in w.trail.entries l) same ∙ made-false w.trail.entries e (entry-at_place w.trail w.head kept.db.trail lt);
    }

-- a literal with its mark is a blocker of its clause
pub blocks-marked : (ls : List Lit) (l : Lit) (len : ℕ) → len ≡ length ls → l.var < 2 ^ 30 → Contains ls l → Blocks ls (marked l len)
blocks-marked ls l len e small is_in = by_test (len == 2) (eqb-true len 2)
  where
    code : (p : Bool) → 2 * l.var + (if p then 1 else 0) < 2 ^ 31
    code true = omega arith
    code false = omega arith

    low : code_of l < 2 ^ 31
    low = code l.positive

    by_test : (t : Bool) → (t ≡ true → len ≡ 2) → Blocks ls (if t then code_of l + 2 ^ 31 else code_of l)
    by_test true is = (
      subst (λ (x : Lit). Contains ls x) (sym (ap lit_of (let same : (code_of l + 2 ^ 31) % 2 ^ 31 ≡ code_of l = omega (arith, low) in same) ∙ lit-of_code l)) is_in,
      λ marked_so. sym e ∙ is refl,
    )
    by_test false is = (
      subst (λ (x : Lit). Contains ls x) (sym (ap lit_of (let same : code_of l % 2 ^ 31 ≡ code_of l = omega (arith, low) in same) ∙ lit-of_code l)) is_in,
      λ high. absurd (omega (arith, low, high)),
    )

-- one without a mark is a blocker too
pub blocks-plain : (ls : List Lit) (l : Lit) → l.var < 2 ^ 30 → Contains ls l → Blocks ls (code_of l)
blocks-plain ls l small is_in = (
  subst (λ (x : Lit). Contains ls x) (sym (ap lit_of (let same : code_of l % 2 ^ 31 ≡ code_of l = omega (arith, code l.positive) in same) ∙ lit-of_code l)) is_in,
  λ high. absurd (omega (arith, code l.positive, high)),
)
  where
    code : (p : Bool) → 2 * l.var + (if p then 1 else 0) < 2 ^ 31
    code true = omega arith
    code false = omega arith

-- a clause of the same literals in another order has the same blockers
pub blocks-permuted : (ls ms : List Lit) (blocker : ℕ) → IsPermutation ls ms → Blocks ls blocker → Blocks ms blocker
blocks-permuted ls ms blocker perm h = (Contains-permutation ls ms (lit_of (blocker % 2 ^ 31)) perm h.0, λ high. length_permutation ls ms perm ∙ h.1 high)

-- one of a clause's nodes gets another blocker
pub kept-blocked_by : (cs : List Clause) (t : Trail) (rings : RingLists) (blockers : List ℕ) (head node n : ℕ) → Blocks (lits_of cs (node / 2)) n → IsKept cs t rings blockers head → IsKept cs t rings (set blockers node n) head
kept-blocked_by cs t rings blockers head node n block h = record {
  db = h.db;
  watching = h.watching;
  blocked = blocked;
  room = omega (arith, length-set blockers node n, h.room);
}
  where
    here : (c i : ℕ) → i < 2 → 2 * c + i ≡ node → IsLive cs c → Blocks (lits_of cs c) (slice_index (set blockers node n) (2 * c + i))
    here c i small e live =
        let half : node / 2 ≡ c = omega arith in
        let there : node < length blockers = (let lt : c < length cs = live-inside cs c live in omega (arith, h.room)) in
        let got : slice_index (set blockers node n) (2 * c + i) ≡ n = ap (λ (m : ℕ). slice_index (set blockers node n) m) e ∙ get_or-set_same blockers node n 0 there in
        subst (λ (m : ℕ). Blocks (lits_of cs c) m) (sym got) (subst (λ (d : ℕ). Blocks (lits_of cs d) n) half block)

    blocked : (c i : ℕ) → i < 2 → IsLive cs c → 1 ≤ length (lits_of cs c) → Blocks (lits_of cs c) (slice_index (set blockers node n) (2 * c + i))
    blocked c i small live some = ⊎_elim (λ (e : 2 * c + i ≡ node). here c i small e live) (λ (ne : 2 * c + i ≡ node → ⊥). subst (λ (m : ℕ). Blocks (lits_of cs c) m) (sym (get_or-set_other blockers node (2 * c + i) n 0 ne)) (h.blocked c i small live some)) (cases_eq (2 * c + i) node)

pub blocked-same : (old new : List Clause) (blockers : List ℕ) → SameClauses old new → AreBlockers old blockers → AreBlockers new blockers
blocked-same old new blockers s h c i small live some = blocks-permuted (lits_of old c) (lits_of new c) (slice_index blockers (2 * c + i)) (s.each c).lits (h c i small (sym (s.each c).live ∙ live) (omega (arith, length_permutation (lits_of old c) (lits_of new c) (s.each c).lits)))

-- a literal that a clause makes true
pub kept-implied : (cs : List Clause) (t : Trail) (rings : RingLists) (blockers : List ℕ) (head c : ℕ) (l : Lit) → IsTrail (implied t l c) → IsLive cs c → IsUnit t.entries (lits_of cs c) l → IsKept cs t rings blockers head → IsKept cs (implied t l c) rings blockers head
kept-implied cs t rings blockers head c l trail live unit h = record {
  db = db-implied cs t l c trail live unit h.db;
  watching = watching-implied cs t l c rings head h.watching;
  blocked = h.blocked;
  room = h.room;
}

-- the clause with two literals in each other's place
abbrev pub swapped_clause : List Clause → ℕ → ℕ → ℕ → Clause
swapped_clause cs c p k = live_clause (clause_at cs c).id (swap (lits_of cs c) p k)

pub same-after_swap : (cs : List Clause) (c p k : ℕ) → IsLive cs c → p < length (lits_of cs c) → k < length (lits_of cs c) → SameClauses cs (set cs c (swapped_clause cs c p k))
same-after_swap cs c p k live p_in k_in = same-changed cs (set cs c (swapped_clause cs c p k)) c (swapped_clause cs c p k) (changed-set cs c (swapped_clause cs c p k) (live-inside cs c live)) (same-swapped (clause_at cs c) p k live p_in k_in)

-- a watch that has moved to a literal that isn't false
pub kept-moved : (cs : List Clause) (t : Trail) (rings moved : RingLists) (blockers : List ℕ) (head c p k : ℕ) → p < 2 → 2 ≤ k → k < length (lits_of cs c) → truth_in t.entries (lit_in (lits_of cs c) k) ≢ Some false → IsRings moved → IsMovedTo rings moved (code_of (lit_in (lits_of cs c) k)) (2 * c + p) → IsWatched (clause_at cs c) rings t.entries (take head t.entries) c → IsKept cs t rings blockers head → IsKept (set cs c (swapped_clause cs c p k)) t moved blockers head
kept-moved cs t rings moved blockers head c p k small far inside not_false made to w h =
    let new = set cs c (swapped_clause cs c p k) in
    let p_in : p < length (lits_of cs c) = omega arith in
    let s = same-after_swap cs c p k w.live p_in inside in
    record {
      db = db-same cs new t s h.db;
      watching = watching-changed cs new t rings moved head c p (swapped_clause cs c p k) (changed-set cs c (swapped_clause cs c p k) (live-inside cs c w.live)) small to.others made to.count to.nodes (inl (watched-moved (clause_at cs c) (swapped_clause cs c p k) rings moved t.entries (take head t.entries) (drop head t.entries) c p k (sym (take-append-drop head t.entries)) refl (IsPermutation-swap (lits_of cs c) (swap (lits_of cs c) p k) p k p_in inside refl) small far inside refl not_false to w)) h.watching;
      blocked = blocked-same cs new blockers s h.blocked;
      room = omega (arith, s.count, h.room);
    }

-- a node in the ring that is walked has a blocker, which is one of its clause
pub watch-blocker : (w : Watches) (node : ℕ) → Keeps w → IsAtWatch w node → (node < length w.blockers.items) × Blocks (lits_of w.arena.clauses (node / 2)) (slice_index w.blockers.items node)
watch-blocker w node kept at =
    let lt : node / 2 < length w.arena.clauses = live-inside w.arena.clauses (node / 2) at.watched.live in
    let two : 2 ≤ length (lits_of w.arena.clauses (node / 2)) = at.watched.two in
    (omega (arith, kept.room, at.node_is, at.small), subst (λ (n : ℕ). Blocks (lits_of w.arena.clauses (node / 2)) (slice_index w.blockers.items n)) at.node_is (kept.blocked (node / 2) (node % 2) at.small at.watched.live (omega arith)))
