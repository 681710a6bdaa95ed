-- The clauses that an arena stands for, read and changed.
use Rattle.std.proofs.Common.{Bool, ◌≡◌, ℕ, ◌+◌, ◌-◌, ◌<◌, ◌≤◌, true, false, cond, eqb, List, ◌++◌, length, map, set, get_or, replicate, ap, sym, ◌∙◌, subst, arith, ⊎_elim, length-append}
use Rattle.std.specs.List.{range_with_len}
use Rattle.std.proofs.lemmas.Bool.{cases_eq, cases_lt, eq-eqb, ne_eqb, cond-true, cond-false}
use Rattle.std.proofs.lemmas.List.{ext_get_or, get_or-set_same, get_or-set_other, length-set, get_or_append_left, get_or-append_right, get_or-replicate, length-replicate, get_or_past, length-map, get_or-map}
use Rattle.std.proofs.lemmas.List.FromFn.{length-map-range_with_len, get_or-map-range_with_len}
use Rattle.index_ring.specs.Lists.{RingLists, list_of, times}
use Rattle.order_ints.specs.declared.literal.Lit.{Lit}
use Rattle.clause_arena.specs.declared.codes.Span.{Span}
use Rattle.clause_arena.specs.Clauses.{Clause, Arena, IsArena, IsLive, no_clause, no_lit, live_clause, clause_at, lits_of, lit_in}
use Rattle.clause_arena.specs.Codes.{lit_of, span_of, lits_at}
use Rattle.clause_arena.specs.Layout.{clause_of, arena_of, IsKept, AreMarked}
use Rattle.clause_arena.proofs.Laid.{end_of, laid-within}
use Rattle.clause_arena.proofs.Parts.{part, length-part, get_or-part}
use Rattle.clause_arena.proofs.Lists.{node-there, length-ring}

-- clauses by a function of their references
abbrev pub listed : (ℕ → Clause) → ℕ → List Clause
listed f n = map f (range_with_len 0 n)

pub length-listed : (f : ℕ → Clause) (n : ℕ) → length (listed f n) ≡ n
length-listed f n = length-map-range_with_len f 0 n

pub clause_at-listed : (f : ℕ → Clause) (n c : ℕ) → c < n → clause_at (listed f n) c ≡ f c
clause_at-listed f n c low = get_or-map-range_with_len f 0 n c c no_clause low (omega arith)

pub clause_at-past : (f : ℕ → Clause) (n c : ℕ) → n ≤ c → clause_at (listed f n) c ≡ no_clause
clause_at-past f n c high = get_or_past (listed f n) c no_clause (omega (arith, length-listed f n))

-- the same clauses
pub listed-same : (f g : ℕ → Clause) (n : ℕ) → ((c : ℕ) → c < n → g c ≡ f c) → listed g n ≡ listed f n
listed-same f g n same =
    ext_get_or {A = Clause} no_clause (listed g n) (listed f n) (length-listed g n ∙ sym (length-listed f n))
    (λ c low. let below : c < n = omega (arith, length-listed g n) in clause_at-listed g n c below ∙ same c below ∙ sym (clause_at-listed f n c below))

-- the clause of one reference changes
pub listed-set : (f g : ℕ → Clause) (n c : ℕ) (x : Clause) → c < n → g c ≡ x → ((d : ℕ) → d < n → (d ≡ c → ⊥) → g d ≡ f d) → listed g n ≡ set (listed f n) c x
listed-set f g n c x inside here others =
    ext_get_or {A = Clause} no_clause (listed g n) (set (listed f n) c x) (length-listed g n ∙ sym (length-set (listed f n) c x ∙ length-listed f n))
    (λ d low.
    let below : d < n = omega (arith, length-listed g n) in
    clause_at-listed g n d below ∙
    ⊎_elim
    (λ is. ap g is ∙ here ∙ sym (ap (λ (v : ℕ). get_or (set (listed f n) c x) v no_clause) is ∙ get_or-set_same (listed f n) c x no_clause (omega (arith, length-listed f n))))
    (λ ne. others d below ne ∙ sym (get_or-set_other (listed f n) c d x no_clause ne ∙ clause_at-listed f n d below))
    (cases_eq d c))

-- references come that are not in use
pub listed-more : (f g : ℕ → Clause) (n more : ℕ) → ((c : ℕ) → c < n → g c ≡ f c) → ((c : ℕ) → n ≤ c → g c ≡ no_clause) → listed g (n + more) ≡ listed f n ++ replicate more no_clause
listed-more f g n more same none =
    let count = length-listed f n in
    ext_get_or {A = Clause} no_clause (listed g (n + more)) (listed f n ++ replicate more no_clause)
    (length-listed g (n + more) ∙ sym (length-append (listed f n) (replicate more no_clause) ∙ omega (arith, count, length-replicate more no_clause)))
    (λ c low.
    let below : c < n + more = omega (arith, length-listed g (n + more)) in
    clause_at-listed g (n + more) c below ∙
    ⊎_elim
    (λ old. same c old ∙ sym (get_or_append_left (listed f n) (replicate more no_clause) no_clause c (omega (arith, count)) ∙ clause_at-listed f n c old))
    (λ new. none c new ∙ sym (get_or-append_right (listed f n) (replicate more no_clause) n c no_clause count new ∙ get_or-replicate more (c - n) no_clause no_clause (omega arith)))
    (cases_lt c n))

-- a clause by how often its reference stands in the ring of those in use
dead_step : (n : ℕ) (x : Clause) → n ≡ 0 → cond (eqb n 0) no_clause x ≡ no_clause
dead_step n x none = cond-true {A = Clause} (eqb n 0) no_clause x (eq-eqb n 0 none)

live_step : (n : ℕ) (x : Clause) → 1 ≤ n → cond (eqb n 0) no_clause x ≡ x
live_step n x some = cond-false {A = Clause} (eqb n 0) no_clause x (ne_eqb n 0 (λ none. omega (arith, some, none)))

pub clause-dead : (codes : List ℕ) (spans : List Span) (ids : List ℕ) (order : RingLists) (c : ℕ) → times c (list_of order 0) ≡ 0 → clause_of codes spans ids order c ≡ no_clause
clause-dead codes spans ids order c none = dead_step (times c (list_of order 0)) (live_clause (get_or ids c 0) (lits_at codes (span_of spans c))) none

pub clause-live : (codes : List ℕ) (spans : List Span) (ids : List ℕ) (order : RingLists) (c : ℕ) → 1 ≤ times c (list_of order 0) → clause_of codes spans ids order c ≡ live_clause (get_or ids c 0) (lits_at codes (span_of spans c))
clause-live codes spans ids order c some = live_step (times c (list_of order 0)) (live_clause (get_or ids c 0) (lits_at codes (span_of spans c))) some

-- two clauses are the same where their references stand as often, and their ids and literals are the same
pub clause-same : (codes codes1 : List ℕ) (spans spans1 : List Span) (ids ids1 : List ℕ) (order order1 : RingLists) (c : ℕ) → times c (list_of order1 0) ≡ times c (list_of order 0) → (1 ≤ times c (list_of order 0) → (get_or ids1 c 0 ≡ get_or ids c 0) × (lits_at codes1 (span_of spans1 c) ≡ lits_at codes (span_of spans c))) → clause_of codes1 spans1 ids1 order1 c ≡ clause_of codes spans ids order c
clause-same codes codes1 spans spans1 ids ids1 order order1 c often same =
    ⊎_elim
    (λ dead. clause-dead codes1 spans1 ids1 order1 c (omega arith) ∙ sym (clause-dead codes spans ids order c (omega arith)))
    (λ some.
    let both = same some in
    clause-live codes1 spans1 ids1 order1 c (omega arith) ∙ (λ i. live_clause (both.0 i) (both.1 i)) ∙ sym (clause-live codes spans ids order c some))
    (cases_lt (times c (list_of order 0)) 1)

-- where a live clause's literals stand
pub record LiveAt (codes : List ℕ) (spans : List Span) (ids : List ℕ) (order : RingLists) (c : ℕ) : Type 0 where
  pub inside : c < length spans
  pub stands : 1 ≤ times c (list_of order 0)
  pub is : clause_at (listed (clause_of codes spans ids order) (length spans)) c ≡ live_clause (get_or ids c 0) (lits_at codes (span_of spans c))
  pub within : end_of spans c ≤ length codes

-- what is read of a live clause
pub record Read (codes : List ℕ) (spans : List Span) (ids : List ℕ) (order : RingLists) (a : Arena) (c : ℕ) : Type 0 where
  pub inside : c < length spans
  pub stands : 1 ≤ times c (list_of order 0)
  pub within : end_of spans c ≤ length codes
  pub id : get_or ids c 0 ≡ (clause_at a.clauses c).id
  pub lits : lits_at codes (span_of spans c) ≡ lits_of a.clauses c
  pub count : (span_of spans c).len ≡ length (lits_of a.clauses c)
  pub at : (k : ℕ) → k < length (lits_of a.clauses c) → lit_of (get_or codes ((span_of spans c).start + k) 0) ≡ lit_in (lits_of a.clauses c) k

module _ (codes : List ℕ) (spans : List Span) (ids : List ℕ) (order : RingLists) (spare dead capacity : ℕ) (h : IsKept codes spans ids order spare dead capacity) where
  pub live-stands : (c : ℕ) → 1 ≤ times c (list_of order 0) → LiveAt codes spans ids order c
  live-stands c some =
      let low : c < length spans = omega (arith, node-there order 0 c h.rings some, h.nodes) in
      record {
        inside = low;
        stands = some;
        is = clause_at-listed (clause_of codes spans ids order) (length spans) c low ∙ clause-live codes spans ids order c some;
        within = (laid-within spans (list_of order 0) c 0 (length codes) h.laid some).1;
      }

  pub live-at : (c : ℕ) → (clause_at (listed (clause_of codes spans ids order) (length spans)) c).live ≡ true → LiveAt codes spans ids order c
  live-at c live =
      ⊎_elim
      (λ none. absurd (not_there c none live))
      (λ some. live-stands c some)
      (cases_lt (times c (list_of order 0)) 1)
    where
      not_there : (c : ℕ) → times c (list_of order 0) < 1 → (clause_at (listed (clause_of codes spans ids order) (length spans)) c).live ≡ true → ⊥
      not_there c none live =
          let gone : clause_at (listed (clause_of codes spans ids order) (length spans)) c ≡ no_clause =
          ⊎_elim
          (λ low. clause_at-listed (clause_of codes spans ids order) (length spans) c low ∙ clause-dead codes spans ids order c (omega arith))
          (λ high. clause_at-past (clause_of codes spans ids order) (length spans) c high)
          (cases_lt c (length spans)) in
          let is : false ≡ true = sym (ap (λ (x : Clause). x.live) gone) ∙ live in
          cc

  pub arena-is : IsArena (arena_of codes spans ids order spare dead)
  arena-is = record {
    small = omega (arith, length-listed (clause_of codes spans ids order) (length spans), h.rings.small, h.two, h.nodes);
    spare = omega (arith, length-listed (clause_of codes spans ids order) (length spans), h.others, length-ring order 1 h.rings, h.nodes);
    lits = omega (arith, h.small);
  }

  -- a live clause, as contracts see it
  pub read : (a : Arena) → arena_of codes spans ids order spare dead ≡ a → (c : ℕ) → IsLive a.clauses c → Read codes spans ids order a c
  read a is c live =
      let at = live-at c (subst (λ (b : Arena). IsLive b.clauses c) (sym is) live) in
      let here : clause_at a.clauses c ≡ live_clause (get_or ids c 0) (lits_at codes (span_of spans c)) = ap (λ (b : Arena). clause_at b.clauses c) (sym is) ∙ at.is in
      let lits : lits_at codes (span_of spans c) ≡ lits_of a.clauses c = sym (ap (λ (x : Clause). x.lits) here) in
      let numbers = part codes (span_of spans c).start (span_of spans c).len in
      let long : length numbers ≡ (span_of spans c).len = length-part codes (span_of spans c).start (span_of spans c).len at.within in
      let count : (span_of spans c).len ≡ length (lits_of a.clauses c) = sym long ∙ sym (length-map numbers lit_of) ∙ ap (length {A = Lit}) lits in
      record {
        inside = at.inside;
        stands = at.stands;
        within = at.within;
        id = sym (ap (λ (x : Clause). x.id) here);
        lits = lits;
        count = count;
        at = λ k low.
            let below : k < (span_of spans c).len = omega (arith, count) in
            ap lit_of (sym (get_or-part codes (span_of spans c).start (span_of spans c).len k below))
            ∙ sym (get_or-map lit_of numbers k 0 no_lit (omega (arith, long))) ∙ ap (λ (ls : List Lit). lit_in ls k) lits;
      }

  -- the mark of a reference tells whether it is in use
  pub live-marked : (marks : List Bool) → AreMarked marks order → (a : Arena) → arena_of codes spans ids order spare dead ≡ a → (c : ℕ) → (get_or marks c false ≡ true → IsLive a.clauses c) × (IsLive a.clauses c → get_or marks c false ≡ true)
  live-marked marks m a is c = (
    (λ on. ap (λ (b : Arena). (clause_at b.clauses c).live) (sym is) ∙ ap (λ (x : Clause). x.live) (live-stands c (m.in_use c on)).is),
    (λ live. m.marked c (read a is c live).stands),
  )
