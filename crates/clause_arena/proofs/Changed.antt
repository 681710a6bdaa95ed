-- What an arena keeps, and the clauses that it stands for, after each change.
use Rattle.std.proofs.Common.{◌≡◌, ℕ, Bool, true, false, ◌+◌, ◌-◌, ◌<◌, ◌≤◌, ◌^◌, List, [], ◌∷◌, ◌++◌, length, map, set, get_or, take, replicate, refl, ap, sym, ◌∙◌, subst, arith, ⊎_elim, length-append}
use Rattle.std.specs.Prelude.{swap}
use Rattle.std.proofs.lemmas.Bool.{cases_eq, cases_lt}
use Rattle.std.proofs.lemmas.List.{get_or-set_same, get_or-set_other, length-set, length-map, get_or-take, length-take-le, length-replicate, get_or_append_left, get_or-append_right, get_or-replicate, get_or_past}
use Rattle.std.specs.List.{range_with_len}
use Rattle.std.proofs.lemmas.List.FromFn.{length-range_with_len}
use Rattle.std.proofs.lemmas.List.Edits.{swap_is, length-swap}
use Rattle.index_ring.specs.Lists.{RingLists, IsRings, list_of, times}
use Rattle.index_ring.proofs.Times.{all-get}
use Rattle.order_ints.specs.declared.literal.Lit.{Lit}
use Rattle.clause_arena.specs.declared.codes.Span.{Span}
use Rattle.clause_arena.specs.Clauses.{Clause, no_clause, live_clause, clause_at, lits_of, added, deleted, swapped}
use Rattle.clause_arena.specs.Codes.{no_span, code_of, lit_of, span_of, lits_at}
use Rattle.clause_arena.specs.Layout.{clause_of, arena_of, AreLaid, IsKept, AreMarked}
use Rattle.clause_arena.specs.Sliding.{AreSlid}
use Rattle.clause_arena.specs.References.{AreAdded}
use Rattle.clause_arena.proofs.Laid.{end_of, laid-wider, laid-append, laid-within, laid-apart, laid-same, laid-set, laid-without, span-set_same, span-set_other}
use Rattle.clause_arena.proofs.Parts.{lits_of_codes, part, part-same, part-front, part-behind, part-swap, length-part, lits-swap}
use Rattle.clause_arena.proofs.Lists.{node-there, not_elsewhere, handed, handed-from, handed-to, handed-two, handed-fewer, handed-more, handed-gone, handed-come, handed-other_from, handed-other_to, handed-each}
use Rattle.clause_arena.proofs.Seen.{listed, listed-same, listed-set, listed-more, clause_at-listed, clause-dead, clause-live, clause-same, live-stands}

module _ (codes : List ℕ) (spans : List Span) (ids : List ℕ) (order : RingLists) (spare dead capacity : ℕ) (h : IsKept codes spans ids order spare dead capacity) where
  abbrev now : ℕ → Clause
  now = clause_of codes spans ids order

  -- a clause goes
  module _ (c : ℕ) (some : 1 ≤ times c (list_of order 0)) (rings1 : IsRings (handed order c 1)) where
    apart : ◌≡◌ {A = ℕ} 0 1 → ⊥
    apart is = omega (arith, is)

    pub kept-deleted : IsKept codes spans ids (handed order c 1) spare (dead + 1) capacity
    kept-deleted = record {
      rings = rings1;
      two = handed-two order c 0 1 h.rings h.two (omega arith) (omega arith) apart some;
      nodes = h.nodes;
      ids_length = h.ids_length;
      each = λ d low. handed-each order c 0 1 h.rings h.two (omega arith) (omega arith) apart some d (h.each d low);
      laid = subst (λ (list : List ℕ). AreLaid spans 0 list (length codes)) (sym (handed-from order c 0 1 h.rings h.two (omega arith) (omega arith) apart some))
          (laid-without spans (list_of order 0) c 0 (length codes) h.laid);
      others = omega (arith, h.others, handed-more order c 0 1 h.rings h.two (omega arith) (omega arith) apart some);
      room = h.room;
      small = h.small;
    }

    pub view-deleted : arena_of codes spans ids (handed order c 1) spare (dead + 1) ≡ deleted (arena_of codes spans ids order spare dead) c
    view-deleted =
        let low : c < length spans = omega (arith, node-there order 0 c h.rings some, h.nodes) in
        let clauses = listed-set now (clause_of codes spans ids (handed order c 1)) (length spans) c no_clause low
        (clause-dead codes spans ids (handed order c 1) c (handed-gone order c 0 1 h.rings h.two (omega arith) (omega arith) apart some))
        (λ d below ne. clause-same codes codes spans spans ids ids order (handed order c 1) d (handed-other_from order c 0 1 h.rings h.two (omega arith) (omega arith) apart some d ne) (λ live. (refl, refl))) in
        λ i. record { clauses = clauses i; spare_lits = spare; spare_clauses = dead + 1 }

  -- a clause comes
  module _ (c id : ℕ) (lits : List Lit) (codes1 : List ℕ) (capacity1 : ℕ) (some : 1 ≤ times c (list_of order 1)) (rings1 : IsRings (handed order c 0)) (room : length lits ≤ spare) (codes_are : codes1 ≡ codes ++ map code_of lits) (more : capacity ≤ capacity1) where
    apart1 : ◌≡◌ {A = ℕ} 1 0 → ⊥
    apart1 is = omega (arith, is)

    abbrev new_span : Span
    new_span = record { start = length codes; len = length lits }

    longer : length codes1 ≡ length codes + length lits
    longer = ap (length {A = ℕ}) codes_are ∙ length-append codes (map code_of lits) ∙ omega (arith, length-map lits code_of)

    low1 : c < length spans
    low1 = omega (arith, node-there order 1 c h.rings some, h.nodes)

    none : times c (list_of order 0) ≡ 0
    none = not_elsewhere order 1 0 c h.rings apart1 some

    here1 : span_of (set spans c new_span) c ≡ new_span
    here1 = span-set_same spans c new_span low1

    pub kept-added : IsKept codes1 (set spans c new_span) (set ids c id) (handed order c 0) (spare - length lits) (dead - 1) capacity1
    kept-added = record {
      rings = rings1;
      two = handed-two order c 1 0 h.rings h.two (omega arith) (omega arith) apart1 some;
      nodes = h.nodes ∙ sym (length-set spans c new_span);
      ids_length = length-set ids c id ∙ h.ids_length ∙ sym (length-set spans c new_span);
      each = λ d low. handed-each order c 1 0 h.rings h.two (omega arith) (omega arith) apart1 some d (h.each d (omega (arith, low, length-set spans c new_span)));
      laid = subst (λ (list : List ℕ). AreLaid (set spans c new_span) 0 list (length codes1)) (sym (handed-to order c 1 0 h.rings h.two (omega arith) (omega arith) apart1 some))
          (laid-append (set spans c new_span) (list_of order 0) (c ∷ []) 0 (length codes) (length codes1) (laid-set spans (list_of order 0) c new_span 0 (length codes) none h.laid)
          (omega (arith, ap (λ (s : Span). s.start) here1), omega (arith, ap (λ (s : Span). s.start) here1, ap (λ (s : Span). s.len) here1, longer)));
      others = omega (arith, h.others, handed-fewer order c 1 0 h.rings h.two (omega arith) (omega arith) apart1 some);
      room = omega (arith, h.room, longer);
      small = omega (arith, h.small, longer);
    }

    came : clause_of codes1 (set spans c new_span) (set ids c id) (handed order c 0) c ≡ live_clause id lits
    came =
        clause-live codes1 (set spans c new_span) (set ids c id) (handed order c 0) c (omega (arith, handed-come order c 1 0 h.rings h.two (omega arith) (omega arith) apart1 some))
        ∙ (λ i. live_clause (get_or-set_same ids c id 0 (omega (arith, low1, h.ids_length)) i) (lits_are i))
      where
        lits_are : lits_at codes1 (span_of (set spans c new_span) c) ≡ lits
        lits_are =
            ap (lits_at codes1) here1
            ∙ ap (λ (xs : List ℕ). lits_at xs new_span) codes_are
            ∙ ap (map lit_of) (part-behind codes (map code_of lits) (length lits) (sym (length-map lits code_of)))
            ∙ lits_of_codes lits

    stayed : (d : ℕ) → (d ≡ c → ⊥) → clause_of codes1 (set spans c new_span) (set ids c id) (handed order c 0) d ≡ now d
    stayed d ne =
        clause-same codes codes1 spans (set spans c new_span) ids (set ids c id) order (handed order c 0) d
        (handed-other_to order c 1 0 h.rings h.two (omega arith) (omega arith) apart1 some d ne)
        (λ live. (
          get_or-set_other ids c d id 0 ne,
          ap (lits_at codes1) (span-set_other spans c d new_span ne)
              ∙ ap (λ (xs : List ℕ). lits_at xs (span_of spans d)) codes_are
              ∙ ap (map lit_of) (part-front codes (map code_of lits) (span_of spans d).start (span_of spans d).len (laid-within spans (list_of order 0) d 0 (length codes) h.laid live).1),
        ))

    pub view-added : arena_of codes1 (set spans c new_span) (set ids c id) (handed order c 0) (spare - length lits) (dead - 1) ≡ added (arena_of codes spans ids order spare dead) c id lits
    view-added =
        let clauses = ap (listed (clause_of codes1 (set spans c new_span) (set ids c id) (handed order c 0))) (length-set spans c new_span)
        ∙ listed-set now (clause_of codes1 (set spans c new_span) (set ids c id) (handed order c 0)) (length spans) c (live_clause id lits) low1 came (λ d below ne. stayed d ne) in
        λ i. record { clauses = clauses i; spare_lits = spare - length lits; spare_clauses = dead - 1 }

    -- the reference was in range, and of no clause
    pub fresh-added : clause_at (listed now (length spans)) c ≡ no_clause
    fresh-added = clause_at-listed now (length spans) c low1 ∙ clause-dead codes spans ids order c none

-- two literals of a clause change places
swap-other : (xs : List ℕ) (a b k : ℕ) → a < length xs → b < length xs → (k ≡ a → ⊥) → (k ≡ b → ⊥) → get_or (swap xs a b) k 0 ≡ get_or xs k 0
swap-other xs a b k low high not_a not_b =
    ap (λ (ys : List ℕ). get_or ys k 0) (sym (swap_is xs a b 0 low high))
    ∙ get_or-set_other (set xs a (get_or xs b 0)) b k (get_or xs a 0) 0 not_b
    ∙ get_or-set_other xs a k (get_or xs b 0) 0 not_a

module _ (codes : List ℕ) (spans : List Span) (ids : List ℕ) (order : RingLists) (spare dead capacity : ℕ) (h : IsKept codes spans ids order spare dead capacity) (c i j : ℕ) (some : 1 ≤ times c (list_of order 0)) (low : i < (span_of spans c).len) (high : j < (span_of spans c).len) where
  abbrev swapped_codes : List ℕ
  swapped_codes = swap codes ((span_of spans c).start + i) ((span_of spans c).start + j)

  swapped-length : length swapped_codes ≡ length codes
  swapped-length = length-swap codes ((span_of spans c).start + i) ((span_of spans c).start + j)

  behind : end_of spans c ≤ length codes
  behind = (laid-within spans (list_of order 0) c 0 (length codes) h.laid some).1

  pub kept-swapped : IsKept swapped_codes spans ids order spare dead capacity
  kept-swapped = record {
    rings = h.rings;
    two = h.two;
    nodes = h.nodes;
    ids_length = h.ids_length;
    each = h.each;
    laid = laid-wider spans (list_of order 0) 0 (length codes) 0 (length swapped_codes) (omega arith) (omega (arith, swapped-length)) h.laid;
    others = h.others;
    room = omega (arith, h.room, swapped-length);
    small = omega (arith, h.small, swapped-length);
  }

  swapped-here : lits_at swapped_codes (span_of spans c) ≡ swap (lits_at codes (span_of spans c)) i j
  swapped-here =
      let s = span_of spans c in
      let long : length (part codes s.start s.len) ≡ s.len = length-part codes s.start s.len behind in
      ap (map lit_of) (part-swap codes s.start s.len i j behind low high)
      ∙ lits-swap (part codes s.start s.len) i j (omega (arith, long, low)) (omega (arith, long, high))

  swapped-other : (d : ℕ) → 1 ≤ times d (list_of order 0) → (d ≡ c → ⊥) → lits_at swapped_codes (span_of spans d) ≡ lits_at codes (span_of spans d)
  swapped-other d live ne =
      let s = span_of spans c in
      let within = (laid-within spans (list_of order 0) d 0 (length codes) h.laid live).1 in
      ap (map lit_of)
      (part-same codes swapped_codes (span_of spans d).start (span_of spans d).start (span_of spans d).len within (omega (arith, within, swapped-length))
      (λ k below. swap-other codes (s.start + i) (s.start + j) ((span_of spans d).start + k) (omega (arith, behind, low)) (omega (arith, behind, high))
      (λ is. ⊎_elim (λ before. omega (arith, is, before, low)) (λ after. omega (arith, is, after, below)) (laid-apart spans (list_of order 0) c d 0 (length codes) h.laid some live (λ same. ne (sym same))))
      (λ is. ⊎_elim (λ before. omega (arith, is, before, high)) (λ after. omega (arith, is, after, below)) (laid-apart spans (list_of order 0) c d 0 (length codes) h.laid some live (λ same. ne (sym same))))))

  pub view-swapped : arena_of swapped_codes spans ids order spare dead ≡ swapped (arena_of codes spans ids order spare dead) c i j
  view-swapped =
      let at = live-stands codes spans ids order spare dead capacity h c some in
      let clauses = listed-set (clause_of codes spans ids order) (clause_of swapped_codes spans ids order) (length spans) c
      (live_clause (clause_at (listed (clause_of codes spans ids order) (length spans)) c).id (swap (lits_of (listed (clause_of codes spans ids order) (length spans)) c) i j))
      at.inside
      (clause-live swapped_codes spans ids order c some ∙ (λ k. live_clause (sym (ap (λ (x : Clause). x.id) at.is) k) ((swapped-here ∙ ap (λ (ls : List Lit). swap ls i j) (sym (ap (λ (x : Clause). x.lits) at.is))) k)))
      (λ d below ne. clause-same codes swapped_codes spans spans ids ids order order d refl (λ live. (refl, swapped-other d live ne))) in
      λ k. record { clauses = clauses k; spare_lits = spare; spare_clauses = dead }

-- the literals slide down
module _ (codes : List ℕ) (spans : List Span) (ids : List ℕ) (order : RingLists) (spare dead capacity : ℕ) (h : IsKept codes spans ids order spare dead capacity) (codes1 codes2 : List ℕ) (spans1 : List Span) (end capacity1 : ℕ) (slid : AreSlid codes spans codes1 spans1 (list_of order 0)) (laid : AreLaid spans1 0 (list_of order 0) end) (low : end ≤ length codes) (cut_off : codes2 ≡ take end codes1) (more : capacity ≤ capacity1) where
  long : length codes2 ≡ end
  long = ap (length {A = ℕ}) cut_off ∙ length-take-le end codes1 (omega (arith, slid.codes_length))

  pub kept-slid : IsKept codes2 spans1 ids order spare dead capacity1
  kept-slid = record {
    rings = h.rings;
    two = h.two;
    nodes = h.nodes ∙ sym slid.spans_length;
    ids_length = h.ids_length ∙ sym slid.spans_length;
    each = λ d below. h.each d (omega (arith, slid.spans_length));
    laid = laid-wider spans1 (list_of order 0) 0 end 0 (length codes2) (omega arith) (omega (arith, long)) laid;
    others = h.others;
    room = omega (arith, h.room, long);
    small = omega (arith, h.small, long);
  }

  slid-lits : (d : ℕ) → 1 ≤ times d (list_of order 0) → lits_at codes2 (span_of spans1 d) ≡ lits_at codes (span_of spans d)
  slid-lits d live =
      let within = (laid-within spans1 (list_of order 0) d 0 end laid live).1 in
      ap (map lit_of)
      (part-same codes1 codes2 (span_of spans1 d).start (span_of spans1 d).start (span_of spans1 d).len (omega (arith, within, slid.codes_length)) (omega (arith, within, long))
      (λ k below. let under : (span_of spans1 d).start + k < end = omega (arith, within) in
      ap (λ (xs : List ℕ). get_or xs ((span_of spans1 d).start + k) 0) cut_off ∙ get_or-take end codes1 ((span_of spans1 d).start + k) 0 under))
      ∙ slid.lits d live

  pub view-slid : arena_of codes2 spans1 ids order spare dead ≡ arena_of codes spans ids order spare dead
  view-slid =
      let clauses = ap (listed (clause_of codes2 spans1 ids order)) slid.spans_length
      ∙ listed-same (clause_of codes spans ids order) (clause_of codes2 spans1 ids order) (length spans)
      (λ d below. clause-same codes codes2 spans spans1 ids ids order order d refl (λ live. (refl, slid-lits d live))) in
      λ k. record { clauses = clauses k; spare_lits = spare; spare_clauses = dead }

-- references and room come
module _ (codes : List ℕ) (spans : List Span) (ids : List ℕ) (order : RingLists) (spare dead capacity : ℕ) (h : IsKept codes spans ids order spare dead capacity) (spans1 : List Span) (ids1 : List ℕ) (order1 : RingLists) (more : ℕ) (grown : AreAdded order spans ids order1 spans1 ids1 more) where
  pub kept-wider : (spare1 capacity1 : ℕ) → length codes + spare1 ≤ capacity1 → length codes + spare1 < 2 ^ 32 → IsKept codes spans1 ids1 order1 spare1 (dead + more) capacity1
  kept-wider spare1 capacity1 room small = record {
    rings = grown.rings;
    two = grown.two;
    nodes = grown.nodes ∙ omega (arith, h.nodes, spans_more);
    ids_length = ap (length {A = ℕ}) grown.ids_added ∙ length-append ids (replicate more 0) ∙ omega (arith, length-replicate {A = ℕ} more 0, h.ids_length, spans_more);
    each = λ d below. grown.listed.below d (omega (arith, h.nodes, spans_more));
    laid = subst (λ (list : List ℕ). AreLaid spans1 0 list (length codes)) (sym grown.in_use)
        (laid-same spans spans1 (list_of order 0) 0 (length codes) (λ d live. span-stays d (omega (arith, node-there order 0 d h.rings live, h.nodes))) h.laid);
    others = omega (arith, h.others, ap (length {A = ℕ}) grown.others, length-append (list_of order 1) (range_with_len order.nodes more), length-range_with_len order.nodes more);
    room = room;
    small = small;
  }
    where
      spans_more : length spans1 ≡ length spans + more
      spans_more = ap (length {A = Span}) grown.spans_added ∙ length-append spans (replicate more no_span) ∙ omega (arith, length-replicate more no_span)

      span-stays : (d : ℕ) → d < length spans → span_of spans1 d ≡ span_of spans d
      span-stays d low = ap (λ (xs : List Span). span_of xs d) grown.spans_added ∙ get_or_append_left spans (replicate more no_span) no_span d low

  pub view-wider : map (clause_of codes spans1 ids1 order1) (range_with_len 0 (length spans1)) ≡ map (clause_of codes spans ids order) (range_with_len 0 (length spans)) ++ replicate more no_clause
  view-wider =
      ap (listed (clause_of codes spans1 ids1 order1)) spans_more
      ∙ listed-more (clause_of codes spans ids order) (clause_of codes spans1 ids1 order1) (length spans) more same none
    where
      spans_more : length spans1 ≡ length spans + more
      spans_more = ap (length {A = Span}) grown.spans_added ∙ length-append spans (replicate more no_span) ∙ omega (arith, length-replicate more no_span)

      often : (d : ℕ) → times d (list_of order1 0) ≡ times d (list_of order 0)
      often d = ap (times d) grown.in_use

      same : (d : ℕ) → d < length spans → clause_of codes spans1 ids1 order1 d ≡ clause_of codes spans ids order d
      same d low =
          clause-same codes codes spans spans1 ids ids1 order order1 d (often d)
          (λ live. (
            ap (λ (xs : List ℕ). get_or xs d 0) grown.ids_added ∙ get_or_append_left ids (replicate more 0) 0 d (omega (arith, low, h.ids_length)),
            ap (λ (xs : List Span). lits_at codes (span_of xs d)) grown.spans_added ∙ ap (lits_at codes) (get_or_append_left spans (replicate more no_span) no_span d low),
          ))

      none : (d : ℕ) → length spans ≤ d → clause_of codes spans1 ids1 order1 d ≡ no_clause
      none d high = clause-dead codes spans1 ids1 order1 d (often d ∙ omega (arith, h.rings.inside d (omega (arith, high, h.nodes)), all-get d order.lists 0))

-- with other names for the tables
pub kept-as : (codes : List ℕ) (spans spans1 : List Span) (ids ids1 : List ℕ) (order order1 : RingLists) (spare dead capacity : ℕ) → spans1 ≡ spans → ids1 ≡ ids → order1 ≡ order → IsKept codes spans ids order spare dead capacity → IsKept codes spans1 ids1 order1 spare dead capacity
kept-as codes spans spans1 ids ids1 order order1 spare dead capacity p q r h =
    subst (λ (x : List Span). IsKept codes x ids1 order1 spare dead capacity) (sym p)
    (subst (λ (x : List ℕ). IsKept codes spans x order1 spare dead capacity) (sym q)
    (subst (λ (x : RingLists). IsKept codes spans ids x spare dead capacity) (sym r) h))

pub view-as : (codes : List ℕ) (spans spans1 : List Span) (ids ids1 : List ℕ) (order order1 : RingLists) (spare dead : ℕ) → spans1 ≡ spans → ids1 ≡ ids → order1 ≡ order → arena_of codes spans1 ids1 order1 spare dead ≡ arena_of codes spans ids order spare dead
view-as codes spans spans1 ids ids1 order order1 spare dead p q r = λ i. arena_of codes (p i) (q i) (r i) spare dead

pub arena-as : (codes codes1 : List ℕ) (spans spans1 : List Span) (ids ids1 : List ℕ) (order order1 : RingLists) (spare dead : ℕ) → codes1 ≡ codes → spans1 ≡ spans → ids1 ≡ ids → order1 ≡ order → arena_of codes1 spans1 ids1 order1 spare dead ≡ arena_of codes spans ids order spare dead
arena-as codes codes1 spans spans1 ids ids1 order order1 spare dead o p q r = λ i. arena_of (o i) (p i) (q i) (r i) spare dead

-- the marks, where a clause goes, comes, and where references come
pub marked-deleted : (marks : List Bool) (order : RingLists) (c : ℕ) → AreMarked marks order → IsRings order → length order.lists ≡ 2 → 1 ≤ times c (list_of order 0) → AreMarked (set marks c false) (handed order c 1)
marked-deleted marks order c h rings two some = record {
  count = length-set marks c false ∙ h.count;
  in_use = λ d is.
      ⊎_elim
      (λ same. let off : false ≡ true = sym (ap (λ (v : ℕ). get_or (set marks c false) v false) same ∙ get_or-set_same marks c false false low) ∙ is in absurd (cc))
      (λ ne. omega (arith, h.in_use d (sym (get_or-set_other marks c d false false ne) ∙ is), handed-other_from order c 0 1 rings two (omega arith) (omega arith) apart some d ne))
      (cases_eq d c);
  marked = λ d live.
      ⊎_elim
      (λ same. absurd (omega (arith, live, ap (λ (v : ℕ). times v (list_of (handed order c 1) 0)) same, handed-gone order c 0 1 rings two (omega arith) (omega arith) apart some)))
      (λ ne. get_or-set_other marks c d false false ne ∙ h.marked d (omega (arith, live, handed-other_from order c 0 1 rings two (omega arith) (omega arith) apart some d ne)))
      (cases_eq d c);
}
  where
    apart : ◌≡◌ {A = ℕ} 0 1 → ⊥
    apart is = omega (arith, is)

    low : c < length marks
    low = omega (arith, h.count, node-there order 0 c rings some)

pub marked-added : (marks : List Bool) (order : RingLists) (c : ℕ) → AreMarked marks order → IsRings order → length order.lists ≡ 2 → 1 ≤ times c (list_of order 1) → AreMarked (set marks c true) (handed order c 0)
marked-added marks order c h rings two some = record {
  count = length-set marks c true ∙ h.count;
  in_use = λ d is.
      ⊎_elim
      (λ same. omega (arith, ap (λ (v : ℕ). times v (list_of (handed order c 0) 0)) same, handed-come order c 1 0 rings two (omega arith) (omega arith) apart some))
      (λ ne. omega (arith, h.in_use d (sym (get_or-set_other marks c d true false ne) ∙ is), handed-other_to order c 1 0 rings two (omega arith) (omega arith) apart some d ne))
      (cases_eq d c);
  marked = λ d live.
      ⊎_elim
      (λ same. ap (λ (v : ℕ). get_or (set marks c true) v false) same ∙ get_or-set_same marks c true false low)
      (λ ne. get_or-set_other marks c d true false ne ∙ h.marked d (omega (arith, live, handed-other_to order c 1 0 rings two (omega arith) (omega arith) apart some d ne)))
      (cases_eq d c);
}
  where
    apart : ◌≡◌ {A = ℕ} 1 0 → ⊥
    apart is = omega (arith, is)

    low : c < length marks
    low = omega (arith, h.count, node-there order 1 c rings some)

pub marked-more : (marks marks1 : List Bool) (order order1 : RingLists) (more : ℕ) → AreMarked marks order → IsRings order → marks1 ≡ marks ++ replicate more false → order1.nodes ≡ order.nodes + more → list_of order1 0 ≡ list_of order 0 → AreMarked marks1 order1
marked-more marks marks1 order order1 more h rings marks_are nodes same = record {
  count = ap (length {A = Bool}) marks_are ∙ length-append marks (replicate more false) ∙ omega (arith, length-replicate more false, h.count, nodes);
  in_use = λ d is.
      let at : get_or (marks ++ replicate more false) d false ≡ true = ap (λ (xs : List Bool). get_or xs d false) (sym marks_are) ∙ is in
      ⊎_elim
      (λ low. omega (arith, ap (times d) same, h.in_use d (sym (get_or_append_left marks (replicate more false) false d low) ∙ at)))
      (λ high. let off : false ≡ true = sym (off_behind d high) ∙ at in absurd (cc))
      (cases_lt d (length marks));
  marked = λ d live.
      let old : 1 ≤ times d (list_of order 0) = omega (arith, ap (times d) same, live) in
      ap (λ (xs : List Bool). get_or xs d false) marks_are
      ∙ get_or_append_left marks (replicate more false) false d (omega (arith, h.count, node-there order 0 d rings old)) ∙ h.marked d old;
}
  where
    off_behind : (d : ℕ) → length marks ≤ d → get_or (marks ++ replicate more false) d false ≡ false
    off_behind d high =
        get_or-append_right marks (replicate more false) (length marks) d false refl high
        ∙ ⊎_elim
        (λ low. get_or-replicate more (d - length marks) false false low)
        (λ past. get_or_past (replicate more false) (d - length marks) false (omega (arith, length-replicate more false)))
        (cases_lt (d - length marks) more)
