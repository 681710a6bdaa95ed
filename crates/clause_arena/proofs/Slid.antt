-- The literals of the clauses in use, moved down one clause after another.
use Rattle.std.proofs.Common.{◌≡◌, ℕ, ◌+◌, ◌<◌, ◌≤◌, List, [], ◌∷◌, ◌++◌, length, map, set, get_or, take, drop, Option, Some, None, refl, ap, sym, ◌∙◌, subst, arith, ⊎_elim}
use Rattle.std.proofs.lemmas.Bool.{cases_eq, cases_lt}
use Rattle.std.proofs.lemmas.List.{length-set, take_more, drop_more, take_all, drop_all, take-append-drop}
use Rattle.index_ring.specs.Lists.{RingLists, IsRings, list_of, times, first_in, after_in}
use Rattle.index_ring.proofs.Times.{times-same, times-other, times-append}
use Rattle.index_ring.proofs.Lawful.{walk_meets}
use Rattle.clause_arena.specs.declared.codes.Span.{Span}
use Rattle.clause_arena.specs.Codes.{lit_of, span_of, lits_at}
use Rattle.clause_arena.specs.Layout.{AreLaid}
use Rattle.clause_arena.specs.Sliding.{IsMoved, AreSlid}
use Rattle.clause_arena.proofs.Laid.{end_of, laid-le, laid-wider, laid-append, laid-within, laid-set, span-set_same, span-set_other}
use Rattle.clause_arena.proofs.Lists.{node-there}
use Rattle.clause_arena.proofs.Parts.{part, part-same}

-- a clause's literals by where they stand
pub lits-moved : (codes codes1 : List ℕ) (s t : Span) → s.len ≡ t.len → s.start + s.len ≤ length codes → t.start + t.len ≤ length codes1 → ((k : ℕ) → k < s.len → get_or codes1 (t.start + k) 0 ≡ get_or codes (s.start + k) 0) → lits_at codes1 t ≡ lits_at codes s
lits-moved codes codes1 s t is within within1 same =
    ap (λ (n : ℕ). map lit_of (part codes1 t.start n)) (sym is)
    ∙ ap (map lit_of) (part-same codes codes1 s.start t.start s.len within (omega (arith, is, within1)) same)

-- a clause between two lists stands once
once-around : (c : ℕ) (front back : List ℕ) → times c (front ++ c ∷ back) ≤ 1 → (times c front ≡ 0) × (times c back ≡ 0)
once-around c front back once =
    let all = times-append c front (c ∷ back) in
    let here = times-same c c back refl in
    (omega arith, omega arith)

other-around : {P : Type 0} (c d : ℕ) (front back : List ℕ) → (d ≡ c → ⊥) → 1 ≤ times d (front ++ c ∷ back) → (1 ≤ times d front → P) → (1 ≤ times d back → P) → P
other-around c d front back ne some first second =
    let all = times-append d front (c ∷ back) in
    let here = times-other d c back (λ is. ne (sym is)) in
    ⊎_elim (λ none. second (omega (arith, all, here, some))) first (cases_lt (times d front) 1)

module _ (codes codes1 : List ℕ) (spans : List Span) (front back : List ℕ) (c to total : ℕ) (laid : AreLaid spans 0 front to) (left : AreLaid spans to (c ∷ back) total) (once : times c (front ++ c ∷ back) ≤ 1) (low : c < length spans) (size : length codes ≡ total) (moved : IsMoved codes codes1 (span_of spans c).start to (span_of spans c).len) where
  -- where the clause stands afterwards
  abbrev pub new_span : Span
  new_span = record { start = to; len = (span_of spans c).len }

  abbrev pub spans1 : List Span
  spans1 = set spans c new_span

  here : span_of spans1 c ≡ new_span
  here = span-set_same spans c new_span low

  behind : end_of spans c ≤ total
  behind = laid-le spans back (end_of spans c) total left.1

  pub slid-front : AreLaid spans1 0 (front ++ c ∷ []) (to + (span_of spans c).len)
  slid-front =
      let start : (span_of spans1 c).start ≡ to = ap (λ (s : Span). s.start) here in
      let len : (span_of spans1 c).len ≡ (span_of spans c).len = ap (λ (s : Span). s.len) here in
      laid-append spans1 front (c ∷ []) 0 to (to + (span_of spans c).len) (laid-set spans front c new_span 0 to (once-around c front back once).0 laid)
      (omega arith, omega arith)

  pub slid-back : AreLaid spans1 (to + (span_of spans c).len) back total
  slid-back =
      laid-set spans back c new_span (to + (span_of spans c).len) total (once-around c front back once).1
      (laid-wider spans back (end_of spans c) total (to + (span_of spans c).len) total (omega (arith, left.0)) (omega arith) left.1)

  pub slid-lits : (d : ℕ) → 1 ≤ times d (front ++ c ∷ back) → lits_at codes1 (span_of spans1 d) ≡ lits_at codes (span_of spans d)
  slid-lits d some =
      ⊎_elim
      (λ is. subst (λ (v : ℕ). lits_at codes1 (span_of spans1 v) ≡ lits_at codes (span_of spans v)) (sym is)
      (ap (lits_at codes1) here ∙ lits-moved codes codes1 (span_of spans c) new_span refl (omega (arith, behind, size)) (omega (arith, behind, size, left.0, moved.count)) (λ k below. moved.moved k below)))
      (λ ne. ap (lits_at codes1) (span-set_other spans c d new_span ne) ∙
      other-around c d front back ne some
      (λ before.
      let within = laid-within spans front d 0 to laid before in
      lits-moved codes codes1 (span_of spans d) (span_of spans d) refl (omega (arith, within.1, behind, left.0, size)) (omega (arith, within.1, behind, left.0, size, moved.count))
      (λ k below. moved.below ((span_of spans d).start + k) (omega (arith, within.1))))
      (λ after.
      let within = laid-within spans back d (end_of spans c) total left.1 after in
      lits-moved codes codes1 (span_of spans d) (span_of spans d) refl (omega (arith, within.1, size)) (omega (arith, within.1, size, moved.count))
      (λ k below. moved.above ((span_of spans d).start + k) (omega (arith, within.0, left.0)))))
      (cases_eq d c)

-- how far the sliding has come: so many clauses of the list have been moved
pub record Slides (codes0 : List ℕ) (spans0 : List Span) (list : List ℕ) (codes : List ℕ) (spans : List Span) (to : ℕ) (next : Option ℕ) (k : ℕ) : Type 0 where
  pub slid : AreSlid codes0 spans0 codes spans list
  pub at : next ≡ first_in (drop k list)
  pub laid : AreLaid spans 0 (take k list) to
  pub left : AreLaid spans to (drop k list) (length codes0)

pub slides-start : (codes : List ℕ) (spans : List Span) (list : List ℕ) (next : Option ℕ) → next ≡ first_in list → AreLaid spans 0 list (length codes) → Slides codes spans list codes spans 0 next 0
slides-start codes spans list next is laid = record {
  slid = record { codes_length = refl; spans_length = refl; lits = λ c some. refl };
  at = is;
  laid = omega arith;
  left = laid;
}

-- the clause that is at hand stands behind those that were moved
pub record AtHand (list : List ℕ) (k c : ℕ) : Type 0 where
  pub below : k < length list
  pub rest : drop k list ≡ c ∷ drop (k + 1) list
  pub front : take (k + 1) list ≡ take k list ++ c ∷ []
  pub whole : list ≡ take k list ++ c ∷ drop (k + 1) list

first_is : (xs : List ℕ) (x c : ℕ) (ys : List ℕ) → xs ≡ x ∷ ys → Some c ≡ first_in xs → x ≡ c
first_is xs x c ys is h = let got : Some c ≡ Some x = h ∙ ap first_in is in cc

none_left : (xs : List ℕ) (c : ℕ) → xs ≡ [] → Some c ≡ first_in xs → ⊥
none_left xs c is h = let got : Some c ≡ None = h ∙ ap first_in is in cc

pub at_hand : (list : List ℕ) (k c : ℕ) → Some c ≡ first_in (drop k list) → AtHand list k c
at_hand list k c at =
    ⊎_elim
    (λ low.
    let x = get_or list k 0 in
    let parts : drop k list ≡ x ∷ drop (k + 1) list = drop_more list k 0 low in
    let is : x ≡ c = first_is (drop k list) x c (drop (k + 1) list) parts at in
    let rest : drop k list ≡ c ∷ drop (k + 1) list = parts ∙ ap (λ (y : ℕ). y ∷ drop (k + 1) list) is in
    record {
      below = low;
      rest = rest;
      front = take_more list k 0 low ∙ ap (λ (y : ℕ). take k list ++ y ∷ []) is;
      whole = sym (take-append-drop k list) ∙ ap (λ (ys : List ℕ). take k list ++ ys) rest;
    })
    (λ high. absurd (none_left (drop k list) c (drop_all k list high) at))
    (cases_lt k (length list))

-- where none is at hand, none is left
pub none_at_hand : (list : List ℕ) (k : ℕ) → None ≡ first_in (drop k list) → length list ≤ k
none_at_hand list k at =
    ⊎_elim
    (λ low. let got : None ≡ Some (get_or list k 0) = at ∙ ap first_in (drop_more list k 0 low) in absurd (cc))
    (λ high. high)
    (cases_lt k (length list))

pub slides-none : (codes0 : List ℕ) (spans0 : List Span) (list codes : List ℕ) (spans : List Span) (to k : ℕ) (next : Option ℕ) → next ≡ None → Slides codes0 spans0 list codes spans to next k → Slides codes0 spans0 list codes spans to next (k + 1)
slides-none codes0 spans0 list codes spans to k next none h =
    let all : length list ≤ k = none_at_hand list k (sym none ∙ h.at) in
    let gone : drop (k + 1) list ≡ drop k list = drop_all (k + 1) list (omega arith) ∙ sym (drop_all k list all) in
    let whole : take (k + 1) list ≡ take k list = take_all (k + 1) list (omega arith) ∙ sym (take_all k list all) in
    record {
      slid = h.slid;
      at = h.at ∙ ap first_in (sym gone);
      laid = subst (λ (xs : List ℕ). AreLaid spans 0 xs to) (sym whole) h.laid;
      left = subst (λ (xs : List ℕ). AreLaid spans to xs (length codes0)) (sym gone) h.left;
    }

pub slides-more : (codes0 : List ℕ) (spans0 : List Span) (list codes codes1 : List ℕ) (spans : List Span) (to k c : ℕ) (next : Option ℕ) → Slides codes0 spans0 list codes spans to (Some c) k → times c list ≤ 1 → c < length spans0 → IsMoved codes codes1 (span_of spans c).start to (span_of spans c).len → next ≡ first_in (drop (k + 1) list) → Slides codes0 spans0 list codes1 (set spans c (record { start = to; len = (span_of spans c).len })) (to + (span_of spans c).len) next (k + 1)
slides-more codes0 spans0 list codes codes1 spans to k c next h once low moved is =
    let hand = at_hand list k c h.at in
    let front = take k list in
    let back = drop (k + 1) list in
    let left : AreLaid spans to (c ∷ back) (length codes0) = subst (λ (xs : List ℕ). AreLaid spans to xs (length codes0)) hand.rest h.left in
    let once1 : times c (front ++ c ∷ back) ≤ 1 = subst (λ (xs : List ℕ). times c xs ≤ 1) hand.whole once in
    let low1 : c < length spans = omega (arith, h.slid.spans_length) in
    record {
      slid = record {
        codes_length = moved.count ∙ h.slid.codes_length;
        spans_length = length-set spans c (record { start = to; len = (span_of spans c).len }) ∙ h.slid.spans_length;
        lits = λ d some.
            slid-lits codes codes1 spans front back c to (length codes0) h.laid left once1 low1 h.slid.codes_length moved d (subst (λ (xs : List ℕ). 1 ≤ times d xs) hand.whole some)
            ∙ h.slid.lits d some;
      };
      at = is;
      laid = subst (λ (xs : List ℕ). AreLaid (set spans c (record { start = to; len = (span_of spans c).len })) 0 xs (to + (span_of spans c).len)) (sym hand.front)
          (slid-front codes codes1 spans front back c to (length codes0) h.laid left once1 low1 h.slid.codes_length moved);
      left = slid-back codes codes1 spans front back c to (length codes0) h.laid left once1 low1 h.slid.codes_length moved;
    }

-- where the clause at hand stands
pub hand-within : (codes0 : List ℕ) (spans0 : List Span) (list codes : List ℕ) (spans : List Span) (to k c : ℕ) → Slides codes0 spans0 list codes spans to (Some c) k → (to ≤ (span_of spans c).start) × (end_of spans c ≤ length codes0)
hand-within codes0 spans0 list codes spans to k c h =
    let hand = at_hand list k c h.at in
    let left : AreLaid spans to (c ∷ drop (k + 1) list) (length codes0) = subst (λ (xs : List ℕ). AreLaid spans to xs (length codes0)) hand.rest h.left in
    (left.0, laid-le spans (drop (k + 1) list) (end_of spans c) (length codes0) left.1)

-- at the end
pub slides-all : (codes0 : List ℕ) (spans0 : List Span) (list codes : List ℕ) (spans : List Span) (to k : ℕ) (next : Option ℕ) → length list ≤ k → Slides codes0 spans0 list codes spans to next k → AreLaid spans 0 list to × (to ≤ length codes0)
slides-all codes0 spans0 list codes spans to k next all h = (
  subst (λ (xs : List ℕ). AreLaid spans 0 xs to) (take_all k list all) h.laid,
  laid-le spans (drop k list) to (length codes0) h.left,
)

-- the clause at hand is in use
pub hand-stands : (order : RingLists) (k c : ℕ) → Some c ≡ first_in (drop k (list_of order 0)) → 1 ≤ times c (list_of order 0)
hand-stands order k c at =
    let list = list_of order 0 in
    let hand = at_hand list k c at in
    let often : times c list ≡ times c (take k list) + times c (c ∷ drop (k + 1) list) = ap (times c) hand.whole ∙ times-append c (take k list) (c ∷ drop (k + 1) list) in
    omega (arith, often, times-same c c (drop (k + 1) list) refl)

pub hand-inside : (order : RingLists) (k c n : ℕ) → IsRings order → order.nodes ≤ n → Some c ≡ first_in (drop k (list_of order 0)) → c < n
hand-inside order k c n rings low at = omega (arith, node-there order 0 c rings (hand-stands order k c at))

-- and behind it comes the next one
pub hand-next : (order : RingLists) (k c : ℕ) → IsRings order → Some c ≡ first_in (drop k (list_of order 0)) → after_in c (list_of order 0) ≡ first_in (drop (k + 1) (list_of order 0))
hand-next order k c rings at =
    walk_meets order 0 c (take k (list_of order 0)) (drop (k + 1) (list_of order 0)) rings (at_hand (list_of order 0) k c at).whole

pub slides-as : (codes0 : List ℕ) (spans0 : List Span) (list codes codes1 : List ℕ) (spans spans1 : List Span) (to to1 k : ℕ) (next next1 : Option ℕ) → codes1 ≡ codes → spans1 ≡ spans → to1 ≡ to → next1 ≡ next → Slides codes0 spans0 list codes spans to next k → Slides codes0 spans0 list codes1 spans1 to1 next1 k
slides-as codes0 spans0 list codes codes1 spans spans1 to to1 k next next1 p q r s h =
    subst (λ (x : List ℕ). Slides codes0 spans0 list x spans1 to1 next1 k) (sym p)
    (subst (λ (x : List Span). Slides codes0 spans0 list codes x to1 next1 k) (sym q)
    (subst (λ (x : ℕ). Slides codes0 spans0 list codes spans x next1 k) (sym r)
    (subst (λ (x : Option ℕ). Slides codes0 spans0 list codes spans to x k) (sym s) h)))
