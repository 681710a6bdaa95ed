-- Clauses whose literals stand one behind another.
use Rattle.std.proofs.Common.{◌≡◌, ℕ, zero, suc, ◌+◌, ◌<◌, ◌≤◌, List, [], ◌∷◌, ◌++◌, length, set, refl, ap, sym, ◌∙◌, subst, arith, ⊎_elim, ◌⊎◌, inl, inr}
use Rattle.std.specs.Prelude.{◌==◌}
use Rattle.std.proofs.lemmas.Bool.{cases_eq, eq-eqb, ne_eqb, cond-true, cond-false}
use Rattle.std.proofs.lemmas.List.{get_or-set_same, get_or-set_other}
use Rattle.index_ring.specs.Lists.{times, without}
use Rattle.index_ring.proofs.Times.{times-same, times-other, times-append, cut}
use Rattle.clause_arena.specs.declared.codes.Span.{Span}
use Rattle.clause_arena.specs.Codes.{no_span, span_of}
use Rattle.clause_arena.specs.Layout.{AreLaid}

-- the place behind a clause's literals
abbrev pub end_of : List Span → ℕ → ℕ
end_of spans c = (span_of spans c).start + (span_of spans c).len

pub laid-le : (spans : List Span) (list : List ℕ) (a b : ℕ) → AreLaid spans a list b → a ≤ b
laid-le spans [] a b h = h
laid-le spans (c ∷ cs) a b h = omega (arith, h.0, laid-le spans cs (end_of spans c) b h.1)

pub laid-wider : (spans : List Span) (list : List ℕ) (a b a1 b1 : ℕ) → a1 ≤ a → b ≤ b1 → AreLaid spans a list b → AreLaid spans a1 list b1
laid-wider spans [] a b a1 b1 low high h = omega (arith, h)
laid-wider spans (c ∷ cs) a b a1 b1 low high h = (omega (arith, h.0), laid-wider spans cs (end_of spans c) b (end_of spans c) b1 (omega arith) high h.1)

pub laid-append : (spans : List Span) (xs ys : List ℕ) (a m b : ℕ) → AreLaid spans a xs m → AreLaid spans m ys b → AreLaid spans a (xs ++ ys) b
laid-append spans [] ys a m b h g = laid-wider spans ys m b a b h (omega arith) g
laid-append spans (c ∷ xs) ys a m b h g = (h.0, laid-append spans xs ys (end_of spans c) m b h.1 g)

-- around a clause
pub record Around (spans : List Span) (front back : List ℕ) (c a b : ℕ) : Type 0 where
  pub before : AreLaid spans a front (span_of spans c).start
  pub behind : AreLaid spans (end_of spans c) back b

pub laid-around : (spans : List Span) (front back : List ℕ) (c a b : ℕ) → AreLaid spans a (front ++ c ∷ back) b → Around spans front back c a b
laid-around spans [] back c a b h = record { before = h.0; behind = h.1 }
laid-around spans (d ∷ front) back c a b h =
    let rest = laid-around spans front back c (end_of spans d) b h.1 in
    record { before = (h.0, rest.before); behind = rest.behind }

-- a clause stands within
pub laid-within : (spans : List Span) (list : List ℕ) (c a b : ℕ) → AreLaid spans a list b → 1 ≤ times c list → (a ≤ (span_of spans c).start) × (end_of spans c ≤ b)
laid-within spans list c a b h some =
    let parts = cut c list some in
    let around = laid-around spans parts.0 parts.1 c a b (subst (λ (xs : List ℕ). AreLaid spans a xs b) parts.2 h) in
    (laid-le spans parts.0 a (span_of spans c).start around.before, laid-le spans parts.1 (end_of spans c) b around.behind)

-- two clauses stand apart
pub laid-apart : (spans : List Span) (list : List ℕ) (c d a b : ℕ) → AreLaid spans a list b → 1 ≤ times c list → 1 ≤ times d list → (c ≡ d → ⊥) → (end_of spans c ≤ (span_of spans d).start) ⊎ (end_of spans d ≤ (span_of spans c).start)
laid-apart spans list c d a b h some other apart =
    let parts = cut c list some in
    let around = laid-around spans parts.0 parts.1 c a b (subst (λ (xs : List ℕ). AreLaid spans a xs b) parts.2 h) in
    let count : times d list ≡ times d parts.0 + times d parts.1 = ap (times d) parts.2 ∙ times-append d parts.0 (c ∷ parts.1) ∙ ap (λ (n : ℕ). times d parts.0 + n) (times-other d c parts.1 apart) in
    by_times (times d parts.0) (times d parts.1) (omega arith)
    (λ before. inr (laid-within spans parts.0 d a (span_of spans c).start around.before before).1)
    (λ behind. inl (laid-within spans parts.1 d (end_of spans c) b around.behind behind).0)
  where
    by_times : {P : Type 0} (m n : ℕ) → 1 ≤ m + n → (1 ≤ m → P) → (1 ≤ n → P) → P
    by_times zero n h first second = second (omega (arith, h))
    by_times (suc m) n h first second = first (omega arith)

-- where the spans of the listed clauses stay
pub laid-same : (spans spans1 : List Span) (list : List ℕ) (a b : ℕ) → ((c : ℕ) → 1 ≤ times c list → span_of spans1 c ≡ span_of spans c) → AreLaid spans a list b → AreLaid spans1 a list b
laid-same spans spans1 [] a b same h = h
laid-same spans spans1 (c ∷ cs) a b same h =
    let here : span_of spans1 c ≡ span_of spans c = same c (omega (arith, times-same c c cs refl)) in
    let start : (span_of spans1 c).start ≡ (span_of spans c).start = ap (λ (s : Span). s.start) here in
    let len : (span_of spans1 c).len ≡ (span_of spans c).len = ap (λ (s : Span). s.len) here in (
      omega (arith, h.0),
      laid-wider spans1 cs (end_of spans c) b (end_of spans1 c) b (omega arith) (omega arith)
          (laid-same spans spans1 cs (end_of spans c) b (λ d some. same d (more d some)) h.1),
    )
  where
    more : (d : ℕ) → 1 ≤ times d cs → 1 ≤ times d (c ∷ cs)
    more d some = omega (arith, some)

pub span-set_same : (spans : List Span) (c : ℕ) (x : Span) → c < length spans → span_of (set spans c x) c ≡ x
span-set_same spans c x low = get_or-set_same spans c x no_span low

pub span-set_other : (spans : List Span) (c d : ℕ) (x : Span) → (d ≡ c → ⊥) → span_of (set spans c x) d ≡ span_of spans d
span-set_other spans c d x apart = get_or-set_other spans c d x no_span apart

-- the span of a clause that isn't listed may change
pub laid-set : (spans : List Span) (list : List ℕ) (c : ℕ) (x : Span) (a b : ℕ) → times c list ≡ 0 → AreLaid spans a list b → AreLaid (set spans c x) a list b
laid-set spans list c x a b none h =
    laid-same spans (set spans c x) list a b (λ d some. span-set_other spans c d x (λ is. omega (arith, none, some, ap (λ (v : ℕ). times v list) is))) h

-- a clause may go
pub laid-without : (spans : List Span) (list : List ℕ) (c a b : ℕ) → AreLaid spans a list b → AreLaid spans a (without c list) b
laid-without spans [] c a b h = h
laid-without spans (d ∷ ds) c a b h =
    let rest = laid-without spans ds c (end_of spans d) b h.1 in
    ⊎_elim
    (λ is. subst (λ (xs : List ℕ). AreLaid spans a xs b) (sym (cond-true {A = List ℕ} (d == c) (without c ds) (d ∷ without c ds) (eq-eqb d c is)))
    (laid-wider spans (without c ds) (end_of spans d) b a b (omega (arith, h.0)) (omega arith) rest))
    (λ ne. subst (λ (xs : List ℕ). AreLaid spans a xs b) (sym (cond-false {A = List ℕ} (d == c) (without c ds) (d ∷ without c ds) (ne_eqb d c ne)))
    (h.0, rest))
    (cases_eq d c)
