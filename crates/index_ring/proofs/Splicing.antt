-- What a splice makes of links that are those of lists.
use Rattle.std.proofs.Common.{◌≡◌, ℕ, ◌≤◌, ◌<◌, List, [], ◌∷◌, ◌++◌, length, get_or, set, refl, ap, sym, ◌∙◌, subst, arith, ⊎_elim}
use Rattle.std.specs.Prelude.{if◌then◌else◌, ◌==◌}
use Rattle.std.proofs.lemmas.Bool.{cases_eq, eq-eqb, ne_eqb, cond-true, cond-false}
use Rattle.std.proofs.lemmas.List.{length-set, append-nil, set-get_or}
use Rattle.index_ring.specs.Lists.{RingLists, IsFree, list_of, times, times_in_all, spliced}
use Rattle.index_ring.specs.Links.{sentinel, Chain, IsLinked}
use Rattle.index_ring.proofs.Times.{times-same, times-append, all-set, get-set}
use Rattle.index_ring.proofs.Chains.{Joins, chain-append, next-there, previous-there, next-elsewhere, previous-elsewhere, chain-kept, chain-to}
use Rattle.index_ring.proofs.Moved.{places, place-once, places-apart, free-apart, last-place, first-place}

-- a ring whose sentinel is its own neighbour is empty
pub empty-from : (n p : ℕ → ℕ) (a : ℕ) (list : List ℕ) → times a list ≡ 0 → Chain n p a list a → n a ≡ a → list ≡ []
empty-from n p a [] none h e = refl
empty-from n p a (x ∷ list) none h e = absurd (omega (arith, times-same a x list (sym h.0 ∙ e)))

-- the list of another ring begins with the place behind the sentinel
pub front-from : (n p : ℕ → ℕ) (a : ℕ) (list : List ℕ) → Chain n p a list a → (n a ≡ a → ⊥) → (rest : List ℕ) × (list ≡ n a ∷ rest)
front-from n p a [] h ne = absurd (ne h.0)
front-from n p a (x ∷ list) h ne = (list, ap (λ (q : ℕ). q ∷ list) (sym h.0))

-- behind an empty ring nothing is spliced
pub spliced-nothing : (rings : RingLists) (a b : ℕ) → list_of rings a ≡ [] → spliced rings a b ≡ rings
spliced-nothing rings a b none =
    ap (λ (lists : List (List ℕ)). let made : RingLists = record { lists = lists; nodes = rings.nodes } in made)
    (ap (λ (l : List ℕ). set (set rings.lists b (list_of rings b ++ l)) a []) none
    ∙ ap (λ (l : List ℕ). set (set rings.lists b l) a []) (append-nil (list_of rings b))
    ∙ ap (λ (lists : List (List ℕ)). set lists a []) (set-get_or rings.lists b [])
    ∙ ap (λ (l : List ℕ). set rings.lists a l) (sym none)
    ∙ set-get_or rings.lists a [])

-- the nodes of ring a, of which the first is the place behind its sentinel, go behind those of ring b
module _ (n p n1 p1 n2 p2 n3 p3 : ℕ → ℕ) (rings : RingLists) (h : IsLinked n p rings) (a b : ℕ) (rest : List ℕ) (inside_a : a < length rings.lists) (inside_b : b < length rings.lists) (ne : a ≡ b → ⊥) (begins : list_of rings a ≡ n (sentinel a) ∷ rest) where
  -- places of ring b aren't of ring a, and the other way round
  not-a : (q : ℕ) → 1 ≤ times q (places rings b) → times q (places rings a) ≡ 0
  not-a q stands = omega (arith, places-apart rings a b q h.stand ne)

  not-b : (q : ℕ) → 1 ≤ times q (places rings a) → times q (places rings b) ≡ 0
  not-b q stands = omega (arith, places-apart rings a b q h.stand ne)

  own : (r : ℕ) → 1 ≤ times (sentinel r) (places rings r)
  own r = omega (arith, times-same (sentinel r) (sentinel r) (list_of rings r) refl)

  parts : (q : ℕ) → times q (list_of rings a) ≡ times q (n (sentinel a) ∷ rest)
  parts q = ap (times q) begins

  -- all lists together have the same nodes
  same-all : (q : ℕ) → times_in_all q (spliced rings a b).lists ≡ times_in_all q rings.lists
  same-all q =
      let joined : List ℕ = list_of rings b ++ list_of rings a in
      let kept : get_or (set rings.lists b joined) a [] ≡ list_of rings a = get-set rings.lists b a joined inside_b ∙ cond-false (a == b) joined (list_of rings a) (ne_eqb a b ne) in
      omega (arith, all-set q rings.lists b joined inside_b, times-append q (list_of rings b) (list_of rings a), all-set q (set rings.lists b joined) a [] (omega (arith, length-set rings.lists b joined)), ap (times q) kept)

  pub linked-spliced : Joins n p n1 p1 (p (sentinel b)) (n (sentinel a)) → Joins n1 p1 n2 p2 (p (sentinel a)) (sentinel b) → Joins n2 p2 n3 p3 (sentinel a) (sentinel a) → IsLinked n3 p3 (spliced rings a b)
  linked-spliced first second third = record {
    stand = record {
      small = omega (arith, h.stand.small, length-set (set rings.lists b (list_of rings b ++ list_of rings a)) a [], length-set rings.lists b (list_of rings b ++ list_of rings a));
      once = λ q. omega (arith, same-all q, h.stand.once q);
      inside = λ q high. omega (arith, same-all q, h.stand.inside q high);
    };
    linked = λ q small. chain q (omega (arith, length-set (set rings.lists b (list_of rings b ++ list_of rings a)) a [], length-set rings.lists b (list_of rings b ++ list_of rings a)));
    free = λ w small none. was_free w small (sym (same-all w) ∙ none);
  }
    where
      f : ℕ
      f = n (sentinel a)

      chain_a : Chain n p (sentinel a) (f ∷ rest) (sentinel a)
      chain_a = subst (λ (l : List ℕ). Chain n p (sentinel a) l (sentinel a)) begins (h.linked a inside_a)

      f_in_a : 1 ≤ times f (places rings a)
      f_in_a = first-place n p rings h a inside_a

      f_once : times f (sentinel a ∷ rest) ≡ 0
      f_once = omega (arith, place-once rings a f h.stand, parts f, times-same f f rest refl)

      not_sentinel : sentinel a ≡ f → ⊥
      not_sentinel e = omega (arith, times-same f (sentinel a) rest e, f_once)

      to_f : Chain n1 p1 (sentinel b) (list_of rings b) f
      to_f = chain-to n p n1 p1 (p (sentinel b)) f first (sentinel b) (list_of rings b) (sentinel b) refl (place-once rings b (p (sentinel b)) h.stand) (omega (arith, not-b f f_in_a)) (h.linked b inside_b)

      from_f : Chain n1 p1 f rest (sentinel a)
      from_f = chain-kept n p n1 p1 (p (sentinel b)) f first f rest (sentinel a) (omega (arith, not-a (p (sentinel b)) (last-place n p rings h b inside_b), parts (p (sentinel b)))) f_once chain_a.2

      to_b : Chain n2 p2 f rest (sentinel b)
      to_b =
          chain-to n1 p1 n2 p2 (p (sentinel a)) (sentinel b) second f rest (sentinel a) (sym (previous-elsewhere n p n1 p1 (p (sentinel b)) f first (sentinel a) not_sentinel))
          (omega (arith, place-once rings a (p (sentinel a)) h.stand, parts (p (sentinel a)))) (omega (arith, not-a (sentinel b) (own b), parts (sentinel b))) from_f

      front : Chain n2 p2 (sentinel b) (list_of rings b) f
      front =
          chain-kept n1 p1 n2 p2 (p (sentinel a)) (sentinel b) second (sentinel b) (list_of rings b) f (not-b (p (sentinel a)) (last-place n p rings h a inside_a))
          (omega (arith, place-once rings b (sentinel b) h.stand, times-same (sentinel b) (sentinel b) (list_of rings b) refl, not-a (sentinel b) (own b), parts (sentinel b))) to_f

      both : Chain n3 p3 (sentinel b) (list_of rings b ++ f ∷ rest) (sentinel b)
      both =
          let out : times (sentinel a) (sentinel b ∷ (list_of rings b ++ f ∷ rest)) ≡ 0 = omega (arith, not-b (sentinel a) (own a), times-append (sentinel a) (list_of rings b) (f ∷ rest), place-once rings a (sentinel a) h.stand, times-same (sentinel a) (sentinel a) (list_of rings a) refl, parts (sentinel a)) in
          chain-kept n2 p2 n3 p3 (sentinel a) (sentinel a) third (sentinel b) (list_of rings b ++ f ∷ rest) (sentinel b) out out
          (chain-append n2 p2 (sentinel b) (list_of rings b) f rest (sentinel b) front to_b)

      was_free : (w : ℕ) → w < rings.nodes → IsFree rings w → n3 w ≡ w
      was_free w small none =
          next-elsewhere n2 p2 n3 p3 (sentinel a) (sentinel a) third w (λ e. omega (arith, h.stand.small))
          ∙ next-elsewhere n1 p1 n2 p2 (p (sentinel a)) (sentinel b) second w
          (λ e. omega (arith, free-apart rings a w h.stand small none, subst (λ (q : ℕ). 1 ≤ times q (places rings a)) (sym e) (last-place n p rings h a inside_a)))
          ∙ next-elsewhere n p n1 p1 (p (sentinel b)) f first w
          (λ e. omega (arith, free-apart rings b w h.stand small none, subst (λ (q : ℕ). 1 ≤ times q (places rings b)) (sym e) (last-place n p rings h b inside_b)))
          ∙ h.free w small none

      -- a ring other than these two keeps its chain
      other : (q : ℕ) → q < length rings.lists → (q ≡ a → ⊥) → (q ≡ b → ⊥) → Chain n3 p3 (sentinel q) (list_of rings q) (sentinel q)
      other q small not_a not_b =
          let of_a : (k : ℕ) → 1 ≤ times k (places rings a) → times k (places rings q) ≡ 0 = λ k stands. omega (arith, places-apart rings q a k h.stand not_a) in
          let of_b : (k : ℕ) → 1 ≤ times k (places rings b) → times k (places rings q) ≡ 0 = λ k stands. omega (arith, places-apart rings q b k h.stand not_b) in
          chain-kept n2 p2 n3 p3 (sentinel a) (sentinel a) third (sentinel q) (list_of rings q) (sentinel q) (of_a (sentinel a) (own a)) (of_a (sentinel a) (own a))
          (chain-kept n1 p1 n2 p2 (p (sentinel a)) (sentinel b) second (sentinel q) (list_of rings q) (sentinel q) (of_a (p (sentinel a)) (last-place n p rings h a inside_a)) (of_b (sentinel b) (own b))
          (chain-kept n p n1 p1 (p (sentinel b)) f first (sentinel q) (list_of rings q) (sentinel q) (of_b (p (sentinel b)) (last-place n p rings h b inside_b)) (of_a f f_in_a) (h.linked q small)))

      ends : (q : ℕ) (list : List ℕ) → list_of (spliced rings a b) q ≡ list → Chain n3 p3 (sentinel q) list (sentinel q) → Chain n3 p3 (sentinel q) (list_of (spliced rings a b) q) (sentinel q)
      ends q list e made = subst (λ (l : List ℕ). Chain n3 p3 (sentinel q) l (sentinel q)) (sym e) made

      joined : List ℕ
      joined = list_of rings b ++ list_of rings a

      outer : (q : ℕ) → list_of (spliced rings a b) q ≡ (if q == a then [] else get_or (set rings.lists b joined) q [])
      outer q = get-set (set rings.lists b joined) a q [] (omega (arith, length-set rings.lists b joined))

      chain : (q : ℕ) → q < length rings.lists → Chain n3 p3 (sentinel q) (list_of (spliced rings a b) q) (sentinel q)
      chain q small = ⊎_elim emptied (λ not_a. ⊎_elim (longer not_a) (stays not_a) (cases_eq q b)) (cases_eq q a)
        where
          emptied : q ≡ a → Chain n3 p3 (sentinel q) (list_of (spliced rings a b) q) (sentinel q)
          emptied e =
              ends q [] (outer q ∙ cond-true (q == a) _ _ (eq-eqb q a e))
              (subst (λ (k : ℕ). Chain n3 p3 (sentinel k) [] (sentinel k)) (sym e)
              (next-there n2 p2 n3 p3 (sentinel a) (sentinel a) third, previous-there n2 p2 n3 p3 (sentinel a) (sentinel a) third))

          longer : (q ≡ a → ⊥) → q ≡ b → Chain n3 p3 (sentinel q) (list_of (spliced rings a b) q) (sentinel q)
          longer not_a e =
              ends q (list_of rings b ++ f ∷ rest)
              (outer q
              ∙ cond-false (q == a) _ _ (ne_eqb q a not_a)
              ∙ get-set rings.lists b q joined inside_b
              ∙ cond-true (q == b) _ _ (eq-eqb q b e)
              ∙ ap (λ (l : List ℕ). list_of rings b ++ l) begins)
              (subst (λ (k : ℕ). Chain n3 p3 (sentinel k) (list_of rings b ++ f ∷ rest) (sentinel k)) (sym e) both)

          stays : (q ≡ a → ⊥) → (q ≡ b → ⊥) → Chain n3 p3 (sentinel q) (list_of (spliced rings a b) q) (sentinel q)
          stays not_a not_b =
              ends q (list_of rings q)
              (outer q
              ∙ cond-false (q == a) _ _ (ne_eqb q a not_a)
              ∙ get-set rings.lists b q joined inside_b
              ∙ cond-false (q == b) _ _ (ne_eqb q b not_b))
              (other q small not_a not_b)
