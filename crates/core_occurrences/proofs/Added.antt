-- Owners and free nodes that are added.
use Rattle.std.proofs.Common.{◌≡◌, ℕ, zero, suc, ◌+◌, ◌≤◌, ◌<◌, ◌^◌, List, [], ◌∷◌, ◌++◌, length, get_or, set, replicate, refl, ap, sym, ◌∙◌, subst, arith, ⊎_elim}
use Rattle.std.specs.Prelude.{if◌then◌else◌, ◌==◌, nat_lt}
use Rattle.std.proofs.lemmas.Bool.{cases_lt, cases_eq, eq-eqb, ne_eqb, cond-true, cond-false, lt-ltb, le-ltb}
use Rattle.std.proofs.lemmas.List.{get_or-set_same, get_or-set_other, length-set, length-append, length-replicate, length_push, get_or_past, get_or_push, map_push}
use Rattle.index_ring.specs.Lists.{times}
use Rattle.index_ring.proofs.Times.{times-same, times-other, times-append}
use Rattle.core_occurrences.specs.declared.chains.Node.{Node}
use Rattle.core_occurrences.specs.Chains.{no_node, owner_of, link_of, owners, Chain, IsChained, AreChains, IsFreed}
use Rattle.core_occurrences.proofs.Chained.{one_if, one_same, one_other, chain-kept}

-- a default behind a list changes nothing
pub get_or-zeros : (heads : List ℕ) (n i : ℕ) → get_or (heads ++ replicate n 0) i 0 ≡ get_or heads i 0
get_or-zeros [] zero i = refl
get_or-zeros [] (suc n) zero = refl
get_or-zeros [] (suc n) (suc i) = get_or-zeros [] n i
get_or-zeros (h ∷ heads) n zero = refl
get_or-zeros (h ∷ heads) n (suc i) = get_or-zeros heads n i

-- owners without nodes
module _ (owner next head : ℕ → ℕ) (count heads more : ℕ) (h : IsChained owner next head count heads) (past : (i : ℕ) → heads ≤ i → head i ≡ 0) where
  abbrev own1 : ℕ → List ℕ
  own1 i = if nat_lt i heads then h.own i else []

  own-old : (i : ℕ) → i < heads → own1 i ≡ h.own i
  own-old i low = cond-true (nat_lt i heads) _ _ (lt-ltb i heads low)

  own-new : (i : ℕ) → heads ≤ i → own1 i ≡ []
  own-new i high = cond-false (nat_lt i heads) _ _ (le-ltb i heads high)

  chained-heads : IsChained owner next head count (heads + more)
  chained-heads = record {
    own = own1;
    linked = λ i low. ⊎_elim (λ old. subst (Chain next (head i)) (sym (own-old i old)) (h.linked i old)) (λ new. subst (Chain next (head i)) (sym (own-new i new)) (past i new)) (cases_lt i heads);
    once = λ i v i_in v_in. ⊎_elim (λ old. ap (times v) (own-old i old) ∙ h.once i v old v_in) (λ new. ap (times v) (own-new i new) ∙ sym (one_other (owner v) i (λ e. omega (arith, h.known v v_in)))) (cases_lt i heads);
    inside = λ i v i_in high. ⊎_elim (λ old. ap (times v) (own-old i old) ∙ h.inside i v old high) (λ new. ap (times v) (own-new i new)) (cases_lt i heads);
    known = λ v low. omega (arith, h.known v low);
    small = h.small;
  }

pub chains-heads : (nodes : List Node) (heads heads1 : List ℕ) (more : ℕ) → AreChains nodes heads → heads1 ≡ heads ++ replicate more 0 → AreChains nodes heads1
chains-heads nodes heads heads1 more h e =
    subst (λ (l : List ℕ). AreChains nodes l) (sym e)
    (subst (λ (k : ℕ). IsChained (owner_of nodes) (link_of nodes) (λ i. get_or (heads ++ replicate more 0) i 0) (length nodes) k) (sym (length-append heads (replicate more 0) ∙ ap (λ (k : ℕ). length heads + k) (length-replicate more 0)))
    (same_heads (chained-heads (owner_of nodes) (link_of nodes) (λ i. get_or heads i 0) (length nodes) (length heads) more h (λ i past. get_or_past heads i 0 past))))
  where
    same_heads : IsChained (owner_of nodes) (link_of nodes) (λ i. get_or heads i 0) (length nodes) (length heads + more) → IsChained (owner_of nodes) (link_of nodes) (λ i. get_or (heads ++ replicate more 0) i 0) (length nodes) (length heads + more)
    same_heads k = record {
      own = k.own;
      linked = λ i low. subst (λ (l : ℕ). Chain (link_of nodes) l (k.own i)) (sym (get_or-zeros heads more i)) (k.linked i low);
      once = k.once;
      inside = k.inside;
      known = k.known;
      small = k.small;
    }

-- one free node more
module _ (owner next head : ℕ → ℕ) (count heads : ℕ) (h : IsChained owner next head count heads) (some : 0 < heads) (few : count + 1 < 2 ^ 31) (owner1 next1 head1 : ℕ → ℕ) (o : (w : ℕ) → w < count → owner1 w ≡ owner w) (free : owner1 count ≡ 0) (n : (w : ℕ) → (w ≡ count → ⊥) → next1 w ≡ next w) (link : next1 count ≡ head 0) (d : head1 0 ≡ count + 1) (others : (i : ℕ) → (i ≡ 0 → ⊥) → head1 i ≡ head i) where
  abbrev own2 : ℕ → List ℕ
  own2 i = if i == 0 then count ∷ h.own 0 else h.own i

  own-free : (i : ℕ) → i ≡ 0 → own2 i ≡ count ∷ h.own 0
  own-free i e = cond-true (i == 0) _ _ (eq-eqb i 0 e)

  own-core : (i : ℕ) → (i ≡ 0 → ⊥) → own2 i ≡ h.own i
  own-core i ne = cond-false (i == 0) _ _ (ne_eqb i 0 ne)

  linked2 : (i : ℕ) → i < heads → Chain next1 (head1 i) (own2 i)
  linked2 i low = ⊎_elim at_free other (cases_eq i 0)
    where
      at_free : i ≡ 0 → Chain next1 (head1 i) (own2 i)
      at_free e =
          subst (Chain next1 (head1 i)) (sym (own-free i e))
          (ap head1 e ∙ d, subst (λ (l : ℕ). Chain next1 l (h.own 0)) (sym link) (chain-kept next next1 count (h.own 0) (head 0) (h.inside 0 count some (omega arith)) n (h.linked 0 some)))

      other : (i ≡ 0 → ⊥) → Chain next1 (head1 i) (own2 i)
      other ne =
          subst (Chain next1 (head1 i)) (sym (own-core i ne))
          (subst (λ (l : ℕ). Chain next1 l (h.own i)) (sym (others i ne)) (chain-kept next next1 count (h.own i) (head i) (h.inside i count low (omega arith)) n (h.linked i low)))

  times2-old : (i w : ℕ) → (w ≡ count → ⊥) → times w (own2 i) ≡ times w (h.own i)
  times2-old i w ne =
      ⊎_elim (λ (e : i ≡ 0). ap (times w) (own-free i e) ∙ times-other w count (h.own 0) (λ f. ne (sym f)) ∙ ap (λ (k : ℕ). times w (h.own k)) (sym e)) (λ ne. ap (times w) (own-core i ne)) (cases_eq i 0)

  times2-new : (i : ℕ) → i < heads → times count (own2 i) ≡ one_if 0 i
  times2-new i low = ⊎_elim at_free other (cases_eq i 0)
    where
      at_free : i ≡ 0 → times count (own2 i) ≡ one_if 0 i
      at_free e =
          omega (arith, ap (times count) (own-free i e), times-same count count (h.own 0) refl, h.inside 0 count some (let l : count ≤ count = omega arith in l), one_same 0 i (sym e))

      other : (i ≡ 0 → ⊥) → times count (own2 i) ≡ one_if 0 i
      other ne =
          omega (arith, ap (times count) (own-core i ne), h.inside i count low (let l : count ≤ count = omega arith in l), one_other 0 i (λ e. ne (sym e)))

  pub chained-more : IsChained owner1 next1 head1 (count + 1) heads
  chained-more = record {
    own = own2;
    linked = linked2;
    once = λ i w i_in w_in. ⊎_elim (λ (e : w ≡ count). ap (λ (u : ℕ). times u (own2 i)) e ∙ times2-new i i_in ∙ ap (λ (u : ℕ). one_if u i) (sym free ∙ ap owner1 (sym e))) (λ ne. times2-old i w ne ∙ h.once i w i_in (omega arith) ∙ ap (λ (u : ℕ). one_if u i) (sym (o w (omega arith)))) (cases_eq w count);
    inside = λ i w i_in high. times2-old i w (λ e. omega arith) ∙ h.inside i w i_in (omega arith);
    known = λ w low. ⊎_elim (λ (e : w ≡ count). omega (arith, ap owner1 e, free)) (λ ne. omega (arith, o w (omega arith), h.known w (omega arith))) (cases_eq w count);
    small = few;
  }

-- what holds where so many free nodes have been added
pub record IsFreeing (old now : List Node) (heads : List ℕ) (k : ℕ) : Type 0 where
  pub freed : IsFreed old now k
  pub chains : AreChains now heads

pub freeing-none : (nodes : List Node) (heads : List ℕ) → AreChains nodes heads → IsFreeing nodes nodes heads 0
freeing-none nodes heads h = record {
  freed = record { owner = λ w. refl; count = omega arith; free = omega arith };
  chains = h;
}

-- a free node behind the others has the owner that is taken where there is no node
owner_of-push : (nodes : List Node) (next w : ℕ) → owner_of (nodes ++ record { owner = 0; next = next } ∷ []) w ≡ owner_of nodes w
owner_of-push [] next zero = refl
owner_of-push [] next (suc w) = refl
owner_of-push (n ∷ nodes) next zero = refl
owner_of-push (n ∷ nodes) next (suc w) = owner_of-push nodes next w

link_of-push : (nodes : List Node) (next w : ℕ) → (w ≡ length nodes → ⊥) → link_of (nodes ++ record { owner = 0; next = next } ∷ []) w ≡ link_of nodes w
link_of-push [] next zero ne = absurd (ne refl)
link_of-push [] next (suc w) ne = refl
link_of-push (n ∷ nodes) next zero ne = refl
link_of-push (n ∷ nodes) next (suc w) ne = link_of-push nodes next w (λ e. ne (ap suc e))

pub freeing-more : (old now now1 : List Node) (heads : List ℕ) (k : ℕ) → IsFreeing old now heads k → 0 < length heads → length now + 1 < 2 ^ 31 → now1 ≡ now ++ record { owner = 0; next = get_or heads 0 0 } ∷ [] → (head : ℕ) → head ≡ length now + 1 → IsFreeing old now1 (set heads 0 head) (k + 1)
freeing-more old now now1 heads k h some few e head head-is =
    subst (λ (l : List Node). IsFreeing old l (set heads 0 head) (k + 1)) (sym e) (record {
      freed = record {
        owner = λ w. owner_of-push now (get_or heads 0 0) w ∙ h.freed.owner w;
        count = longer ∙ (omega (arith, h.freed.count));
        free = ap (times 0) (map_push (λ (n : Node). n.owner) now node) ∙ times-append 0 (owners now) (0 ∷ []) ∙ (omega (arith, h.freed.free));
      };
      chains = chains;
    })
  where
    node : Node
    node = record { owner = 0; next = get_or heads 0 0 }

    longer : length (now ++ record { owner = 0; next = get_or heads 0 0 } ∷ []) ≡ length now + 1
    longer = length_push now (record { owner = 0; next = get_or heads 0 0 })

    chains : AreChains (now ++ record { owner = 0; next = get_or heads 0 0 } ∷ []) (set heads 0 head)
    chains =
        subst (λ (c : ℕ). IsChained (owner_of (now ++ record { owner = 0; next = get_or heads 0 0 } ∷ [])) (link_of (now ++ record { owner = 0; next = get_or heads 0 0 } ∷ [])) (λ i. get_or (set heads 0 head) i 0) c (length (set heads 0 head))) (sym longer)
        (subst (λ (c : ℕ). IsChained (owner_of (now ++ record { owner = 0; next = get_or heads 0 0 } ∷ [])) (link_of (now ++ record { owner = 0; next = get_or heads 0 0 } ∷ [])) (λ i. get_or (set heads 0 head) i 0) (length now + 1) c) (sym (length-set heads 0 head))
        (chained-more (owner_of now) (link_of now) (λ i. get_or heads i 0) (length now) (length heads) h.chains some few
        (owner_of (now ++ record { owner = 0; next = get_or heads 0 0 } ∷ [])) (link_of (now ++ record { owner = 0; next = get_or heads 0 0 } ∷ [])) (λ i. get_or (set heads 0 head) i 0)
        (λ w low. owner_of-push now (get_or heads 0 0) w)
        (owner_of-push now (get_or heads 0 0) (length now) ∙ ap (λ (n : Node). n.owner) (get_or_past now (length now) no_node (omega arith)))
        (link_of-push now (get_or heads 0 0))
        (ap (λ (n : Node). n.next) (get_or_push now (record { owner = 0; next = get_or heads 0 0 }) no_node (length now) refl))
        (get_or-set_same heads 0 head 0 some ∙ head-is)
        (λ i ne. get_or-set_other heads 0 i head 0 ne)))
