-- Nodes that stand in rings, before and after a move.
use Rattle.std.proofs.Common.{◌≡◌, ◌≢◌, ℕ, zero, suc, ◌≤◌, ◌<◌, List, [], ◌∷◌, ◌++◌, map, length, get_or, refl, ap, sym, ◌∙◌, arith, ⊎_elim}
use Rattle.std.specs.Prelude.{◌==◌}
use Rattle.std.proofs.lemmas.Bool.{cases_lt, cases_eq, eq-eqb, ne_eqb, cond-true, cond-false}
use Rattle.std.proofs.lemmas.List.{length-set, length-map}
use Rattle.index_ring.specs.Lists.{RingLists, IsRings, IsFree, Stands, list_of, times, times_in_all, pushed_back, unlinked, without}
use Rattle.index_ring.proofs.Times.{times-same, times-other, times-append, all-set, all-get, all-two, all-find, times-without, all-without, get-set}

-- a node that stands in a ring isn't free
pub stands-held : (rings : RingLists) (r v : ℕ) → Stands rings r v → ¬ IsFree rings v
stands-held rings r v h free = absurd (omega (arith, all-get v rings.lists r))

-- and it is a node
pub stands-inside : (rings : RingLists) (r v : ℕ) → IsRings rings → Stands rings r v → v < rings.nodes
stands-inside rings r v made h = ⊎_elim (λ (lt : v < rings.nodes). lt) (λ (ge : rings.nodes ≤ v). absurd (stands-held rings r v h (made.inside v ge))) (cases_lt v rings.nodes)

-- a node stands in one ring at most
pub stands-once : (rings : RingLists) (r s v : ℕ) → IsRings rings → Stands rings r v → Stands rings s v → r ≡ s
stands-once rings r s v made h k = ⊎_elim (λ (e : r ≡ s). e) (λ (ne : r ≡ s → ⊥). absurd (omega (arith, all-two v rings.lists r s ne, made.once v))) (cases_eq r s)

-- a node that isn't free stands in a ring
pub held-stands : (rings : RingLists) (v : ℕ) → ¬ IsFree rings v → (r : ℕ) × (r < length rings.lists) × Stands rings r v
held-stands rings v h = ⊎_elim (λ (lt : times_in_all v rings.lists < 1). absurd (h (omega arith))) (λ (ge : 1 ≤ times_in_all v rings.lists). all-find v rings.lists ge) (cases_lt (times_in_all v rings.lists) 1)

-- the list of a ring after a node has left
pub list-unlinked : (v : ℕ) (lists : List (List ℕ)) (q : ℕ) → get_or (map (without v) lists) q [] ≡ without v (get_or lists q [])
list-unlinked v [] q = refl
list-unlinked v (l ∷ lists) zero = refl
list-unlinked v (l ∷ lists) (suc q) = list-unlinked v lists q

-- the node that has left is free
pub unlinked-free : (rings : RingLists) (v : ℕ) → IsFree (unlinked rings v) v
unlinked-free rings v = all-without v v rings.lists ∙ cond-true {A = ℕ} (v == v) 0 (times_in_all v rings.lists) (eq-eqb v v refl)

-- every other one stands where it stood
pub unlinked-times : (rings : RingLists) (v w q : ℕ) → w ≢ v → times w (list_of (unlinked rings v) q) ≡ times w (list_of rings q)
unlinked-times rings v w q ne = ap (times w) (list-unlinked v rings.lists q) ∙ (times-without v w (list_of rings q) ∙ cond-false {A = ℕ} (w == v) 0 (times w (list_of rings q)) (ne_eqb w v ne))

pub unlinked-all : (rings : RingLists) (v w : ℕ) → w ≢ v → times_in_all w (unlinked rings v).lists ≡ times_in_all w rings.lists
unlinked-all rings v w ne = all-without v w rings.lists ∙ cond-false {A = ℕ} (w == v) 0 (times_in_all w rings.lists) (ne_eqb w v ne)

-- the ring that the node comes to has it
pub pushed-here : (rings : RingLists) (r v : ℕ) → r < length rings.lists → Stands (pushed_back rings r v) r v
pushed-here rings r v h =
    let got : list_of (pushed_back rings r v) r ≡ list_of rings r ++ v ∷ [] = get-set rings.lists r r (list_of rings r ++ v ∷ []) h ∙ cond-true {A = List ℕ} (r == r) (list_of rings r ++ v ∷ []) (list_of rings r) (eq-eqb r r refl) in
    omega (arith, ap (times v) got, times-append v (list_of rings r) (v ∷ []), times-same v v [] refl)

-- the list of another ring stays
pub pushed-list : (rings : RingLists) (r v q : ℕ) → r < length rings.lists → q ≢ r → list_of (pushed_back rings r v) q ≡ list_of rings q
pushed-list rings r v q h ne = get-set rings.lists r q (list_of rings r ++ v ∷ []) h ∙ cond-false {A = List ℕ} (q == r) (list_of rings r ++ v ∷ []) (list_of rings q) (ne_eqb q r ne)

-- every other node stands where it stood
pub pushed-times : (rings : RingLists) (r v w q : ℕ) → r < length rings.lists → w ≢ v → times w (list_of (pushed_back rings r v) q) ≡ times w (list_of rings q)
pushed-times rings r v w q h ne = ⊎_elim here (λ (other : q ≡ r → ⊥). ap (times w) (pushed-list rings r v q h other)) (cases_eq q r)
  where
    here : q ≡ r → times w (list_of (pushed_back rings r v) q) ≡ times w (list_of rings q)
    here e =
        let got : list_of (pushed_back rings r v) q ≡ list_of rings r ++ v ∷ [] = get-set rings.lists r q (list_of rings r ++ v ∷ []) h ∙ cond-true {A = List ℕ} (q == r) (list_of rings r ++ v ∷ []) (list_of rings q) (eq-eqb q r e) in
        omega (arith, ap (times w) got, times-append w (list_of rings r) (v ∷ []), times-other w v [] (λ (s : v ≡ w). ne (sym s)), ap (λ (k : ℕ). times w (list_of rings k)) e)

pub pushed-all : (rings : RingLists) (r v w : ℕ) → r < length rings.lists → w ≢ v → times_in_all w (pushed_back rings r v).lists ≡ times_in_all w rings.lists
pushed-all rings r v w h ne =
    omega (arith, all-set w rings.lists r (list_of rings r ++ v ∷ []) h, times-append w (list_of rings r) (v ∷ []), times-other w v [] (λ (s : v ≡ w). ne (sym s)))

-- what a move leaves of every other node
pub record OthersStand (old new : RingLists) (v : ℕ) : Type 0 where
  pub stand : (w q : ℕ) → w ≢ v → Stands old q w → Stands new q w
  pub free : (w : ℕ) → w ≢ v → IsFree old w → IsFree new w

pub unlinked-others : (rings : RingLists) (v : ℕ) → OthersStand rings (unlinked rings v) v
unlinked-others rings v = record {
  stand = λ w q ne h. omega (arith, unlinked-times rings v w q ne);
  free = λ w ne h. unlinked-all rings v w ne ∙ h;
}

pub pushed-others : (rings : RingLists) (r v : ℕ) → r < length rings.lists → OthersStand rings (pushed_back rings r v) v
pushed-others rings r v h = record {
  stand = λ w q ne s. omega (arith, pushed-times rings r v w q h ne);
  free = λ w ne s. pushed-all rings r v w h ne ∙ s;
}

pub others-both : (old mid new : RingLists) (v : ℕ) → OthersStand old mid v → OthersStand mid new v → OthersStand old new v
others-both old mid new v a b = record {
  stand = λ w q ne h. b.stand w q ne (a.stand w q ne h);
  free = λ w ne h. b.free w ne (a.free w ne h);
}

pub length-unlinked : (rings : RingLists) (v : ℕ) → length (unlinked rings v).lists ≡ length rings.lists
length-unlinked rings v = length-map rings.lists (without v)

pub length-pushed : (rings : RingLists) (r v : ℕ) → length (pushed_back rings r v).lists ≡ length rings.lists
length-pushed rings r v = length-set rings.lists r (list_of rings r ++ v ∷ [])

-- the ring that a node goes to has it, others keep theirs but for the node
pub record IsMovedTo (old new : RingLists) (r v : ℕ) : Type 0 where
  pub here : Stands new r v
  pub others : OthersStand old new v
  pub left : (q : ℕ) → q ≢ r → list_of new q ≡ without v (list_of old q)
  pub count : length new.lists ≡ length old.lists
  pub nodes : new.nodes ≡ old.nodes

pub moved-node : (rings : RingLists) (r v : ℕ) → r < length rings.lists → IsMovedTo rings (pushed_back (unlinked rings v) r v) r v
moved-node rings r v h =
    let there : r < length (unlinked rings v).lists = omega (arith, length-unlinked rings v) in
    record {
      here = pushed-here (unlinked rings v) r v there;
      others = others-both rings (unlinked rings v) (pushed_back (unlinked rings v) r v) v (unlinked-others rings v) (pushed-others (unlinked rings v) r v there);
      left = λ q ne. pushed-list (unlinked rings v) r v q there ne ∙ list-unlinked v rings.lists q;
      count = length-pushed (unlinked rings v) r v ∙ length-unlinked rings v;
      nodes = refl;
    }
