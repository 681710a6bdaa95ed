-- Cores that are put into the queue, along a walk of a class.
use Rattle.std.proofs.Common.{◌≡◌, ℕ, zero, suc, ◌+◌, ◌≤◌, ◌<◌, ◌⊎◌, inl, inr, true, List, [], ◌∷◌, ◌++◌, length, get_or, refl, sym, ap, ◌∙◌, arith, append_assoc, ⊎_elim, Option, Some, None}
use Rattle.std.specs.Prelude.{◌==◌, Contains}
use Rattle.std.proofs.lemmas.Bool.{false≢true, cond-true, cond-false, eq-eqb, ne_eqb}
use Rattle.order_ints.specs.declared.atom.Atom.{Atom}
use Rattle.order_ints.specs.declared.atom.Atom.TheVariants.{True, False, Of}
use Rattle.index_ring.specs.Lists.{times, first_in, after_in}
use Rattle.index_ring.proofs.Times.{times-same, times-append, cut}
use Rattle.index_ring.proofs.Seen.{after_in-cut}
use Rattle.equation_store.specs.Class.{is_of, IsMember, IsWalk}
use Rattle.equation_store.proofs.Walk.{cases_member}
use Rattle.equation_store.proofs.Counts.{times-count}
use Rattle.equation_store.specs.Laws.{IsConstant}
use Rattle.core_occurrences.specs.Lists.{OccurrenceLists, Occurs, cores_at}
use Rattle.core_occurrences.proofs.Occurring.{contains-from_times}
use Rattle.step_kernel.specs.Kernel.{Kernel}
use Rattle.step_kernel.proofs.Splits.{there-bounds}
use Rattle.fixpoint_queue.specs.IdQueue.{Ids, IsIds}
use Rattle.fixpoint_queue.specs.Listed.{IsListed}
use Rattle.fixpoint_queue.proofs.Ids.{ids-few}
use Rattle.index_ring.specs.Lists.{rest_from}

-- a member of a list is its first one or one behind it
pub contains-first : (x : ℕ) (xs : List ℕ) (y : ℕ) → Contains (x ∷ xs) y → (x ≡ y) ⊎ Contains xs y
contains-first x xs y h = by h.0 h.1 h.2
  where
    by : (k : ℕ) → k < length (x ∷ xs) → get_or (x ∷ xs) k y ≡ y → (x ≡ y) ⊎ Contains xs y
    by zero lt e = inl e
    by (suc k) lt e = inr (k, omega (arith, lt), e)

pub contains-rest : (x : ℕ) (xs : List ℕ) (y : ℕ) → Contains xs y → Contains (x ∷ xs) y
contains-rest x xs y h = (suc h.0, omega (arith, h.1), h.2)

pub contains-none : (y : ℕ) → Contains [] y → ⊥
contains-none y h = absurd (omega (arith, h.1))

-- a literal is no constant
pub no-constant : (x : ℕ) (a : Atom) → is_of x a ≡ true → ¬ IsConstant a
no-constant x True h c = absurd (false≢true h)
no-constant x False h c = absurd (false≢true h)
no-constant x (Of l) h c = c

-- ---- a walk

pub rest-first : (walk : List ℕ) → rest_from (first_in walk) walk ≡ walk
rest-first [] = refl
rest-first (w ∷ walk) = cond-true (w == w) (w ∷ walk) (rest_from (Some w) walk) (eq-eqb w w refl)

rest-cut : (v : ℕ) (front back : List ℕ) → times v front ≡ 0 → rest_from (Some v) (front ++ v ∷ back) ≡ v ∷ back
rest-cut v [] back none = cond-true (v == v) (v ∷ back) (rest_from (Some v) back) (eq-eqb v v refl)
rest-cut v (x ∷ front) back none =
    cond-false (x == v) (x ∷ front ++ v ∷ back) (rest_from (Some v) (front ++ v ∷ back)) (ne_eqb x v (λ e. omega (arith, none, times-same v x front e)))
    ∙ rest-cut v front back (omega (arith, none))

-- behind a member comes the rest of the walk
pub rest-after : (v : ℕ) (walk : List ℕ) → ((u : ℕ) → times u walk ≤ 1) → 1 ≤ times v walk → rest_from (Some v) walk ≡ v ∷ rest_from (after_in v walk) walk
rest-after v walk once stands =
    let parts = cut v walk stands in
    let front = parts.0 in
    let back = parts.1 in
    let counted : (u : ℕ) → times u walk ≡ times u front + times u (v ∷ back) = λ u. ap (times u) parts.2 ∙ times-append u front (v ∷ back) in
    let none : times v front ≡ 0 = omega (arith, once v, counted v, times-same v v back refl) in
    let here : rest_from (Some v) walk ≡ v ∷ back = ap (rest_from (Some v)) parts.2 ∙ rest-cut v front back none in
    let next : after_in v walk ≡ first_in back = ap (after_in v) parts.2 ∙ after_in-cut v front back none in
    here ∙ ap (λ (l : List ℕ). v ∷ l) (sym (ap (λ (o : Option ℕ). rest_from o walk) next ∙ ap (rest_from (first_in back)) parts.2 ∙ behind v front back (λ u. omega (arith, once u, counted u))))
  where
    behind : (v : ℕ) (front back : List ℕ) → ((u : ℕ) → times u front + times u (v ∷ back) ≤ 1) → rest_from (first_in back) (front ++ v ∷ back) ≡ back
    behind v front [] once = refl
    behind v front (u ∷ back) once =
        ap (rest_from (Some u)) (sym (append_assoc front (v ∷ []) (u ∷ back)))
        ∙ rest-cut u (front ++ v ∷ []) back (omega (arith, once u, times-append u front (v ∷ []), times-same u u back refl))

-- a walk of a class has each member once
pub walk-has : (view : List Atom) (x v : ℕ) (walk : List ℕ) → IsWalk view x walk → IsMember view x v → times v walk ≡ 1
walk-has view x v walk is member = sym (times-count v walk) ∙ is.once v member

pub walk-once : (view : List Atom) (x : ℕ) (walk : List ℕ) → IsWalk view x walk → (v : ℕ) → times v walk ≤ 1
walk-once view x walk is v =
    ⊎_elim (λ (m : IsMember view x v). omega (arith, walk-has view x v walk is m)) (λ (n : ¬ IsMember view x v). omega (arith, times-count v walk, is.others v n)) (cases_member view x v)

-- nothing is left behind the last member
pub rest-none : (o : Option ℕ) (walk : List ℕ) → ((v : ℕ) → o ≡ Some v → ⊥) → rest_from o walk ≡ []
rest-none None walk h = refl
rest-none (Some v) walk h = absurd (h v refl)

-- ---- the ids at a variable

module _ (k : Kernel) (occurs : OccurrenceLists) (listed : IsListed k occurs) (queue : Ids) (ids : IsIds queue) (places : length k.cores < queue.places) (v : ℕ) (low : 1 ≤ v) where
  -- there is a place for each
  pub placed-at : (id : ℕ) → Occurs occurs v id → id < queue.places
  placed-at id o = let has = (listed.there v id low).0 o in omega (arith, (there-bounds k.cores id has.0 has.1).1, places)

  -- so they are no more than the places
  pub few-at : length (cores_at occurs v) ≤ queue.places
  few-at = ids-few (record { queued = cores_at occurs v; places = queue.places }) (record {
    once = λ id. listed.occurrences.once v id;
    placed = λ id some. placed-at id (contains-from_times (cores_at occurs v) id some);
    small = ids.small;
  })
