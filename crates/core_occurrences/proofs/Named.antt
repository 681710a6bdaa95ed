-- Lists of ids from lists of bodies.
use Rattle.std.proofs.Common.{◌≡◌, ◌↔◌, ℕ, zero, suc, ◌+◌, ◌-◌, ◌≤◌, ◌<◌, Bool, true, false, List, [], ◌∷◌, ◌++◌, length, map, get_or, replicate, refl, ap, sym, ◌∙◌, subst, arith, ⊎_elim}
use Rattle.std.specs.Prelude.{if◌then◌else◌, ◌==◌}
use Rattle.std.specs.List.{Contains, list_any}
use Rattle.std.proofs.lemmas.Bool.{cases_eq, cases_lt, eq-eqb, ne_eqb, cond-true, cond-false}
use Rattle.std.proofs.lemmas.List.{length-map, length_push, get_or_default, get_or_past, get_or_push, get_or_append_left}
use Rattle.index_ring.specs.Lists.{times, times_in_all, without}
use Rattle.index_ring.specs.Laws.{total_length}
use Rattle.core_occurrences.specs.Lists.{OccurrenceLists, IsOccurrences, Occurs, cores_at, with_id, no_occurrences, grown, added, removed}
use Rattle.core_occurrences.specs.Bodies.{named_by, named, AreInverse, AreBodies, swapped, exchanged}
use Rattle.core_occurrences.proofs.Occurring.{times-from_contains, contains-from_times}

-- ---- lists that are mapped

module _ (f : ℕ → ℕ) where
  pub get_or-maps : (lists : List (List ℕ)) (k : ℕ) → get_or (map (map f) lists) k [] ≡ map f (get_or lists k [])
  get_or-maps [] k = refl
  get_or-maps (l ∷ lists) zero = refl
  get_or-maps (l ∷ lists) (suc k) = get_or-maps lists k

  map-behind : (list : List ℕ) (x : ℕ) → map f (list ++ x ∷ []) ≡ map f list ++ f x ∷ []
  map-behind [] x = refl
  map-behind (y ∷ list) x = ap (λ (l : List ℕ). f y ∷ l) (map-behind list x)

  with_id-map : (id : ℕ) (vars : List ℕ) (first : ℕ) (lists : List (List ℕ)) → map (map f) (with_id id vars first lists) ≡ with_id (f id) vars first (map (map f) lists)
  with_id-map id vars first [] = refl
  with_id-map id vars first (l ∷ lists) = by (list_any (λ v. v == first) vars) (with_id-map id vars (first + 1) lists)
    where
      by : (t : Bool) → map (map f) (with_id id vars (first + 1) lists) ≡ with_id (f id) vars (first + 1) (map (map f) lists) → map f (if t then l ++ id ∷ [] else l) ∷ map (map f) (with_id id vars (first + 1) lists) ≡ (if t then map f l ++ f id ∷ [] else map f l) ∷ with_id (f id) vars (first + 1) (map (map f) lists)
      by true rest =
          ap (λ (h : List ℕ). h ∷ map (map f) (with_id id vars (first + 1) lists)) (map-behind l id)
          ∙ ap (λ (t : List (List ℕ)). (map f l ++ f id ∷ []) ∷ t) rest
      by false rest = ap (λ (t : List (List ℕ)). map f l ∷ t) rest

  maps-empties : (lists : List (List ℕ)) (n : ℕ) → map (map f) (lists ++ replicate n []) ≡ map (map f) lists ++ replicate n []
  maps-empties [] zero = refl
  maps-empties [] (suc n) = ap (λ (t : List (List ℕ)). [] ∷ t) (maps-empties [] n)
  maps-empties (l ∷ lists) n = ap (λ (t : List (List ℕ)). map f l ∷ t) (maps-empties lists n)

  total-maps : (lists : List (List ℕ)) → total_length (map (map f) lists) ≡ total_length lists
  total-maps [] = refl
  total-maps (l ∷ lists) = omega (arith, length-map l f, total-maps lists)

map-same : (f g : ℕ → ℕ) → ((x : ℕ) → f x ≡ g x) → (list : List ℕ) → map f list ≡ map g list
map-same f g same [] = refl
map-same f g same (x ∷ list) = ap (λ (y : ℕ). y ∷ map f list) (same x) ∙ ap (λ (l : List ℕ). g x ∷ l) (map-same f g same list)

maps-same : (f g : ℕ → ℕ) → ((x : ℕ) → f x ≡ g x) → (lists : List (List ℕ)) → map (map f) lists ≡ map (map g) lists
maps-same f g same [] = refl
maps-same f g same (l ∷ lists) =
    ap (λ (h : List ℕ). h ∷ map (map f) lists) (map-same f g same l) ∙ ap (λ (t : List (List ℕ)). map g l ∷ t) (maps-same f g same lists)

map-twice : (f h : ℕ → ℕ) (list : List ℕ) → map (λ x. h (f x)) list ≡ map h (map f list)
map-twice f h [] = refl
map-twice f h (x ∷ list) = ap (λ (l : List ℕ). h (f x) ∷ l) (map-twice f h list)

maps-twice : (f h : ℕ → ℕ) (lists : List (List ℕ)) → map (map (λ x. h (f x))) lists ≡ map (map h) (map (map f) lists)
maps-twice f h [] = refl
maps-twice f h (l ∷ lists) =
    ap (λ (k : List ℕ). k ∷ map (map (λ x. h (f x))) lists) (map-twice f h l) ∙ ap (λ (t : List (List ℕ)). map h (map f l) ∷ t) (maps-twice f h lists)

-- ---- and what they have, where each number has a name of its own

module _ (f g : ℕ → ℕ) (back : (x : ℕ) → g (f x) ≡ x) where
  test-kept : (x y : ℕ) → (f x == f y) ≡ (x == y)
  test-kept x y =
      ⊎_elim (λ (e : x ≡ y). eq-eqb (f x) (f y) (ap f e) ∙ sym (eq-eqb x y e))
      (λ (ne : x ≡ y → ⊥). ne_eqb (f x) (f y) (λ e. ne (sym (back x) ∙ ap g e ∙ back y)) ∙ sym (ne_eqb x y ne)) (cases_eq x y)

  pub times-map : (x : ℕ) (list : List ℕ) → times (f x) (map f list) ≡ times x list
  times-map x [] = refl
  times-map x (y ∷ list) =
      ap (λ (t : Bool). (if t then 1 else 0) + times (f x) (map f list)) (test-kept y x) ∙ ap (λ (n : ℕ). (if y == x then 1 else 0) + n) (times-map x list)

  all-times-map : (x : ℕ) (lists : List (List ℕ)) → times_in_all (f x) (map (map f) lists) ≡ times_in_all x lists
  all-times-map x [] = refl
  all-times-map x (l ∷ lists) = omega (arith, times-map x l, all-times-map x lists)

  without-map : (x : ℕ) (list : List ℕ) → map f (without x list) ≡ without (f x) (map f list)
  without-map x [] = refl
  without-map x (y ∷ list) = by (y == x) (test-kept y x) (without-map x list)
    where
      by : (t : Bool) → (f y == f x) ≡ t → map f (without x list) ≡ without (f x) (map f list) → map f (if t then without x list else y ∷ without x list) ≡ (if f y == f x then without (f x) (map f list) else f y ∷ without (f x) (map f list))
      by true e rest = rest ∙ sym (cond-true (f y == f x) _ _ e)
      by false e rest = ap (λ (l : List ℕ). f y ∷ l) rest ∙ sym (cond-false (f y == f x) _ _ e)

  all-without-map : (x : ℕ) (lists : List (List ℕ)) → map (map f) (map (without x) lists) ≡ map (without (f x)) (map (map f) lists)
  all-without-map x [] = refl
  all-without-map x (l ∷ lists) =
      ap (λ (h : List ℕ). h ∷ map (map f) (map (without x) lists)) (without-map x l) ∙ ap (λ (t : List (List ℕ)). without (f x) (map f l) ∷ t) (all-without-map x lists)

  pub contains-map : (x : ℕ) (list : List ℕ) → Contains (map f list) (f x) ↔ Contains list x
  contains-map x list = (
    λ h. contains-from_times list x (omega (arith, times-from_contains (map f list) (f x) h, times-map x list)),
    λ h. contains-from_times (map f list) (f x) (omega (arith, times-from_contains list x h, times-map x list)),
  )

-- ---- two lists of names, each the inverse of the other

module _ (bodies cores : List ℕ) (inverse : AreInverse bodies cores) where
  pub core-inside : (n : ℕ) → n < length cores → named_by cores n < length cores
  core-inside n low = ⊎_elim (λ lt. lt) past (cases_lt (named_by cores n) (length cores))
    where
      past : length cores ≤ named_by cores n → named_by cores n < length cores
      past high =
          let own : named_by bodies (named_by cores n) ≡ named_by cores n = get_or_past bodies (named_by cores n) (named_by cores n) (omega (arith, high, inverse.same)) in
          omega (arith, own, inverse.body n, low)

  pub body-inside : (n : ℕ) → n < length bodies → named_by bodies n < length bodies
  body-inside n low = ⊎_elim (λ lt. lt) past (cases_lt (named_by bodies n) (length bodies))
    where
      past : length bodies ≤ named_by bodies n → named_by bodies n < length bodies
      past high =
          let own : named_by cores (named_by bodies n) ≡ named_by bodies n = get_or_past cores (named_by bodies n) (named_by bodies n) (omega (arith, high, inverse.same)) in
          omega (arith, own, inverse.core n, low)

module _ (bodies cores : List ℕ) (held : OccurrenceLists) (k : AreBodies bodies cores held) where
  pub body-range : (id : ℕ) → 1 ≤ id → id ≤ held.ids → (1 ≤ named_by bodies id) × (named_by bodies id ≤ held.ids)
  body-range id low high = (
    ⊎_elim (λ (none : named_by bodies id < 1). absurd (let zero-is : named_by bodies id ≡ 0 = omega (arith, none) in omega (arith, low, sym (k.inverse.core id) ∙ ap (named_by cores) zero-is ∙ k.none))) (λ some. some) (cases_lt (named_by bodies id) 1),
    omega (arith, body-inside bodies cores k.inverse id (omega (arith, high, k.count, k.inverse.same)), k.count, k.inverse.same),
  )

  core-range : (b : ℕ) → 1 ≤ b → b ≤ held.ids → (1 ≤ named_by cores b) × (named_by cores b ≤ held.ids)
  core-range b low high = (
    ⊎_elim (λ (none : named_by cores b < 1). absurd (let zero-is : named_by cores b ≡ 0 = omega (arith, none) in omega (arith, low, b-is zero-is))) (λ some. some) (cases_lt (named_by cores b) 1),
    omega (arith, core-inside bodies cores k.inverse b (omega (arith, high, k.count)), k.count),
  )
    where
      b-is : named_by cores b ≡ 0 → b ≡ 0
      b-is z = sym (k.inverse.body b) ∙ ap (named_by bodies) (z ∙ sym k.none) ∙ k.inverse.body 0

  pub at-named : (v : ℕ) → cores_at (named cores held) v ≡ map (named_by cores) (cores_at held v)
  at-named v = get_or-maps (named_by cores) held.lists (v - 1)

  times-at : (v id : ℕ) → times id (cores_at (named cores held) v) ≡ times (named_by bodies id) (cores_at held v)
  times-at v id =
      ap (times id) (at-named v) ∙ ap (λ (i : ℕ). times i (map (named_by cores) (cores_at held v))) (sym (k.inverse.core id))
      ∙ times-map (named_by cores) (named_by bodies) k.inverse.body (named_by bodies id) (cores_at held v)

  -- what occurs in a core occurs in its body
  pub occurs-body : (v id : ℕ) → Occurs (named cores held) v id ↔ Occurs held v (named_by bodies id)
  occurs-body v id = (
    λ o. contains-from_times (cores_at held v) (named_by bodies id) (omega (arith, times-from_contains (cores_at (named cores held) v) id o, times-at v id)),
    λ o. contains-from_times (cores_at (named cores held) v) id (omega (arith, times-from_contains (cores_at held v) (named_by bodies id) o, times-at v id)),
  )

  pub listed-named : IsOccurrences (named cores held)
  listed-named = record {
    once = λ v id. omega (arith, times-at v id, k.listed.once v (named_by bodies id));
    inside = λ v id o.
        let body = k.listed.inside v (named_by bodies id) ((occurs-body v id).0 o) in
        let range = core-range (named_by bodies id) body.0 body.1 in
        (omega (arith, range.0, k.inverse.core id), omega (arith, range.1, k.inverse.core id));
    small = omega (arith, k.listed.small, length-map held.lists (map (named_by cores)), total-maps (named_by cores) held.lists);
  }

  pub named-added : (id : ℕ) (vars : List ℕ) → named cores (added held (named_by bodies id) vars) ≡ added (named cores held) id vars
  named-added id vars =
      ap (λ (ls : List (List ℕ)). record { lists = ls; ids = held.ids; room = held.room - length vars })
      (with_id-map (named_by cores) (named_by bodies id) vars 1 held.lists ∙ ap (λ (i : ℕ). with_id i vars 1 (map (map (named_by cores)) held.lists)) (k.inverse.core id))

  pub named-removed : (id : ℕ) → named cores (removed held (named_by bodies id)) ≡ removed (named cores held) id
  named-removed id =
      ap (λ (ls : List (List ℕ)). record { lists = ls; ids = held.ids; room = held.room + times_in_all (named_by bodies id) held.lists })
      (all-without-map (named_by cores) (named_by bodies) k.inverse.body (named_by bodies id) held.lists ∙ ap (λ (i : ℕ). map (without i) (map (map (named_by cores)) held.lists)) (k.inverse.core id))
      ∙ ap (λ (n : ℕ). record { lists = map (without id) (map (map (named_by cores)) held.lists); ids = held.ids; room = held.room + n })
      (sym (all-times-map (named_by cores) (named_by bodies) k.inverse.body (named_by bodies id) held.lists) ∙ ap (λ (i : ℕ). times_in_all i (map (map (named_by cores)) held.lists)) (k.inverse.core id))

  -- what is kept where the lists change
  pub bodies-changed : (new : OccurrenceLists) → new.ids ≡ held.ids → IsOccurrences new → AreBodies bodies cores new
  bodies-changed new same is = record { inverse = k.inverse; none = k.none; count = omega (arith, k.count, same); listed = is }

  -- further bodies, each with its own number for an id
  module _ (bodies1 cores1 : List ℕ) (same-bodies : (b : ℕ) → named_by bodies1 b ≡ named_by bodies b) (same-cores : (b : ℕ) → named_by cores1 b ≡ named_by cores b) where
    pub named-grown : (vars ids nodes : ℕ) → named cores1 (grown held vars ids nodes) ≡ grown (named cores held) vars ids nodes
    named-grown vars ids nodes =
        ap (λ (ls : List (List ℕ)). record { lists = ls; ids = held.ids + ids; room = held.room + nodes })
        (maps-same (named_by cores1) (named_by cores) same-cores (held.lists ++ replicate vars []) ∙ maps-empties (named_by cores) held.lists vars)

    pub bodies-grown : (new : OccurrenceLists) → length bodies1 ≡ new.ids + 1 → length cores1 ≡ new.ids + 1 → IsOccurrences new → AreBodies bodies1 cores1 new
    bodies-grown new long-bodies long-cores is = record {
      inverse = record {
        body = λ b. same-bodies (named_by cores1 b) ∙ ap (named_by bodies) (same-cores b) ∙ k.inverse.body b;
        core = λ id. same-cores (named_by bodies1 id) ∙ ap (named_by cores) (same-bodies id) ∙ k.inverse.core id;
        same = long-bodies ∙ sym long-cores;
      };
      none = same-cores 0 ∙ k.none;
      count = long-cores;
      listed = is;
    }

  -- two ids that have exchanged their bodies
  module _ (bodies1 cores1 : List ℕ) (first second : ℕ) (inverse : AreInverse bodies1 cores1) (swaps : (b : ℕ) → named_by cores1 b ≡ swapped first second (named_by cores b)) where
    pub named-exchanged : named cores1 held ≡ exchanged (named cores held) first second
    named-exchanged =
        ap (λ (ls : List (List ℕ)). record { lists = ls; ids = held.ids; room = held.room })
        (maps-same (named_by cores1) (λ b. swapped first second (named_by cores b)) swaps held.lists ∙ maps-twice (named_by cores) (swapped first second) held.lists)

    pub bodies-exchanged : 1 ≤ first → 1 ≤ second → length cores1 ≡ length cores → AreBodies bodies1 cores1 held
    bodies-exchanged one two long = record {
      inverse = inverse;
      none = swaps 0 ∙ ap (swapped first second) k.none ∙ unmoved;
      count = long ∙ k.count;
      listed = k.listed;
    }
      where
        unmoved : swapped first second 0 ≡ 0
        unmoved = cond-false (0 == first) _ _ (ne_eqb 0 first (λ e. omega (arith, e, one))) ∙ cond-false (0 == second) _ _ (ne_eqb 0 second (λ e. omega (arith, e, two)))

-- no id, and one number that is none
pub bodies-none : (vars : ℕ) → IsOccurrences (no_occurrences vars) → AreBodies (0 ∷ []) (0 ∷ []) (no_occurrences vars)
bodies-none vars is = record {
  inverse = record { body = own-twice; core = own-twice; same = refl };
  none = refl;
  count = refl;
  listed = is;
}
  where
    own-twice : (b : ℕ) → named_by (0 ∷ []) (named_by (0 ∷ []) b) ≡ b
    own-twice zero = refl
    own-twice (suc b) = refl

pub named-none : (cores : List ℕ) (vars : ℕ) → named cores (no_occurrences vars) ≡ no_occurrences vars
named-none cores vars = ap (λ (ls : List (List ℕ)). record { lists = ls; ids = 0; room = 0 }) (maps-empties (named_by cores) [] vars)

-- a number behind all, for itself
pub named-push : (names : List ℕ) (x b : ℕ) → x ≡ length names → named_by (names ++ x ∷ []) b ≡ named_by names b
named-push names x b x-is =
    ⊎_elim (λ (low : b < length names). get_or_append_left names (x ∷ []) b b low)
    (λ (high : length names ≤ b).
    ⊎_elim (λ (e : b ≡ length names). get_or_push names x b b (sym e) ∙ x-is ∙ sym e ∙ sym (get_or_past names b b high))
    (λ (ne : b ≡ length names → ⊥). get_or_past (names ++ x ∷ []) b b (omega (arith, high, ne, length_push names x)) ∙ sym (get_or_past names b b high))
    (cases_eq b (length names)))
    (cases_lt b (length names))

-- a name that is read where it stands
pub name-read : (names slice : List ℕ) (i : ℕ) → slice ≡ names → i < length names → get_or slice i 0 ≡ named_by names i
name-read names slice i same low = ap (λ (l : List ℕ). get_or l i 0) same ∙ get_or_default names i 0 i low

-- the body of an id that there is a place for
module _ (bodies cores : List ℕ) (held self : OccurrenceLists) (k : AreBodies bodies cores held) (view : named cores held ≡ self) (id : ℕ) (range : (1 ≤ id) × (id ≤ self.ids)) (slice : List ℕ) (same : slice ≡ bodies) where
  high : id ≤ held.ids
  high = omega (arith, range.1, ap (λ (o : OccurrenceLists). o.ids) view)

  pub body-read : get_or slice id 0 ≡ named_by bodies id
  body-read = name-read bodies slice id same (omega (arith, high, k.count, k.inverse.same))

  pub body-read-range : (1 ≤ get_or slice id 0) × (get_or slice id 0 ≤ held.ids)
  body-read-range = subst (λ (b : ℕ). (1 ≤ b) × (b ≤ held.ids)) (sym body-read) (body-range bodies cores held k id range.0 high)

  -- what occurs in it occurs in the core
  pub occurs-read : (v : ℕ) → Occurs held v (get_or slice id 0) ↔ Occurs self v id
  occurs-read v = (
    λ o. subst (λ (s : OccurrenceLists). Occurs s v id) view ((occurs-body bodies cores held k v id).1 (subst (Occurs held v) body-read o)),
    λ o. subst (Occurs held v) (sym body-read) ((occurs-body bodies cores held k v id).0 (subst (λ (s : OccurrenceLists). Occurs s v id) (sym view) o)),
  )

  pub added-read : (vars : List ℕ) (new : OccurrenceLists) → new ≡ added held (get_or slice id 0) vars → named cores new ≡ added self id vars
  added-read vars new is =
      ap (named cores) is ∙ ap (λ (b : ℕ). named cores (added held b vars)) body-read ∙ named-added bodies cores held k id vars ∙ ap (λ (s : OccurrenceLists). added s id vars) view

  pub removed-read : (new : OccurrenceLists) → new ≡ removed held (get_or slice id 0) → named cores new ≡ removed self id
  removed-read new is =
      ap (named cores) is ∙ ap (λ (b : ℕ). named cores (removed held b)) body-read ∙ named-removed bodies cores held k id ∙ ap (λ (s : OccurrenceLists). removed s id) view
