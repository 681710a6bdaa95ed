-- Laws of values with their places, and of the tally of them.
use Rattle.std.proofs.Common.{◌≡◌, ℕ, zero, suc, ◌+◌, ◌≤◌, ◌<◌, ◌^◌, Bool, true, false, cond, ◌&&◌, ◌||◌, ◌⊎◌, inl, inr, List, [], ◌∷◌, ◌++◌, map, length, get_or, take, drop, ℤ, refl, ap, sym, ◌∙◌, subst, arith, ⊎_elim, append_assoc, add-one}
use Rattle.std.specs.Prelude.{unsigned_abs, Option, None, Some}
use Rattle.std.specs.Option.{is_some}
use Rattle.std.specs.List.{AllByRecursion}
use Rattle.std.specs.BTreeMap.{BTreeMap, get, Updates}
use Rattle.std.specs.Ordering.{int_cmp, int_eq}
use Rattle.std.proofs.Math.Seq.{drop-cons}
use Rattle.std.proofs.lemmas.Bool.{false≢true, false_from_ne_true}
use Rattle.std.proofs.lemmas.List.{take_more, take_all, drop_all}
use Rattle.std.proofs.lemmas.Cmp.{tied_itself, int_cmp_total}
use Rattle.std.proofs.lemmas.Map.Lookups.{exact_signed}
use Rattle.order_ints.specs.declared.atom.Atom.{Atom}
use Rattle.order_ints.specs.declared.order_int.OrdInt.{OrdInt}
use Rattle.order_ints.specs.OrderLevels.{levels_of, values_of, is_among}
use Rattle.order_ints.specs.OrderMade.{AreSmall}
use Rattle.order_ints.proofs.Everywhere.{levels_small}
use Rattle.core_forms.specs.WellFormed.{AreSound}
use Rattle.alldiff_rules.specs.declared.table.Places.{Places}
use Rattle.alldiff_rules.specs.declared.tally.Tally.{Tally}
use Rattle.alldiff_rules.specs.Table.{joined, Shows}
use Rattle.alldiff_rules.specs.Members.{int_at, all_values, number_new, number_of_values}
use Rattle.alldiff_rules.specs.Tally.{placed_at, placed_from, listed_values, IsPlaced, IsTally}
use Rattle.alldiff_rules.proofs.Pigeonhole.{int_eq-same, among-first, among-later, among-cases}
use Rattle.alldiff_rules.proofs.Shown.{same-shown}
use Rattle.alldiff_rules.proofs.Tables.{put-shown}

-- the values of the levels, with a place
pub placed-levels : (k : ℕ) (ls : List (ℤ × Atom)) → map (λ (l : ℤ × Atom). (l.0, k)) ls ≡ placed_at k (map (λ (l : ℤ × Atom). l.0) ls)
placed-levels k [] = refl
placed-levels k (l ∷ ls) = ap (λ (es : List (ℤ × ℕ)). (l.0, k) ∷ es) (placed-levels k ls)

-- a level more, and a member more
pub put-level : (k : ℕ) (so_far more : List (ℤ × ℕ)) (v : ℤ) (x : Atom) (left rest : List (ℤ × Atom)) (all : List (ℤ × ℕ)) → more ≡ so_far ++ (v, k) ∷ [] → left ≡ (v, x) ∷ rest → so_far ++ map (λ (l : ℤ × Atom). (l.0, k)) left ≡ all → more ++ map (λ (l : ℤ × Atom). (l.0, k)) rest ≡ all
put-level k so_far more v x left rest all pushed next before =
    ap (λ (es : List (ℤ × ℕ)). es ++ map (λ (l : ℤ × Atom). (l.0, k)) rest) pushed ∙ append_assoc so_far ((v, k) ∷ []) (map (λ (l : ℤ × Atom). (l.0, k)) rest)
    ∙ ap (λ (ls : List (ℤ × Atom)). so_far ++ map (λ (l : ℤ × Atom). (l.0, k)) ls) (sym next) ∙ before

pub put-member : (xs : List OrdInt) (k : ℕ) (a : OrdInt) (so_far more all : List (ℤ × ℕ)) → k < length xs → a ≡ get_or xs k a → more ≡ so_far ++ placed_at k (values_of a) → so_far ++ placed_from k (drop k xs) ≡ all → more ++ placed_from (k + 1) (drop (k + 1) xs) ≡ all
put-member xs k a so_far more all lt read is before =
    let split : drop k xs ≡ a ∷ drop (k + 1) xs = drop-cons xs k a lt ∙ (λ i. sym read i ∷ drop (sym (add-one k) i) xs) in
    ap (λ (es : List (ℤ × ℕ)). es ++ placed_from (k + 1) (drop (k + 1) xs)) is ∙ append_assoc so_far (placed_at k (values_of a)) (placed_from (k + 1) (drop (k + 1) xs))
    ∙ ap (λ (ys : List OrdInt). so_far ++ placed_from k ys) (sym split) ∙ before

-- what is listed with a place, one after another
pub placed-left : (v : ℤ) (i : ℕ) (xs ys : List (ℤ × ℕ)) → IsPlaced v i xs → IsPlaced v i (xs ++ ys)
placed-left v i [] ys h = absurd h
placed-left v i (e ∷ xs) ys (inl h) = inl h
placed-left v i (e ∷ xs) ys (inr h) = inr (placed-left v i xs ys h)

pub placed-right : (v : ℤ) (i : ℕ) (xs ys : List (ℤ × ℕ)) → IsPlaced v i ys → IsPlaced v i (xs ++ ys)
placed-right v i [] ys h = h
placed-right v i (e ∷ xs) ys h = inr (placed-right v i xs ys h)

pub placed-cases : (v : ℤ) (i : ℕ) (xs ys : List (ℤ × ℕ)) → IsPlaced v i (xs ++ ys) → IsPlaced v i xs ⊎ IsPlaced v i ys
placed-cases v i [] ys h = inr h
placed-cases v i (e ∷ xs) ys (inl h) = inl (inl h)
placed-cases v i (e ∷ xs) ys (inr h) = ⊎_elim (λ (f : IsPlaced v i xs). inl (inr f)) (λ (f : IsPlaced v i ys). inr f) (placed-cases v i xs ys h)

-- a listed value has a place
pub placed-among : (v : ℤ) (i : ℕ) (xs : List (ℤ × ℕ)) → IsPlaced v i xs → is_among v (listed_values xs) ≡ true
placed-among v i [] h = absurd h
placed-among v i (e ∷ xs) (inl h) = subst (λ (u : ℤ). is_among v (u ∷ listed_values xs) ≡ true) (sym h.0) (among-first v (listed_values xs))
placed-among v i (e ∷ xs) (inr h) = among-later v e.0 (listed_values xs) (placed-among v i xs h)

pub among-placed : (v : ℤ) (xs : List (ℤ × ℕ)) → is_among v (listed_values xs) ≡ true → (i : ℕ) × IsPlaced v i xs
among-placed v [] h = absurd (false≢true h)
among-placed v (e ∷ xs) h = ⊎_elim (λ (s : e.0 ≡ v). (e.1, inl (s, refl))) (λ (s : is_among v (listed_values xs) ≡ true). let p = among-placed v xs s in (p.0, inr p.1)) (among-cases v e.0 (listed_values xs) h)

-- those of members, by their places
placed_at-among : (v : ℤ) (i k : ℕ) (vs : List ℤ) → IsPlaced v i (placed_at k vs) → (k ≡ i) × (is_among v vs ≡ true)
placed_at-among v i k [] h = absurd h
placed_at-among v i k (w ∷ vs) (inl h) = (h.1, subst (λ (u : ℤ). is_among v (u ∷ vs) ≡ true) (sym h.0) (among-first v vs))
placed_at-among v i k (w ∷ vs) (inr h) = let p = placed_at-among v i k vs h in (p.0, among-later v w vs p.1)

among-placed_at : (v : ℤ) (k : ℕ) (vs : List ℤ) → is_among v vs ≡ true → IsPlaced v k (placed_at k vs)
among-placed_at v k [] h = absurd (false≢true h)
among-placed_at v k (w ∷ vs) h = ⊎_elim (λ (s : w ≡ v). inl (s, refl)) (λ (s : is_among v vs ≡ true). inr (among-placed_at v k vs s)) (among-cases v w vs h)

abbrev HasAt : List OrdInt → ℤ → ℕ → Type 0
HasAt xs v i = (i < length xs) × (is_among v (values_of (int_at xs i)) ≡ true)

placed-from : (v : ℤ) (i k : ℕ) (xs : List OrdInt) → IsPlaced v i (placed_from k xs) → (j : ℕ) × (k + j ≡ i) × HasAt xs v j
placed-from v i k [] h = absurd h
placed-from v i k (a ∷ xs) h = ⊎_elim
    (λ (f : IsPlaced v i (placed_at k (values_of a))). let p = placed_at-among v i k (values_of a) f in (0, omega (arith, p.0), (omega arith, p.1)))
    (λ (f : IsPlaced v i (placed_from (k + 1) xs)). let p = placed-from v i (k + 1) xs f in (suc p.0, omega (arith, p.1), (omega (arith, p.2.0), p.2.1)))
    (placed-cases v i (placed_at k (values_of a)) (placed_from (k + 1) xs) h)

from-placed : (v : ℤ) (k j : ℕ) (xs : List OrdInt) → HasAt xs v j → IsPlaced v (k + j) (placed_from k xs)
from-placed v k j [] h = absurd (omega (arith, h.0))
from-placed v k zero (a ∷ xs) h =
    let e : k ≡ k + 0 = omega arith in
    subst (λ (n : ℕ). IsPlaced v n (placed_from k (a ∷ xs))) e (placed-left v k (placed_at k (values_of a)) (placed_from (k + 1) xs) (among-placed_at v k (values_of a) h.1))
from-placed v k (suc j) (a ∷ xs) h =
    let e : (k + 1) + j ≡ k + suc j = omega arith in
    placed-right v (k + suc j) (placed_at k (values_of a)) (placed_from (k + 1) xs) (subst (λ (n : ℕ). IsPlaced v n (placed_from (k + 1) xs)) e (from-placed v (k + 1) j xs (omega (arith, h.0), h.1)))

pub member-has : (v : ℤ) (i : ℕ) (xs : List OrdInt) → IsPlaced v i (placed_from 0 xs) → (i < length xs) × (is_among v (values_of (int_at xs i)) ≡ true)
member-has v i xs h = let p = placed-from v i 0 xs h in let e : p.0 ≡ i = omega (arith, p.1) in subst (HasAt xs v) e p.2

pub has-member : (v : ℤ) (i : ℕ) (xs : List OrdInt) → (i < length xs) × (is_among v (values_of (int_at xs i)) ≡ true) → IsPlaced v i (placed_from 0 xs)
has-member v i xs h = let e : 0 + i ≡ i = omega arith in subst (λ (n : ℕ). IsPlaced v n (placed_from 0 xs)) e (from-placed v 0 i xs h)

-- the listed values are those of all members
listed-append : (xs ys : List (ℤ × ℕ)) → listed_values (xs ++ ys) ≡ listed_values xs ++ listed_values ys
listed-append [] ys = refl
listed-append (e ∷ xs) ys = ap (λ (vs : List ℤ). e.0 ∷ vs) (listed-append xs ys)

listed-placed_at : (k : ℕ) (vs : List ℤ) → listed_values (placed_at k vs) ≡ vs
listed-placed_at k [] = refl
listed-placed_at k (v ∷ vs) = ap (λ (ws : List ℤ). v ∷ ws) (listed-placed_at k vs)

pub listed-all : (k : ℕ) (xs : List OrdInt) → listed_values (placed_from k xs) ≡ all_values xs
listed-all k [] = refl
listed-all k (a ∷ xs) =
    listed-append (placed_at k (values_of a)) (placed_from (k + 1) xs) ∙ (λ i. listed-placed_at k (values_of a) i ++ listed-all (k + 1) xs i)

-- how many are new depends on which were counted, and not on how often or in which order
pub number-same : (c d vs : List ℤ) → ((u : ℤ) → is_among u c ≡ is_among u d) → number_new c vs ≡ number_new d vs
number-same c d [] same = refl
number-same c d (v ∷ vs) same =
    let more : number_new (v ∷ c) vs ≡ number_new (v ∷ d) vs = number-same (v ∷ c) (v ∷ d) vs (λ u. ap (λ t. int_eq v u || t) (same u)) in
    λ i. cond (same v i) (number-same c d vs same i) (suc (more i))

among-append : (u : ℤ) (xs ys : List ℤ) → is_among u (xs ++ ys) ≡ (is_among u xs || is_among u ys)
among-append u [] ys = refl
among-append u (x ∷ xs) ys = ap (λ t. int_eq x u || t) (among-append u xs ys) ∙ turn (int_eq x u) (is_among u xs) (is_among u ys)
  where
    turn : (r s t : Bool) → (r || (s || t)) ≡ ((r || s) || t)
    turn true s t = refl
    turn false s t = refl

-- a value behind others is counted as one in front of them
among-behind : (u v : ℤ) (c : List ℤ) → is_among u (c ++ v ∷ []) ≡ is_among u (v ∷ c)
among-behind u v c = among-append u c (v ∷ []) ∙ turn (is_among u c) (int_eq v u)
  where
    turn : (s t : Bool) → (s || (t || false)) ≡ (t || s)
    turn true true = refl
    turn true false = refl
    turn false true = refl
    turn false false = refl

-- one that was counted changes nothing
among-again : (u v : ℤ) (c : List ℤ) → is_among v c ≡ true → is_among u (v ∷ c) ≡ is_among u c
among-again u v c there = by (int_eq v u) refl
  where
    by : (t : Bool) → int_eq v u ≡ t → (t || is_among u c) ≡ is_among u c
    by true e = sym (subst (λ (w : ℤ). is_among w c ≡ true) (int_eq-same v u e) there)
    by false e = refl

-- the count with one value more
pub count-step : (n : ℕ) (c : List ℤ) (v : ℤ) (vs : List ℤ) (seen : Bool) (all : ℕ) → seen ≡ is_among v c → n + number_new c (v ∷ vs) ≡ all → cond seen n (suc n) + number_new (c ++ v ∷ []) vs ≡ all
count-step n c v vs seen all is before = by (is_among v c) refl is before
  where
    behind : number_new (c ++ v ∷ []) vs ≡ number_new (v ∷ c) vs
    behind = number-same (c ++ v ∷ []) (v ∷ c) vs (λ u. among-behind u v c)

    by : (t : Bool) → is_among v c ≡ t → seen ≡ t → n + cond t (number_new c vs) (suc (number_new (v ∷ c) vs)) ≡ all → cond seen n (suc n) + number_new (c ++ v ∷ []) vs ≡ all
    by true there e h =
        let old : number_new (c ++ v ∷ []) vs ≡ number_new c vs = behind ∙ number-same (v ∷ c) c vs (λ u. among-again u v c there) in
        (λ i. cond (e i) n (suc n) + old i) ∙ h
    by false there e h =
        let turn : suc n + number_new (v ∷ c) vs ≡ n + suc (number_new (v ∷ c) vs) = omega arith in
        (λ i. cond (e i) n (suc n) + behind i) ∙ turn ∙ h

-- of the entries so far the table tells which values are there
module _ (entries : List (ℤ × ℕ)) (i : ℕ) (table : BTreeMap ℤ Places) (shown : (v : ℤ) → Shows (λ j. IsPlaced v j (take i entries)) (get int_cmp table v)) where
  pub seen-among : (v : ℤ) → is_some (get int_cmp table v) ≡ is_among v (listed_values (take i entries))
  seen-among v = by (get int_cmp table v) (shown v)
    where
      by : (o : Option Places) → Shows (λ j. IsPlaced v j (take i entries)) o → is_some o ≡ is_among v (listed_values (take i entries))
      by None none = sym (false_from_ne_true (is_among v (listed_values (take i entries))) (λ e. let p = among-placed v (take i entries) e in none p.0 p.1))
      by (Some h) is = sym (placed-among v h.first (take i entries) is.0)

  -- and so it does with one entry more
  module _ (v : ℤ) (k : ℕ) (d : ℤ × ℕ) (lt : i < length entries) (read : get_or entries i d ≡ (v, k)) where
    more-taken : take (i + 1) entries ≡ take i entries ++ (v, k) ∷ []
    more-taken = take_more entries i d lt ∙ ap (λ (e : ℤ × ℕ). take i entries ++ e ∷ []) read

    less-left : drop i entries ≡ (v, k) ∷ drop (i + 1) entries
    less-left = drop-cons entries i d lt ∙ (λ j. read j ∷ drop (sym (add-one i) j) entries)

    pub entry-shown : (new : BTreeMap ℤ Places) → Updates int_cmp table new v (Some (joined (get int_cmp table v) k)) → (u : ℤ) → Shows (λ j. IsPlaced u j (take (i + 1) entries)) (get int_cmp new u)
    entry-shown new updates u =
        subst (λ (es : List (ℤ × ℕ)). Shows (λ j. IsPlaced u j es) (get int_cmp new u)) (sym more-taken)
        (put-shown int_cmp exact_signed (tied_itself int_cmp_total) (λ w j. IsPlaced w j (take i entries)) (λ w j. IsPlaced w j (take i entries ++ (v, k) ∷ [])) v k
        (placed-right v k (take i entries) ((v, k) ∷ []) (inl (refl, refl)))
        (λ w j h. placed-left w j (take i entries) ((v, k) ∷ []) h)
        last table new updates shown u)
      where
        last : (w : ℤ) (j : ℕ) → IsPlaced w j (take i entries ++ (v, k) ∷ []) → IsPlaced w j (take i entries) ⊎ ((w ≡ v) × (j ≡ k))
        last w j h = ⊎_elim (λ (f : IsPlaced w j (take i entries)). inl f) (λ (f : IsPlaced w j ((v, k) ∷ [])). inr (one f)) (placed-cases w j (take i entries) ((v, k) ∷ []) h)
          where
            one : IsPlaced w j ((v, k) ∷ []) → (w ≡ v) × (j ≡ k)
            one (inl f) = (sym f.0, sym f.1)
            one (inr f) = absurd f

    pub entry-count : (n m : ℕ) (seen : Bool) → seen ≡ is_some (get int_cmp table v) → m ≡ cond seen n (suc n) → n + number_new (listed_values (take i entries)) (listed_values (drop i entries)) ≡ number_new [] (listed_values entries) → m + number_new (listed_values (take (i + 1) entries)) (listed_values (drop (i + 1) entries)) ≡ number_new [] (listed_values entries)
    entry-count n m seen is more before =
        let taken : listed_values (take (i + 1) entries) ≡ listed_values (take i entries) ++ v ∷ [] = ap listed_values more-taken ∙ listed-append (take i entries) ((v, k) ∷ []) in
        (λ j. more j + number_new (taken j) (listed_values (drop (i + 1) entries)))
        ∙ count-step n (listed_values (take i entries)) v (listed_values (drop (i + 1) entries)) seen (number_new [] (listed_values entries)) (is ∙ seen-among v)
        (ap (λ (es : List (ℤ × ℕ)). n + number_new (listed_values (take i entries)) (listed_values es)) (sym less-left) ∙ before)

-- the tally of the values of members
module _ (xs : List OrdInt) (tally : Tally) (is : IsTally (placed_from 0 xs) tally) where
  pub values-shown : (v : ℤ) → Shows (λ i. (i < length xs) × (is_among v (values_of (int_at xs i)) ≡ true)) (get int_cmp tally.values v)
  values-shown v =
      same-shown (λ i. IsPlaced v i (placed_from 0 xs)) (λ i. (i < length xs) × (is_among v (values_of (int_at xs i)) ≡ true))
      (λ i h. member-has v i xs h) (λ i h. has-member v i xs h) (get int_cmp tally.values v) (is.values v)

  pub count-is : tally.count ≡ number_of_values xs
  count-is = is.count ∙ ap (number_new []) (listed-all 0 xs)

-- a test of the count, where the tally is wanted
pub count-where : (xs : List OrdInt) (tally : Tally) (wanted : Bool) → (wanted ≡ true → IsTally (placed_from 0 xs) tally) → (test : ℕ → Bool) → (wanted && test tally.count) ≡ (wanted && test (number_of_values xs))
count-where xs tally true is test = ap test (count-is xs tally (is refl))
count-where xs tally false is test = refl

-- all entries were taken
pub tally-done : (entries : List (ℤ × ℕ)) (i : ℕ) (table : BTreeMap ℤ Places) (n : ℕ) → length entries ≤ i → ((v : ℤ) → Shows (λ j. IsPlaced v j (take i entries)) (get int_cmp table v)) → n + number_new (listed_values (take i entries)) (listed_values (drop i entries)) ≡ number_new [] (listed_values entries) → IsTally entries (record { values = table; count = n })
tally-done entries i table n le shown left = record {
  values = λ v. subst (λ (es : List (ℤ × ℕ)). Shows (λ j. IsPlaced v j es) (get int_cmp table v)) (take_all i entries le) (shown v);
  count =
      let none : number_new (listed_values (take i entries)) (listed_values (drop i entries)) ≡ 0 = ap (λ (es : List (ℤ × ℕ)). number_new (listed_values (take i entries)) (listed_values es)) (drop_all i entries le) in
      omega (arith, none, left);
}

pub few-step : (seen : Bool) (n m i : ℕ) → m ≡ cond seen n (suc n) → n ≤ i → m ≤ i + 1
few-step true n m i is le = omega (arith, is, le)
few-step false n m i is le = omega (arith, is, le)

-- the values of sound members are small
small-levels : (ls : List (ℤ × Atom)) → AllByRecursion (λ (level : ℤ × Atom). unsigned_abs level.0 < 2 ^ 100) ls → AreSmall (map (λ (l : ℤ × Atom). l.0) ls)
small-levels [] all = tt
small-levels (l ∷ ls) all = (all.0, small-levels ls all.1)

small-append : (vs ws : List ℤ) → AreSmall vs → AreSmall ws → AreSmall (vs ++ ws)
small-append [] ws first second = second
small-append (v ∷ vs) ws first second = (first.0, small-append vs ws first.1 second)

small-values : (xs : List OrdInt) → AreSound xs → AreSmall (all_values xs)
small-values [] sound = tt
small-values (a ∷ xs) sound = small-append (values_of a) (all_values xs) (small-levels (levels_of a) (levels_small a sound.0.0)) (small-values xs sound.1)

pub small-placed : (xs : List OrdInt) → AreSound xs → AreSmall (listed_values (placed_from 0 xs))
small-placed xs sound = subst AreSmall (sym (listed-all 0 xs)) (small-values xs sound)

pub small-at : (entries : List (ℤ × ℕ)) (i : ℕ) (d : ℤ × ℕ) → i < length entries → AreSmall (listed_values entries) → unsigned_abs (get_or entries i d).0 < 2 ^ 100
small-at [] i d lt small = absurd (omega arith)
small-at (e ∷ entries) zero d lt small = small.0
small-at (e ∷ entries) (suc i) d lt small = small-at entries i d (omega arith) small.1
