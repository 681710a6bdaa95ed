-- The parts of a compound core are together smaller than the core, form by form.
use Rattle.std.proofs.Common.{◌≡◌, ℕ, ◌+◌, ◌<◌, ◌≤◌, Bool, true, false, ◌&&◌, List, [], ◌∷◌, ◌++◌, map, length, take, drop, refl, arith}
use Rattle.std.specs.Prelude.{if◌then◌else◌, ◌==◌, ℤ}
use Rattle.std.proofs.lemmas.Bool.{false≢true, not-true}
use Rattle.std.proofs.lemmas.List.{length-append, length-take, length-drop}
use Rattle.order_ints.specs.declared.atom.Atom.{Atom}
use Rattle.order_ints.specs.declared.atom.Atom.TheVariants.{True}
use Rattle.order_ints.specs.declared.order_int.OrdInt.{OrdInt}
use Rattle.order_ints.specs.OrderLevels.{values_of}
use Rattle.core_cost.specs.Network.{half_up}
use Rattle.core_forms.specs.declared.form.Core.{Core}
use Rattle.core_forms.specs.declared.form.Core.TheVariants.{Ladder, Clause, Parity, Conj, Comp, LeqR, EqR, Sum3, Count, Sum, Max, AllDiff, Amo, Prod, DivMod, Lex}
use Rattle.core_forms.specs.Basic.{is_basic_of}
use Rattle.core_forms.specs.Cores.{costs_of}
use Rattle.core_forms.specs.Cost.{cost_of}
use Rattle.core_forms.specs.Shapes.{pairs_of_steps}
use Rattle.core_forms.specs.Sums.{ascending, gap_of}
use Rattle.decompose.specs.DifferingParts.{all_values, marks_from, marked, mark_cores, all_mark_cores, are_true, reached_cores, differing_parts}
use Rattle.decompose.specs.LexParts.{last_order, lex_parts}
use Rattle.decompose.specs.SumParts.{fresh_of, sum_parts}
use Rattle.network_encode.specs.CountParts.{half_int, half_fresh, half_cores, halves_parts, count_parts}
use Rattle.network_encode.specs.MergeParts.{units_of, odd_steps, even_steps, further_odd, all_even, row_cores, half_sums, comparators, merged_int, network_parts, merge_parts}
use Rattle.network_encode.proofs.MergeStands.{units-some}
use Rattle.network_encode.proofs.NetworkLaws.{compound_sum}
use Rattle.network_encode.proofs.UnitLaws.{length-odd}
use Rattle.core_parts.specs.Parts.{parts_at, is_compound_of}
use Rattle.core_parts.specs.Size.{members_of, size_of, sizes_of}

-- ---- the members of all cores

abbrev total_members : List Core → ℕ
total_members [] = 0
total_members (core ∷ cores) = members_of core + total_members cores

sizes-sum : (cs : List Core) → sizes_of cs ≡ costs_of cs + total_members cs
sizes-sum [] = refl
sizes-sum (c ∷ cs) = omega (arith, sizes-sum cs)

members-append : (cs ds : List Core) → total_members (cs ++ ds) ≡ total_members cs + total_members ds
members-append [] ds = omega arith
members-append (c ∷ cs) ds = omega (arith, members-append cs ds)

none-append : (cs ds : List Core) → total_members cs ≡ 0 → total_members ds ≡ 0 → total_members (cs ++ ds) ≡ 0
none-append cs ds h k = omega (arith, members-append cs ds, h, k)

none-map : {X : Type 0} (f : X → Core) → ((x : X) → members_of (f x) ≡ 0) → (xs : List X) → total_members (map f xs) ≡ 0
none-map f h [] = refl
none-map f h (x ∷ xs) = omega (arith, h x, none-map f h xs)

-- ---- different members

marks-none : (var : ℕ) (a : OrdInt) (c : Atom) (vs : List ℤ) → total_members (mark_cores var a c vs) ≡ 0
marks-none var a c [] = refl
marks-none var a c (v ∷ vs) = omega (arith, marks-none (var + 1) a c vs)

all-marks-none : (var : ℕ) (ints : List OrdInt) (cs : List Atom) → total_members (all_mark_cores var ints cs) ≡ 0
all-marks-none var [] cs = refl
all-marks-none var (a ∷ ints) [] = refl
all-marks-none var (a ∷ ints) (c ∷ cs) =
    none-append (mark_cores var a c (values_of a)) (all_mark_cores (var + length (values_of a)) ints cs)
    (marks-none var a c (values_of a)) (all-marks-none (var + length (values_of a)) ints cs)

reached-none : (ints : List OrdInt) (cs : List Atom) (vs : List ℤ) (marks : List (ℤ × Atom)) → total_members (reached_cores ints cs vs marks) ≡ 0
reached-none ints cs vs marks = by (are_true cs && (length vs == length ints))
  where
    by : (b : Bool) → total_members (if b then map (λ v. Clause (marked v marks)) vs else []) ≡ 0
    by true = none-map (λ (v : ℤ). Clause (marked v marks)) (λ v. refl) vs
    by false = refl

differing-none : (next : ℕ) (ints : List OrdInt) (cs : List Atom) → total_members (differing_parts next ints cs).cores ≡ 0
differing-none next ints cs =
    let vs = ascending (all_values ints) in
    let marks = marks_from next (all_values ints) in
    let amos = map (λ (v : ℤ). Amo (marked v marks)) vs in
    let reached = reached_cores ints cs vs marks in
    none-append (map (λ (a : OrdInt). Ladder a) ints) (all_mark_cores next ints cs ++ (amos ++ reached))
    (none-map (λ (a : OrdInt). Ladder a) (λ a. refl) ints)
    (none-append (all_mark_cores next ints cs) (amos ++ reached) (all-marks-none next ints cs)
    (none-append amos reached (none-map (λ (v : ℤ). Amo (marked v marks)) (λ v. refl) vs) (reached-none ints cs vs marks)))

-- ---- counts

half-members : (next : ℕ) (ls : List Atom) → total_members (half_cores next ls) ≤ half_fresh ls + length ls
half-members next [] = omega arith
half-members next (l ∷ []) = omega arith
half-members next (l ∷ m ∷ ls) = omega arith

halves-members : (next : ℕ) (front back : List Atom) (c : OrdInt) → total_members (halves_parts next front back c).cores ≤ (halves_parts next front back c).fresh + (length front + length back)
halves-members next front back c =
    omega (
      arith,
      members-append (half_cores next front ++ half_cores (next + half_fresh front) back) (Sum3 (half_int next front) (half_int (next + half_fresh front) back) c ∷ []),
      members-append (half_cores next front) (half_cores (next + half_fresh front) back),
      half-members next front,
      half-members (next + half_fresh front) back,
    )

count-members : (next : ℕ) (ls : List Atom) (c : OrdInt) → total_members (count_parts next ls c).cores < (count_parts next ls c).fresh + (1 + length ls)
count-members next ls c =
    let n = half_up (length ls) in
    omega (arith, halves-members next (take n ls) (drop n ls) c, length-take n ls, length-drop n ls)

-- ---- sums

row-none : (fresh : ℕ) (ds es : List Atom) → total_members (row_cores fresh ds es) ≡ 0
row-none fresh [] es = refl
row-none fresh (d ∷ ds) [] = refl
row-none fresh (d ∷ ds) (e ∷ es) = omega (arith, row-none (fresh + 2) ds es)

network-none : (next : ℕ) (a b c : OrdInt) (g : ℕ) (ls ms : List Atom) → total_members (network_parts next a b c g ls ms).cores ≡ 0
network-none next a b c g ls ms =
    let n = odd_steps ls ms in
    let k = even_steps ls ms in
    let last = EqR True (merged_int next a b g ls ms) c in
    none-append (Ladder a ∷ Ladder b ∷ half_sums next ls ms) (comparators next n k ++ last ∷ []) refl
    (none-append (comparators next n k) (last ∷ []) (row-none (next + n + k) (further_odd next n) (all_even next n k)) refl)

merge-members : (next : ℕ) (a b c : OrdInt) → is_basic_of (Sum3 a b c) ≡ false → total_members (merge_parts next a b c).cores < (merge_parts next a b c).fresh + 0
merge-members next a b c compound =
    let g = gap_of a b in
    omega (
      arith,
      network-none next a b c g (units_of g a.steps) (units_of g b.steps),
      units-some a b g (compound_sum a b c compound) refl,
      length-odd (units_of g a.steps),
    )

sum-members : (next : ℕ) (ints : List OrdInt) (k : ℤ) → total_members (sum_parts next ints k).cores < (sum_parts next ints k).fresh + (1 + length ints)
sum-members next [] k = omega arith
sum-members next (a ∷ []) k = omega arith
sum-members next (a ∷ b ∷ []) k = omega arith
sum-members next (a ∷ b ∷ c ∷ []) k = omega arith
sum-members next (a ∷ b ∷ c ∷ d ∷ rest) k = omega (arith, length-append rest (fresh_of next a b ∷ []))

-- ---- orders of words

last-none : (r : Atom) (strict : Bool) (a b : OrdInt) → members_of (last_order r strict a b) ≡ 0
last-none r true a b = refl
last-none r false a b = refl

lex-members : (next : ℕ) (r : Atom) (strict : Bool) (front back : List OrdInt)
    → total_members (lex_parts next r strict front back).cores < (lex_parts next r strict front back).fresh + (1 + length (pairs_of_steps front back))
lex-members next r strict [] back = omega arith
lex-members next r strict (a ∷ front) [] = omega arith
lex-members next r strict (a ∷ []) (b ∷ back) = omega (arith, last-none r strict a b)
lex-members next r strict (a ∷ c ∷ front) (b ∷ back) = omega arith

-- ---- all forms

members-less : (core : Core) (next : ℕ) → is_compound_of core ≡ true → total_members (parts_at next core).cores < (parts_at next core).fresh + members_of core
members-less (Ladder a) next h = absurd (false≢true h)
members-less (Clause ls) next h = absurd (false≢true h)
members-less (Parity ls odd) next h = omega arith
members-less (Conj r ls) next h = absurd (false≢true h)
members-less (Comp a b hi lo) next h = absurd (false≢true h)
members-less (LeqR r a b) next h = absurd (false≢true h)
members-less (EqR r a b) next h = absurd (false≢true h)
members-less (Sum3 a b c) next h = merge-members next a b c (not-true (is_basic_of (Sum3 a b c)) h)
members-less (Count ls c) next h = count-members next ls c
members-less (Sum ints k) next h = sum-members next ints k
members-less (Max ints c) next h = absurd (false≢true h)
members-less (AllDiff ints cs) next h = omega (arith, differing-none next ints cs)
members-less (Amo ls) next h = omega arith
members-less (Prod a b c) next h = absurd (false≢true h)
members-less (DivMod a b q r) next h = absurd (false≢true h)
members-less (Lex r strict front back) next h = lex-members next r strict front back

-- where fresh variables and costs of parts are at most the core's cost
pub parts-smaller : (core : Core) (next : ℕ) → is_compound_of core ≡ true → (parts_at next core).fresh + costs_of (parts_at next core).cores ≤ cost_of core → sizes_of (parts_at next core).cores < size_of core
parts-smaller core next compound cost = omega (arith, sizes-sum (parts_at next core).cores, members-less core next compound, cost)
