-- Solutions of the model are placements.
use Rattle.std.proofs.Common.{◌≡◌, ◌≢◌, ℕ, zero, suc, ◌+◌, ◌*◌, ◌<◌, ◌≤◌, ◌⊎◌, Bool, true, ◌&&◌, List, [], ◌∷◌, ◌++◌, length, map, ℤ, pos, ◌+ℤ◌, ◌-ℤ◌, ◌≤ℤ◌, neg_ℤ, Option, Some, None, slice_get, refl, sym, ap, ◌∙◌, subst, inl, inr, ⊎_elim, arith}
use Rattle.std.proofs.lemmas.Int.{ints}
use Rattle.std.proofs.lemmas.Bool.{and_parts}
use Rattle.model_meaning.specs.declared.model.Decl.{Decl}
use Rattle.model_meaning.specs.declared.model.Stmt.{Stmt}
use Rattle.model_meaning.specs.declared.what.IntTerm.{IntTerm}
use Rattle.model_meaning.specs.declared.what.IntTerm.TheVariants.{Of}
use Rattle.model_meaning.specs.Integers.{is_member}
use Rattle.model_meaning.specs.Domains.{domain, in_domains}
use Rattle.model_meaning.specs.Lists.{AllDiffer}
use Rattle.model_meaning.specs.Terms.{value_at, number_of, numbers_of}
use Rattle.model_meaning.specs.Holds.{Holds}
use Rattle.model_meaning.specs.Solutions.{AllHold, IsSolution}
use Rattle.model_meaning.proofs.DomainLaws.{Decides-domain}
use Rattle.queens_model.specs.Queens.{column, integers_of, row_integers, row_sums, sums_of, differ, members_of, queens}
use Rattle.queens_model.specs.Placements.{column_in, StandApart, IsPlacement, SolutionsPlaceQueens}

cases : (k m : ℕ) → k < suc m → (k < m) ⊎ (k ≡ m)
cases k m h = grind (arith, h)

-- members of two lists, one behind the other

value-front : (xs ys : List ℤ) (k : ℕ) → k < length xs → value_at (xs ++ ys) k ≡ value_at xs k
value-front [] ys k h = absurd (omega (arith, h))
value-front (x ∷ xs) ys zero h = refl
value-front (x ∷ xs) ys (suc k) h = value-front xs ys k (omega (arith, h))

value-behind : (xs : List ℤ) (y : ℤ) (k : ℕ) → k ≡ length xs → value_at (xs ++ y ∷ []) k ≡ y
value-behind [] y zero h = refl
value-behind [] y (suc k) h = absurd (omega (arith, h))
value-behind (x ∷ xs) y zero h = absurd (omega (arith, h))
value-behind (x ∷ xs) y (suc k) h = value-behind xs y k (omega (arith, h))

get-front : (xs ys : List Decl) (k : ℕ) → k < length xs → slice_get (xs ++ ys) k ≡ slice_get xs k
get-front [] ys k h = absurd (omega (arith, h))
get-front (x ∷ xs) ys zero h = refl
get-front (x ∷ xs) ys (suc k) h = get-front xs ys k (omega (arith, h))

get-behind : (xs ys : List Decl) (y : Decl) (k : ℕ) → k ≡ length xs → slice_get (xs ++ y ∷ ys) k ≡ Some y
get-behind [] ys y zero h = refl
get-behind [] ys y (suc k) h = absurd (omega (arith, h))
get-behind (x ∷ xs) ys y zero h = absurd (omega (arith, h))
get-behind (x ∷ xs) ys y (suc k) h = get-behind xs ys y k (omega (arith, h))

both-hold : (a : List ℤ) (ss ts : List Stmt) → AllHold a (ss ++ ts) → AllHold a ss × AllHold a ts
both-hold a [] ts h = (tt, h)
both-hold a (s ∷ ss) ts h = let rest = both-hold a ss ts h.1 in ((h.0, rest.0), rest.1)

length-more : {A : Type 0} (xs ys : List A) → length (xs ++ ys) ≡ length xs + length ys
length-more [] ys = omega arith
length-more (x ∷ xs) ys = let e = length-more xs ys in omega (arith, e)

-- the integers of one letter

numbers-more : (a : List ℤ) (is : List IntTerm) (i : IntTerm) → numbers_of a (is ++ i ∷ []) ≡ numbers_of a is ++ number_of a i ∷ []
numbers-more a [] i = refl
numbers-more a (j ∷ is) i = ap (λ (l : List ℤ). number_of a j ∷ l) (numbers-more a is i)

members-count : (a : List ℤ) (letter m : ℕ) → length (numbers_of a (members_of letter m)) ≡ m
members-count a letter zero = refl
members-count a letter (suc m) =
    let e = members-count a letter m in
    let more = length-more (numbers_of a (members_of letter m)) (value_at a (3 * m + letter) ∷ []) in
    ap (λ (l : List ℤ). length l) (numbers-more a (members_of letter m) (Of (3 * m + letter))) ∙ omega (arith, more, e)

member-value : (a : List ℤ) (letter m k : ℕ) → k < m → value_at (numbers_of a (members_of letter m)) k ≡ value_at a (3 * k + letter)
member-value a letter zero k h = absurd (omega (arith, h))
member-value a letter (suc m) k h =
    let count = members-count a letter m in
    ap (λ (l : List ℤ). value_at l k) (numbers-more a (members_of letter m) (Of (3 * m + letter)))
    ∙ ⊎_elim
    (λ (less : k < m). value-front (numbers_of a (members_of letter m)) (value_at a (3 * m + letter) ∷ []) k (omega (arith, less, count)) ∙ member-value a letter m k less)
    (λ (last : k ≡ m). value-behind (numbers_of a (members_of letter m)) (value_at a (3 * m + letter)) k (omega (arith, last, count)) ∙ ap (λ (n : ℕ). value_at a (3 * n + letter)) (sym last))
    (cases k m h)

-- the statements of a row

row-holds : (a : List ℤ) (m k : ℕ) → k < m → AllHold a (sums_of m) → AllHold a (row_sums k)
row-holds a zero k h all = absurd (omega (arith, h))
row-holds a (suc m) k h all =
    let parts = both-hold a (sums_of m) (row_sums m) all in
    ⊎_elim (λ (less : k < m). row-holds a m k less parts.0) (λ (last : k ≡ m). subst (λ (n : ℕ). AllHold a (row_sums n)) (sym last) parts.1) (cases k m h)

sum-value : (a : List ℤ) (k : ℕ) → AllHold a (row_sums k) → value_at a (3 * k + 1) ≡ column_in a k +ℤ pos (k + 1)
unfolding Holds
sum-value a k h = h.0

difference-value : (a : List ℤ) (k : ℕ) → AllHold a (row_sums k) → value_at a (3 * k + 2) ≡ column_in a k +ℤ neg_ℤ (pos (k + 1))
unfolding Holds
difference-value a k h = h.1.0

differing : (a : List ℤ) (n : ℕ) (is : List IntTerm) → Holds a (differ n is).what → AllDiffer (numbers_of a is)
unfolding Holds
differing a n is h = h

-- values are in their domains

domain-at : (ds : List Decl) (a : List ℤ) (p : ℕ) (d : Decl) → in_domains ds a ≡ true → slice_get ds p ≡ Some d → is_member (value_at a p) (domain d.kind) ≡ true
domain-at [] a p d h e = absurd (none d e)
  where
    none : (x : Decl) → None ≡ Some x → ⊥
    none x f = cc
domain-at (c ∷ ds) [] p d h e = absurd (wrong h)
  where
    wrong : in_domains (c ∷ ds) [] ≡ true → ⊥
    wrong f = cc
domain-at (c ∷ ds) (v ∷ a) zero d h e =
    let same : c ≡ d = inside c d e in
    subst (λ (x : Decl). is_member v (domain x.kind) ≡ true) same (and_parts (is_member v (domain c.kind)) (in_domains ds a) h).0
  where
    inside : (x y : Decl) → Some x ≡ Some y → x ≡ y
    inside x y f = cc
domain-at (c ∷ ds) (v ∷ a) (suc p) d h e = domain-at ds a p d (and_parts (is_member v (domain c.kind)) (in_domains ds a) h).1 e

integers-count : (size m : ℕ) → length (integers_of size m) ≡ 3 * m
integers-count size zero = refl
integers-count size (suc m) =
    let e = integers-count size m in
    let more = length-more (integers_of size m) (row_integers size m) in
    omega (arith, e, more)

column-there : (size m k : ℕ) → k < m → slice_get (integers_of size m) (3 * k) ≡ Some (column size k)
column-there size zero k h = absurd (omega (arith, h))
column-there size (suc m) k h =
    let count = integers-count size m in
    ⊎_elim
    (λ (less : k < m). get-front (integers_of size m) (row_integers size m) (3 * k) (omega (arith, less, count)) ∙ column-there size m k less)
    (λ (last : k ≡ m). get-behind (integers_of size m) _ (column size m) (3 * k) (omega (arith, last, count)) ∙ ap (λ (n : ℕ). Some (column size n)) (sym last))
    (cases k m h)

-- the law

module _ (size : ℕ) (a : List ℤ) (solution : IsSolution (queens size) a) where
  parts : AllHold a (sums_of size) × AllHold a (differ (5 * size + 1) (members_of 0 size) ∷ differ (5 * size + 2) (members_of 1 size) ∷ differ (5 * size + 3) (members_of 2 size) ∷ [])
  parts = both-hold a (sums_of size) _ solution.holds

  -- two integers of one letter differ
  letters-differ : (letter : ℕ) → AllDiffer (numbers_of a (members_of letter size)) → (i j : ℕ) → i < j → j < size → value_at a (3 * i + letter) ≢ value_at a (3 * j + letter)
  letters-differ letter all i j less most e =
      let count = members-count a letter size in
      all i j less (omega (arith, most, count)) (member-value a letter size i (omega (arith, less, most)) ∙ e ∙ sym (member-value a letter size j most))

  module _ (i j : ℕ) (less : i < j) (most : j < size) where
    row-i : AllHold a (row_sums i)
    row-i = row-holds a size i (omega (arith, less, most)) parts.0

    row-j : AllHold a (row_sums j)
    row-j = row-holds a size j most parts.0

    first : (k : ℕ) → value_at a (3 * k + 0) ≡ column_in a k
    first k = ap (value_at a) (omega arith)

    sums-apart : (ci cj si sj : ℤ) → si ≡ ci +ℤ pos (i + 1) → sj ≡ cj +ℤ pos (j + 1) → si ≢ sj → (ci +ℤ pos i) ≢ (cj +ℤ pos j)
    sums-apart ci cj si sj e f apart g = apart (omega (arith, ints, e, f, g))

    differences-apart : (ci cj si sj : ℤ) → si ≡ ci +ℤ neg_ℤ (pos (i + 1)) → sj ≡ cj +ℤ neg_ℤ (pos (j + 1)) → si ≢ sj → (ci -ℤ pos i) ≢ (cj -ℤ pos j)
    differences-apart ci cj si sj e f apart g = apart (omega (arith, ints, e, f, g))

    stand_apart : StandApart a i j
    stand_apart = record {
      columns = λ e. letters-differ 0 (differing a (5 * size + 1) (members_of 0 size) parts.1.0) i j less most (first i ∙ e ∙ sym (first j));
      rising = sums-apart (column_in a i) (column_in a j) _ _ (sum-value a i row-i) (sum-value a j row-j)
          (letters-differ 1 (differing a (5 * size + 2) (members_of 1 size) parts.1.1.0) i j less most);
      falling = differences-apart (column_in a i) (column_in a j) _ _ (difference-value a i row-i) (difference-value a j row-j)
          (letters-differ 2 (differing a (5 * size + 3) (members_of 2 size) parts.1.1.1.0) i j less most);
    }

  on_board : (k : ℕ) → k < size → (pos 1 ≤ℤ column_in a k) × (column_in a k ≤ℤ pos size)
  on_board k h = (Decides-domain (pos 1) (pos size) (column_in a k)).0 (domain-at (integers_of size size) a (3 * k) (column size k) solution.in_domains (column-there size size k h))

pub solutions_place_queens : SolutionsPlaceQueens
solutions_place_queens size a solution = record { on_board = on_board size a solution; apart = stand_apart size a solution }
