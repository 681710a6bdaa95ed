-- The members beside the first True one, by its place.
use Rattle.std.proofs.Common.{◌≡◌, ℕ, suc, ◌+◌, ◌<◌, Bool, true, false, cond, List, [], ◌∷◌, ◌++◌, length, take, drop, refl, sym, ap, ◌∙◌, arith}
use Rattle.std.specs.Prelude.{Option, None, Some}
use Rattle.std.specs.Option.{option_or, is_some}
use Rattle.order_ints.specs.declared.atom.Atom.{Atom}
use Rattle.order_ints.specs.declared.atom.Atom.TheVariants.{False}
use Rattle.order_ints.specs.Same.{is_true}
use Rattle.core_forms.specs.Trimmed.{has_true}
use Rattle.rule_base.specs.declared.sought.SoughtEquation.{SoughtEquation}
use Rattle.rule_base.specs.Pairs.{first_sought}
use Rattle.rule_base.specs.Stated.{all_equal}
use Rattle.rule_base.proofs.PairLaws.{first_sought-append, option_or-some, option_or-none}
use Rattle.equi_rules.specs.AtomRows.{place_of_true, beside_true, amo_equations}

-- the first True member has a place, and the others stand before it and behind it
record IsBeside (n i : ℕ) (ls : List Atom) : Type 0 where
  pub place : ℕ
  pub counted : i ≡ n + place
  pub within : place < length ls
  pub has : has_true ls ≡ true
  pub others : beside_true ls ≡ take place ls ++ drop (suc place) ls

beside-place : (n i : ℕ) (ls : List Atom) → place_of_true n ls ≡ Some i → IsBeside n i ls
beside-place n i [] e = absurd (cc)
beside-place n i (l ∷ ls) e = by_first (is_true l) refl e (beside-place (n + 1) i ls)
  where
    by_first : (t : Bool) → is_true l ≡ t → cond t (Some n) (place_of_true (n + 1) ls) ≡ Some i → (place_of_true (n + 1) ls ≡ Some i → IsBeside (n + 1) i ls) → IsBeside n i (l ∷ ls)
    by_first true is here rest = record {
      place = 0;
      counted = let e : n ≡ i = cc in omega arith;
      within = omega arith;
      has = ap (λ t. cond t true (has_true ls)) is;
      others = ap (λ t. cond t ls (cond (has_true ls) (l ∷ beside_true ls) [])) is;
    }
    by_first false is there rest =
        let r = rest there in
        record {
          place = suc r.place;
          counted = omega (arith, r.counted);
          within = omega (arith, r.within);
          has = ap (λ t. cond t true (has_true ls)) is ∙ r.has;
          others = ap (λ t. cond t ls (cond (has_true ls) (l ∷ beside_true ls) [])) is ∙ ap (λ t. cond t (l ∷ beside_true ls) []) r.has ∙ ap (λ (xs : List Atom). l ∷ xs) r.others;
        }

none-beside : (n : ℕ) (ls : List Atom) → place_of_true n ls ≡ None → (has_true ls ≡ false) × (beside_true ls ≡ [])
none-beside n [] e = (refl, refl)
none-beside n (l ∷ ls) e = by_first (is_true l) refl e (none-beside (n + 1) ls)
  where
    by_first : (t : Bool) → is_true l ≡ t → cond t (Some n) (place_of_true (n + 1) ls) ≡ None → (place_of_true (n + 1) ls ≡ None → (has_true ls ≡ false) × (beside_true ls ≡ [])) → (has_true (l ∷ ls) ≡ false) × (beside_true (l ∷ ls) ≡ [])
    by_first true is here rest = absurd (cc)
    by_first false is there rest =
        let r = rest there in
        (ap (λ t. cond t true (has_true ls)) is ∙ r.0, ap (λ t. cond t ls (cond (has_true ls) (l ∷ beside_true ls) [])) is ∙ ap (λ t. cond t (l ∷ beside_true ls) []) r.0)

all_equal-append : (xs ys : List Atom) (b : Atom) → all_equal (xs ++ ys) b ≡ all_equal xs b ++ all_equal ys b
all_equal-append [] ys b = refl
all_equal-append (x ∷ xs) ys b = ap (λ (ps : List (Atom × Atom)). (x, b) ∷ ps) (all_equal-append xs ys b)

-- without a True member nothing is found
pub amo-none : (sought : SoughtEquation) (ls : List Atom) → place_of_true 0 ls ≡ None → None ≡ first_sought sought (amo_equations ls)
amo-none sought ls e = sym (ap (λ (xs : List Atom). first_sought sought (all_equal xs False)) (none-beside 0 ls e).1)

-- else among the members before it, and then among those behind it
pub amo-at : (sought : SoughtEquation) (ls : List Atom) (i j : ℕ) → j ≡ suc i → place_of_true 0 ls ≡ Some i → first_sought sought (amo_equations ls) ≡ option_or (first_sought sought (all_equal (take i ls) False)) (first_sought sought (all_equal (drop j ls) False))
amo-at sought ls i j next e =
    let r = beside-place 0 i ls e in
    let same : r.place ≡ i = omega (arith, r.counted) in
    let others : beside_true ls ≡ take i ls ++ drop j ls =
    r.others ∙ ap (λ k. take k ls ++ drop (suc k) ls) same ∙ ap (λ k. take i ls ++ drop k ls) (sym next) in
    ap (λ (xs : List Atom). first_sought sought (all_equal xs False)) others
    ∙ ap (first_sought sought) (all_equal-append (take i ls) (drop j ls) False)
    ∙ first_sought-append sought (all_equal (take i ls) False) (all_equal (drop j ls) False)

pub amo-front : (sought : SoughtEquation) (ls front : List Atom) (i : ℕ) (o : Option (Atom × Atom)) → place_of_true 0 ls ≡ Some i → front ≡ take i ls → o ≡ first_sought sought (all_equal front False) → is_some o ≡ true → o ≡ first_sought sought (amo_equations ls)
amo-front sought ls front i o at is found some =
    sym (option_or-some o (first_sought sought (all_equal (drop (suc i) ls) False)) some)
    ∙ ap (λ (x : Option (Atom × Atom)). option_or x (first_sought sought (all_equal (drop (suc i) ls) False))) (found ∙ ap (λ (xs : List Atom). first_sought sought (all_equal xs False)) is)
    ∙ sym (amo-at sought ls i (suc i) refl at)

pub amo-behind : (sought : SoughtEquation) (ls front behind : List Atom) (i j : ℕ) (o p : Option (Atom × Atom)) → j ≡ suc i → place_of_true 0 ls ≡ Some i → front ≡ take i ls → behind ≡ drop j ls → o ≡ first_sought sought (all_equal front False) → is_some o ≡ false → p ≡ first_sought sought (all_equal behind False) → p ≡ first_sought sought (amo_equations ls)
amo-behind sought ls front behind i j o p next at is rest found none more =
    sym (option_or-none o p none)
    ∙ ap (λ (x : Option (Atom × Atom)). option_or x p) (found ∙ ap (λ (xs : List Atom). first_sought sought (all_equal xs False)) is)
    ∙ ap (option_or (first_sought sought (all_equal (take i ls) False))) (more ∙ ap (λ (xs : List Atom). first_sought sought (all_equal xs False)) rest)
    ∙ sym (amo-at sought ls i j next at)
