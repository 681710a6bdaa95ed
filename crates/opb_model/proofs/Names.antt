-- The names of a file's model: each is a name, they differ, and each stands at its place.
use Rattle.std.proofs.Common.{arith, ◌≡◌, ◌≢◌, ℕ, zero, suc, ◌+◌, ◌-◌, ◌<◌, ◌≤◌, ◌^◌, ◌⊎◌, ⊎_elim, Bool, true, false, List, [], ◌∷◌, ◌++◌, refl, ap, sym, subst, append-nil, ◌∙◌, Some, None}
use Rattle.std.specs.Prelude.{slice_get, bytes_eq, decimal}
use Rattle.std.specs.List.{list_all, position_from}
use Rattle.std.specs.Str.Parse.{AllDigits}
use Rattle.std.proofs.lemmas.Bool.Decides.{nat_tests}
use Rattle.std.proofs.lemmas.Str.Parse.{digit_from_value}
use Rattle.std.proofs.lemmas.Fmt.{decimal_injective, decimal_is_IsNumeral}
use Rattle.std.proofs.lemmas.Iterator.Adapters.{position_from-zero}
use Rattle.std.proofs.lemmas.Slice.Eq.{bytes_eq-Decides}
use Rattle.bumblebee_reader.specs.Bytes.{is_word}
use Rattle.bumblebee_reader.specs.Names.{is_name}
use Rattle.model_meaning.specs.declared.model.Decl.{Decl}
use Rattle.model_meaning.specs.Places.{place_of, is_constant}
use Rattle.opb_model.specs.Models.{variable_name, cost_name, variable, variables_from}

-- names of two variables are equal where their indices are

tail-tells : (x : ℕ) (xs ys : List ℕ) → x ∷ xs ≡ x ∷ ys → xs ≡ ys
tail-tells x xs ys e = cc

pub names-differ : (k i : ℕ) → k < 2 ^ 64 → i < 2 ^ 64 → k ≢ i → bytes_eq (variable_name k) (variable_name i) ≡ false
names-differ k i p q differ = no (bytes_eq (variable_name k) (variable_name i)) refl
  where
    no : (b : Bool) → bytes_eq (variable_name k) (variable_name i) ≡ b → b ≡ false
    no false e = refl
    no true e = absurd (differ (decimal_injective k i p q (tail-tells 120 (decimal k) (decimal i) ((bytes_eq-Decides (variable_name k) (variable_name i)).0 e))))

pub name-same : (name : List ℕ) → bytes_eq name name ≡ true
name-same name = (bytes_eq-Decides name name).1 refl

-- the place of a variable among variables

abbrev has : ℕ → Decl → Bool
has k d = bytes_eq (variable_name k) d.name

found : (k j i n : ℕ) (ds : List Decl) → k < 2 ^ 64 → i ≤ k → k < i + n → position_from (has k) j (variables_from i n ++ ds) ≡ Some (j + (k - i))
found k j i zero ds small h l = absurd (omega (arith, h, l))
found k j i (suc n) ds small h l = ⊎_elim here (behind (found k (j + 1) (i + 1) n ds small)) (at k i h)
  where
    at : (k i : ℕ) → i ≤ k → (k ≡ i) ⊎ (i < k)
    at k i h = grind (arith, h)

    here : k ≡ i → position_from (has k) j (variables_from i (suc n) ++ ds) ≡ Some (j + (k - i))
    here e =
        let t : bytes_eq (variable_name k) (variable_name i) ≡ true = subst (λ m. bytes_eq (variable_name k) (variable_name m) ≡ true) e (name-same (variable_name k)) in
        rw t (ap Some (omega (arith, e)))

    behind : (i + 1 ≤ k → k < i + 1 + n → position_from (has k) (j + 1) (variables_from (i + 1) n ++ ds) ≡ Some (j + 1 + (k - (i + 1))))
        → i < k → position_from (has k) j (variables_from i (suc n) ++ ds) ≡ Some (j + (k - i))
    behind rest less =
        let t = names-differ k i small (omega (arith, less, small)) (λ e. omega (arith, e, less)) in
        rw t (rest (omega (arith, less)) (omega (arith, l)) ∙ ap Some (omega (arith, less)))

missing : (k j i n : ℕ) (ds : List Decl) → k < 2 ^ 64 → i + n ≤ k → position_from (has k) (j + n) ds ≡ None → position_from (has k) j (variables_from i n ++ ds) ≡ None
missing k j i zero ds small h e = let same : j + 0 ≡ j = omega arith in subst (λ m. position_from (has k) m ds ≡ None) same e
missing k j i (suc n) ds small h e =
    let t = names-differ k i small (omega (arith, h, small)) (λ e. omega (arith, e, h)) in
    let same : j + suc n ≡ j + 1 + n = omega arith in
    rw t (missing k (j + 1) (i + 1) n ds small (omega (arith, h)) (subst (λ m. position_from (has k) m ds ≡ None) same e))

pub variable-placed : (k n : ℕ) (ds : List Decl) → k < 2 ^ 64 → 1 ≤ k → k ≤ n → place_of (variable_name k) (variables_from 1 n ++ ds) ≡ Some (k - 1)
variable-placed k n ds small h l =
    position_from-zero (has k) (variables_from 1 n ++ ds) ∙ found k 0 1 n ds small h (omega (arith, l)) ∙ ap Some (omega arith)

pub variable-missing : (n : ℕ) → n < 2 ^ 63 → place_of (variable_name (n + 1)) (variables_from 1 n) ≡ None
variable-missing n small =
    position_from-zero (has (n + 1)) (variables_from 1 n)
    ∙ subst (λ (ds : List Decl). position_from (has (n + 1)) 0 ds ≡ None) (append-nil (variables_from 1 n))
    (missing (n + 1) 0 1 n [] (omega (arith, small)) (omega arith) refl)

-- the place of the cost, behind the variables

is_cost : Decl → Bool
is_cost d = bytes_eq cost_name d.name

cost-behind : (j i n : ℕ) (ds : List Decl) → position_from is_cost j (variables_from i n ++ ds) ≡ position_from is_cost (j + n) ds
unfolding is_cost
cost-behind j i zero ds = let e : j ≡ j + 0 = omega arith in ap (λ m. position_from is_cost m ds) e
cost-behind j i (suc n) ds = let e : j + 1 + n ≡ j + suc n = omega arith in cost-behind (j + 1) (i + 1) n ds ∙ ap (λ m. position_from is_cost m ds) e

pub cost-missing : (n : ℕ) → place_of cost_name (variables_from 1 n) ≡ None
unfolding is_cost
cost-missing n =
    position_from-zero is_cost (variables_from 1 n)
    ∙ subst (λ (ds : List Decl). position_from is_cost 0 ds ≡ None) (append-nil (variables_from 1 n)) (cost-behind 0 1 n [])

pub cost-placed : (n : ℕ) (d : Decl) → d.name ≡ cost_name → place_of cost_name (variables_from 1 n ++ d ∷ []) ≡ Some n
unfolding is_cost
cost-placed n d e =
    let t : bytes_eq cost_name d.name ≡ true = subst (λ name. bytes_eq cost_name name ≡ true) (sym e) refl in
    position_from-zero is_cost (variables_from 1 n ++ d ∷ []) ∙ (cost-behind 0 1 n (d ∷ []) ∙ rw t (ap Some (omega arith)))

pub variable-at : (k i n : ℕ) (ds : List Decl) → k < n → slice_get (variables_from i n ++ ds) k ≡ Some (variable (i + k))
variable-at k i zero ds h = absurd (omega (arith, h))
variable-at zero i (suc n) ds h = ap (λ m. Some (variable m)) (omega arith)
variable-at (suc k) i (suc n) ds h = variable-at k (i + 1) n ds (omega (arith, h)) ∙ ap (λ m. Some (variable m)) (omega arith)

pub cost-at : (i n : ℕ) (d : Decl) → slice_get (variables_from i n ++ d ∷ []) n ≡ Some d
cost-at i zero d = refl
cost-at i (suc n) d = cost-at (i + 1) n d

-- the names of variables are names, and none of the constants

digit-word : (c : ℕ) → 48 ≤ c → c ≤ 57 → is_word c ≡ true
digit-word c h l = grind (arith, nat_tests, h, l)

digits-words : (ds : List ℕ) → AllDigits 10 ds → list_all is_word ds ≡ true
digits-words [] d = refl
digits-words (c ∷ cs) d =
    let r = digit_from_value c d.0 in
    rw (digit-word c (omega (arith, r)) (omega (arith, r))) (digits-words cs d.1)

pub variable-named : (k : ℕ) → k < 2 ^ 64 → is_name (variable_name k) ≡ true
variable-named k small = digits-words (decimal k) (decimal_is_IsNumeral k small).0.1

pub variable-not_constant : (k : ℕ) → is_constant (variable_name k) ≡ false
variable-not_constant k = refl
