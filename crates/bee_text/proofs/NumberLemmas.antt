-- Decimals, and numbers read digit by digit.
use Rattle.std.proofs.Common.{◌≡◌, ℕ, ◌+◌, ◌*◌, ◌-◌, ◌/◌, ◌%◌, ◌^◌, ◌<◌, ◌≤◌, true, false, not, ◌&&◌, List, [], ◌∷◌, ◌++◌, length, get_or, drop, Option, Some, None, refl, sym, ap, subst, ◌∙◌, append_assoc, ⊎_elim, arith, suc, leb, ℤ, pos, negsuc, ◌≢◌, min, length-append}
use Rattle.std.specs.List.{list_all}
use Rattle.std.specs.Char.{is_ascii_digit}
use Rattle.std.specs.Option.{option_and_then}
use Rattle.std.specs.Fmt.{decimal, signed_decimal}
use Rattle.std.specs.Str.Parse.{digits_value}
use Rattle.std.proofs.lemmas.Bool.{and_parts, and_from, cases_Bool, leb-true, le-leb, false≢true, cases_lt}
use Rattle.std.proofs.lemmas.List.{append-nil}
use Rattle.std.proofs.lemmas.List.Folds.{list_all-append}
use Rattle.std.proofs.lemmas.Bool.Decides.{nat_tests}
use Rattle.std.proofs.lemmas.Fmt.{decimal_is_IsNumeral_wide, decimal_step_wide, decimal_by_steps_wide, decimal_digit}
use lib.Signed.{mag}
use Rattle.std.specs.Int.{w128}
use Rattle.std.specs.Prelude.{IfSome, FitsSigned, unsigned_abs}
use Rattle.bee_text.specs.Digits.{with_digit, digits_after, leads_well}
use Rattle.bee_text.specs.Words.{is_gap, IsWord}

pub decimal_injective_wide : (m n : ℕ) → m < 10 ^ 64 → n < 10 ^ 64 → decimal m ≡ decimal n → m ≡ n
decimal_injective_wide m n p q e = sym (decimal_is_IsNumeral_wide m p).1 ∙ ap (digits_value 10) e ∙ (decimal_is_IsNumeral_wide n q).1

digit_byte : (d : ℕ) → d < 10 → is_ascii_digit (48 + d) ≡ true
digit_byte d h = and_from (leb 48 (48 + d)) (leb (48 + d) 57) (le-leb 48 (48 + d) (omega arith)) (le-leb (48 + d) 57 (omega arith))

pub decimal_digits : (n : ℕ) → n < 10 ^ 64 → list_all is_ascii_digit (decimal n) ≡ true
decimal_digits = decimal_by_steps_wide (λ m ds. list_all is_ascii_digit ds ≡ true)
    (λ m l. and_from _ _ (digit_byte m l) refl)
    (λ m ds l h. list_all-append is_ascii_digit ds ((48 + m % 10) ∷ []) ∙ and_from _ _ h (and_from _ _ (digit_byte (m % 10) (omega arith)) refl))

-- a text with a first byte
abbrev Begins : ℕ → List ℕ → Type 0
Begins n ds = (c : ℕ) × (cs : List ℕ) × (ds ≡ c ∷ cs) × (c ≡ 48 → n ≡ 0)

decimal_begins : (n : ℕ) → n < 10 ^ 64 → Begins n (decimal n)
decimal_begins = decimal_by_steps_wide Begins
    (λ m l. (48 + m, [], refl, λ e. omega arith))
    (λ m ds l h. (h.0, h.1 ++ ((48 + m % 10) ∷ []), ap (λ t. t ++ ((48 + m % 10) ∷ [])) h.2, λ e. absurd (omega (arith, h.3 e))))

pub decimal_leads_by_zero : (n : ℕ) → n < 10 ^ 64 → get_or (decimal n) 0 0 ≡ 48 → n ≡ 0
decimal_leads_by_zero n small e = let b = decimal_begins n small in b.3 (sym (ap (λ t. get_or t 0 0) b.2) ∙ e)

-- a digit is no byte of a gap
digits_solid : (ds : List ℕ) → list_all is_ascii_digit ds ≡ true → list_all (λ b. not (is_gap b)) ds ≡ true
digits_solid [] h = refl
digits_solid (d ∷ ds) h =
    let parts = and_parts (is_ascii_digit d) (list_all is_ascii_digit ds) h in
    let range = and_parts (leb 48 d) (leb d 57) parts.0 in
    let low : 48 ≤ d = leb-true 48 d range.0 in
    and_from (not (is_gap d)) _ (solid d low) (digits_solid ds parts.1)
  where
    solid : (d : ℕ) → 48 ≤ d → not (is_gap d) ≡ true
    solid d low = grind (arith, nat_tests)

pub decimal_word : (n : ℕ) → n < 10 ^ 64 → IsWord (decimal n)
decimal_word n small =
    let b = decimal_begins n small in
    subst IsWord (sym b.2) (digits_solid (b.0 ∷ b.1) (subst (λ ds. list_all is_ascii_digit ds ≡ true) b.2 (decimal_digits n small)))

pub signed_decimal_word : (z : ℤ) → mag z + 1 < 10 ^ 64 → IsWord (signed_decimal z)
signed_decimal_word (pos n) small = decimal_word n (omega arith)
signed_decimal_word (negsuc n) small = digits_solid (decimal (suc n)) (decimal_digits (suc n) (omega arith))

-- the digits of a number have no sign
pub decimal_unsigned : (n : ℕ) (ds : List ℕ) → n < 10 ^ 64 → decimal n ≢ 45 ∷ ds
decimal_unsigned n ds small e = false≢true (subst (λ t. list_all is_ascii_digit t ≡ true) e (decimal_digits n small))

pub signed_decimal_injective_wide : (y z : ℤ) → mag y + 1 < 10 ^ 64 → mag z + 1 < 10 ^ 64 → signed_decimal y ≡ signed_decimal z → y ≡ z
signed_decimal_injective_wide (pos m) (pos n) p q e = ap pos (decimal_injective_wide m n (omega arith) (omega arith) e)
signed_decimal_injective_wide (pos m) (negsuc n) p q e = absurd (decimal_unsigned m (decimal (suc n)) (omega arith) e)
signed_decimal_injective_wide (negsuc m) (pos n) p q e = absurd (decimal_unsigned n (decimal (suc m)) (omega arith) (sym e))
signed_decimal_injective_wide (negsuc m) (negsuc n) p q e = ap negsuc (omega (arith, decimal_injective_wide (suc m) (suc n) (omega arith) (omega arith) (ap (drop 1) e)))

-- digits read one after the other

digits_after-append : (most v : ℕ) (ds : List ℕ) (b : ℕ) → digits_after most v (ds ++ b ∷ []) ≡ option_and_then (λ n. with_digit most n b) (digits_after most v ds)
digits_after-append most v [] b = and_then-Some (with_digit most v b)
  where
    and_then-Some : (o : Option ℕ) → option_and_then (λ n. Some n) o ≡ o
    and_then-Some None = refl
    and_then-Some (Some n) = refl
digits_after-append most v (d ∷ ds) b = along (with_digit most v d) (λ n. digits_after-append most n ds b)
  where
    along : (o : Option ℕ) → ((n : ℕ) → digits_after most n (ds ++ b ∷ []) ≡ option_and_then (λ m. with_digit most m b) (digits_after most n ds))
        → option_and_then (λ n. digits_after most n (ds ++ b ∷ [])) o ≡ option_and_then (λ m. with_digit most m b) (option_and_then (λ n. digits_after most n ds) o)
    along None f = refl
    along (Some n) f = f n

with_digit-fits : (most v d : ℕ) → d < 10 → 10 * v + d ≤ most → with_digit most v (48 + d) ≡ Some (10 * v + d)
with_digit-fits most v d low fits =
    let same : 48 + d - 48 ≡ d = omega arith in
    let test : (is_ascii_digit (48 + d) && leb (10 * v + d) most) ≡ true = and_from (is_ascii_digit (48 + d)) (leb (10 * v + d) most) (digit_byte d low) (le-leb (10 * v + d) most fits) in
    rw (same, test)

-- the digits of a number are read as that number
pub digits_after-decimal : (most n : ℕ) → n < 10 ^ 64 → n ≤ most → digits_after most 0 (decimal n) ≡ Some n
digits_after-decimal most = decimal_by_steps_wide (λ m ds. m ≤ most → digits_after most 0 ds ≡ Some m)
    (λ m l fits. let e : 10 * 0 + m ≡ m = omega arith in ap (option_and_then (λ next. Some next)) (with_digit-fits most 0 m l (omega arith)) ∙ ap Some e)
    (λ m ds l h fits. let e : 10 * (m / 10) + m % 10 ≡ m = omega arith in
    digits_after-append most 0 ds (48 + m % 10) ∙ (ap (option_and_then (λ n. with_digit most n (48 + m % 10))) (h (omega arith)) ∙ (with_digit-fits most (m / 10) (m % 10) (omega arith) (omega arith) ∙ ap Some e)))

-- what one digit more makes
pub record Digit (most v b n : ℕ) : Type 0 where
  pub low : 48 ≤ b
  pub high : b ≤ 57
  pub value : n ≡ 10 * v + (b - 48)
  pub fits : n ≤ most

with_digit_reads : (most v b n : ℕ) → with_digit most v b ≡ Some n → Digit most v b n
with_digit_reads most v b n e = ⊎_elim
    (λ (t : (is_ascii_digit b && leb (10 * v + (b - 48)) most) ≡ true).
    let parts = and_parts (is_ascii_digit b) (leb (10 * v + (b - 48)) most) t in
    let range = and_parts (leb 48 b) (leb b 57) parts.0 in
    let same : Some (10 * v + (b - 48)) ≡ Some n = rw t at e in
    let value : 10 * v + (b - 48) ≡ n = cc in
    let bound : 10 * v + (b - 48) ≤ most = leb-true (10 * v + (b - 48)) most parts.1 in
    record { low = leb-true 48 b range.0; high = leb-true b 57 range.1; value = sym value; fits = omega arith })
    (λ (t : (is_ascii_digit b && leb (10 * v + (b - 48)) most) ≡ false).
    let none : None ≡ Some n = rw t at e in
    absurd (cc))
    (cases_Bool (is_ascii_digit b && leb (10 * v + (b - 48)) most))

-- a number of which digits were read, behind those of a number that is not zero, has those digits
pub digits_after_reads : (most v n : ℕ) (bs : List ℕ) → most < 10 ^ 64 → 0 < v → v ≤ most → digits_after most v bs ≡ Some n → (n ≤ most) × (decimal n ≡ decimal v ++ bs)
digits_after_reads most v n [] small some fits e =
    let same : v ≡ n = cc in
    (omega arith, ap decimal (sym same) ∙ sym (append-nil (decimal v)))
digits_after_reads most v n (b ∷ bs) small some fits e = along (with_digit most v b) refl e (λ m. digits_after_reads most m n bs small)
  where
    along : (o : Option ℕ) → with_digit most v b ≡ o → option_and_then (λ next. digits_after most next bs) o ≡ Some n
        → ((m : ℕ) → 0 < m → m ≤ most → digits_after most m bs ≡ Some n → (n ≤ most) × (decimal n ≡ decimal m ++ bs))
        → (n ≤ most) × (decimal n ≡ decimal v ++ b ∷ bs)
    along None is e more = absurd (cc)
    along (Some m) is e more =
        let d = with_digit_reads most v b m is in
        let front : m / 10 ≡ v = omega (arith, d.value, d.low, d.high) in
        let end : 48 + m % 10 ≡ b = omega (arith, d.value, d.low, d.high) in
        let step : decimal m ≡ decimal v ++ b ∷ [] = decimal_step_wide m (omega (arith, d.value)) (omega (arith, d.fits)) ∙ (λ i. decimal (front i) ++ (end i ∷ [])) in
        let rest = more m (omega (arith, d.value)) d.fits e in
        (rest.0, rest.1 ∙ (ap (λ t. t ++ bs) step ∙ append_assoc (decimal v) (b ∷ []) bs))

-- a text of digits that does not begin with the digit zero, read as a number
pub digits_after_plain : (most n b : ℕ) (bs : List ℕ) → most < 10 ^ 64 → b ≢ 48 → digits_after most 0 (b ∷ bs) ≡ Some n → (n ≤ most) × (b ∷ bs ≡ decimal n)
digits_after_plain most n b bs small other e = along (with_digit most 0 b) refl e
  where
    along : (o : Option ℕ) → with_digit most 0 b ≡ o → option_and_then (λ next. digits_after most next bs) o ≡ Some n → (n ≤ most) × (b ∷ bs ≡ decimal n)
    along None is e = absurd (cc)
    along (Some m) is e =
        let d = with_digit_reads most 0 b m is in
        let some : 0 < m = omega (arith, d.value, d.low, other) in
        let byte : 48 + m ≡ b = omega (arith, d.value, d.low) in
        let rest = digits_after_reads most m n bs small some d.fits e in
        (rest.0, sym (rest.1 ∙ ap (λ t. t ++ bs) (decimal_digit m (omega (arith, d.value, d.low, d.high)) ∙ ap (λ c. c ∷ []) byte)))

one_digit : (most n b : ℕ) → digits_after most 0 (b ∷ []) ≡ Some n → (n ≤ most) × (b ∷ [] ≡ decimal n)
one_digit most n b e = along (with_digit most 0 b) refl e
  where
    along : (o : Option ℕ) → with_digit most 0 b ≡ o → option_and_then (λ next. Some next) o ≡ Some n → (n ≤ most) × (b ∷ [] ≡ decimal n)
    along None is e = absurd (cc)
    along (Some m) is e =
        let d = with_digit_reads most 0 b m is in
        let same : m ≡ n = cc in
        let byte : 48 + n ≡ b = omega (arith, d.value, d.low) in
        (omega (arith, d.fits), sym (decimal_digit n (omega (arith, d.value, d.low, d.high)) ∙ ap (λ c. c ∷ []) byte))

-- what is read of a text that leads well
pub digits_after_leads : (most n : ℕ) (bs : List ℕ) → most < 10 ^ 64 → leads_well bs ≡ true → digits_after most 0 bs ≡ Some n → (n ≤ most) × (bs ≡ decimal n)
digits_after_leads most n [] small h e = absurd (false≢true h)
digits_after_leads most n (b ∷ []) small h e = one_digit most n b e
digits_after_leads most n (b ∷ c ∷ bs) small h e = digits_after_plain most n b (c ∷ bs) small (other b h) e
  where
    other : (b : ℕ) → leads_well (b ∷ c ∷ bs) ≡ true → b ≢ 48
    other b h is = grind (arith, nat_tests)

-- a decimal leads well
pub decimal_leads_well : (n : ℕ) → n < 10 ^ 64 → leads_well (decimal n) ≡ true
decimal_leads_well n small = ⊎_elim
    (λ (l : n < 10). ap leads_well (decimal_digit n l))
    (λ (l : 10 ≤ n). let b = decimal_begins n small in
    let step = decimal_step_wide n l small in
    let front = decimal_begins (n / 10) (omega arith) in
    let whole : decimal n ≡ front.0 ∷ (front.1 ++ ((48 + n % 10) ∷ [])) = step ∙ ap (λ t. t ++ ((48 + n % 10) ∷ [])) front.2 in
    let other : front.0 ≢ 48 = λ e. omega (arith, front.3 e) in
    long (decimal n) (omega (arith, ap length whole, length-append front.1 ((48 + n % 10) ∷ []))) (λ e. other (sym (ap (λ t. get_or t 0 0) whole) ∙ e)))
    (cases_lt n 10)
  where
    long : (bs : List ℕ) → 2 ≤ length bs → get_or bs 0 0 ≢ 48 → leads_well bs ≡ true
    long bs two other = grind (arith, nat_tests)

-- what is read where a text leads well
pub read_leads : (most : ℕ) (bs : List ℕ) (o : Option ℕ) → most < 2 ^ 128 → leads_well bs ≡ true → o ≡ digits_after most 0 bs → IfSome o (λ n. (n ≤ most) × (bs ≡ decimal n))
read_leads most bs None small h e = tt
read_leads most bs (Some n) small h e = digits_after_leads most n bs (omega arith) h (sym e)

-- a negative number's text behind its sign, and what is read there
pub negative_read : (most m : ℕ) (ds : List ℕ) (o : Option ℕ) → m ≡ min most (2 ^ 127) → ((n : ℕ) → n ≤ m → ds ≡ decimal n → o ≡ Some n)
    → (z : ℤ) → FitsSigned w128 z → unsigned_abs z ≤ most → 45 ∷ ds ≡ signed_decimal z → (k : ℕ) × (z ≡ negsuc k) × (k < 2 ^ 127) × (o ≡ Some (suc k))
negative_read most m ds o bound read (pos n) fits within e = absurd (decimal_unsigned n ds (omega (arith, fits.sfits)) (sym e))
negative_read most m ds o bound read (negsuc k) fits within e =
    (k, refl, omega (arith, fits.sfits), read (suc k) (omega (arith, fits.sfits)) (ap (drop 1) e))

-- one answer is not two
pub none_some : (o : Option ℕ) (n : ℕ) → o ≡ None → o ≡ Some n → ⊥
none_some o n p q = cc

pub some_same : (o : Option ℕ) (m n : ℕ) → o ≡ Some m → o ≡ Some n → m ≡ n
some_same o m n p q = cc
