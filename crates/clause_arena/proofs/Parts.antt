-- Parts of the arena, and the literals that they stand for.
use Rattle.std.proofs.Common.{◌≡◌, ℕ, zero, suc, ◌+◌, ◌*◌, ◌/◌, ◌%◌, ◌<◌, ◌≤◌, Bool, true, false, cond, eqb, List, [], ◌∷◌, ◌++◌, length, map, set, get_or, take, drop, refl, ap, sym, ◌∙◌, arith, length-append, length-drop}
use Rattle.std.specs.Prelude.{swap}
use Rattle.std.proofs.lemmas.Bool.{eq-eqb, ne_eqb}
use Rattle.std.proofs.lemmas.List.{ext_get_or, length-take-le, get_or-take, get_or-drop, get_or_append_left, drop-set-add, map-set, take_all, drop_at, get_or-map, length-map}
use Rattle.std.proofs.lemmas.List.Edits.{swap_is}
use Rattle.order_ints.specs.declared.literal.Lit.{Lit}
use Rattle.clause_arena.specs.Clauses.{no_lit}
use Rattle.clause_arena.specs.Codes.{code_of, lit_of}

-- the number of a literal says the literal
pub lit_of-code_of : (l : Lit) → lit_of (code_of l) ≡ l
lit_of-code_of l = λ i. record { var = half l.var l.positive i; positive = odd l.var l.positive i }
  where
    half : (v : ℕ) (b : Bool) → (2 * v + cond b 1 0) / 2 ≡ v
    half v true = omega arith
    half v false = omega arith

    odd : (v : ℕ) (b : Bool) → eqb ((2 * v + cond b 1 0) % 2) 1 ≡ b
    odd v true = eq-eqb ((2 * v + 1) % 2) 1 (omega arith)
    odd v false = ne_eqb ((2 * v + 0) % 2) 1 (λ is. omega (arith, is))

pub lits_of_codes : (lits : List Lit) → map lit_of (map code_of lits) ≡ lits
lits_of_codes [] = refl
lits_of_codes (l ∷ ls) = λ i. lit_of-code_of l i ∷ lits_of_codes ls i

-- a part of a list
abbrev pub part : List ℕ → ℕ → ℕ → List ℕ
part codes start n = take n (drop start codes)

pub length-part : (codes : List ℕ) (start n : ℕ) → start + n ≤ length codes → length (part codes start n) ≡ n
length-part codes start n within = length-take-le n (drop start codes) (omega (arith, length-drop start codes))

pub get_or-part : (codes : List ℕ) (start n k : ℕ) → k < n → get_or (part codes start n) k 0 ≡ get_or codes (start + k) 0
get_or-part codes start n k low = get_or-take n (drop start codes) k 0 low ∙ get_or-drop start codes k 0

-- two parts with the same numbers
pub part-same : (codes codes1 : List ℕ) (start start1 n : ℕ) → start + n ≤ length codes → start1 + n ≤ length codes1 → ((k : ℕ) → k < n → get_or codes1 (start1 + k) 0 ≡ get_or codes (start + k) 0) → part codes1 start1 n ≡ part codes start n
part-same codes codes1 start start1 n within within1 same =
    let count = length-part codes start n within in
    let count1 = length-part codes1 start1 n within1 in
    ext_get_or {A = ℕ} 0 (part codes1 start1 n) (part codes start n) (count1 ∙ sym count)
    (λ k low.
    let below : k < n = omega (arith, count1) in
    get_or-part codes1 start1 n k below ∙ same k below ∙ sym (get_or-part codes start n k below))

-- a part of the front stays where numbers come behind
pub part-front : (codes more : List ℕ) (start n : ℕ) → start + n ≤ length codes → part (codes ++ more) start n ≡ part codes start n
part-front codes more start n within =
    part-same codes (codes ++ more) start start n within (omega (arith, length-append codes more)) (λ k low. get_or_append_left codes more 0 (start + k) (omega arith))

-- and what comes is the part behind
pub part-behind : (codes more : List ℕ) (n : ℕ) → n ≡ length more → part (codes ++ more) (length codes) n ≡ more
part-behind codes more n is = ap (take n) (drop_at codes more (length codes) refl) ∙ take_all n more (omega arith)

-- a write within a part, and one outside of it
take-set : {A : Type 0} (n : ℕ) (xs : List A) (i : ℕ) (x : A) → i < n → take n (set xs i x) ≡ set (take n xs) i x
take-set zero xs i x low = absurd (omega (arith, low))
take-set (suc n) [] i x low = refl
take-set (suc n) (y ∷ xs) zero x low = refl
take-set {A} (suc n) (y ∷ xs) (suc i) x low = ap (λ (ys : List A). y ∷ ys) (take-set n xs i x (omega (arith, low)))

pub part-set : (codes : List ℕ) (start n i x : ℕ) → i < n → part (set codes (start + i) x) start n ≡ set (part codes start n) i x
part-set codes start n i x low = ap (take n) (drop-set-add start codes i x) ∙ take-set n (drop start codes) i x low

-- two numbers of a part change places
pub part-swap : (codes : List ℕ) (start n i j : ℕ) → start + n ≤ length codes → i < n → j < n → part (swap codes (start + i) (start + j)) start n ≡ swap (part codes start n) i j
part-swap codes start n i j within low high =
    let count = length-part codes start n within in
    let x = get_or codes (start + j) 0 in
    let y = get_or codes (start + i) 0 in
    ap (λ (xs : List ℕ). part xs start n) (sym (swap_is codes (start + i) (start + j) 0 (omega arith) (omega arith)))
    ∙ part-set (set codes (start + i) x) start n j y high
    ∙ ap (λ (xs : List ℕ). set xs j y) (part-set codes start n i x low)
    ∙ (λ k. set (set (part codes start n) i (sym (get_or-part codes start n j high) k)) j (sym (get_or-part codes start n i low) k))
    ∙ swap_is (part codes start n) i j 0 (omega (arith, count)) (omega (arith, count))

pub lits-swap : (codes : List ℕ) (i j : ℕ) → i < length codes → j < length codes → map lit_of (swap codes i j) ≡ swap (map lit_of codes) i j
lits-swap codes i j low high =
    let x = get_or codes j 0 in
    let y = get_or codes i 0 in
    let count = length-map codes lit_of in
    ap (map lit_of) (sym (swap_is codes i j 0 low high))
    ∙ map-set lit_of (set codes i x) j y
    ∙ ap (λ (ls : List Lit). set ls j (lit_of y)) (map-set lit_of codes i x)
    ∙ (λ k. set (set (map lit_of codes) i (sym (get_or-map lit_of codes j 0 no_lit high) k)) j (sym (get_or-map lit_of codes i 0 no_lit low) k))
    ∙ swap_is (map lit_of codes) i j no_lit (omega (arith, count)) (omega (arith, count))
