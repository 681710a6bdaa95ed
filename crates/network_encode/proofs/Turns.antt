-- Steps of the loops that make the parts of a sum, and what they make together.
use Rattle.std.proofs.Common.{◌≡◌, ℕ, zero, suc, ◌+◌, ◌*◌, ◌-◌, ◌<◌, ◌≤◌, min, List, [], ◌∷◌, ◌++◌, drop, length, get_or, ◌+ℤ◌, refl, sym, ap, ◌∙◌, append_assoc, arith}
use Rattle.std.proofs.lemmas.List.{drop_more}
use Rattle.order_ints.specs.Label.{own_labels, variable}
use Rattle.order_ints.specs.declared.atom.Atom.{Atom}
use Rattle.order_ints.specs.declared.atom.Atom.TheVariants.{True}
use Rattle.order_ints.specs.declared.order_int.OrdInt.{OrdInt}
use Rattle.core_cost.specs.Network.{half_up, half_down}
use Rattle.core_forms.specs.declared.form.Core.{Core}
use Rattle.core_forms.specs.declared.form.Core.TheVariants.{Ladder, Comp, EqR}
use Rattle.part_base.specs.declared.parts.Parts.{Parts}
use Rattle.network_encode.specs.MergeParts.{copies, odd_places, even_places, weighted, odd_steps, even_steps, unit_sum, row_cores, row_wires, comparators, wires, half_sums, network_parts}
use Rattle.network_encode.proofs.MergeLaws.{first-var}
use Rattle.network_encode.proofs.UnitLaws.{length-odd, length-even}

-- one more member is pushed
turn : {X : Type 0} (front more rest further all : List X) (x : X) → more ≡ front ++ x ∷ [] → rest ≡ x ∷ further → front ++ rest ≡ all → more ++ further ≡ all
turn front more rest further all x pushed left so_far =
    ap (λ xs. xs ++ further) pushed ∙ append_assoc front (x ∷ []) further ∙ ap (λ xs. front ++ xs) (sym left) ∙ so_far

-- ---- units

copies-next : (n : ℕ) (l : Atom) → 0 < n → copies n l ≡ l ∷ copies (n - 1) l
copies-next zero l some = absurd (omega (arith, some))
copies-next (suc n) l some = let e : n ≡ suc n - 1 = omega arith in ap (λ k. l ∷ copies k l) e

pub copies-turn : (front more all : List Atom) (l : Atom) (count k : ℕ) → k < count → more ≡ front ++ l ∷ [] → front ++ copies (count - k) l ≡ all → more ++ copies (count - (k + 1)) l ≡ all
copies-turn front more all l count k test pushed so_far =
    let e : count - k - 1 ≡ count - (k + 1) = omega (arith, test) in
    turn front more (copies (count - k) l) (copies (count - (k + 1)) l) all l pushed (copies-next (count - k) l (omega (arith, test)) ∙ ap (λ n. l ∷ copies n l) e) so_far

-- the first of a list and then each second one
odd-first : (l : Atom) (ls : List Atom) → odd_places (l ∷ ls) ≡ l ∷ odd_places (drop 1 ls)
odd-first l [] = refl
odd-first l (m ∷ ls) = refl

drop-again : (i : ℕ) (ls : List Atom) → drop 1 (drop i ls) ≡ drop (i + 1) ls
drop-again zero [] = refl
drop-again zero (l ∷ ls) = refl
drop-again (suc i) [] = ap (λ n. drop n []) (let e : suc (i + 1) ≡ suc i + 1 = omega arith in e)
drop-again (suc i) (l ∷ ls) =
    drop-again i ls ∙ ap (λ n. drop n (l ∷ ls)) (let e : suc (i + 1) ≡ suc i + 1 = omega arith in e)

odd-next : (ls : List Atom) (i : ℕ) (d : Atom) → i < length ls → odd_places (drop i ls) ≡ get_or ls i d ∷ odd_places (drop (i + 2) ls)
odd-next ls i d inside =
    let e : i + 1 + 1 ≡ i + 2 = omega arith in
    ap odd_places (drop_more ls i d inside) ∙ odd-first (get_or ls i d) (drop (i + 1) ls)
    ∙ ap (λ rest. get_or ls i d ∷ odd_places rest) (drop-again (i + 1) ls ∙ ap (λ n. drop n ls) e)

pub odd-turn : (front more all : List (Atom × ℕ)) (ls : List Atom) (first k : ℕ) (d : Atom) → first + 2 * k < length ls → more ≡ front ++ (get_or ls (first + 2 * k) d, 1) ∷ [] → front ++ weighted 1 (odd_places (drop (first + 2 * k) ls)) ≡ all → more ++ weighted 1 (odd_places (drop (first + 2 * (k + 1)) ls)) ≡ all
odd-turn front more all ls first k d inside pushed so_far =
    let e : first + 2 * k + 2 ≡ first + 2 * (k + 1) = omega arith in
    turn front more (weighted 1 (odd_places (drop (first + 2 * k) ls))) (weighted 1 (odd_places (drop (first + 2 * (k + 1)) ls))) all (get_or ls (first + 2 * k) d, 1) pushed
    (ap (weighted 1) (odd-next ls (first + 2 * k) d inside ∙ ap (λ n. get_or ls (first + 2 * k) d ∷ odd_places (drop n ls)) e))
    so_far

-- the even places are the odd ones from the second place on
even-second : (ls : List Atom) → odd_places (drop 1 ls) ≡ even_places ls
even-second [] = refl
even-second (l ∷ []) = refl
even-second (l ∷ m ∷ ls) = odd-first m ls ∙ ap (λ rest. m ∷ rest) (even-second ls)

pub even-lengths : (ls ms : List Atom) → length (odd_places (drop 1 ls)) + length (odd_places (drop 1 ms)) ≡ half_down (length ls) + half_down (length ms)
even-lengths ls ms =
    omega (arith, ap length (even-second ls), ap length (even-second ms), length-even ls, length-even ms)

pub odd-lengths : (ls ms : List Atom) → length (odd_places ls) + length (odd_places ms) ≡ half_up (length ls) + half_up (length ms)
odd-lengths ls ms = omega (arith, length-odd ls, length-odd ms)

even-lengths_so : (ls ms : List Atom) → even_steps ls ms ≡ half_down (length ls) + half_down (length ms)
even-lengths_so ls ms = omega (arith, length-even ls, length-even ms)

pub half_sums-made : (old one two : List Core) (x y : Core) (next odd : ℕ) (ls ms : List Atom) → one ≡ old ++ x ∷ [] → two ≡ one ++ y ∷ [] → x ≡ unit_sum next (odd_places ls) (odd_places ms) → y ≡ unit_sum (next + odd) (odd_places (drop 1 ls)) (odd_places (drop 1 ms)) → odd ≡ half_up (length ls) + half_up (length ms) → two ≡ old ++ half_sums next ls ms
half_sums-made old one two x y next odd ls ms first second is_odd is_even count =
    let steps : odd ≡ odd_steps ls ms = omega (arith, count, length-odd ls, length-odd ms) in
    let even : y ≡ unit_sum (next + odd_steps ls ms) (even_places ls) (even_places ms) =
    is_even ∙ (λ i. unit_sum (next + steps i) (even-second ls i) (even-second ms i)) in
    second ∙ ap (λ cores. cores ++ y ∷ []) first ∙ append_assoc old (x ∷ []) (y ∷ []) ∙ (λ i. old ++ is_odd i ∷ even i ∷ [])

-- ---- the row

row-next : (f d e n m : ℕ) → 0 < n → 0 < m → row_cores f (own_labels d n) (own_labels e m) ≡ Comp (variable d) (variable e) (variable f) (variable (f + 1)) ∷ row_cores (f + 2) (own_labels (d + 1) (n - 1)) (own_labels (e + 1) (m - 1))
row-next f d e n m some more = λ i. row_cores f (first-var d n some i) (first-var e m more i)

row-end : (f d e n m : ℕ) → min n m ≡ 0 → row_cores f (own_labels d n) (own_labels e m) ≡ []
row-end f d e zero m none = refl
row-end f d e (suc n) zero none = refl
row-end f d e (suc n) (suc m) none = absurd (omega (arith, none))

pub row-turn : (front more all : List Core) (core : Core) (f d e n m k : ℕ) → k < min n m → more ≡ front ++ core ∷ [] → core ≡ Comp (variable (d + k)) (variable (e + k)) (variable (f + 2 * k)) (variable (f + 2 * k + 1)) → front ++ row_cores (f + 2 * k) (own_labels (d + k) (n - k)) (own_labels (e + k) (m - k)) ≡ all → more ++ row_cores (f + 2 * (k + 1)) (own_labels (d + (k + 1)) (n - (k + 1))) (own_labels (e + (k + 1)) (m - (k + 1))) ≡ all
row-turn front more all core f d e n m k test pushed is so_far =
    let ef : f + 2 * k + 2 ≡ f + 2 * (k + 1) = omega arith in
    let ed : d + k + 1 ≡ d + (k + 1) = omega arith in
    let ee : e + k + 1 ≡ e + (k + 1) = omega arith in
    let en : n - k - 1 ≡ n - (k + 1) = omega (arith, test) in
    let em : m - k - 1 ≡ m - (k + 1) = omega (arith, test) in
    let next : row_cores (f + 2 * k) (own_labels (d + k) (n - k)) (own_labels (e + k) (m - k)) ≡ core ∷ row_cores (f + 2 * (k + 1)) (own_labels (d + (k + 1)) (n - (k + 1))) (own_labels (e + (k + 1)) (m - (k + 1))) =
    row-next (f + 2 * k) (d + k) (e + k) (n - k) (m - k) (omega (arith, test)) (omega (arith, test))
    ∙ (λ i. sym is i ∷ row_cores (ef i) (own_labels (ed i) (en i)) (own_labels (ee i) (em i))) in
    turn front more (row_cores (f + 2 * k) (own_labels (d + k) (n - k)) (own_labels (e + k) (m - k))) (row_cores (f + 2 * (k + 1)) (own_labels (d + (k + 1)) (n - (k + 1))) (own_labels (e + (k + 1)) (m - (k + 1)))) all core pushed next so_far

append-nil : {X : Type 0} (xs : List X) → xs ++ [] ≡ xs
append-nil [] = refl
append-nil (x ∷ xs) = ap (λ rest. x ∷ rest) (append-nil xs)

pub row-done : (cores all : List Core) (f d e n m k : ℕ) → min n m ≤ k → cores ++ row_cores (f + 2 * k) (own_labels (d + k) (n - k)) (own_labels (e + k) (m - k)) ≡ all → cores ≡ all
row-done cores all f d e n m k test so_far =
    sym (append-nil cores)
    ∙ ap (λ rest. cores ++ rest) (sym (row-end (f + 2 * k) (d + k) (e + k) (n - k) (m - k) (omega (arith, test))))
    ∙ so_far

-- ---- the wires

pub vars-turn : (front more all : List (Atom × ℕ)) (weight first count k : ℕ) (x : Atom) → k < count → more ≡ front ++ (x, weight) ∷ [] → x ≡ variable (first + k) → front ++ weighted weight (own_labels (first + k) (count - k)) ≡ all → more ++ weighted weight (own_labels (first + (k + 1)) (count - (k + 1))) ≡ all
vars-turn front more all weight first count k x test pushed is so_far =
    let ef : first + k + 1 ≡ first + (k + 1) = omega arith in
    let en : count - k - 1 ≡ count - (k + 1) = omega (arith, test) in
    turn front more (weighted weight (own_labels (first + k) (count - k))) (weighted weight (own_labels (first + (k + 1)) (count - (k + 1)))) all (x, weight) pushed
    (ap (weighted weight) (first-var (first + k) (count - k) (omega (arith, test)) ∙ (λ i. sym is i ∷ own_labels (ef i) (en i))))
    so_far

-- the wires are the variables of the comparators and those that have no partner
row_wires-vars : (f d e n m : ℕ) → row_wires f (own_labels d n) (own_labels e m) ≡ own_labels f (2 * min n m) ++ own_labels (d + min n m) (n - min n m) ++ own_labels (e + min n m) (m - min n m)
row_wires-vars f d e zero m =
    let p : min zero m ≡ 0 = omega arith in
    let two : 2 * min zero m ≡ 0 = omega arith in
    let rest : zero - min zero m ≡ 0 = omega arith in
    let ee : e ≡ e + min zero m = omega arith in
    let em : m ≡ m - min zero m = omega arith in
    λ i. own_labels f (sym two i) ++ own_labels (d + min zero m) (sym rest i) ++ own_labels (ee i) (em i)
row_wires-vars f d e (suc n) zero =
    let two : 2 * min (suc n) zero ≡ 0 = omega arith in
    let rest : zero - min (suc n) zero ≡ 0 = omega arith in
    let ed : d ≡ d + min (suc n) zero = omega arith in
    let en : suc n ≡ suc n - min (suc n) zero = omega arith in
    sym (append-nil (own_labels d (suc n)))
    ∙ (λ i. own_labels f (sym two i) ++ own_labels (ed i) (en i) ++ own_labels (e + min (suc n) zero) (sym rest i))
row_wires-vars f d e (suc n) (suc m) =
    let two : suc (suc (2 * min n m)) ≡ 2 * min (suc n) (suc m) = omega arith in
    let ff : f + 1 + 1 ≡ f + 2 = omega arith in
    let ed : d + 1 + min n m ≡ d + min (suc n) (suc m) = omega arith in
    let ee : e + 1 + min n m ≡ e + min (suc n) (suc m) = omega arith in
    let en : n - min n m ≡ suc n - min (suc n) (suc m) = omega arith in
    let em : m - min n m ≡ suc m - min (suc n) (suc m) = omega arith in
    ap (λ rest. variable f ∷ variable (f + 1) ∷ rest) (row_wires-vars (f + 2) (d + 1) (e + 1) n m)
    ∙ (λ i. (variable f ∷ variable (f + 1) ∷ own_labels (sym ff i) (2 * min n m)) ++ own_labels (ed i) (en i) ++ own_labels (ee i) (em i))
    ∙ ap (λ count. own_labels f count ++ own_labels (d + min (suc n) (suc m)) (suc n - min (suc n) (suc m)) ++ own_labels (e + min (suc n) (suc m)) (suc m - min (suc n) (suc m))) two

weighted-append : (w : ℕ) (ls ms : List Atom) → weighted w (ls ++ ms) ≡ weighted w ls ++ weighted w ms
weighted-append w [] ms = refl
weighted-append w (l ∷ ls) ms = ap (λ rest. (l, w) ∷ rest) (weighted-append w ls ms)

-- what four rows of variables make together
pub wires-made : (none one two three four : List (Atom × ℕ)) (w next odd even p : ℕ) → none ≡ [] → p ≡ min (odd - 1) even → one ≡ none ++ weighted w (own_labels next 1) → two ≡ one ++ weighted w (own_labels (next + odd + even) (2 * p)) → three ≡ two ++ weighted w (own_labels (next + 1 + p) (odd - 1 - p)) → four ≡ three ++ weighted w (own_labels (next + odd + p) (even - p)) → four ≡ weighted w (wires next odd even)
wires-made none one two three four w next odd even p is_none is_p e1 e2 e3 e4 =
    let start : one ≡ (variable next, w) ∷ [] = e1 ∙ ap (λ xs. xs ++ weighted w (own_labels next 1)) is_none in
    let f = next + odd + even in
    let x = own_labels f (2 * p) in
    let y = own_labels (next + 1 + p) (odd - 1 - p) in
    let z = own_labels (next + odd + p) (even - p) in
    let second : two ≡ (variable next, w) ∷ weighted w (own_labels (next + odd + even) (2 * p)) = e2 ∙ ap (λ xs. xs ++ weighted w x) start in
    let third : three ≡ (variable next, w) ∷ (weighted w (own_labels (next + odd + even) (2 * p)) ++ weighted w (own_labels (next + 1 + p) (odd - 1 - p))) =
    e3 ∙ ap (λ xs. xs ++ weighted w y) second in
    let fourth : four ≡ (variable next, w) ∷ ((weighted w (own_labels (next + odd + even) (2 * p)) ++ weighted w (own_labels (next + 1 + p) (odd - 1 - p))) ++ weighted w (own_labels (next + odd + p) (even - p))) =
    e4 ∙ ap (λ xs. xs ++ weighted w z) third in
    fourth
    ∙ ap (λ rest. (variable next, w) ∷ rest) (
    ap (λ xs. xs ++ weighted w z) (sym (weighted-append w x y))
    ∙ sym (weighted-append w (x ++ y) z)
    ∙ (λ i. weighted w (own_labels f (2 * is_p i) ++ own_labels (next + 1 + is_p i) (odd - 1 - is_p i) ++ own_labels (next + odd + is_p i) (even - is_p i)))
    ∙ ap (weighted w) (sym (row_wires-vars f (next + 1) (next + odd) (odd - 1) even)))

-- ---- the whole

pub network-made : (zero_cores one two three : List Core) (core : Core) (sum a b c : OrdInt) (next odd even p g : ℕ) (ls ms : List Atom) → odd ≡ half_up (length ls) + half_up (length ms) → even ≡ half_down (length ls) + half_down (length ms) → p ≡ min (odd - 1) even → zero_cores ≡ Ladder a ∷ Ladder b ∷ [] → one ≡ zero_cores ++ half_sums next ls ms → two ≡ one ++ comparators next odd even → three ≡ two ++ core ∷ [] → core ≡ EqR True sum c → sum ≡ record { base = a.base +ℤ b.base; steps = weighted g (wires next odd even) } → (made : Parts) → made.cores ≡ three → made.fresh ≡ odd + even + 2 * p → made ≡ network_parts next a b c g ls ms
network-made zero_cores one two three core sum a b c next odd even p g ls ms is_odd is_even is_p e0 e1 e2 e3 is sum_is made made_cores made_fresh =
    let no : odd ≡ odd_steps ls ms = omega (arith, is_odd, length-odd ls, length-odd ms) in
    let ne : even ≡ even_steps ls ms = is_even ∙ sym (even-lengths_so ls ms) in
    let cores : three ≡ (Ladder a ∷ Ladder b ∷ half_sums next ls ms) ++ (comparators next odd even ++ EqR True (record { base = a.base +ℤ b.base; steps = weighted g (wires next odd even) }) c ∷ []) =
    e3
    ∙ ap (λ cores. cores ++ core ∷ []) (e2 ∙ ap (λ cores. cores ++ comparators next odd even) (e1 ∙ ap (λ cores. cores ++ half_sums next ls ms) e0))
    ∙ append_assoc (Ladder a ∷ Ladder b ∷ half_sums next ls ms) (comparators next odd even) (core ∷ [])
    ∙ (λ i. (Ladder a ∷ Ladder b ∷ half_sums next ls ms) ++ comparators next odd even ++ (is ∙ ap (λ s. EqR True s c) sum_is) i ∷ []) in
    let whole : three ≡ (network_parts next a b c g ls ms).cores =
    cores ∙ (λ i. (Ladder a ∷ Ladder b ∷ half_sums next ls ms) ++ comparators next (no i) (ne i) ++ EqR True (record { base = a.base +ℤ b.base; steps = weighted g (wires next (no i) (ne i)) }) c ∷ []) in
    let fresh : made.fresh ≡ (network_parts next a b c g ls ms).fresh = omega (arith, no, ne, is_p, made_fresh) in
    λ i. record { cores = (made_cores ∙ whole) i; fresh = fresh i }
