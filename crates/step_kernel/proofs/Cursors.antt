-- Where the first pending core stands.
use Rattle.std.proofs.Common.{◌≡◌, ℕ, zero, suc, ◌+◌, ◌≤◌, ◌<◌, Bool, true, false, List, [], ◌∷◌, ◌++◌, map, length, get_or, set, drop, refl, sym, ap, ◌∙◌, arith, Option, Some, None}
use Rattle.std.specs.Prelude.{is_some, nat_lt, if◌then◌else◌}
use Rattle.std.proofs.lemmas.Bool.{false≢true, true≢false, ltb-true, ltb-false, lt-ltb, le-ltb}
use Rattle.std.proofs.lemmas.Option.{none-some}
use Rattle.core_forms.specs.declared.form.Core.{Core}
use Rattle.step_kernel.specs.Cursor.{gone_first}
use Rattle.step_kernel.specs.Least.{least_from}

pub gone-bound : (cores : List (Option Core)) → gone_first cores ≤ length cores
gone-bound [] = omega arith
gone-bound (None ∷ cores) = omega (arith, gone-bound cores)
gone-bound (Some core ∷ cores) = omega arith

-- one more, where the next core is gone
pub gone-next : (cores : List (Option Core)) (i : ℕ) (x : Option Core) → i < length cores → x ≡ get_or cores i x → is_some x ≡ false → i ≤ gone_first cores → i + 1 ≤ gone_first cores
gone-next [] i x lt at none le = absurd (omega (arith, lt))
gone-next (None ∷ cores) zero x lt at none le = omega arith
gone-next (None ∷ cores) (suc i) x lt at none le = omega (arith, gone-next cores i x (omega (arith, lt)) at none (omega (arith, le)))
gone-next (Some core ∷ cores) zero x lt at none le = absurd (true≢false (ap is_some (sym at) ∙ none))
gone-next (Some core ∷ cores) (suc i) x lt at none le = absurd (omega (arith, le))

-- no more, where it is pending
pub gone-here : (cores : List (Option Core)) (i : ℕ) (x : Option Core) → i < length cores → x ≡ get_or cores i x → is_some x ≡ true → i ≤ gone_first cores → i ≡ gone_first cores
gone-here [] i x lt at none le = absurd (omega (arith, lt))
gone-here (None ∷ cores) zero x lt at none le = absurd (false≢true (ap is_some (sym at) ∙ none))
gone-here (None ∷ cores) (suc i) x lt at none le = omega (arith, gone-here cores i x (omega (arith, lt)) at none (omega (arith, le)))
gone-here (Some core ∷ cores) zero x lt at none le = refl
gone-here (Some core ∷ cores) (suc i) x lt at none le = absurd (omega (arith, le))

-- no fewer, where a core leaves, and where cores come behind
pub gone-without : (cores : List (Option Core)) (i : ℕ) → gone_first cores ≤ gone_first (set cores i None)
gone-without [] i = omega arith
gone-without (None ∷ cores) zero = omega arith
gone-without (None ∷ cores) (suc i) = omega (arith, gone-without cores i)
gone-without (Some core ∷ cores) zero = omega arith
gone-without (Some core ∷ cores) (suc i) = omega arith

-- as many, where a pending core is replaced by one
pub gone-put : (cores : List (Option Core)) (i : ℕ) (core new : Core) → get_or cores i None ≡ Some core → gone_first (set cores i (Some new)) ≡ gone_first cores
gone-put [] i core new at = refl
gone-put (None ∷ cores) zero core new at = absurd (none-some core at)
gone-put (None ∷ cores) (suc i) core new at = ap (λ (n : ℕ). n + 1) (gone-put cores i core new at)
gone-put (Some other ∷ cores) zero core new at = refl
gone-put (Some other ∷ cores) (suc i) core new at = refl

pub gone-append : (cs ds : List (Option Core)) → gone_first cs ≤ gone_first (cs ++ ds)
gone-append [] ds = omega arith
gone-append (None ∷ cs) ds = omega (arith, gone-append cs ds)
gone-append (Some core ∷ cs) ds = omega arith

-- the least id is that of the first pending core
pub least-first : (test : Core → Bool) (id : ℕ) (cores : List (Option Core)) → least_from test id cores ≡ least_from test (id + gone_first cores) (drop (gone_first cores) cores)
least-first test id [] = refl
least-first test id (None ∷ cores) =
    least-first test (id + 1) cores
    ∙ (let e : id + 1 + gone_first cores ≡ id + (gone_first cores + 1) = omega arith in
    ap (λ (n : ℕ). least_from test n (drop (gone_first cores) cores)) e)
    ∙ ap (λ (ds : List (Option Core)). least_from test (id + (gone_first cores + 1)) ds) (dropped (gone_first cores) cores)
  where
    dropped : (n : ℕ) (cs : List (Option Core)) → drop n cs ≡ drop (n + 1) (None ∷ cs)
    dropped n cs = let e : suc n ≡ n + 1 = omega arith in ap (λ (m : ℕ). drop m (None ∷ cs)) e
least-first test id (Some core ∷ cores) = let e : id ≡ id + 0 = omega arith in ap (λ (n : ℕ). least_from test n (Some core ∷ cores)) e

pub least-is : (id : ℕ) (cores : List (Option Core)) → least_from (λ core. true) id cores ≡ (if nat_lt (gone_first cores) (length cores) then Some (id + gone_first cores) else None)
least-is id [] = refl
least-is id (None ∷ cores) =
    let e : id + 1 + gone_first cores ≡ id + (gone_first cores + 1) = omega arith in
    least-is (id + 1) cores ∙ ap (λ (n : ℕ). if nat_lt (gone_first cores) (length cores) then Some n else None) e ∙ more (gone_first cores) (length cores)
  where
    more : (m n : ℕ) → (if nat_lt m n then Some (id + (gone_first cores + 1)) else None) ≡ (if nat_lt (m + 1) (suc n) then Some (id + (gone_first cores + 1)) else None)
    more m n = by (nat_lt m n) refl
      where
        by : (b : Bool) → nat_lt m n ≡ b → (if b then Some (id + (gone_first cores + 1)) else None) ≡ (if nat_lt (m + 1) (suc n) then Some (id + (gone_first cores + 1)) else None)
        by true h = ap (λ t. if t then Some (id + (gone_first cores + 1)) else None) (sym (lt-ltb (m + 1) (suc n) (omega (arith, ltb-true m n h))))
        by false h = ap (λ t. if t then Some (id + (gone_first cores + 1)) else None) (sym (le-ltb (m + 1) (suc n) (omega (arith, ltb-false m n h))))
least-is id (Some core ∷ cores) =
    let e : id ≡ id + 0 = omega arith in
    ap Some e ∙ ap (λ t. if t then Some (id + 0) else None) (sym (lt-ltb 0 (suc (length cores)) (omega arith)))

pub least-found : (cores : List (Option Core)) (first : ℕ) → first ≡ gone_first cores → first < length cores → Some (first + 1) ≡ least_from (λ core. true) 1 cores
least-found cores first is lt =
    let e : first + 1 ≡ 1 + gone_first cores = omega (arith, is) in
    ap Some e
    ∙ ap (λ t. if t then Some (1 + gone_first cores) else None) (sym (lt-ltb (gone_first cores) (length cores) (omega (arith, is, lt))))
    ∙ sym (least-is 1 cores)

pub least-none : (cores : List (Option Core)) (first : ℕ) → first ≡ gone_first cores → length cores ≤ first → None ≡ least_from (λ core. true) 1 cores
least-none cores first is le =
    ap (λ t. if t then Some (1 + gone_first cores) else None) (sym (le-ltb (gone_first cores) (length cores) (omega (arith, is, le))))
    ∙ sym (least-is 1 cores)

-- of cores that are all pending none is gone
pub gone-pending : (cores : List Core) → gone_first (map Some cores) ≡ 0
gone-pending [] = refl
gone-pending (core ∷ cores) = refl
