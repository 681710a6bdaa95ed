-- The least mark.
use Rattle.std.proofs.Common.{◌≡◌, ℕ, zero, suc, ◌+◌, ◌≤◌, ◌<◌, Bool, true, false, List, [], ◌∷◌, ◌++◌, length, get_or, set, refl, sym, ap, ◌∙◌, arith, Some, None}
use Rattle.std.specs.Prelude.{nat_lt, if◌then◌else◌}
use Rattle.std.proofs.lemmas.Bool.{false≢true, lt-ltb, le-ltb, ltb-true, ltb-false}
use Rattle.fixpoint_queue.specs.Marks.{least_marked, false_first}

pub false-bound : (marks : List Bool) → false_first marks ≤ length marks
false-bound [] = omega arith
false-bound (true ∷ marks) = omega arith
false-bound (false ∷ marks) = omega (arith, false-bound marks)

pub false-next : (marks : List Bool) (i : ℕ) (d : Bool) → i < length marks → get_or marks i d ≡ false → i ≤ false_first marks → i + 1 ≤ false_first marks
false-next [] i d lt at le = absurd (omega (arith, lt))
false-next (true ∷ marks) zero d lt at le = absurd (false≢true (sym at))
false-next (true ∷ marks) (suc i) d lt at le = absurd (omega (arith, le))
false-next (false ∷ marks) zero d lt at le = omega arith
false-next (false ∷ marks) (suc i) d lt at le = omega (arith, false-next marks i d (omega (arith, lt)) at (omega (arith, le)))

pub false-here : (marks : List Bool) (i : ℕ) (d : Bool) → i < length marks → get_or marks i d ≡ true → i ≤ false_first marks → i ≡ false_first marks
false-here [] i d lt at le = absurd (omega (arith, lt))
false-here (true ∷ marks) zero d lt at le = refl
false-here (true ∷ marks) (suc i) d lt at le = absurd (omega (arith, le))
false-here (false ∷ marks) zero d lt at le = absurd (false≢true at)
false-here (false ∷ marks) (suc i) d lt at le = omega (arith, false-here marks i d (omega (arith, lt)) at (omega (arith, le)))

-- a mark that is set leaves those before it
pub false-set : (marks : List Bool) (i : ℕ) (m : Bool) (n : ℕ) → n ≤ false_first marks → n ≤ i → n ≤ false_first (set marks i m)
false-set [] i m n le low = le
false-set (b ∷ marks) zero m n le low = omega (arith, low)
false-set (true ∷ marks) (suc i) m n le low = le
false-set (false ∷ marks) (suc i) m zero le low = omega arith
false-set (false ∷ marks) (suc i) m (suc n) le low = omega (arith, false-set marks i m n (omega (arith, le)) (omega (arith, low)))

-- and one that is taken away makes no more than before true
pub false-cleared : (marks : List Bool) (i : ℕ) (n : ℕ) → n ≤ false_first marks → n ≤ false_first (set marks i false)
false-cleared [] i n le = le
false-cleared (true ∷ marks) zero n le = omega (arith, le)
false-cleared (false ∷ marks) zero n le = le
false-cleared (true ∷ marks) (suc i) n le = le
false-cleared (false ∷ marks) (suc i) zero le = omega arith
false-cleared (false ∷ marks) (suc i) (suc n) le = omega (arith, false-cleared marks i n (omega (arith, le)))

pub false-append : (marks more : List Bool) → false_first marks ≤ false_first (marks ++ more)
false-append [] more = omega arith
false-append (true ∷ marks) more = omega arith
false-append (false ∷ marks) more = omega (arith, false-append marks more)

marked-is : (id : ℕ) (marks : List Bool) → least_marked id marks ≡ (if nat_lt (false_first marks) (length marks) then Some (id + false_first marks) else None)
marked-is id [] = refl
marked-is id (true ∷ marks) =
    let e : id ≡ id + 0 = omega arith in
    ap Some e ∙ ap (λ t. if t then Some (id + 0) else None) (sym (lt-ltb 0 (suc (length marks)) (omega arith)))
marked-is id (false ∷ marks) =
    let e : id + 1 + false_first marks ≡ id + (false_first marks + 1) = omega arith in
    marked-is (id + 1) marks ∙ ap (λ (n : ℕ). if nat_lt (false_first marks) (length marks) then Some n else None) e ∙ more (false_first marks) (length marks)
  where
    more : (m n : ℕ) → (if nat_lt m n then Some (id + (false_first marks + 1)) else None) ≡ (if nat_lt (m + 1) (suc n) then Some (id + (false_first marks + 1)) else None)
    more m n = by (nat_lt m n) refl
      where
        by : (b : Bool) → nat_lt m n ≡ b → (if b then Some (id + (false_first marks + 1)) else None) ≡ (if nat_lt (m + 1) (suc n) then Some (id + (false_first marks + 1)) else None)
        by true h = ap (λ t. if t then Some (id + (false_first marks + 1)) else None) (sym (lt-ltb (m + 1) (suc n) (omega (arith, ltb-true m n h))))
        by false h = ap (λ t. if t then Some (id + (false_first marks + 1)) else None) (sym (le-ltb (m + 1) (suc n) (omega (arith, ltb-false m n h))))

pub marked-found : (marks : List Bool) (first : ℕ) → first ≡ false_first marks → first < length marks → Some (first + 1) ≡ least_marked 1 marks
marked-found marks first is lt =
    let e : first + 1 ≡ 1 + false_first marks = omega (arith, is) in
    ap Some e
    ∙ ap (λ t. if t then Some (1 + false_first marks) else None) (sym (lt-ltb (false_first marks) (length marks) (omega (arith, is, lt))))
    ∙ sym (marked-is 1 marks)

pub marked-none : (marks : List Bool) (first : ℕ) → first ≡ false_first marks → length marks ≤ first → None ≡ least_marked 1 marks
marked-none marks first is le =
    ap (λ t. if t then Some (1 + false_first marks) else None) (sym (le-ltb (false_first marks) (length marks) (omega (arith, is, le))))
    ∙ sym (marked-is 1 marks)
