-- Parts by marks, of which one more is set.
use Rattle.std.proofs.Common.{◌≡◌, ℕ, zero, suc, ◌+◌, ◌<◌, ◌≤◌, ℤ, Bool, true, false, List, [], ◌∷◌, ◌++◌, length, refl, ap, arith, add-one}
use Rattle.std.specs.Prelude.{◌==◌, slice_index_or, slice_set, if◌then◌else◌}
use Rattle.model_meaning.specs.declared.model.Stmt.{Stmt}
use Rattle.model_meaning.specs.declared.model.Model.{Model}
use Rattle.model_meaning.specs.declared.model.Assignment.{Assignment}
use Rattle.model_meaning.specs.Holds.{Holds}
use Rattle.model_meaning.specs.Solutions.{AllHold, IsSolution}
use Rattle.model_parts.specs.Only.{numbers_of, all_but}
use Rattle.model_parts.specs.Sides.{kept_of}
use Rattle.core_extract.specs.Parts.{part_of, MeetsOthers, AreFound, numbers_before}

kept-none : (ms : List Bool) → kept_of ms [] ≡ []
kept-none [] = refl
kept-none (m ∷ ms) = refl

-- where each statement of a longer list holds but one, so does each of a shorter one
skip : (a : List ℤ) (n : ℕ) (s : Stmt) (ss : List Stmt) → AllHold a (all_but n (s ∷ ss)) → AllHold a (all_but n ss)
skip a n s ss h = by_test (s.number == n) h
  where
    by_test : (b : Bool) → AllHold a (if b then all_but n ss else s ∷ all_but n ss) → AllHold a (all_but n ss)
    by_test true k = k
    by_test false k = k.1

under : (a : List ℤ) (n : ℕ) (s : Stmt) (ss ts : List Stmt) → (AllHold a (all_but n ss) → AllHold a (all_but n ts)) → AllHold a (all_but n (s ∷ ss)) → AllHold a (all_but n (s ∷ ts))
under a n s ss ts f h = by_test (s.number == n) h
  where
    by_test : (b : Bool) → AllHold a (if b then all_but n ss else s ∷ all_but n ss) → AllHold a (if b then all_but n ts else s ∷ all_but n ts)
    by_test true k = f k
    by_test false k = (k.0, f k.1)

pub fewer-hold : (a : List ℤ) (n : ℕ) (out : List Bool) (i : ℕ) (ss : List Stmt) → AllHold a (all_but n (kept_of out ss)) → AllHold a (all_but n (kept_of (slice_set out i true) ss))
fewer-hold a n [] i ss h = h
fewer-hold a n (m ∷ ms) zero [] h = h
fewer-hold a n (m ∷ ms) (suc i) [] h = h
fewer-hold a n (true ∷ ms) zero (s ∷ ss) h = h
fewer-hold a n (false ∷ ms) zero (s ∷ ss) h = skip a n s (kept_of ms ss) h
fewer-hold a n (true ∷ ms) (suc i) (s ∷ ss) h = fewer-hold a n ms i ss h
fewer-hold a n (false ∷ ms) (suc i) (s ∷ ss) h = under a n s (kept_of ms ss) (kept_of (slice_set ms i true) ss) (fewer-hold a n ms i ss) h

all-hold : (a : List ℤ) (n : ℕ) (ss : List Stmt) → AllHold a ss → AllHold a (all_but n ss)
all-hold a n [] h = tt
all-hold a n (s ∷ ss) h = by_test (s.number == n) h.0 (all-hold a n ss h.1)
  where
    by_test : (b : Bool) → Holds a s.what → AllHold a (all_but n ss) → AllHold a (if b then all_but n ss else s ∷ all_but n ss)
    by_test true k rest = rest
    by_test false k rest = (k, rest)

same : (n : ℕ) → (n == n) ≡ true
same n = grind arith

-- a solution of what is left without a statement meets the others
pub left-out : (a : List ℤ) (d : ℕ) (out : List Bool) (i : ℕ) (ss : List Stmt) → i < length out → AllHold a (kept_of (slice_set out i true) ss)
    → AllHold a (all_but (slice_index_or (numbers_of ss) i d) (kept_of out ss))
left-out a d [] i ss l h = absurd (omega arith)
left-out a d (m ∷ ms) i [] l h = tt
left-out a d (true ∷ ms) zero (s ∷ ss) l h = all-hold a s.number (kept_of ms ss) h
left-out a d (false ∷ ms) zero (s ∷ ss) l h = rw (same s.number) (all-hold a s.number (kept_of ms ss) h)
left-out a d (true ∷ ms) (suc i) (s ∷ ss) l h = left-out a d ms i ss (omega arith) h
left-out a d (false ∷ ms) (suc i) (s ∷ ss) l h = by_test (s.number == slice_index_or (numbers_of ss) i d) h.0 (left-out a d ms i ss (omega arith) h.1)
  where
    n : ℕ
    n = slice_index_or (numbers_of ss) i d

    by_test : (b : Bool) → Holds a s.what → AllHold a (all_but n (kept_of ms ss)) → AllHold a (if b then all_but n (kept_of ms ss) else s ∷ all_but n (kept_of ms ss))
    by_test true k rest = rest
    by_test false k rest = (k, rest)

pub found-fewer : (m : Model) (out : List Bool) (i : ℕ) (ns : List ℕ) (given : List Assignment) → AreFound (part_of m out) ns given → AreFound (part_of m (slice_set out i true)) ns given
found-fewer m out i [] [] h = tt
found-fewer m out i [] (a ∷ given) h = absurd h
found-fewer m out i (n ∷ ns) [] h = absurd h
found-fewer m out i (n ∷ ns) (a ∷ given) h = (
  record { in_domains = h.0.in_domains; others = fewer-hold a.values n out i m.stmts h.0.others },
  found-fewer m out i ns given h.1,
)

pub solved-meets : (m : Model) (d : ℕ) (out : List Bool) (i : ℕ) (a : Assignment) → i < length out → IsSolution (part_of m (slice_set out i true)) a.values
    → MeetsOthers (part_of m out) (slice_index_or (numbers_of m.stmts) i d) a
solved-meets m d out i a l h = record { in_domains = h.in_domains; others = left-out a.values d out i m.stmts l h.holds }

pub found-more : (p : Model) (n : ℕ) (a : Assignment) (ns : List ℕ) (given : List Assignment) → AreFound p ns given → MeetsOthers p n a → AreFound p (ns ++ n ∷ []) (given ++ a ∷ [])
found-more p n a [] [] h k = (k, tt)
found-more p n a [] (b ∷ given) h k = absurd h
found-more p n a (m ∷ ns) [] h k = absurd h
found-more p n a (m ∷ ns) (b ∷ given) h k = (h.0, found-more p n a ns given h.1 k)

-- the numbers before a place

pub before-set : (i : ℕ) (out : List Bool) (ss : List Stmt) → numbers_before i (slice_set out i true) ss ≡ numbers_before i out ss
before-set zero out ss = refl
before-set (suc i) [] ss = refl
before-set (suc i) (m ∷ ms) [] = refl
before-set (suc i) (true ∷ ms) (s ∷ ss) = before-set i ms ss
before-set (suc i) (false ∷ ms) (s ∷ ss) = ap (λ (ns : List ℕ). s.number ∷ ns) (before-set i ms ss)

next-out : (i : ℕ) (out : List Bool) (ss : List Stmt) → i < length out → slice_index_or out i false ≡ true → numbers_before (suc i) out ss ≡ numbers_before i out ss
next-out i [] ss l e = absurd (omega arith)
next-out zero (m ∷ ms) [] l e = refl
next-out (suc i) (m ∷ ms) [] l e = refl
next-out zero (true ∷ ms) (s ∷ ss) l e = refl
next-out zero (false ∷ ms) (s ∷ ss) l e = absurd (cc)
next-out (suc i) (true ∷ ms) (s ∷ ss) l e = next-out i ms ss (omega arith) e
next-out (suc i) (false ∷ ms) (s ∷ ss) l e = ap (λ (ns : List ℕ). s.number ∷ ns) (next-out i ms ss (omega arith) e)

pub before-out : (i : ℕ) (out : List Bool) (ss : List Stmt) → i < length out → slice_index_or out i false ≡ true → numbers_before (i + 1) out ss ≡ numbers_before i out ss
before-out i out ss l e = rw add-one (next-out i out ss l e)

next-kept : (d i : ℕ) (out : List Bool) (ss : List Stmt) → i < length out → i < length (numbers_of ss) → slice_index_or out i false ≡ false
    → numbers_before (suc i) out ss ≡ numbers_before i out ss ++ slice_index_or (numbers_of ss) i d ∷ []
next-kept d i [] ss l k e = absurd (omega arith)
next-kept d i (m ∷ ms) [] l k e = absurd (omega arith)
next-kept d zero (true ∷ ms) (s ∷ ss) l k e = absurd (cc)
next-kept d zero (false ∷ ms) (s ∷ ss) l k e = refl
next-kept d (suc i) (true ∷ ms) (s ∷ ss) l k e = next-kept d i ms ss (omega arith) (omega arith) e
next-kept d (suc i) (false ∷ ms) (s ∷ ss) l k e = ap (λ (ns : List ℕ). s.number ∷ ns) (next-kept d i ms ss (omega arith) (omega arith) e)

pub before-kept : (d i : ℕ) (out : List Bool) (ss : List Stmt) → i < length out → i < length (numbers_of ss) → slice_index_or out i false ≡ false
    → numbers_before (i + 1) out ss ≡ numbers_before i out ss ++ slice_index_or (numbers_of ss) i d ∷ []
before-kept d i out ss l k e = rw add-one (next-kept d i out ss l k e)

pub before-all : (i : ℕ) (out : List Bool) (ss : List Stmt) → length (numbers_of ss) ≤ i → numbers_before i out ss ≡ numbers_of (kept_of out ss)
before-all zero out [] l = rw (kept-none out) refl
before-all (suc i) out [] l = rw (kept-none out) refl
before-all zero out (s ∷ ss) l = absurd (omega arith)
before-all (suc i) [] (s ∷ ss) l = ap (λ (ns : List ℕ). s.number ∷ ns) (before-all i [] ss (omega arith))
before-all (suc i) (true ∷ ms) (s ∷ ss) l = before-all i ms ss (omega arith)
before-all (suc i) (false ∷ ms) (s ∷ ss) l = ap (λ (ns : List ℕ). s.number ∷ ns) (before-all i ms ss (omega arith))
