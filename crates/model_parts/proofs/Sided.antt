-- A statement that comes to its side, and what comes there of those that are left.
use Rattle.std.proofs.Common.{◌≡◌, ℕ, zero, suc, ◌+◌, ◌<◌, Bool, true, false, List, [], ◌∷◌, ◌++◌, drop, length, refl, append_assoc, add-one, arith}
use Rattle.std.specs.Prelude.{slice_index_or}
use Rattle.model_meaning.specs.declared.model.Stmt.{Stmt}
use Rattle.model_parts.specs.Sides.{kept_of, left_of, IsSided}

kept-none : (ms : List Bool) → kept_of ms [] ≡ []
kept-none [] = refl
kept-none (m ∷ ms) = refl

left-none : (ms : List Bool) → left_of ms [] ≡ []
left-none [] = refl
left-none (m ∷ ms) = refl

pub sided-kept : (mark : Bool) (ms : List Bool) (ks ls ss kn ln sn : List Stmt) → IsSided mark ks ls ss kn ln sn → kn ++ kept_of ms sn ≡ ks ++ kept_of (mark ∷ ms) ss
sided-kept true ms ks ls [] kn ln sn (k, (l, s)) = rw (k, s, kept-none ms) refl
sided-kept true ms ks ls (t ∷ ss) kn ln sn (k, (l, s)) = rw (k, s) refl
sided-kept false ms ks ls [] kn ln sn (l, (k, s)) = rw (k, s, kept-none ms) refl
sided-kept false ms ks ls (t ∷ ss) kn ln sn (l, (k, s)) = rw (k, s) (append_assoc ks (t ∷ []) (kept_of ms ss))

pub sided-left : (mark : Bool) (ms : List Bool) (ks ls ss kn ln sn : List Stmt) → IsSided mark ks ls ss kn ln sn → ln ++ left_of ms sn ≡ ls ++ left_of (mark ∷ ms) ss
sided-left true ms ks ls [] kn ln sn (k, (l, s)) = rw (l, s, left-none ms) refl
sided-left true ms ks ls (t ∷ ss) kn ln sn (k, (l, s)) = rw (l, s) (append_assoc ls (t ∷ []) (left_of ms ss))
sided-left false ms ks ls [] kn ln sn (l, (k, s)) = rw (l, s, left-none ms) refl
sided-left false ms ks ls (t ∷ ss) kn ln sn (l, (k, s)) = rw (l, s) refl

pub drop-at : (ms : List Bool) (i : ℕ) → i < length ms → drop i ms ≡ slice_index_or ms i false ∷ drop (i + 1) ms
drop-at ms i h = rw add-one (at ms i h)
  where
    at : (ms : List Bool) (i : ℕ) → i < length ms → drop i ms ≡ slice_index_or ms i false ∷ drop (suc i) ms
    at [] i h = absurd (omega arith)
    at (m ∷ ms) zero h = refl
    at (m ∷ ms) (suc i) h = at ms i (omega arith)
