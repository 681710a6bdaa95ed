-- Walks along listed integers, of which one goes somewhere.
use Rattle.std.proofs.Common.{◌≡◌, ℕ, zero, suc, ◌+◌, ◌<◌, ◌≤◌, List, [], ◌∷◌, ◌++◌, length, get_or, set, drop, ℤ, refl, sym, ap, ◌∙◌, arith}
use Rattle.std.proofs.lemmas.List.{append_assoc, append-nil, at_drop_more, drop_all}
use Rattle.order_ints.specs.declared.atom.Atom.{Atom}
use Rattle.order_ints.specs.declared.order_int.OrdInt.{OrdInt}
use Rattle.order_ints.specs.declared.order_int.walk.Walk.{Walk}
use Rattle.order_ints.specs.OrderLevels.{at_of}
use Rattle.direct_encode.specs.Walked.{walked}
use Rattle.direct_encode.specs.Maxima.{all_at}

-- the integers stay
pub walked-set : (ws : List Walk) (i : ℕ) (old new : Walk) → i < length ws → old ≡ get_or ws i old → new.int.now ≡ old.int.now → walked (set ws i new) ≡ walked ws
walked-set [] i old new lt at same = absurd (omega (arith, lt))
walked-set (w ∷ ws) zero old new lt at same = ap (λ (a : OrdInt). a ∷ walked ws) (same ∙ ap (λ (x : Walk). x.int.now) at)
walked-set (w ∷ ws) (suc i) old new lt at same = ap (λ (rest : List OrdInt). w.int.now ∷ rest) (walked-set ws i old new (omega (arith, lt)) at same)

pub walked-get : (ws : List Walk) (i : ℕ) (old : Walk) (d : OrdInt) → i < length ws → old ≡ get_or ws i old → old.int.now ≡ get_or (walked ws) i d
walked-get [] i old d lt at = absurd (omega (arith, lt))
walked-get (w ∷ ws) zero old d lt at = ap (λ (x : Walk). x.int.now) at
walked-get (w ∷ ws) (suc i) old d lt at = walked-get ws i old d (omega (arith, lt)) at

pub length-walked : (ws : List Walk) → length (walked ws) ≡ length ws
length-walked [] = refl
length-walked (w ∷ ws) = ap suc (length-walked ws)

-- the turn of a loop along walks: the atom of the next one is put behind those so far
pub put_reaching : (ints : List OrdInt) (i : ℕ) (d : OrdInt) (v : ℤ) (so_far more all : List Atom) (x : Atom) → i < length ints → x ≡ at_of (get_or ints i d) v → more ≡ so_far ++ x ∷ [] → so_far ++ all_at (drop i ints) v ≡ all → more ++ all_at (drop (i + 1) ints) v ≡ all
put_reaching ints i d v so_far more all x lt is pushed before =
    let next = at_drop_more (λ (xs : List OrdInt). xs) ints i d lt in
    ap (λ xs. xs ++ all_at (drop (i + 1) ints) v) pushed ∙ append_assoc so_far (x ∷ []) (all_at (drop (i + 1) ints) v)
    ∙ ap (λ (y : Atom). so_far ++ y ∷ all_at (drop (i + 1) ints) v) is ∙ ap (λ (xs : List OrdInt). so_far ++ all_at xs v) (sym next) ∙ before

pub done_reaching : (ints : List OrdInt) (i : ℕ) (v w : ℤ) (now all : List Atom) → length ints ≤ i → now ++ all_at (drop i ints) w ≡ all ++ all_at ints w → w ≡ v → now ≡ all ++ all_at ints v
done_reaching ints i v w now all le e is =
    sym (append-nil now) ∙ ap (λ (xs : List OrdInt). now ++ all_at xs w) (sym (drop_all i ints le)) ∙ e ∙ ap (λ (u : ℤ). all ++ all_at ints u) is
