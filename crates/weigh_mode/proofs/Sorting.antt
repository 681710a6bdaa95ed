-- Keeping the ten heaviest on a walk is sorting, and then taking ten.
use Rattle.std.proofs.Common.{arith, ◌≡◌, ℕ, zero, suc, Bool, true, false, List, [], ◌∷◌, ◌++◌, take, refl, ap, sym, ◌∙◌, append_assoc, append-nil, take-take}
use Rattle.std.specs.Prelude.{nat_lt, insert, if◌then◌else◌}
use Rattle.std.proofs.lemmas.Bool.Decides.{nat_tests}
use Rattle.weigh_mode.specs.declared.heaviest.WeighedItem.{WeighedItem}
use Rattle.weigh_mode.specs.Heaviest.{put_in, by_weight}
use Rattle.weigh_mode.specs.Kept.{put_behind, place_of}

-- one item goes in front of its equals and another one behind, in whichever order
commute : (v w : WeighedItem) (l : List WeighedItem) → put_in v (put_behind w l) ≡ put_behind w (put_in v l)
commute v w [] = refl
commute v w (x ∷ xs) =
    by (nat_lt x.weight w.weight) (nat_lt v.weight x.weight) (nat_lt v.weight w.weight) refl refl refl (commute v w xs)
  where
    by : (a b c : Bool) → nat_lt x.weight w.weight ≡ a → nat_lt v.weight x.weight ≡ b → nat_lt v.weight w.weight ≡ c
        → put_in v (put_behind w xs) ≡ put_behind w (put_in v xs)
        → put_in v (put_behind w (x ∷ xs)) ≡ put_behind w (put_in v (x ∷ xs))
    by true true true e f g h = rw e (rw f (rw g (rw e refl)))
    by true true false e f g h = absurd (grind (arith, nat_tests, e, f, g))
    by true false true e f g h = rw e (rw f (rw g refl))
    by true false false e f g h = rw e (rw f (rw g (rw e refl)))
    by false true c e f g h = rw e (rw f (rw e (ap (λ l. x ∷ l) h)))
    by false false true e f g h = absurd (grind (arith, nat_tests, e, f, g))
    by false false false e f g h = rw e (rw f (rw g (rw e refl)))

-- the last of some items goes behind its equals
last : (ws : List WeighedItem) (w : WeighedItem) → by_weight (ws ++ w ∷ []) ≡ put_behind w (by_weight ws)
last [] w = refl
last (v ∷ vs) w = ap (put_in v) (last vs w) ∙ commute v w (by_weight vs)

-- what is behind the first n does not come among them again
over : (n : ℕ) (x : WeighedItem) (xs : List WeighedItem) → take n (x ∷ xs) ≡ take n (x ∷ take n xs)
over zero x xs = refl
over (suc n) x xs = ap (λ l. x ∷ l) (sym (take-take n (suc n) xs (omega arith)))

taken : (n : ℕ) (w : WeighedItem) (l : List WeighedItem) → take n (put_behind w l) ≡ take n (put_behind w (take n l))
taken zero w l = refl
taken (suc n) w [] = refl
taken (suc n) w (x ∷ xs) = by (nat_lt x.weight w.weight) (taken n w xs)
  where
    by : (b : Bool) → take n (put_behind w xs) ≡ take n (put_behind w (take n xs))
        → take (suc n) (if b then w ∷ x ∷ xs else x ∷ put_behind w xs)
        ≡ take (suc n) (if b then w ∷ x ∷ take n xs else x ∷ put_behind w (take n xs))
    by true h = ap (λ l. w ∷ l) (over n x xs)
    by false h = ap (λ l. x ∷ l) h

-- what is kept where some items come behind those that are
abbrev pub keep_all : List WeighedItem → List WeighedItem → List WeighedItem
keep_all kept [] = kept
keep_all kept (w ∷ ws) = keep_all (take 10 (put_behind w kept)) ws

kept : (done ws : List WeighedItem) → keep_all (take 10 (by_weight done)) ws ≡ take 10 (by_weight (done ++ ws))
kept done [] = ap (λ l. take 10 (by_weight l)) (sym (append-nil done))
kept done (w ∷ ws) =
    ap (λ l. keep_all l ws) (sym (taken 10 w (by_weight done)) ∙ ap (take 10) (sym (last done w)))
    ∙ kept (done ++ w ∷ []) ws ∙ ap (λ l. take 10 (by_weight l)) (append_assoc done (w ∷ []) ws)

pub ten_heaviest : (ws : List WeighedItem) → keep_all [] ws ≡ take 10 (by_weight ws)
ten_heaviest ws = kept [] ws

-- an item is put at its place
pub put_at : (w : WeighedItem) (xs : List WeighedItem) → insert xs (place_of w.weight xs) w ≡ put_behind w xs
put_at w [] = refl
put_at w (x ∷ xs) = by (nat_lt x.weight w.weight) (put_at w xs)
  where
    by : (b : Bool) → insert xs (place_of w.weight xs) w ≡ put_behind w xs
        → insert (x ∷ xs) (if b then 0 else suc (place_of w.weight xs)) w
        ≡ (if b then w ∷ x ∷ xs else x ∷ put_behind w xs)
    by true h = refl
    by false h = ap (λ l. x ∷ l) h
