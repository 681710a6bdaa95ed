-- A list that is copied from its front.
use Rattle.std.proofs.Common.{◌≡◌, ℕ, zero, suc, ◌+◌, ◌<◌, ◌≤◌, List, [], ◌∷◌, ◌++◌, length, drop, drop-cons, append_assoc, append-nil, refl, sym, ap, ◌∙◌, arith}
use Rattle.order_ints.specs.declared.literal.Lit.{Lit}
use Rattle.clause_arena.specs.Clauses.{no_lit, lit_in}

pub copied-more : (done ls : List Lit) (k n : ℕ) (x : Lit) → k < length ls → n ≡ k + 1 → x ≡ lit_in ls k → done ++ drop k ls ≡ ls → (done ++ x ∷ []) ++ drop n ls ≡ ls
copied-more done ls k n x low next is whole =
    let e : n ≡ suc k = omega (arith, next) in
    let here : x ∷ drop n ls ≡ lit_in ls k ∷ drop (suc k) ls = (λ i. is i ∷ drop (e i) ls) in
    append_assoc done (x ∷ []) (drop n ls) ∙ ap (λ (r : List Lit). done ++ r) (here ∙ sym (drop-cons ls k no_lit low)) ∙ whole

drop-past : (ls : List Lit) (k : ℕ) → length ls ≤ k → drop k ls ≡ []
drop-past [] zero h = refl
drop-past [] (suc k) h = refl
drop-past (x ∷ ls) zero h = absurd (omega (arith, h))
drop-past (x ∷ ls) (suc k) h = drop-past ls k (omega (arith, h))

pub copied-all : (done ls : List Lit) (k : ℕ) → length ls ≤ k → done ++ drop k ls ≡ ls → done ≡ ls
copied-all done ls k past whole = sym (append-nil done) ∙ ap (λ (r : List Lit). done ++ r) (sym (drop-past ls k past)) ∙ whole
