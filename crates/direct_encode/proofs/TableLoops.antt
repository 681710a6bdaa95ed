-- The turns of loops over places.
use Rattle.std.proofs.Common.{◌≡◌, ℕ, zero, suc, ◌+◌, ◌-◌, ◌<◌, ◌≤◌, List, [], ◌++◌, sym, ap, ◌∙◌, arith}
use Rattle.std.proofs.lemmas.List.{append_assoc, append-nil}
use Rattle.order_ints.specs.declared.atom.Atom.{Atom}
use Rattle.direct_encode.specs.Tables.{over_places}

-- the clauses of the next place are put behind those so far
pub put_place : (f : ℕ → List (List Atom)) (i n : ℕ) (so_far more all : List (List Atom)) → i < n → more ≡ so_far ++ f i → so_far ++ over_places f i (n - i) ≡ all → more ++ over_places f (i + 1) (n - (i + 1)) ≡ all
put_place f i n so_far more all lt pushed before =
    let next : n - i ≡ suc (n - (i + 1)) = omega (arith, lt) in
    ap (λ cs. cs ++ over_places f (i + 1) (n - (i + 1))) pushed ∙ append_assoc so_far (f i) (over_places f (i + 1) (n - (i + 1)))
    ∙ ap (λ k. so_far ++ over_places f i k) (sym next) ∙ before

-- behind the last place all are there
pub all_places : (f : ℕ → List (List Atom)) (i n : ℕ) (so_far all : List (List Atom)) → n ≤ i → so_far ++ over_places f i (n - i) ≡ all → so_far ≡ all
all_places f i n so_far all ge before =
    let none : n - i ≡ zero = omega (arith, ge) in
    sym (append-nil so_far) ∙ ap (λ k. so_far ++ over_places f i k) (sym none) ∙ before

-- at first none is there
pub no_places : (f : ℕ → List (List Atom)) (n : ℕ) (so_far : List (List Atom)) → so_far ++ over_places f 0 (n - 0) ≡ so_far ++ over_places f 0 n
no_places f n so_far = let whole : n - 0 ≡ n = omega arith in ap (λ k. so_far ++ over_places f 0 k) whole

-- nothing is put
pub put_none : (so_far : List (List Atom)) → so_far ≡ so_far ++ []
put_none so_far = sym (append-nil so_far)

pub put_both : (so_far more all first second : List (List Atom)) → more ≡ so_far ++ first → all ≡ more ++ second → all ≡ so_far ++ (first ++ second)
put_both so_far more all first second one two = two ∙ ap (λ cs. cs ++ second) one ∙ append_assoc so_far first second
