-- A flat list with one piece more.
use Rattle.std.proofs.Common.{◌≡◌, ℕ, ◌+◌, ◌≤◌, List, [], ◌∷◌, ◌++◌, length, take, drop, ap, ◌∙◌, arith}
use Rattle.std.proofs.lemmas.List.{take-append-le, drop-append-le, length-drop}
use Rattle.std.proofs.Math.Seq.{take-length}
use Rattle.order_ints.specs.declared.atom.Atom.{Atom}
use Rattle.direct_encode.specs.Literals.{literals}
use Rattle.step_kernel.specs.Pieces.{pieces, all_lengths}

pub all_lengths-put : (ns : List ℕ) (n : ℕ) → all_lengths (ns ++ n ∷ []) ≡ all_lengths ns + n
all_lengths-put [] n = omega arith
all_lengths-put (m ∷ ns) n = omega (arith, all_lengths-put ns n)

pub pieces-put : (ns : List ℕ) (xs c : List Atom) → all_lengths ns ≡ length xs → pieces (ns ++ length c ∷ []) (xs ++ c) ≡ pieces ns xs ++ c ∷ []
pieces-put [] [] c e = ap (λ (t : List Atom). t ∷ []) (take-length c)
pieces-put [] (x ∷ xs) c e = absurd (omega (arith, e))
pieces-put (n ∷ ns) xs c e =
    let fits : n ≤ length xs = omega (arith, e) in
    let rest : all_lengths ns ≡ length (drop n xs) = omega (arith, e, length-drop n xs) in
    ap (λ (t : List Atom). t ∷ pieces (ns ++ length c ∷ []) (drop n (xs ++ c))) (take-append-le n xs c fits)
    ∙ ap (λ (t : List Atom). take n xs ∷ pieces (ns ++ length c ∷ []) t) (drop-append-le n xs c fits)
    ∙ ap (λ (t : List (List Atom)). take n xs ∷ t) (pieces-put ns (drop n xs) c rest)

-- the piece at a place, and those behind it
pub literals-at : (cs : List (List Atom)) (i : ℕ) (c : List Atom) → drop i cs ≡ c ∷ drop (i + 1) cs → literals (drop i cs) ≡ length c + literals (drop (i + 1) cs)
literals-at cs i c e = ap literals e
