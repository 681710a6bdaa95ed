-- There is room for each fresh atom of two members where there is for all.
use Rattle.std.proofs.Common.{◌≡◌, ℕ, ◌+◌, ◌<◌, List, ◌∷◌, sym, ap, ◌∙◌, arith}
use Rattle.std.specs.Prelude.{◌^◌}
use Rattle.order_ints.specs.declared.order_int.OrdInt.{OrdInt}
use Rattle.statement_lower.specs.Pairs.{each_vars, pairs_vars}
use Rattle.statement_lower.proofs.Pairs.{each-more, pairs-more}

pub each-room : (vars all : ℕ) (b : OrdInt) (ints left : List OrdInt) → left ≡ b ∷ ints → each_vars vars left ≡ all → all < 2 ^ 27 → vars + 1 < 2 ^ 27
each-room vars all b ints left parts e room =
    let f : each_vars (vars + 1) ints ≡ all = sym (ap (each_vars vars) parts) ∙ e in
    let le = each-more (vars + 1) ints in
    omega (arith, f, le, room)

pub pairs-room : (vars all : ℕ) (a : OrdInt) (ints left : List OrdInt) → left ≡ a ∷ ints → pairs_vars vars left ≡ all → all < 2 ^ 27 → each_vars vars ints < 2 ^ 27
pairs-room vars all a ints left parts e room =
    let f : pairs_vars (each_vars vars ints) ints ≡ all = sym (ap (pairs_vars vars) parts) ∙ e in
    let le = pairs-more (each_vars vars ints) ints in
    omega (arith, f, le, room)
