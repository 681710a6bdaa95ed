-- A CNF with an assumed literal behind it is a CNF like others.
use Rattle.std.proofs.Common.{◌≡◌, ℕ, ◌+◌, List, [], ◌∷◌, ◌++◌, Option, None, Some, ap, ◌∙◌, subst, ⊎_elim, arith, append-nil}
use Rattle.std.specs.Prelude.{Contains, slice_index_or}
use Rattle.std.proofs.lemmas.List.{get_or_default}
use Rattle.std.proofs.lemmas.List.Elements.{Contains-get_or, Contains-append_cases}
use Rattle.order_ints.specs.declared.literal.Lit.{Lit}
use Rattle.order_ints.specs.declared.cnf.Cnf.{Cnf}
use Rattle.order_ints.specs.Place.{ClausesBelow, InRange}
use Rattle.clause_rings.specs.Clauses.{IsApart, AreApartIn}
use Rattle.drup_check.proofs.Members.{member-cases, no-member}
use Rattle.proof_import.specs.Assumed.{assumed_clauses, with_assumed, IsAssumable}

below-append : (n : ℕ) (cs ds : List (List Lit)) → ClausesBelow n cs → ClausesBelow n ds → ClausesBelow n (cs ++ ds)
below-append n [] ds h k = k
below-append n (c ∷ cs) ds h k = (h.0, below-append n cs ds h.1 k)

assumed-below : (cnf : Cnf) (a : Option Lit) → IsAssumable cnf a → ClausesBelow (cnf.vars + 1) (assumed_clauses a)
assumed-below cnf None h = tt
assumed-below cnf (Some l) h = ((h, tt), tt)

pub assumed-range : (cnf : Cnf) (a : Option Lit) → InRange cnf → IsAssumable cnf a → InRange (with_assumed cnf a)
assumed-range cnf a h k = below-append (cnf.vars + 1) cnf.clauses (assumed_clauses a) h (assumed-below cnf a k)

apart-each : (cnf : Cnf) → AreApartIn cnf → (d : List Lit) → Contains cnf.clauses d → IsApart d
apart-each cnf h d has =
    let e : slice_index_or cnf.clauses has.0 [] ≡ d = get_or_default cnf.clauses has.0 [] d has.1 ∙ has.2 in
    subst IsApart e (h has.0 has.1)

apart-all : (cnf : Cnf) → ((d : List Lit) → Contains cnf.clauses d → IsApart d) → AreApartIn cnf
apart-all cnf each k low = each (slice_index_or cnf.clauses k []) (Contains-get_or cnf.clauses k [] low)

one-apart : (l : Lit) → IsApart (l ∷ [])
one-apart l i j low less same = omega (arith, low, less)

unit-apart : (a : Option Lit) (d : List Lit) → Contains (assumed_clauses a) d → IsApart d
unit-apart None d has = absurd (no-member d has)
unit-apart (Some l) d has =
    ⊎_elim
    (λ (e : (l ∷ []) ≡ d). subst IsApart e (one-apart l))
    (λ (nowhere : Contains [] d). absurd (no-member d nowhere))
    (member-cases (l ∷ []) [] d has)

pub assumed-apart : (cnf : Cnf) (a : Option Lit) → AreApartIn cnf → AreApartIn (with_assumed cnf a)
assumed-apart cnf a h =
    apart-all (with_assumed cnf a)
    (λ d has. ⊎_elim (λ (before : Contains cnf.clauses d). apart-each cnf h d before) (λ (last : Contains (assumed_clauses a) d). unit-apart a d last) (Contains-append_cases cnf.clauses (assumed_clauses a) d has))

pub with-none : (cnf : Cnf) (a : Option Lit) → a ≡ None → with_assumed cnf a ≡ cnf
with-none cnf a is =
    let made : List (List Lit) → Cnf = λ x. record { vars = cnf.vars; clauses = x } in
    ap (with_assumed cnf) is ∙ ap made (append-nil cnf.clauses)
