-- Which clauses are reasons.
use Rattle.std.proofs.Common.{◌≡◌, ◌≢◌, ℕ, suc, ◌<◌, List, ◌∷◌, ◌++◌, length, take, drop, drop-cons, Option, Some, None, ap, sym, ◌∙◌}
use Rattle.std.specs.Option.{option_and_then}
use Rattle.std.proofs.lemmas.List.{get_or_default}
use Rattle.order_ints.specs.declared.literal.Lit.{Lit}
use Rattle.literal_trail.specs.declared.entry.Entry.{Entry}
use Rattle.std.proofs.lemmas.List.{take-append-drop}
use Rattle.literal_trail.specs.Trail.{Trail, no_entry, entry_at, entry_of, reason_in}
use Rattle.literal_trail.proofs.Entries.{by_entry, entry_of-at, entry_of-found}
use Rattle.clause_arena.specs.Clauses.{Clause, lits_of, lit_in, no_lit}
use Rattle.clause_rings.specs.Clauses.{IsDb, IsUnused}

at-place : (es : List Entry) (j : ℕ) → j < length es → es ≡ take j es ++ entry_at es j ∷ drop (suc j) es
at-place es j low = sym (take-append-drop j es) ∙ ap (λ (l : List Entry). take j es ++ l) (drop-cons es j no_entry low)

-- a clause is no reason where none of its variables has it for one
pub unused-told : (cs : List Clause) (t : Trail) (c : ℕ) → IsDb cs t → ((k : ℕ) → k < length (lits_of cs c) → reason_in t.entries (lit_in (lits_of cs c) k).var ≢ Some c) → IsUnused t.entries c
unused-told cs t c is others j low because =
    let e = entry_at t.entries j in
    let unit = (is.reasons (take j t.entries) (drop (suc j) t.entries) e c (at-place t.entries j low) because).1 in
    let has = unit.is_in in
    let at : lit_in (lits_of cs c) has.0 ≡ e.lit = get_or_default (lits_of cs c) has.0 no_lit e.lit has.1 ∙ has.2 in
    let found : entry_of t.entries e.lit.var ≡ Some e = entry_of-at t.entries j low (is.trail.fresh j low) in
    let given : reason_in t.entries e.lit.var ≡ Some c = ap (λ (o : Option Entry). option_and_then (λ (x : Entry). x.reason) o) found ∙ because in
    others has.0 has.1 (ap (λ (l : Lit). reason_in t.entries l.var) at ∙ given)

-- a clause is a reason where one variable has it for one
pub used-told : (es : List Entry) (v c : ℕ) → reason_in es v ≡ Some c → IsUnused es c → ⊥
used-told es v c given unused =
    by_entry es v
    (λ none. let e : None ≡ Some c = sym (ap (λ (o : Option Entry). option_and_then (λ (x : Entry). x.reason) o) none) ∙ given in absurd (cc))
    (λ e found.
    let f = entry_of-found es v e found in
    let because : e.reason ≡ Some c = sym (ap (λ (o : Option Entry). option_and_then (λ (x : Entry). x.reason) o) found) ∙ given in
    unused f.place f.below (ap (λ (x : Entry). x.reason) f.is ∙ because))
