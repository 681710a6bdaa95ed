-- The clause store keeps the clauses that live: as clauses come and go, change the order of their literals, and get more room.
use Rattle.std.proofs.Common.{◌≡◌, ℕ, ◌≤◌, ◌<◌, true, false, List, [], ◌∷◌, ◌++◌, length, None, ap, sym, ◌∙◌, subst, ⊎_elim}
use Rattle.std.specs.Prelude.{slice_set, IsPermutation}
use Rattle.std.proofs.lemmas.Bool.{cases_eq, cases_lt}
use Rattle.std.proofs.lemmas.List.{get_or-set_other, get_or-set_same, get_or_past}
use Rattle.std.proofs.Math.ListN.{replicate}
use Rattle.std.proofs.lemmas.List.Sorted.{IsPermutation-refl, IsPermutation-trans}
use Rattle.order_ints.specs.declared.literal.Lit.{Lit}
use Rattle.clause_arena.specs.Clauses.{Clause, clause_at as stored_at, IsLive, lits_of, live_clause, no_clause}
use Rattle.clause_rings.specs.Clauses.{SameClauses}
use Rattle.clause_rings.proofs.Widened.{wider-at}
use Rattle.proof_check.specs.Named.{Named, clause_at, Lives}
use Rattle.learning_solver.specs.Kept.{IsStored, IsKept}
use Rattle.learning_solver.proofs.NamedLaws.{at-front, at-more, at-last}

-- a clause that is the same in another list
module _ (old new : List Clause) (c : ℕ) (same : stored_at new c ≡ stored_at old c) where
  pub live-alike : IsLive old c → IsLive new c
  live-alike live = ap (λ (x : Clause). x.live) same ∙ live

  pub live-before : IsLive new c → IsLive old c
  live-before live = sym (ap (λ (x : Clause). x.live) same) ∙ live

  pub stored-alike : (d : Named) → IsStored old c d → IsStored new c d
  stored-alike d is = record {
    live = live-alike is.live;
    id = ap (λ (x : Clause). x.id) same ∙ is.id;
    lits = let P : List Lit → Type 0 = IsPermutation d.lits in subst P (sym (ap (λ (x : Clause). x.lits) same)) is.lits;
  }

-- the same clauses
pub kept-alike : (live : List Named) (old new : List Clause) → IsKept live old → ((c : ℕ) → stored_at new c ≡ stored_at old c) → IsKept live new
kept-alike live old new is same = record {
  stored = λ d lives. let w = is.stored d lives in (w.0, stored-alike old new w.0 (same w.0) d w.1);
  named = λ c there. let w = is.named c (live-before old new c (same c) there) in (w.0, w.1, stored-alike old new c (same c) w.0 w.2);
}

-- more references change no clause
pub kept-more : (live : List Named) (old new : List Clause) (more : ℕ) → IsKept live old → new ≡ old ++ replicate more no_clause → IsKept live new
kept-more live old new more is e = kept-alike live old new is (λ c. ap (λ (l : List Clause). stored_at l c) e ∙ wider-at old more c)

-- the same clauses, their literals in another order
pub kept-same : (live : List Named) (old new : List Clause) → IsKept live old → SameClauses old new → IsKept live new
kept-same live old new is same =
    record {
      stored = λ d lives. let w = is.stored d lives in (w.0, moved w.0 d w.1);
      named = λ c there. let w = is.named c (sym (same.each c).live ∙ there) in (w.0, w.1, moved c w.0 w.2);
    }
  where
    moved : (c : ℕ) (d : Named) → IsStored old c d → IsStored new c d
    moved c d st = record {
      live = (same.each c).live ∙ st.live;
      id = (same.each c).id ∙ st.id;
      lits = IsPermutation-trans d.lits (lits_of old c) (lits_of new c) st.lits (same.each c).lits;
    }

-- a reference under which a clause stands is inside
pub live-inside : (cs : List Clause) (c : ℕ) → IsLive cs c → c < length cs
live-inside cs c live =
    ⊎_elim
    (λ (h : c < length cs). h)
    (λ (h : length cs ≤ c).
    let none : stored_at cs c ≡ no_clause = get_or_past cs c no_clause h in
    let fails : false ≡ true = sym (ap (λ (x : Clause). x.live) none) ∙ live in
    cc)
    (cases_lt c (length cs))

same-named : (n d : Named) → n.id ≡ d.id → n.lits ≡ d.lits → n ≡ d
same-named n d ids lits =
    let made : ℕ → List Lit → Named = λ i l. record { id = i; lits = l } in
    ap (λ (i : ℕ). made i n.lits) ids ∙ ap (λ (l : List Lit). made d.id l) lits

-- a clause comes
module _ (live : List Named) (cs : List Clause) (is : IsKept live cs) (c id : ℕ) (lits : List Lit) (inside : c < length cs) (unused : (stored_at cs c).live ≡ false) (none : clause_at live id ≡ None) where
  here : stored_at (slice_set cs c (live_clause id lits)) c ≡ live_clause id lits
  here = get_or-set_same cs c (live_clause id lits) no_clause inside

  elsewhere : (e : ℕ) → (e ≡ c → ⊥) → stored_at (slice_set cs c (live_clause id lits)) e ≡ stored_at cs e
  elsewhere e ne = get_or-set_other cs c e (live_clause id lits) no_clause ne

  apart : (e : ℕ) → IsLive cs e → e ≡ c → ⊥
  apart e there same =
      let P : ℕ → Type 0 = IsLive cs in
      let now : (stored_at cs c).live ≡ true = subst P same there in
      let fails : false ≡ true = sym unused ∙ now in
      cc

  fresh-stored : IsStored (slice_set cs c (live_clause id lits)) c (record { id = id; lits = lits })
  fresh-stored = record {
    live = ap (λ (x : Clause). x.live) here;
    id = ap (λ (x : Clause). x.id) here;
    lits = let P : List Lit → Type 0 = IsPermutation lits in subst P (sym (ap (λ (x : Clause). x.lits) here)) (IsPermutation-refl lits);
  }

  pub kept-added : IsKept (live ++ record { id = id; lits = lits } ∷ []) (slice_set cs c (live_clause id lits))
  kept-added =
      let new = slice_set cs c (live_clause id lits) in
      let n : Named = record { id = id; lits = lits } in
      record {
        stored = λ d lives.
            ⊎_elim
            (λ (before : Lives live d).
            let w = is.stored d before in (w.0, stored-alike cs new w.0 (elsewhere w.0 (apart w.0 w.1.live)) d w.1))
            (λ (w : (clause_at live d.id ≡ None) × (n.id ≡ d.id) × (n.lits ≡ d.lits)).
            let same : n ≡ d = same-named n d w.1 w.2 in
            let P : Named → Type 0 = IsStored new c in
            (c, subst P same fresh-stored))
            (at-more live n d lives);
        named = λ e there.
            ⊎_elim
            (λ (same : e ≡ c). let P : ℕ → Type 0 = λ x. IsStored new x n in (n, at-last live n none, subst P (sym same) fresh-stored))
            (λ (ne : e ≡ c → ⊥).
            let w = is.named e (live-before cs new e (elsewhere e ne) there) in
            (w.0, at-front live (n ∷ []) w.0.id w.0.lits w.1, stored-alike cs new e (elsewhere e ne) w.0 w.2))
            (cases_eq e c);
      }
