-- Clauses that are deleted one after another.
use Rattle.std.proofs.Common.{◌≡◌, ℕ, zero, suc, ◌+◌, ◌<◌, true, false, List, [], ◌∷◌, ◌++◌, length, take, drop, get_or, arith, refl, sym, ap, ◌∙◌, subst}
use Rattle.std.specs.Prelude.{Some, if◌then◌else◌}
use Rattle.std.proofs.lemmas.List.{at_drop_more, take_more}
use Rattle.proof_check.specs.declared.fault.ProofFault.TheVariants.{Absent}
use Rattle.proof_check.specs.Named.{Named, has_id, without_all}
use Rattle.proof_check.specs.Faults.{deletion_fault}
use Rattle.proof_check.specs.Arena.{Kept, live_in, clauses_in, life_to, IsLiveAt}
use Rattle.proof_check.specs.Checking.{kill_all, Killable}
use Rattle.proof_check.proofs.Living.{gone, back, clauses-life}

-- one id more
kill-append : (xs : List ℕ) (id : ℕ) (ks : List Kept) → kill_all (xs ++ id ∷ []) ks ≡ life_to false id (kill_all xs ks)
kill-append [] id ks = refl
kill-append (x ∷ xs) id ks = kill-append xs id (life_to false x ks)

pub kill-more : (ids : List ℕ) (i d : ℕ) (ks : List Kept) → i < length ids → kill_all (take (i + 1) ids) ks ≡ life_to false (get_or ids i d) (kill_all (take i ids) ks)
kill-more ids i d ks lt = ap (λ (xs : List ℕ). kill_all xs ks) (take_more ids i d lt) ∙ kill-append (take i ids) (get_or ids i d) ks

killable-append : (xs : List ℕ) (id : ℕ) (ks : List Kept) → Killable ks xs → IsLiveAt id (kill_all xs ks) → Killable ks (xs ++ id ∷ [])
killable-append [] id ks all live = (live, tt)
killable-append (x ∷ xs) id ks all live = (all.0, killable-append xs id (life_to false x ks) all.1 live)

pub killable-more : (ids : List ℕ) (i d : ℕ) (ks : List Kept) → i < length ids → Killable ks (take i ids) → IsLiveAt (get_or ids i d) (kill_all (take i ids) ks) →
    Killable ks (take (i + 1) ids)
killable-more ids i d ks lt all live =
    let P : List ℕ → Type 0 = λ xs. Killable ks xs in subst P (sym (take_more ids i d lt)) (killable-append (take i ids) (get_or ids i d) ks all live)

-- each lives when its turn comes
pub killable-at : (ids : List ℕ) (i d : ℕ) (ks : List Kept) → i < length ids → Killable ks ids → IsLiveAt (get_or ids i d) (kill_all (take i ids) ks)
killable-at [] i d ks lt all = absurd (omega arith)
killable-at (x ∷ ids) zero d ks lt all = all.0
killable-at (x ∷ ids) (suc i) d ks lt all = killable-at ids i d (life_to false x ks) (omega (arith, lt)) all.1

-- the last one lives again
pub revived : (ids : List ℕ) (i d : ℕ) (ks now new : List Kept) → i < length ids → Killable ks ids → now ≡ kill_all (take (i + 1) ids) ks →
    new ≡ life_to true (get_or ids i d) now → new ≡ kill_all (take i ids) ks
revived ids i d ks now new lt all was is =
    is ∙ ap (life_to true (get_or ids i d)) (was ∙ kill-more ids i d ks lt) ∙ back (get_or ids i d) (kill_all (take i ids) ks) (killable-at ids i d ks lt all)

-- at an id, the fault is its own, or that of the ids behind it
pub fault-here : (ids : List ℕ) (i d : ℕ) (ks : List Kept) → i < length ids →
    deletion_fault (live_in ks) (drop i ids)
    ≡ (if has_id (live_in ks) (get_or ids i d) then deletion_fault (live_in (life_to false (get_or ids i d) ks)) (drop (i + 1) ids) else Some (Absent (get_or ids i d)))
fault-here ids i d ks lt =
    at_drop_more (deletion_fault (live_in ks)) ids i d lt
    ∙ ap (λ (cs : List Named). if has_id (live_in ks) (get_or ids i d) then deletion_fault cs (drop (i + 1) ids) else Some (Absent (get_or ids i d)))
    (sym (gone (get_or ids i d) ks))

-- what is left
pub live-killed : (ids : List ℕ) (ks : List Kept) → live_in (kill_all ids ks) ≡ without_all ids (live_in ks)
live-killed [] ks = refl
live-killed (id ∷ ids) ks = live-killed ids (life_to false id ks) ∙ ap (without_all ids) (gone id ks)

pub clauses-killed : (ids : List ℕ) (ks : List Kept) → clauses_in (kill_all ids ks) ≡ clauses_in ks
clauses-killed [] ks = refl
clauses-killed (id ∷ ids) ks = clauses-killed ids (life_to false id ks) ∙ clauses-life false id ks
