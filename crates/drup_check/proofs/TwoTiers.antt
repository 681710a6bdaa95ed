-- Clauses that come to two tiers, go from the one to the other, and come back.
use Rattle.std.proofs.Common.{◌≡◌, ◌≢◌, ℕ, zero, suc, ◌+◌, Bool, true, false, List, [], ◌∷◌, ◌++◌, refl, sym, ap, ◌∙◌, subst, inl, inr, ◌⊎◌, ⊎_elim}
use Rattle.std.specs.Prelude.{Contains, slice_set}
use Rattle.std.proofs.lemmas.Bool.{false≢true, cases_eq}
use Rattle.std.proofs.lemmas.List.{get_or-set_other}
use Rattle.std.proofs.lemmas.List.Elements.{Contains-append_left, Contains-append_right, Contains-append_cases}
use Rattle.order_ints.specs.declared.literal.Lit.{Lit}
use Rattle.order_ints.specs.Place.{LitBelow}
use Rattle.literal_trail.specs.Trail.{Trail}
use Rattle.literal_trail.specs.Standing.{IsQuiet}
use Rattle.clause_arena.specs.Clauses.{Clause, no_clause, clause_at, IsLive, lits_of}
use Rattle.clause_rings.specs.Clauses.{ClauseLists, SameClauses, IsComplete, IsDb, without_clause}
use Rattle.drup_check.specs.Rup.{Rup}
use Rattle.drup_check.specs.Stored.{SameSet, IsStored, HasOpposites, IsHeld, IsListed, AreListed}
use Rattle.drup_check.specs.Keeping.{TakesIn, IsTakenIn}
use Rattle.drup_check.specs.Standing.{Stands, StandsAs}
use Rattle.drup_check.specs.declared.tiers.Tiers.{Tiers}
use Rattle.drup_check.proofs.Members.{member-cases, member-first, no-member}
use Rattle.drup_check.proofs.Permuted.{listed-same, held-same}

-- a clause is listed in a longer list
more-listed : (cs ds : List (List Lit)) (g : List Lit) → IsListed cs g → IsListed (cs ++ ds) g
more-listed cs ds g is = record { clause = is.clause; is_in = Contains-append_left cs ds is.clause is.is_in; same = is.same }

itself : (ls : List Lit) → SameSet ls ls
itself ls l = ((λ has. has), (λ has. has))

turned : (c d : List Lit) → SameSet c d → SameSet d c
turned c d same l = ((same l).1, (same l).0)

-- a member of a list with one more
last-cases : (cs : List (List Lit)) (x d : List Lit) → Contains (cs ++ x ∷ []) d → Contains cs d ⊎ (x ≡ d)
last-cases cs x d has =
    ⊎_elim
    (λ (before : Contains cs d). inl before)
    (λ (last : Contains (x ∷ []) d). ⊎_elim (λ (e : x ≡ d). inr e) (λ (nowhere : Contains [] d). absurd (no-member d nowhere)) (member-cases x [] d last))
    (Contains-append_cases cs (x ∷ []) d has)

-- the last of a list
last-in : (cs : List (List Lit)) (x : List Lit) → Contains (cs ++ x ∷ []) x
last-in cs x = Contains-append_right cs (x ∷ []) x (member-first x [])

-- a clause comes
module _ (old new : Tiers) (lits : List Lit) (gone : new.gone ≡ old.gone) (vars : new.db.trail.vars ≡ old.db.trail.vars) where
  abbrev Gone : List Lit → Type 0
  Gone g = Contains new.gone.items g

  was-gone : (g : List Lit) → Gone g → Contains old.gone.items g
  was-gone g has = subst (λ gs. Contains gs.items g) gone has

  is-gone : (g : List Lit) → IsListed old.gone.items g → IsListed new.gone.items g
  is-gone g is = subst (λ gs. IsListed gs.items g) (sym gone) is

  last-listed : (cs : List (List Lit)) → IsListed (cs ++ lits ∷ []) lits
  last-listed cs = record { clause = lits; is_in = last-in cs lits; same = itself lits }

  pub kept-stands : (b : Bool) → IsTakenIn b old.db new.db lits → (cs : List (List Lit)) → Stands old cs → StandsAs b new (cs ++ lits ∷ [])
  kept-stands true h = λ cs st. h (cs ++ lits ∷ []) (λ c live. more-listed cs (lits ∷ []) (lits_of old.db.clauses c) (st.listed c live)) (last-listed cs)
  kept-stands false h = λ cs st. record {
    held = λ d has.
        ⊎_elim
        (λ (before : Contains cs d).
        ⊎_elim (λ (is : IsHeld old.db.clauses d). inl (h.stays d is)) (λ (g : IsListed old.gone.items d). inr (is-gone d g)) (st.held d before))
        (λ (e : lits ≡ d). inl (h.comes d (subst (SameSet lits) e (itself lits))))
        (last-cases cs lits d has);
    listed = h.listed (cs ++ lits ∷ []) (λ c live. more-listed cs (lits ∷ []) (lits_of old.db.clauses c) (st.listed c live)) (last-listed cs);
    gone = λ g has. more-listed cs (lits ∷ []) g (st.gone g (was-gone g has));
    in_range = λ g has l within. subst (λ (v : ℕ). LitBelow (v + 1) l) (sym vars) (st.in_range g (was-gone g has) l within);
    bottom = h.bottom;
    complete = h.complete;
  }

-- the clause that was deleted last comes back
module _ (old mid new : Tiers) (g : List Lit) (last : old.gone.items ≡ mid.gone.items ++ g ∷ []) (same : mid.db ≡ old.db) (gone : new.gone ≡ mid.gone) (vars : new.db.trail.vars ≡ mid.db.trail.vars) where
  is-last : Contains old.gone.items g
  is-last = let P : List (List Lit) → Type 0 = λ gs. Contains gs g in subst P (sym last) (last-in mid.gone.items g)

  earlier : (x : List Lit) → Contains new.gone.items x → Contains old.gone.items x
  earlier x has =
      let there : Contains mid.gone.items x = subst (λ gs. Contains gs.items x) gone has in
      let P : List (List Lit) → Type 0 = λ gs. Contains gs x in subst P (sym last) (Contains-append_left mid.gone.items (g ∷ []) x there)

  still-gone : (cs : List (List Lit)) → Stands old cs → TakesIn old.db new.db g → (d : List Lit) → IsListed old.gone.items d → IsHeld new.db.clauses d ⊎ IsListed new.gone.items d
  still-gone cs st h d is =
      ⊎_elim
      (λ (there : Contains mid.gone.items is.clause).
      inr (subst (λ gs. IsListed gs.items d) (sym gone) (record { clause = is.clause; is_in = there; same = is.same })))
      (λ (e : g ≡ is.clause). inl (h.comes d (turned d g (subst (λ (x : List Lit). SameSet d x) (sym e) is.same))))
      (last-cases mid.gone.items g is.clause (let P : List (List Lit) → Type 0 = λ gs. Contains gs is.clause in subst P last is.is_in))

  back-by : (b : Bool) → IsTakenIn b old.db new.db g → (cs : List (List Lit)) → Stands old cs → StandsAs b new cs
  back-by true h = λ cs st. h cs st.listed (st.gone g is-last)
  back-by false h = λ cs st. record {
    held = λ d has. ⊎_elim (λ (is : IsHeld old.db.clauses d). inl (h.stays d is)) (λ (is : IsListed old.gone.items d). still-gone cs st h d is) (st.held d has);
    listed = h.listed cs st.listed (st.gone g is-last);
    gone = λ x has. st.gone x (earlier x has);
    in_range = λ x has l within. subst (λ (v : ℕ). LitBelow (v + 1) l) (sym (vars ∙ ap (λ (d : ClauseLists). d.trail.vars) same)) (st.in_range x (earlier x has) l within);
    bottom = h.bottom;
    complete = h.complete;
  }

  back-slice : (b : Bool) (slice : List Lit) → slice ≡ g → IsTakenIn b mid.db new.db slice → IsTakenIn b old.db new.db g
  back-slice b slice e h = subst (λ (d : ClauseLists). IsTakenIn b d new.db g) same (subst (IsTakenIn b mid.db new.db) e h)

  pub back-refutes : (b : Bool) → b ≡ true → (slice : List Lit) → slice ≡ g → IsTakenIn b mid.db new.db slice → (cs : List (List Lit)) → Stands old cs → Rup cs []
  back-refutes true is slice e h = back-by true (back-slice true slice e h)
  back-refutes false is slice e h = absurd (false≢true is)

  pub back-goes-on : (b : Bool) → b ≡ false → (slice : List Lit) → slice ≡ g → IsTakenIn b mid.db new.db slice → (cs : List (List Lit)) → Stands old cs → Stands new cs
  back-goes-on true is slice e h = absurd (false≢true (sym is))
  back-goes-on false is slice e h = back-by false (back-slice false slice e h)

-- the literals of the last one that was deleted
pub last-range : (s : Tiers) (rest : List (List Lit)) (g : List Lit) → s.gone.items ≡ rest ++ g ∷ [] → (cs : List (List Lit)) → Stands s cs → (l : Lit) → Contains g l → LitBelow (s.db.trail.vars + 1) l
last-range s rest g last cs st l has = st.in_range g (let P : List (List Lit) → Type 0 = λ gs. Contains gs g in subst P (sym last) (last-in rest g)) l has

-- the same clauses
pub same-stands : (s t : Tiers) → t.db ≡ s.db → s.gone.items ≡ t.gone.items → (cs : List (List Lit)) → Stands s cs → Stands t cs
same-stands s t db same cs st = record {
  held = λ d has.
      subst (λ (x : ClauseLists). IsHeld x.clauses d ⊎ IsListed t.gone.items d) (sym db)
      (⊎_elim (λ (is : IsHeld s.db.clauses d). inl is) (λ (g : IsListed s.gone.items d). inr (let P : List (List Lit) → Type 0 = λ gs. IsListed gs d in subst P same g)) (st.held d has));
  listed = subst (λ (x : ClauseLists). AreListed x.clauses cs) (sym db) st.listed;
  gone = λ g has. st.gone g (let P : List (List Lit) → Type 0 = λ gs. Contains gs g in subst P (sym same) has);
  in_range = λ g has l within. subst (λ (x : ClauseLists). LitBelow (x.trail.vars + 1) l) (sym db) (st.in_range g (let P : List (List Lit) → Type 0 = λ gs. Contains gs g in subst P (sym same) has) l within);
  bottom = ap (λ (x : ClauseLists). x.trail.level) db ∙ st.bottom;
  complete = subst (λ (x : ClauseLists). IsComplete x.trail.entries x.clauses) (sym db) st.complete;
}

-- a trial leaves the tiers as they were
pub tried-stands : (old new : Tiers) → SameClauses old.db.clauses new.db.clauses → new.db.trail ≡ old.db.trail → IsComplete new.db.trail.entries new.db.clauses → new.gone ≡ old.gone → (cs : List (List Lit)) → Stands old cs → Stands new cs
tried-stands old new same trail complete gone cs st = record {
  held = λ d has.
      ⊎_elim
      (λ (is : IsHeld old.db.clauses d). inl (held-same old.db.clauses new.db.clauses same d is))
      (λ (g : IsListed old.gone.items d). inr (subst (λ gs. IsListed gs.items d) (sym gone) g))
      (st.held d has);
  listed = listed-same old.db.clauses new.db.clauses same cs st.listed;
  gone = λ g has. st.gone g (subst (λ gs. Contains gs.items g) gone has);
  in_range = λ g has l within. subst (λ (t : Trail). LitBelow (t.vars + 1) l) (sym trail) (st.in_range g (subst (λ gs. Contains gs.items g) gone has) l within);
  bottom = ap (λ (t : Trail). t.level) trail ∙ st.bottom;
  complete = complete;
}

set-dead : (cs : List Clause) (i : ℕ) → (clause_at (slice_set cs i no_clause) i).live ≡ false
set-dead [] i = refl
set-dead (x ∷ cs) zero = refl
set-dead (x ∷ cs) (suc i) = set-dead cs i

-- a clause goes from the one tier to the other
module _ (old new : Tiers) (c : ℕ) (live : IsLive old.db.clauses c) (db : IsDb old.db.clauses old.db.trail) (goes : new.db ≡ without_clause old.db c) (gone : new.gone.items ≡ old.gone.items ++ lits_of old.db.clauses c ∷ []) where
  abbrev Leaving : List Lit
  Leaving = lits_of old.db.clauses c

  clauses-set : new.db.clauses ≡ slice_set old.db.clauses c no_clause
  clauses-set = ap (λ (s : ClauseLists). s.clauses) goes

  trail-stays : new.db.trail ≡ old.db.trail
  trail-stays = ap (λ (s : ClauseLists). s.trail) goes

  elsewhere : (k : ℕ) → k ≢ c → clause_at new.db.clauses k ≡ clause_at old.db.clauses k
  elsewhere k ne = ap (λ (cs : List Clause). clause_at cs k) clauses-set ∙ get_or-set_other old.db.clauses c k no_clause no_clause ne

  was-live : (k : ℕ) → IsLive new.db.clauses k → k ≢ c
  was-live k now e =
      let here : (clause_at new.db.clauses c).live ≡ true = (let P : ℕ → Type 0 = λ n. (clause_at new.db.clauses n).live ≡ true in subst P e now) in
      false≢true (sym (ap (λ (cs : List Clause). (clause_at cs c).live) clauses-set ∙ set-dead old.db.clauses c) ∙ here)

  leaves : (d : List Lit) → IsStored old.db.clauses d → IsHeld new.db.clauses d ⊎ IsListed new.gone.items d
  leaves d st =
      ⊎_elim
      (λ (e : st.reference ≡ c).
      inr (record {
        clause = Leaving;
        is_in = (let P : List (List Lit) → Type 0 = λ gs. Contains gs Leaving in subst P (sym gone) (last-in old.gone.items Leaving));
        same = turned Leaving d (subst (λ (k : ℕ). SameSet (lits_of old.db.clauses k) d) e st.same);
      }))
      (λ (ne : st.reference ≢ c).
      let stays = elsewhere st.reference ne in
      inl (inl (record {
        reference = st.reference;
        live = ap (λ (y : Clause). y.live) stays ∙ st.live;
        same = (let P : List Lit → Type 0 = λ ls. SameSet ls d in subst P (sym (ap (λ (y : Clause). y.lits) stays)) st.same);
      })))
      (cases_eq st.reference c)

  before-cases : (g : List Lit) → Contains new.gone.items g → Contains old.gone.items g ⊎ (Leaving ≡ g)
  before-cases g has = last-cases old.gone.items Leaving g (let P : List (List Lit) → Type 0 = λ gs. Contains gs g in subst P gone has)

  pub aside-stands : (cs : List (List Lit)) → Stands old cs → Stands new cs
  aside-stands cs st = record {
    held = λ d has.
        ⊎_elim
        (λ (is : IsHeld old.db.clauses d). ⊎_elim (λ (s : IsStored old.db.clauses d). leaves d s) (λ (o : HasOpposites d). inl (inr o)) is)
        (λ (g : IsListed old.gone.items d). inr (subst (λ (gs : List (List Lit)). IsListed gs d) (sym gone) (more-listed old.gone.items (Leaving ∷ []) d g)))
        (st.held d has);
    listed = λ k now.
        let stays = elsewhere k (was-live k now) in
        let is = st.listed k (sym (ap (λ (y : Clause). y.live) stays) ∙ now) in
        record { clause = is.clause; is_in = is.is_in; same = (let P : List Lit → Type 0 = λ ls. SameSet ls is.clause in subst P (sym (ap (λ (y : Clause). y.lits) stays)) is.same) };
    gone = λ g has. ⊎_elim (λ (before : Contains old.gone.items g). st.gone g before) (λ (e : Leaving ≡ g). subst (IsListed cs) e (st.listed c live)) (before-cases g has);
    in_range = λ g has l within.
        subst (λ (t : Trail). LitBelow (t.vars + 1) l) (sym trail-stays)
        (⊎_elim
        (λ (before : Contains old.gone.items g). st.in_range g before l within)
        (λ (e : Leaving ≡ g). db.in_range c live l (subst (λ (x : List Lit). Contains x l) (sym e) within))
        (before-cases g has));
    bottom = ap (λ (t : Trail). t.level) trail-stays ∙ st.bottom;
    complete = λ k now.
        let stays = elsewhere k (was-live k now) in
        let quiet = st.complete k (sym (ap (λ (y : Clause). y.live) stays) ∙ now) in
        subst (λ (t : Trail). IsQuiet t.entries (lits_of new.db.clauses k)) (sym trail-stays)
        (subst (λ (ls : List Lit). IsQuiet old.db.trail.entries ls) (sym (ap (λ (y : Clause). y.lits) stays)) quiet);
  }
