-- A clause more in a store.
use Rattle.std.proofs.Common.{◌≡◌, ◌≢◌, ℕ, ◌<◌, Bool, true, false, List, [], ◌∷◌, length, set, map, refl, sym, ap, ◌∙◌, subst, ◌⊎◌, inl, inr, ⊎_elim, Option, Some, None}
use Rattle.std.specs.Prelude.{Contains, IsTrue, ◌↔◌, option_and_then, option_map, if◌then◌else◌}
use Rattle.std.proofs.lemmas.Bool.{or_cases, or_left, or_right, false≢true, cases_eq}
use Rattle.std.proofs.lemmas.List.{get_or-set_other, get_or-set_same}
use Rattle.order_ints.specs.declared.literal.Lit.{Lit}
use Rattle.order_ints.specs.declared.atom.Atom.{Atom}
use Rattle.order_ints.specs.declared.atom.Atom.TheVariants.{Of}
use Rattle.order_ints.specs.Truth.{not_lit}
use Rattle.order_ints.specs.View.{resolve}
use Rattle.order_ints.specs.OrderedClauses.{same_lit, has_lit, has_opposites, by_variable, with_atom, resolved_lits, unless_opposites, ordered_clause}
use Rattle.order_ints.specs.Equality.{same_lit-tells}
use Rattle.order_ints.proofs.LitOrder.{same_lit-true, same_lit-refl, has_lit-by_variable, LitsAscend-by_variable}
use Rattle.order_ints.proofs.Opposites.{VarsAscend-from_opposites}
use Rattle.literal_trail.specs.Trail.{Trail}
use Rattle.literal_trail.specs.Standing.{IsFalse}
use Rattle.clause_arena.specs.Clauses.{Clause, no_clause, live_clause, clause_at, IsLive, lits_of}
use Rattle.clause_rings.specs.Clauses.{ClauseLists, SameClauses, Follows, IsComplete, IsDb, HasRoomMore, with_clause}
use Rattle.clause_rings.proofs.Ascending.{ascend-apart}
use Rattle.clause_rings.proofs.Widened.{wider-at}
use Rattle.drup_check.specs.Stored.{SameSet, HasOpposites, IsStored, IsHeld, IsListed, AreListed, IsOrderedAs}
use Rattle.drup_check.specs.Keeping.{TakesIn, IsTakenIn, IsKept}
use Rattle.drup_check.specs.declared.keeping.Kept.{Kept}
use Rattle.drup_check.specs.declared.keeping.Kept.TheVariants.{Idle, Stored, Refutes}
use Rattle.drup_check.specs.Rup.{Rup}
use Rattle.drup_check.proofs.Members.{member-cases, member-first, member-more, no-member}
use Rattle.drup_check.proofs.Permuted.{listed-same, held-same}
use Rattle.drup_check.proofs.Denials.{denying-none}
use Rattle.drup_check.proofs.Trails.{follows-same}
use Rattle.drup_check.proofs.Rups.{shown-sound}

-- what is among literals
has-told : (x : Lit) (ys : List Lit) → has_lit x ys ≡ true → Contains ys x
has-told x [] e = absurd (false≢true e)
has-told x (y ∷ ys) e =
    ⊎_elim
    (λ (here : same_lit x y ≡ true). let P : Lit → Type 0 = λ z. Contains (y ∷ ys) z in subst P (sym (same_lit-true x y here)) (member-first y ys))
    (λ (there : has_lit x ys ≡ true). member-more y ys x (has-told x ys there))
    (or_cases (same_lit x y) (has_lit x ys) e)

told-has : (x : Lit) (ys : List Lit) → Contains ys x → has_lit x ys ≡ true
told-has x [] has = absurd (no-member x has)
told-has x (y ∷ ys) has =
    ⊎_elim
    (λ (here : y ≡ x). or_left (same_lit x y) (has_lit x ys) (ap (λ (z : Lit). same_lit x z) here ∙ same_lit-refl x))
    (λ (there : Contains ys x). or_right (same_lit x y) (has_lit x ys) (told-has x ys there))
    (member-cases y ys x has)

ordered-same : (ls : List Lit) → SameSet (by_variable ls) ls
ordered-same ls l = (
  (λ has. has-told l ls (sym (has_lit-by_variable l ls) ∙ told-has l (by_variable ls) has)),
  (λ has. has-told l (by_variable ls) (has_lit-by_variable l ls ∙ told-has l ls has)),
)

opposites-told : (ls : List Lit) → has_opposites ls ≡ true → HasOpposites ls
opposites-told [] e = absurd (false≢true e)
opposites-told (l ∷ ls) e =
    ⊎_elim
    (λ (here : has_lit (not_lit l) ls ≡ true). record { lit = l; is_in = member-first l ls; negated_in = member-more l ls (not_lit l) (has-told (not_lit l) ls here) })
    (λ (there : has_opposites ls ≡ true).
    let o = opposites-told ls there in
    record { lit = o.lit; is_in = member-more l ls o.lit o.is_in; negated_in = member-more l ls (not_lit o.lit) o.negated_in })
    (or_cases (has_lit (not_lit l) ls) (has_opposites ls) e)

itself : (v : ℕ) (b : Bool) → resolve [] (Of (record { var = v; positive = b })) ≡ Of (record { var = v; positive = b })
itself v true = refl
itself v false = refl

resolved-same : (ls : List Lit) → resolved_lits [] (map Of ls) ≡ Some ls
resolved-same [] = refl
resolved-same (l ∷ ls) =
    ap (λ (a : Atom). with_atom a (resolved_lits [] (map Of ls))) (itself l.var l.positive)
    ∙ ap (λ (o : Option (List Lit)). option_map (λ xs. l ∷ xs) o) (resolved-same ls)

ordered-by : (ls : List Lit) (b : Bool) → has_opposites (by_variable ls) ≡ b → IsOrderedAs ls (if b then None else Some (by_variable ls))
ordered-by ls true e =
    let o = opposites-told (by_variable ls) e in
    record { lit = o.lit; is_in = (ordered-same ls o.lit).0 o.is_in; negated_in = (ordered-same ls (not_lit o.lit)).0 o.negated_in }
ordered-by ls false e = (ascend-apart (by_variable ls) (VarsAscend-from_opposites (by_variable ls) (LitsAscend-by_variable ls) e), ordered-same ls)

pub ordered-as : (ls : List Lit) (kept : Option (List Lit)) → kept ≡ ordered_clause [] (map Of ls) → IsOrderedAs ls kept
ordered-as ls kept e =
    let whole : kept ≡ unless_opposites (by_variable ls) = e ∙ ap (λ (o : Option (List Lit)). option_and_then (λ xs. unless_opposites (by_variable xs)) o) (resolved-same ls) in
    let P : Option (List Lit) → Type 0 = IsOrderedAs ls in
    subst P (sym whole) (ordered-by ls (has_opposites (by_variable ls)) refl)

same-listed : (cs : List (List Lit)) (ordered lits : List Lit) → SameSet ordered lits → IsListed cs lits → IsListed cs ordered
same-listed cs ordered lits same one = record { clause = one.clause; is_in = one.is_in; same = λ l. ((λ has. (one.same l).0 ((same l).0 has)), (λ has. (same l).1 ((one.same l).1 has))) }

-- a store with one clause more holds it
module _ (old new : List Clause) (r id : ℕ) (lits : List Lit) (dead : (clause_at old r).live ≡ false) (here : clause_at new r ≡ live_clause id lits) (others : (c : ℕ) → c ≢ r → clause_at new c ≡ clause_at old c) where
  add-stored : (x : List Lit) → IsStored old x → IsStored new x
  add-stored x st =
      let differs : st.reference ≢ r = λ e. false≢true (sym dead ∙ (let P : ℕ → Type 0 = λ c. (clause_at old c).live ≡ true in subst P e st.live)) in
      let stays = others st.reference differs in
      record {
        reference = st.reference;
        live = ap (λ (y : Clause). y.live) stays ∙ st.live;
        same = (let P : List Lit → Type 0 = λ ls. SameSet ls x in subst P (sym (ap (λ (y : Clause). y.lits) stays)) st.same);
      }

  pub add-held : (x : List Lit) → IsHeld old x → IsHeld new x
  add-held x (inl st) = inl (add-stored x st)
  add-held x (inr o) = inr o

  pub add-here : (d : List Lit) → SameSet lits d → IsHeld new d
  add-here d same = inl (record { reference = r; live = ap (λ (y : Clause). y.live) here; same = (let P : List Lit → Type 0 = λ ls. SameSet ls d in subst P (sym (ap (λ (y : Clause). y.lits) here)) same) })

  pub add-listed : (cs : List (List Lit)) → AreListed old cs → IsListed cs lits → (c : ℕ) → IsLive new c → (c ≡ r) ⊎ (c ≢ r) → IsListed cs (lits_of new c)
  add-listed cs listed one c live (inl e) =
      let whole : clause_at new c ≡ live_clause id lits = (let P : ℕ → Type 0 = λ n. clause_at new n ≡ live_clause id lits in subst P (sym e) here) in
      record { clause = one.clause; is_in = one.is_in; same = (let P : List Lit → Type 0 = λ ls. SameSet ls one.clause in subst P (sym (ap (λ (y : Clause). y.lits) whole)) one.same) }
  add-listed cs listed one c live (inr ne) =
      let stays = others c ne in
      let is = listed c (sym (ap (λ (y : Clause). y.live) stays) ∙ live) in
      record { clause = is.clause; is_in = is.is_in; same = (let P : List Lit → Type 0 = λ ls. SameSet ls is.clause in subst P (sym (ap (λ (y : Clause). y.lits) stays)) is.same) }

-- where a listed clause is false, the list shows the empty one
pub false-shows : (s : ClauseLists) (c : ℕ) → s.trail.level ≡ 0 → IsDb s.clauses s.trail → IsLive s.clauses c → IsFalse s.trail.entries (lits_of s.clauses c) → (cs : List (List Lit)) → AreListed s.clauses cs → Rup cs []
false-shows s c low db live fails cs listed = shown-sound s s [] low db (denying-none [] s) db true (inr (record { reference = c; live = live; is_false = fails })) cs listed refl

-- the moves that store a clause
module _ (old mid next new : ClauseLists) (r id : ℕ) (lits : List Lit) (bottom : old.trail.level ≡ 0) (room : HasRoomMore old mid) (inside : r < length mid.clauses) (dead : (clause_at mid.clauses r).live ≡ false) (comes : next ≡ with_clause mid r id lits) (clauses : SameClauses next.clauses new.clauses) (follows : Follows new.clauses next.trail new.trail) (db : IsDb new.clauses new.trail) where
  same_trail : next.trail ≡ old.trail
  same_trail = ap (λ (s : ClauseLists). s.trail) comes ∙ room.trail

  pub same_vars : new.trail.vars ≡ old.trail.vars
  same_vars = (follows-same new.clauses next.trail new.trail follows).0 ∙ ap (λ (t : Trail). t.vars) same_trail

  low : new.trail.level ≡ 0
  low = (follows-same new.clauses next.trail new.trail follows).1 ∙ ap (λ (t : Trail). t.level) same_trail ∙ bottom

  mid-at : (c : ℕ) → clause_at mid.clauses c ≡ clause_at old.clauses c
  mid-at c = ap (λ (cs : List Clause). clause_at cs c) room.clauses ∙ wider-at old.clauses room.more c

  set-at : next.clauses ≡ set mid.clauses r (live_clause id lits)
  set-at = ap (λ (s : ClauseLists). s.clauses) comes

  was-dead : (clause_at old.clauses r).live ≡ false
  was-dead = sym (ap (λ (y : Clause). y.live) (mid-at r)) ∙ dead

  at-reference : clause_at next.clauses r ≡ live_clause id lits
  at-reference = ap (λ (ks : List Clause). clause_at ks r) set-at ∙ get_or-set_same mid.clauses r (live_clause id lits) no_clause inside

  elsewhere : (c : ℕ) → c ≢ r → clause_at next.clauses c ≡ clause_at old.clauses c
  elsewhere c ne = ap (λ (ks : List Clause). clause_at ks c) set-at ∙ get_or-set_other mid.clauses r c (live_clause id lits) no_clause ne ∙ mid-at c

  now-listed : (cs : List (List Lit)) → AreListed old.clauses cs → IsListed cs lits → AreListed new.clauses cs
  now-listed cs listed one =
      listed-same next.clauses new.clauses clauses cs
      (λ c live. add-listed old.clauses next.clauses r id lits was-dead at-reference elsewhere cs listed one c live (cases_eq c r))

  pub stored-refutes : (c : ℕ) → IsLive new.clauses c × IsFalse new.trail.entries (lits_of new.clauses c) → IsTakenIn true old new lits
  stored-refutes c found = λ cs listed one. false-shows new c low db found.0 found.1 cs (now-listed cs listed one)

  pub stored-takes : IsComplete new.trail.entries new.clauses → TakesIn old new lits
  stored-takes none = record {
    stays = λ d h. held-same next.clauses new.clauses clauses d (add-held old.clauses next.clauses r id lits was-dead at-reference elsewhere d h);
    comes = λ d same. held-same next.clauses new.clauses clauses d (add-here old.clauses next.clauses r id lits was-dead at-reference elsewhere d same);
    listed = now-listed;
    bottom = low;
    complete = none;
  }

-- other words for the literals
pub taken-same : (old new : ClauseLists) (ordered lits : List Lit) → SameSet ordered lits → (b : Bool) → IsTakenIn b old new ordered → IsTakenIn b old new lits
taken-same old new ordered lits same true h = λ cs listed one. h cs listed (same-listed cs ordered lits same one)
taken-same old new ordered lits same false h = record {
  stays = h.stays;
  comes = λ d is. h.comes d (λ l. ((λ has. (is l).0 ((same l).0 has)), (λ has. (same l).1 ((is l).1 has))));
  listed = λ cs listed one. h.listed cs listed (same-listed cs ordered lits same one);
  bottom = h.bottom;
  complete = h.complete;
}

pub kept-same : (old new : ClauseLists) (ordered lits : List Lit) → SameSet ordered lits → (kept : Kept) → IsKept kept old new ordered → IsKept kept old new lits
kept-same old new ordered lits same Idle h = taken-same old new ordered lits same false h
kept-same old new ordered lits same (Stored r) h = taken-same old new ordered lits same false h
kept-same old new ordered lits same (Refutes r) h = taken-same old new ordered lits same true h

-- a clause with a literal and its negation need not be stored
pub idle-takes : (s : ClauseLists) (lits : List Lit) → HasOpposites lits → s.trail.level ≡ 0 → IsComplete s.trail.entries s.clauses → TakesIn s s lits
idle-takes s lits o bottom complete = record {
  stays = λ d h. h;
  comes = λ d same. inr (record { lit = o.lit; is_in = (same o.lit).0 o.is_in; negated_in = (same (not_lit o.lit)).0 o.negated_in });
  listed = λ cs listed one. listed;
  bottom = bottom;
  complete = complete;
}

-- nor one that is there already
pub stored-stays : (s : ClauseLists) (lits : List Lit) → IsStored s.clauses lits → s.trail.level ≡ 0 → IsComplete s.trail.entries s.clauses → TakesIn s s lits
stored-stays s lits st bottom complete = record {
  stays = λ d h. h;
  comes = λ d same. inl (record { reference = st.reference; live = st.live; same = λ l. ((λ has. (same l).0 ((st.same l).0 has)), (λ has. (st.same l).1 ((same l).1 has))) });
  listed = λ cs listed one. listed;
  bottom = bottom;
  complete = complete;
}

-- the test of literals tells equality
pub lit-equal : (x y : Lit) → IsTrue (same_lit x y) ↔ (x ≡ y)
lit-equal x y = same_lit-tells x y

-- a clause that has the literals of another, once put in order
pub copy-stored : (clauses : List Clause) (c : ℕ) (lits one other : List Lit) → IsLive clauses c → IsOrderedAs (lits_of clauses c) (Some one) → IsOrderedAs lits (Some other) → one ≡ other → IsStored clauses lits
copy-stored clauses c lits one other live first second e = record {
  reference = c;
  live = live;
  same = λ l.
      let across : Contains one l ↔ Contains lits l = (let P : List Lit → Type 0 = λ ls. Contains ls l ↔ Contains lits l in subst P (sym e) (second.1 l)) in
      ((λ has. across.0 ((first.1 l).1 has)), (λ has. (first.1 l).0 (across.1 has)));
}
