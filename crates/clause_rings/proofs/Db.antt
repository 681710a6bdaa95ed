-- What holds of clauses and trail, after literals have changed places and after the moves of the trail.
use Rattle.std.proofs.Common.{◌≡◌, ◌≢◌, ℕ, zero, suc, ◌≤◌, ◌<◌, true, false, List, [], ◌∷◌, ◌++◌, length, set, refl, ap, sym, ◌∙◌, subst, arith, ◌⊎◌, inl, inr, ⊎_elim, Some}
use Rattle.std.specs.List.{Contains, swap}
use Rattle.std.specs.List.Sorted.{IsPermutation}
use Rattle.std.proofs.lemmas.Bool.{cases_eq}
use Rattle.std.proofs.lemmas.List.{get_or-set_same, get_or-set_other, length-set}
use Rattle.std.proofs.lemmas.List.Edits.{length-swap, swapped_from_swap}
use Rattle.std.proofs.lemmas.List.Sorted.{Contains-permutation, IsPermutation-sym, IsPermutation-refl, IsPermutation-trans, IsPermutation-keeps, IsPermutation-swap}
use Rattle.order_ints.specs.declared.literal.Lit.{Lit}
use Rattle.literal_trail.specs.declared.entry.Entry.{Entry}
use Rattle.literal_trail.specs.Trail.{Trail, IsTrail, up_to, implied}
use Rattle.literal_trail.specs.Standing.{IsUnit}
use Rattle.clause_arena.specs.Clauses.{Clause, no_clause, live_clause, clause_at, IsLive, lits_of, lit_in, no_lit}
use Rattle.clause_rings.specs.Clauses.{IsComplete, SameClause, SameClauses, Follows, IsApart, HaveReasons, IsDb}
use Rattle.clause_rings.specs.Clauses.Follows.{same, more}
use Rattle.clause_rings.proofs.Literals.{unit-permuted, quiet-permuted, contains-at}
use Rattle.clause_rings.proofs.Entries.{up-push}

-- two lists of entries around one are the front and the last, or the front goes on
pub last-or-before : (xs before after : List Entry) (x e : Entry) → xs ++ x ∷ [] ≡ before ++ e ∷ after → ((before ≡ xs) × (e ≡ x)) ⊎ ((rest : List Entry) × (xs ≡ before ++ e ∷ rest))
last-or-before [] [] after x e h = inl (refl, cc)
last-or-before [] (b ∷ before) after x e h = absurd (no (before) after (cc))
  where
    no : (before after : List Entry) → [] ≡ before ++ e ∷ after → ⊥
    no [] after k = cc
    no (z ∷ before) after k = cc
last-or-before (y ∷ xs) [] after x e h = inr (xs, let first : y ≡ e = cc in ap (λ (z : Entry). z ∷ xs) first)
last-or-before (y ∷ xs) (b ∷ before) after x e h = ⊎_elim (λ (s : (before ≡ xs) × (e ≡ x)). inl (let first : y ≡ b = cc in (ap (λ (l : List Entry). b ∷ l) s.0 ∙ ap (λ (z : Entry). z ∷ xs) (sym first), s.1))) (λ (s : (rest : List Entry) × (xs ≡ before ++ e ∷ rest)). inr (s.0, let first : y ≡ b = cc in ap (λ (l : List Entry). y ∷ l) s.1 ∙ ap (λ (z : Entry). z ∷ (before ++ e ∷ s.0)) first)) (last-or-before xs before after x e (let rest : xs ++ x ∷ [] ≡ before ++ e ∷ after = cc in rest))

-- where the literal at a place stood before two changed places
pub record CameFrom (ls : List Lit) (a b i : ℕ) : Type 0 where
  pub place : ℕ
  pub inside : place < length ls
  pub same_lit : lit_in (swap ls a b) i ≡ lit_in ls place
  pub moved : ((i ≡ a) × (place ≡ b)) ⊎ (((i ≡ b) × (place ≡ a)) ⊎ ((i ≢ a) × (i ≢ b) × (place ≡ i)))

pub came-from : (ls : List Lit) (a b i : ℕ) → a < length ls → b < length ls → i < length ls → CameFrom ls a b i
came-from ls a b i a_in b_in i_in =
    let s = swapped_from_swap ls (swap ls a b) a b no_lit a_in b_in refl in
    ⊎_elim (λ (e : i ≡ a). record { place = b; inside = b_in; same_lit = ap (lit_in (swap ls a b)) e ∙ s.0; moved = inl (e, refl) })
    (λ (na : i ≡ a → ⊥). ⊎_elim (λ (e : i ≡ b). record { place = a; inside = a_in; same_lit = ap (lit_in (swap ls a b)) e ∙ s.1; moved = inr (inl (e, refl)) })
    (λ (nb : i ≡ b → ⊥). record { place = i; inside = i_in; same_lit = s.2 i na nb; moved = inr (inr (na, nb, refl)) }) (cases_eq i b)) (cases_eq i a)

-- apart in each order
pub apart-swapped : (ls : List Lit) (a b : ℕ) → a < length ls → b < length ls → IsApart ls → IsApart (swap ls a b)
apart-swapped ls a b a_in b_in h i j i_in j_in e =
    let count : length (swap ls a b) ≡ length ls = length-swap ls a b in
    joined (came-from ls a b i a_in b_in (omega arith)) (came-from ls a b j a_in b_in (omega arith))
  where
    last : (f : CameFrom ls a b i) → (g : CameFrom ls a b j) → f.place ≡ g.place → i ≡ j
    last f g same_place = grind (arith, f.moved, g.moved)

    joined : CameFrom ls a b i → CameFrom ls a b j → i ≡ j
    joined f g =
        let same_place : f.place ≡ g.place = h f.place g.place f.inside g.inside (sym (ap (λ (l : Lit). l.var) f.same_lit) ∙ (e ∙ ap (λ (l : Lit). l.var) g.same_lit)) in
        last f g same_place

pub apart-permuted : (ls ms : List Lit) → IsPermutation ls ms → IsApart ls → IsApart ms
apart-permuted ls ms p h = IsPermutation-keeps ls IsApart h (λ l i j i_in j_in k. apart-swapped l i j i_in j_in k) ms p

-- one clause is another one now
pub record IsChanged (old new : List Clause) (c : ℕ) (x : Clause) : Type 0 where
  pub count : length new ≡ length old
  pub here : clause_at new c ≡ x
  pub others : (d : ℕ) → d ≢ c → clause_at new d ≡ clause_at old d

pub changed-set : (cs : List Clause) (c : ℕ) (x : Clause) → c < length cs → IsChanged cs (set cs c x) c x
changed-set cs c x h = record {
  count = length-set cs c x;
  here = get_or-set_same cs c x no_clause h;
  others = λ d ne. get_or-set_other cs c d x no_clause ne;
}

-- a live clause is there
pub live-inside : (cs : List Clause) (c : ℕ) → IsLive cs c → c < length cs
live-inside [] c h = absurd (let no : false ≡ true = h in cc)
live-inside (x ∷ cs) zero h = omega arith
live-inside (x ∷ cs) (suc c) h = let rest : c < length cs = live-inside cs c h in omega arith

pub same-clause : (x : Clause) → SameClause x x
same-clause x = record { id = refl; live = refl; lits = IsPermutation-refl x.lits }

pub same-clauses : (cs : List Clause) → SameClauses cs cs
same-clauses cs = record { count = refl; each = λ c. same-clause (clause_at cs c) }

pub same-both : (a b c : List Clause) → SameClauses a b → SameClauses b c → SameClauses a c
same-both a b c f g = record {
  count = g.count ∙ f.count;
  each = λ n. record { id = (g.each n).id ∙ (f.each n).id; live = (g.each n).live ∙ (f.each n).live; lits = IsPermutation-trans (lits_of a n) (lits_of b n) (lits_of c n) (f.each n).lits (g.each n).lits };
}

pub same-changed : (old new : List Clause) (c : ℕ) (x : Clause) → IsChanged old new c x → SameClause (clause_at old c) x → SameClauses old new
same-changed old new c x h s = record { count = h.count; each = λ d. ⊎_elim (here d) (there d) (cases_eq d c) }
  where
    here : (d : ℕ) → d ≡ c → SameClause (clause_at old d) (clause_at new d)
    here d e = subst (λ (k : ℕ). SameClause (clause_at old k) (clause_at new k)) (sym e) (subst (λ (y : Clause). SameClause (clause_at old c) y) (sym h.here) s)

    there : (d : ℕ) → (d ≡ c → ⊥) → SameClause (clause_at old d) (clause_at new d)
    there d ne = subst (λ (y : Clause). SameClause (clause_at old d) y) (sym (h.others d ne)) (same-clause (clause_at old d))

-- a live clause of which two literals change places
pub same-swapped : (x : Clause) (a b : ℕ) → x.live ≡ true → a < length x.lits → b < length x.lits → SameClause x (live_clause x.id (swap x.lits a b))
same-swapped x a b live a_in b_in = record { id = refl; live = sym live; lits = IsPermutation-swap x.lits (swap x.lits a b) a b a_in b_in refl }

pub complete-same : (old new : List Clause) (es : List Entry) → SameClauses old new → IsComplete es old → IsComplete es new
complete-same old new es s h c live = quiet-permuted es (lits_of old c) (lits_of new c) (s.each c).lits (h c (sym (s.each c).live ∙ live))

pub reasons-same : (old new : List Clause) (es : List Entry) → SameClauses old new → HaveReasons old es → HaveReasons new es
reasons-same old new es s h before after e c cut reason =
    let r = h before after e c cut reason in
    ((s.each c).live ∙ r.0, unit-permuted before (lits_of old c) (lits_of new c) e.lit (s.each c).lits r.1)

pub db-same : (old new : List Clause) (t : Trail) → SameClauses old new → IsDb old t → IsDb new t
db-same old new t s h = record {
  trail = h.trail;
  in_range = λ c live l is_in. h.in_range c (sym (s.each c).live ∙ live) l (Contains-permutation (lits_of new c) (lits_of old c) l (IsPermutation-sym (lits_of old c) (lits_of new c) (s.each c).lits) is_in);
  apart = λ c live. apart-permuted (lits_of old c) (lits_of new c) (s.each c).lits (h.apart c (sym (s.each c).live ∙ live));
  reasons = reasons-same old new t.entries s h.reasons;
  below = λ k lt. complete-same old new (up_to k t.entries) s (h.below k lt);
}

-- a live clause was unit for a literal, which is true now
pub reasons-pushed : (cs : List Clause) (es : List Entry) (x : Entry) → HaveReasons cs es → ((c : ℕ) → x.reason ≡ Some c → IsLive cs c × IsUnit es (lits_of cs c) x.lit) → HaveReasons cs (es ++ x ∷ [])
reasons-pushed cs es x h new before after e c cut reason = ⊎_elim last front (last-or-before es before after x e cut)
  where
    last : (before ≡ es) × (e ≡ x) → IsLive cs c × IsUnit before (lits_of cs c) e.lit
    last s =
        let r = new c (sym (ap (λ (y : Entry). y.reason) s.1) ∙ reason) in
        (r.0, subst (λ (l : List Entry). IsUnit l (lits_of cs c) e.lit) (sym s.0) (subst (λ (y : Entry). IsUnit es (lits_of cs c) y.lit) (sym s.1) r.1))

    front : (rest : List Entry) × (es ≡ before ++ e ∷ rest) → IsLive cs c × IsUnit before (lits_of cs c) e.lit
    front s = h before s.0 e c s.1 reason

pub db-implied : (cs : List Clause) (t : Trail) (l : Lit) (c : ℕ) → IsTrail (implied t l c) → IsLive cs c → IsUnit t.entries (lits_of cs c) l → IsDb cs t → IsDb cs (implied t l c)
db-implied cs t l c trail live unit h = record {
  trail = trail;
  in_range = h.in_range;
  apart = h.apart;
  reasons = reasons-pushed cs t.entries (record { lit = l; level = t.level; reason = Some c }) h.reasons (λ d is. let e : c ≡ d = cc in subst (λ (k : ℕ). IsLive cs k × IsUnit t.entries (lits_of cs k) l) e (live, unit));
  below = λ k lt. subst (λ (es : List Entry). IsComplete es cs) (sym (up-push k t.entries (record { lit = l; level = t.level; reason = Some c }) lt)) (h.below k lt);
}

pub follows-same : (old new : List Clause) (t u : Trail) → SameClauses old new → Follows old t u → Follows new t u
follows-same old new t u s same = same
follows-same old new t u s (more v l c rest live unit) = more v l c (follows-same old new t v s rest) ((s.each c).live ∙ live) (unit-permuted v.entries (lits_of old c) (lits_of new c) l (s.each c).lits unit)

pub follows-both : (cs : List Clause) (t u v : Trail) → Follows cs t u → Follows cs u v → Follows cs t v
follows-both cs t u v f same = f
follows-both cs t u v f (more w l c rest live unit) = more w l c (follows-both cs t u w f rest) live unit

-- a literal of a live clause is in range
pub db-range : (cs : List Clause) (t : Trail) (c : ℕ) (l : Lit) → IsDb cs t → IsLive cs c → Contains (lits_of cs c) l → l.var ≤ t.vars
db-range cs t c l db live is_in = let r = db.in_range c live l is_in in omega (arith, r.1)

pub db-range_at : (cs : List Clause) (t : Trail) (c k : ℕ) (l : Lit) → IsDb cs t → IsLive cs c → k < length (lits_of cs c) → l ≡ lit_in (lits_of cs c) k → l.var ≤ t.vars
db-range_at cs t c k l db live lt e = subst (λ (x : Lit). x.var ≤ t.vars) (sym e) (db-range cs t c (lit_in (lits_of cs c) k) db live (contains-at (lits_of cs c) k lt))
