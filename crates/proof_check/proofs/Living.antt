-- Clauses of a table: found under their ids, let go, and let live again.
use Rattle.std.proofs.Common.{◌≡◌, ◌≢◌, ℕ, zero, suc, ◌<◌, ◌≤◌, Bool, true, false, List, [], ◌∷◌, ◌++◌, length, get_or, set, arith, refl, sym, ap, ◌∙◌}
use Rattle.std.specs.Prelude.{None, Some, if◌then◌else◌, ◌==◌}
use Rattle.std.proofs.lemmas.Bool.{eq-eqb, ne_eqb, eqb-true, cond-true, cond-false}
use Rattle.proof_check.specs.Named.{Named, clause_at, without}
use Rattle.proof_check.specs.Arena.{Kept, Ascend, kept_ids, live_in, clauses_in, nth_kept, with_life, life_to, IsLiveAt}
use Rattle.proof_check.proofs.Ascending.{ascend-low}

-- a clause with another id is passed over, whether it lives or not
skip : (b : Bool) (c : Named) (cs : List Named) (id : ℕ) → c.id ≢ id → clause_at (if b then c ∷ cs else cs) id ≡ clause_at cs id
skip true c cs id other = cond-false _ _ _ (ne_eqb c.id id other)
skip false c cs id other = refl

skip-without : (b : Bool) (c : Named) (cs ds : List Named) (id : ℕ) → c.id ≢ id → without id cs ≡ ds →
    without id (if b then c ∷ cs else cs) ≡ (if b then c ∷ ds else ds)
skip-without true c cs ds id other e = cond-false _ _ _ (ne_eqb c.id id other) ∙ ap (λ (xs : List Named). c ∷ xs) e
skip-without false c cs ds id other e = e

-- under an id that no clause has, none is found
pub unknown : (ks : List Kept) (id : ℕ) → ((i : ℕ) → i < length ks → get_or (kept_ids ks) i 0 ≢ id) → clause_at (live_in ks) id ≡ None
unknown [] id other = refl
unknown (k ∷ ks) id other =
    skip k.live k.clause (live_in ks) id (other 0 (omega arith)) ∙ unknown ks id (λ i lt. other (suc i) (omega (arith, lt)))

-- nor is one under an id that they all are above
pub above-unknown : (low : ℕ) (ks : List Kept) (id : ℕ) → Ascend low (kept_ids ks) → id ≤ low → clause_at (live_in ks) id ≡ None
above-unknown low [] id up le = refl
above-unknown low (k ∷ ks) id up le =
    skip k.live k.clause (live_in ks) id (λ e. omega (arith, up.0, le, e)) ∙ above-unknown k.clause.id ks id up.1 (omega (arith, up.0, le))

-- and taking it away takes nothing away
pub above-without : (low : ℕ) (ks : List Kept) (id : ℕ) → Ascend low (kept_ids ks) → id ≤ low → without id (live_in ks) ≡ live_in ks
above-without low [] id up le = refl
above-without low (k ∷ ks) id up le =
    skip-without k.live k.clause (live_in ks) (live_in ks) id (λ e. omega (arith, up.0, le, e)) (above-without k.clause.id ks id up.1 (omega (arith, up.0, le)))

-- an id by its place
pub id-at : (ks : List Kept) (i : ℕ) → i < length ks → get_or (kept_ids ks) i 0 ≡ (nth_kept ks i).clause.id
id-at [] i lt = absurd (omega arith)
id-at (k ∷ ks) zero lt = refl
id-at (k ∷ ks) (suc i) lt = id-at ks i (omega (arith, lt))

pub ids-length : (ks : List Kept) → length (kept_ids ks) ≡ length ks
ids-length [] = refl
ids-length (k ∷ ks) = ap suc (ids-length ks)

-- the id of a place is above
nth-above : (low : ℕ) (ks : List Kept) (i : ℕ) → Ascend low (kept_ids ks) → i < length ks → low < (nth_kept ks i).clause.id
nth-above low ks i up lt =
    let above : low < get_or (kept_ids ks) i 0 = ascend-low low (kept_ids ks) i up (omega (arith, lt, ids-length ks)) in
    omega (arith, above, id-at ks i lt)

-- the clause with an id is found where it lives
head-found : (b : Bool) (c : Named) (cs : List Named) (id : ℕ) → c.id ≡ id → clause_at cs id ≡ None →
    clause_at (if b then c ∷ cs else cs) id ≡ (if b then Some c.lits else None)
head-found true c cs id is none = cond-true _ _ _ (eq-eqb c.id id is)
head-found false c cs id is none = none

pub found : (low : ℕ) (ks : List Kept) (i id : ℕ) → Ascend low (kept_ids ks) → i < length ks → (nth_kept ks i).clause.id ≡ id →
    clause_at (live_in ks) id ≡ (if (nth_kept ks i).live then Some (nth_kept ks i).clause.lits else None)
found low [] i id up lt is = absurd (omega arith)
found low (k ∷ ks) zero id up lt is =
    head-found k.live k.clause (live_in ks) id is (above-unknown k.clause.id ks id up.1 (omega (arith, is)))
found low (k ∷ ks) (suc i) id up lt is =
    let above : k.clause.id < (nth_kept ks i).clause.id = nth-above k.clause.id ks i up.1 (omega (arith, lt)) in
    skip k.live k.clause (live_in ks) id (λ e. omega (arith, above, is, e)) ∙ found k.clause.id ks i id up.1 (omega (arith, lt)) is

-- a clause with another id is left as it is
life-other : (b : Bool) (k : Kept) (id : ℕ) → k.clause.id ≢ id → (if k.clause.id == id then with_life b k else k) ≡ k
life-other b k id other = cond-false _ _ _ (ne_eqb k.clause.id id other)

-- no clause with the id: nothing changes
pub life-none : (b : Bool) (ks : List Kept) (id : ℕ) → ((i : ℕ) → i < length ks → get_or (kept_ids ks) i 0 ≢ id) → life_to b id ks ≡ ks
life-none b [] id other = refl
life-none b (k ∷ ks) id other =
    ap (λ (x : Kept). x ∷ life_to b id ks) (life-other b k id (other 0 (omega arith)))
    ∙ ap (λ (xs : List Kept). k ∷ xs) (life-none b ks id (λ i lt. other (suc i) (omega (arith, lt))))

life-above : (b : Bool) (low : ℕ) (ks : List Kept) (id : ℕ) → Ascend low (kept_ids ks) → id ≤ low → life_to b id ks ≡ ks
life-above b low [] id up le = refl
life-above b low (k ∷ ks) id up le =
    ap (λ (x : Kept). x ∷ life_to b id ks) (life-other b k id (λ e. omega (arith, up.0, le, e)))
    ∙ ap (λ (xs : List Kept). k ∷ xs) (life-above b k.clause.id ks id up.1 (omega (arith, up.0, le)))

-- where one place has the id, it alone changes
pub life-set : (b : Bool) (low : ℕ) (ks : List Kept) (i id : ℕ) → Ascend low (kept_ids ks) → i < length ks → (nth_kept ks i).clause.id ≡ id →
    set ks i (with_life b (nth_kept ks i)) ≡ life_to b id ks
life-set b low [] i id up lt is = absurd (omega arith)
life-set b low (k ∷ ks) zero id up lt is =
    ap (λ (xs : List Kept). with_life b k ∷ xs) (sym (life-above b k.clause.id ks id up.1 (omega (arith, is))))
    ∙ ap (λ (x : Kept). x ∷ life_to b id ks) (sym (cond-true _ _ _ (eq-eqb k.clause.id id is)))
life-set b low (k ∷ ks) (suc i) id up lt is =
    let above : k.clause.id < (nth_kept ks i).clause.id = nth-above k.clause.id ks i up.1 (omega (arith, lt)) in
    ap (λ (xs : List Kept). k ∷ xs) (life-set b k.clause.id ks i id up.1 (omega (arith, lt)) is)
    ∙ ap (λ (x : Kept). x ∷ life_to b id ks) (sym (life-other b k id (λ e. omega (arith, above, is, e))))

-- each clause with the id lives where the one place that has it does
live-above : (low : ℕ) (ks : List Kept) (id : ℕ) → Ascend low (kept_ids ks) → id ≤ low → IsLiveAt id ks
live-above low [] id up le = tt
live-above low (k ∷ ks) id up le = ((λ e. absurd (omega (arith, up.0, le, e))), live-above k.clause.id ks id up.1 (omega (arith, up.0, le)))

pub live-at : (low : ℕ) (ks : List Kept) (i id : ℕ) → Ascend low (kept_ids ks) → i < length ks → (nth_kept ks i).clause.id ≡ id →
    (nth_kept ks i).live ≡ true → IsLiveAt id ks
live-at low [] i id up lt is live = absurd (omega arith)
live-at low (k ∷ ks) zero id up lt is live = ((λ e. live), live-above k.clause.id ks id up.1 (omega (arith, is)))
live-at low (k ∷ ks) (suc i) id up lt is live =
    let above : k.clause.id < (nth_kept ks i).clause.id = nth-above k.clause.id ks i up.1 (omega (arith, lt)) in
    ((λ e. absurd (omega (arith, above, is, e))), live-at k.clause.id ks i id up.1 (omega (arith, lt)) is live)

-- a clause that lives no more is gone
gone-one : (b : Bool) (k : Kept) (cs ds : List Named) (id : ℕ) → (k.clause.id == id) ≡ b → ds ≡ without id cs →
    (if (if b then with_life false k else k).live then (if b then with_life false k else k).clause ∷ ds else ds)
    ≡ without id (if k.live then k.clause ∷ cs else cs)
gone-one true k cs ds id is e = e ∙ by_life k.live
  where
    by_life : (l : Bool) → without id cs ≡ without id (if l then k.clause ∷ cs else cs)
    by_life true = sym (cond-true _ _ _ is)
    by_life false = refl
gone-one false k cs ds id is e = by_life k.live
  where
    by_life : (l : Bool) → (if l then k.clause ∷ ds else ds) ≡ without id (if l then k.clause ∷ cs else cs)
    by_life true = ap (λ (xs : List Named). k.clause ∷ xs) e ∙ sym (cond-false _ _ _ is)
    by_life false = e

pub gone : (id : ℕ) (ks : List Kept) → live_in (life_to false id ks) ≡ without id (live_in ks)
gone id [] = refl
gone id (k ∷ ks) = gone-one (k.clause.id == id) k (live_in ks) (live_in (life_to false id ks)) id refl (gone id ks)

-- and living again it is as it was
back-one : (b : Bool) (k : Kept) (id : ℕ) → (k.clause.id == id) ≡ b → (k.clause.id ≡ id → k.live ≡ true) →
    (if (if b then with_life false k else k).clause.id == id then with_life true (if b then with_life false k else k) else (if b then with_life false k else k)) ≡ k
back-one true k id is live =
    cond-true _ _ _ is ∙ (λ i. record { clause = k.clause; live = (sym (live (eqb-true k.clause.id id is))) i })
back-one false k id is live = cond-false _ _ _ is

pub back : (id : ℕ) (ks : List Kept) → IsLiveAt id ks → life_to true id (life_to false id ks) ≡ ks
back id [] all = refl
back id (k ∷ ks) all =
    ap (λ (x : Kept). x ∷ life_to true id (life_to false id ks)) (back-one (k.clause.id == id) k id refl all.0)
    ∙ ap (λ (xs : List Kept). k ∷ xs) (back id ks all.1)

-- no clause is another one
clause-kept : (t b : Bool) (k : Kept) → (if t then with_life b k else k).clause ≡ k.clause
clause-kept true b k = refl
clause-kept false b k = refl

pub clauses-life : (b : Bool) (id : ℕ) (ks : List Kept) → clauses_in (life_to b id ks) ≡ clauses_in ks
clauses-life b id [] = refl
clauses-life b id (k ∷ ks) =
    ap (λ (x : Named). x ∷ clauses_in (life_to b id ks)) (clause-kept (k.clause.id == id) b k)
    ∙ ap (λ (xs : List Named). k.clause ∷ xs) (clauses-life b id ks)

-- one clause more that lives
live-more : (b : Bool) (c d : Named) (cs : List Named) → (if b then c ∷ (cs ++ d ∷ []) else (cs ++ d ∷ [])) ≡ (if b then c ∷ cs else cs) ++ d ∷ []
live-more true c d cs = refl
live-more false c d cs = refl

pub live-append : (ks : List Kept) (d : Named) → live_in (ks ++ record { clause = d; live = true } ∷ []) ≡ live_in ks ++ d ∷ []
live-append [] d = refl
live-append (k ∷ ks) d = ap (λ (cs : List Named). if k.live then k.clause ∷ cs else cs) (live-append ks d) ∙ live-more k.live k.clause d (live_in ks)
