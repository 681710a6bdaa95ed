-- What the place that a search by halving found says of the clauses of the table.
use Rattle.std.proofs.Common.{◌≡◌, ◌≢◌, ◌<◌, ℕ, List, Bool, true, false, length, get_or, set, arith, sym, ap, ◌∙◌, subst}
use Rattle.std.specs.Prelude.{Option, None, Some, is_some, if◌then◌else◌}
use Rattle.std.proofs.lemmas.List.{length-map}
use Rattle.std.proofs.lemmas.Bool.{cond-false, cond-true}
use Rattle.order_ints.specs.declared.literal.Lit.{Lit}
use Rattle.proof_check.specs.declared.arena.Place.{Place}
use Rattle.proof_check.specs.Named.{clause_at}
use Rattle.proof_check.specs.Arena.{Kept, Ascend, IsArena, kept_at, kept_in, kept_ids, place_ids, live_in, nth_kept, life_to, with_life, IsLiveAt}
use Rattle.proof_check.proofs.Living.{found, unknown, id-at, life-none, life-set, live-at}
use Rattle.proof_check.proofs.Placed.{ids-kept, nth-placed, kept-marked, marked}

-- no place of a table has the id
pub record HasNone (codes : List ℕ) (places seen : List Place) (now : List Kept) (id : ℕ) : Type 0 where
  pub view : kept_in codes places ≡ now
  pub same : seen ≡ places
  pub other : (i : ℕ) → i < length seen → get_or (place_ids seen) i 0 ≢ id

ids-other : (codes : List ℕ) (places seen : List Place) (now : List Kept) (id : ℕ) → HasNone codes places seen now id →
    (i : ℕ) → i < length now → get_or (kept_ids now) i 0 ≢ id
ids-other codes places seen now id h i lt e =
    h.other i (omega (arith, lt, ap length (sym h.view), length-map places (kept_at codes), ap length h.same))
    (ap (λ (ps : List Place). get_or (place_ids ps) i 0) h.same ∙ sym (ap (λ (ids : List ℕ). get_or ids i 0) (ids-kept codes places))
    ∙ ap (λ (ks : List Kept). get_or (kept_ids ks) i 0) h.view ∙ e)

pub none-found : (codes : List ℕ) (places seen : List Place) (now : List Kept) (id : ℕ) → HasNone codes places seen now id → clause_at (live_in now) id ≡ None
none-found codes places seen now id h = unknown now id (ids-other codes places seen now id h)

pub none-life : (b : Bool) (codes : List ℕ) (places seen : List Place) (now : List Kept) (id : ℕ) → HasNone codes places seen now id → life_to b id now ≡ now
none-life b codes places seen now id h = life-none b now id (ids-other codes places seen now id h)

-- a place has it
pub record HasPlace (codes : List ℕ) (places seen : List Place) (now : List Kept) (i id : ℕ) (p : Place) : Type 0 where
  pub arena : IsArena codes places
  pub view : kept_in codes places ≡ now
  pub same : seen ≡ places
  pub inside : i < length seen
  pub has : get_or (place_ids seen) i 0 ≡ id
  pub is : p ≡ get_or places i p

-- so does the clause there
record IsThere (now : List Kept) (i id : ℕ) (p : Place) : Type 0 where
  ascend : Ascend 0 (kept_ids now)
  inside : i < length now
  here : (nth_kept now i).clause.id ≡ id
  live : (nth_kept now i).live ≡ p.live

there : (codes : List ℕ) (places seen : List Place) (now : List Kept) (i id : ℕ) (p : Place) → HasPlace codes places seen now i id p → IsThere now i id p
there codes places seen now i id p h =
    let within : i < length places = omega (arith, h.inside, ap length h.same) in
    let inside : i < length now = omega (arith, within, length-map places (kept_at codes), ap length h.view) in
    let ids : kept_ids now ≡ place_ids places = ap kept_ids (sym h.view) ∙ ids-kept codes places in
    record {
      ascend = (let P : List ℕ → Type 0 = λ xs. Ascend 0 xs in subst P (sym ids) h.arena.ascend);
      inside = inside;
      here = sym (id-at now i inside) ∙ ap (λ (xs : List ℕ). get_or xs i 0) ids ∙ sym (ap (λ (ps : List Place). get_or (place_ids ps) i 0) h.same) ∙ h.has;
      live = ap (λ (ks : List Kept). (nth_kept ks i).live) (sym h.view) ∙ ap (λ (k : Kept). k.live) (nth-placed codes places i p within h.is);
    }

pub dead-found : (codes : List ℕ) (places seen : List Place) (now : List Kept) (i id : ℕ) (p : Place) → HasPlace codes places seen now i id p → p.live ≡ false →
    clause_at (live_in now) id ≡ None
dead-found codes places seen now i id p h dead =
    let t = there codes places seen now i id p h in
    found 0 now i id t.ascend t.inside t.here ∙ cond-false _ _ _ (t.live ∙ dead)

pub live-found : (codes : List ℕ) (places seen : List Place) (now : List Kept) (i id : ℕ) (p : Place) → HasPlace codes places seen now i id p → p.live ≡ true →
    clause_at (live_in now) id ≡ Some (nth_kept now i).clause.lits
live-found codes places seen now i id p h live =
    let t = there codes places seen now i id p h in
    found 0 now i id t.ascend t.inside t.here ∙ cond-true _ _ _ (t.live ∙ live)

-- whether it lives
if-some : (b : Bool) (ls : List Lit) → b ≡ is_some (if b then Some ls else None)
if-some true ls = λ i. true
if-some false ls = λ i. false

pub whether-live : (codes : List ℕ) (places seen : List Place) (now : List Kept) (i id : ℕ) (p : Place) → HasPlace codes places seen now i id p →
    p.live ≡ is_some (clause_at (live_in now) id)
whether-live codes places seen now i id p h =
    let t = there codes places seen now i id p h in
    sym t.live ∙ if-some (nth_kept now i).live (nth_kept now i).clause.lits ∙ sym (ap (λ (o : Option (List Lit)). is_some o) (found 0 now i id t.ascend t.inside t.here))

pub was-live : (codes : List ℕ) (places seen : List Place) (now : List Kept) (i id : ℕ) (p : Place) → HasPlace codes places seen now i id p → p.live ≡ true → IsLiveAt id now
was-live codes places seen now i id p h live =
    let t = there codes places seen now i id p h in live-at 0 now i id t.ascend t.inside t.here (t.live ∙ live)

-- the table with the place marked otherwise
pub life-marked : (b : Bool) (codes : List ℕ) (places seen : List Place) (now : List Kept) (i id : ℕ) (p : Place) → HasPlace codes places seen now i id p →
    kept_in codes (set places i (marked p b)) ≡ life_to b id now
life-marked b codes places seen now i id p h =
    let t = there codes places seen now i id p h in
    kept-marked codes places i p b (omega (arith, h.inside, ap length h.same)) h.is
    ∙ ap (λ (ks : List Kept). set ks i (with_life b (nth_kept ks i))) h.view
    ∙ life-set b 0 now i id t.ascend t.inside t.here
