use Rattle.std.proofs.Common.{◌≡◌, ◌<◌, ◌++◌, ◌∷◌, [], ℕ, List, true, length, map, arith, sym, ap, ◌∙◌, subst}
use Rattle.order_ints.specs.declared.literal.Lit.{Lit}
use Rattle.proof_check.specs.declared.arena.Place.{Place}
use Rattle.proof_check.specs.Arena.{Kept, IsArena, kept_in, kept_ids, last_from, packed}
use Rattle.proof_check.proofs.Placed.{arena-put, kept-put, placed_last}
use Rattle.proof_check.proofs.arena.Arena.push.Goals as goal

-- what was pushed is the clause's literals and its place
put-is : (codes new-codes : List ℕ) (places new-places : List Place) (id start len : ℕ) (lits : List Lit) →
    new-codes ≡ codes ++ map packed lits → new-places ≡ places ++ record { id = id; start = start; len = len; live = true } ∷ [] →
    start ≡ length codes → len ≡ length lits → (new-codes ≡ codes ++ map packed lits) × (new-places ≡ places ++ placed_last codes id lits ∷ [])
put-is codes new-codes places new-places id start len lits c p s l = (
  c,
  p ∙ ap (λ (n : ℕ). places ++ record { id = id; start = n; len = len; live = true } ∷ []) s
      ∙ ap (λ (n : ℕ). places ++ record { id = id; start = length codes; len = n; live = true } ∷ []) l,
)

-- the arena with it
put : (codes new-codes : List ℕ) (places new-places : List Place) (now : List Kept) (id start len : ℕ) (lits : List Lit) →
    IsArena codes places → kept_in codes places ≡ now → last_from 0 (kept_ids now) < id →
    new-codes ≡ codes ++ map packed lits → new-places ≡ places ++ record { id = id; start = start; len = len; live = true } ∷ [] →
    start ≡ length codes → len ≡ length lits →
    IsArena new-codes new-places × (kept_in new-codes new-places ≡ now ++ record { clause = record { id = id; lits = lits }; live = true } ∷ [])
put codes new-codes places new-places now id start len lits inv view above c p s l =
    let parts = put-is codes new-codes places new-places id start len lits c p s l in
    let ps : List Place = places ++ placed_last codes id lits ∷ [] in
    let A : List ℕ → Type 0 = λ xs. IsArena xs new-places in
    let B : List Place → Type 0 = λ xs. IsArena (codes ++ map packed lits) xs in (
      subst A (sym parts.0) (subst B (sym parts.1) (arena-put codes places id lits inv (omega (arith, above, ap (λ (ks : List Kept). last_from 0 (kept_ids ks)) view)))),
      ap (λ (xs : List ℕ). kept_in xs new-places) parts.0 ∙ ap (kept_in (codes ++ map packed lits)) parts.1
          ∙ kept-put codes places id lits inv.within ∙ ap (λ (ks : List Kept). ks ++ record { clause = record { id = id; lits = lits }; live = true } ∷ []) view,
    )

-- the same of what the calls ensure
pushed : (c : goal.After-push_reserved) →
    IsArena c.push_codes.new.codes.items c.push_reserved.new.self.items
    × (kept_in c.push_codes.new.codes.items c.push_reserved.new.self.items ≡ c.args.self.now ++ record { clause = record { id = c.args.id; lits = c.args.lits.now }; live = true } ∷ [])
pushed c =
    let h = c.in-Ok.ensures in
    put c.self.inside.codes.items c.push_codes.new.codes.items c.self.inside.places.items c.push_reserved.new.self.items c.args.self.now
    c.args.id c.len-start.result c.in-Ok.len c.args.lits.now c.self.invariant c.self.view_is c.requires.last
    (c.push_codes.ensures ∙ ap (λ (xs : List ℕ). xs ++ map packed c.args.lits.now) c.reserve.ensures.items)
    (c.push_reserved.ensures.items ∙ ap (λ (ps : List Place). ps ++ record { id = c.args.id; start = c.len-start.result; len = c.in-Ok.len; live = true } ∷ []) c.reserve-2.ensures.items)
    (omega (arith, c.len-start.ensures, c.reserve.ensures.len)) h.1

pub invariant_of-self-2 : goal.invariant_of-self-2
invariant_of-self-2 c = (pushed c).0

pub returns-clause-ok : goal.returns-clause-ok
returns-clause-ok c = (pushed c).1
