-- Blockers with a mark, and what a clause of two literals shows by one of them.
use Rattle.std.proofs.Common.{◌≡◌, ◌≢◌, ℕ, zero, suc, ◌+◌, ◌*◌, ◌/◌, ◌%◌, ◌^◌, ◌≤◌, ◌<◌, Bool, true, false, List, length, set, refl, ap, sym, ◌∙◌, subst, arith, ⊎_elim, Option, Some, None}
use Rattle.std.specs.Prelude.{slice_index, is_some}
use Rattle.std.proofs.lemmas.List.{length-set, get_or-set_same, get_or-set_other}
use Rattle.std.specs.List.{Contains}
use Rattle.order_ints.specs.declared.literal.Lit.{Lit}
use Rattle.literal_trail.specs.declared.entry.Entry.{Entry}
use Rattle.literal_trail.specs.Trail.{Trail, IsTrail, entry_at, truth_in, implied}
use Rattle.literal_trail.specs.Standing.{HasTrue, IsFalse, IsUnit}
use Rattle.clause_arena.specs.Clauses.{IsLive, lits_of, lit_in}
use Rattle.clause_arena.specs.Codes.{code_of}
use Rattle.index_ring.specs.Lists.{Stands}
use Rattle.clause_rings.specs.Watches.{marked, Blocks, IsKept}
use Rattle.clause_rings.specs.Moves.{AreSet}
use Rattle.clause_rings.specs.Keeping.{Keeps, head_ring, seen, Advances}
use Rattle.clause_rings.specs.declared.watches.Watches.{Watches}
use Rattle.clause_rings.proofs.Literals.{place-of}
use Rattle.clause_rings.proofs.Entries.{truth-none}
use Rattle.clause_rings.proofs.Looking.{AreFalseBut, unit-at, false-at}
use Rattle.clause_rings.proofs.Kept.{IsAtWatch, at-watch, ringed-lit, blocks-marked, kept-implied}
use Rattle.clause_rings.proofs.Looked.{advances-implied, true-implied, head-level, head-pushed}

-- what is stored beside a node in the ring that is walked
pub blocked : (w : Watches) (node : ℕ) (l : Lit) (len n : ℕ) → Keeps w → w.head < length w.trail.entries → Stands w.rings (head_ring w) node → len ≡ length (lits_of w.arena.clauses (node / 2)) → n ≡ marked l len → Contains (lits_of w.arena.clauses (node / 2)) l → Blocks (lits_of w.arena.clauses (node / 2)) n
blocked w node l len n kept head stands e is is_in =
    let r = ringed-lit w (node / 2) l kept (at-watch w node kept head stands).watched.live is_in in
    subst (λ (m : ℕ). Blocks (lits_of w.arena.clauses (node / 2)) m) (sym is) (blocks-marked (lits_of w.arena.clauses (node / 2)) l len e (omega (arith, r.small)) is_in)

-- the other literal of two stands at the place that the walk doesn't watch
pub record IsOther (w : Watches) (node : ℕ) (l : Lit) : Type 0 where
  pub place : ℕ
  pub inside : place < length (lits_of w.arena.clauses (node / 2))
  pub lit_is : lit_in (lits_of w.arena.clauses (node / 2)) place ≡ l
  pub others : AreFalseBut w.trail.entries (lits_of w.arena.clauses (node / 2)) place

pub other-of : (w : Watches) (node : ℕ) (l : Lit) → IsAtWatch w node → length (lits_of w.arena.clauses (node / 2)) ≡ 2 → Contains (lits_of w.arena.clauses (node / 2)) l → code_of l ≢ head_ring w → IsOther w node l
other-of w node l at two is_in apart = record { place = found.0; inside = found.1; lit_is = found.2; others = record { each = each } }
  where
    found : (k : ℕ) × (k < length (lits_of w.arena.clauses (node / 2))) × (lit_in (lits_of w.arena.clauses (node / 2)) k ≡ l)
    found = place-of (lits_of w.arena.clauses (node / 2)) l is_in

    far : found.0 ≢ node % 2
    far e = apart (sym (ap code_of (sym (ap (λ (k : ℕ). lit_in (lits_of w.arena.clauses (node / 2)) k) e) ∙ found.2)) ∙ at.is_head)

    each : (k : ℕ) → k < length (lits_of w.arena.clauses (node / 2)) → k ≢ found.0 → truth_in w.trail.entries (lit_in (lits_of w.arena.clauses (node / 2)) k) ≡ Some false
    each k inside ne =
        let here : node % 2 ≡ k = (let small : node % 2 < 2 = at.small in let low : found.0 < length (lits_of w.arena.clauses (node / 2)) = found.1 in omega (arith, far, ne, two)) in
        subst (λ (m : ℕ). truth_in w.trail.entries (lit_in (lits_of w.arena.clauses (node / 2)) m) ≡ Some false) here at.is_false

pub other-unit : (w : Watches) (node : ℕ) (l : Lit) → IsOther w node l → truth_in w.trail.entries l ≡ None → IsUnit w.trail.entries (lits_of w.arena.clauses (node / 2)) l
other-unit w node l h free = subst (λ (x : Lit). IsUnit w.trail.entries (lits_of w.arena.clauses (node / 2)) x) h.lit_is (unit-at w.trail.entries (lits_of w.arena.clauses (node / 2)) h.place h.inside (ap (truth_in w.trail.entries) h.lit_is ∙ free) h.others)

pub other-false : (w : Watches) (node : ℕ) (l : Lit) → IsOther w node l → truth_in w.trail.entries l ≡ Some false → IsFalse w.trail.entries (lits_of w.arena.clauses (node / 2))
other-false w node l h fails = false-at w.trail.entries (lits_of w.arena.clauses (node / 2)) h.place (ap (truth_in w.trail.entries) h.lit_is ∙ fails) h.others

-- a clause of the ring makes its only free literal true
module _ (w : Watches) (node : ℕ) (l : Lit) (t : Trail) (kept : Keeps w) (head : w.head < length w.trail.entries) (live : IsLive w.arena.clauses (node / 2)) (is : t ≡ implied w.trail l (node / 2)) (trail : IsTrail t) (unit : IsUnit w.trail.entries (lits_of w.arena.clauses (node / 2)) l) where
  pub forced-kept : IsKept w.arena.clauses t w.rings w.blockers.items w.head
  forced-kept = subst (λ (u : Trail). IsKept w.arena.clauses u w.rings w.blockers.items w.head) (sym is) (kept-implied w.arena.clauses w.trail w.rings w.blockers.items w.head (node / 2) l (subst IsTrail is trail) live unit kept)

  pub forced-advances : Advances (seen w) (record { clauses = w.arena.clauses; trail = t; spare_lits = w.arena.spare_lits; spare_clauses = w.arena.spare_clauses })
  forced-advances = subst (λ (u : Trail). Advances (seen w) (record { clauses = w.arena.clauses; trail = u; spare_lits = w.arena.spare_lits; spare_clauses = w.arena.spare_clauses })) (sym is) (advances-implied w.arena.clauses w.trail w.arena.spare_lits w.arena.spare_clauses l (node / 2) live unit)

  pub forced-met : HasTrue t.entries (lits_of w.arena.clauses (node / 2)) (entry_at t.entries w.head).level
  forced-met = subst (λ (u : Trail). HasTrue u.entries (lits_of w.arena.clauses (node / 2)) (entry_at u.entries w.head).level) (sym is) (true-implied w.trail (lits_of w.arena.clauses (node / 2)) l (node / 2) (entry_at (implied w.trail l (node / 2)).entries w.head).level (let pushed : (entry_at (implied w.trail l (node / 2)).entries w.head).level ≡ (entry_at w.trail.entries w.head).level = ap (λ (e : Entry). e.level) (head-pushed w.trail.entries (record { lit = l; level = w.trail.level; reason = Some (node / 2) }) w.head head) in omega (arith, head-level w kept head, pushed)) unit.is_in (truth-none w.trail.entries l unit.free))

-- both nodes of a clause get a blocker
pub set-two : (old : List ℕ) (node a b : ℕ) (ls : List Lit) → node + 1 < length old → Blocks ls a → Blocks ls b → AreSet old (set (set old node a) (node + 1) b) node ls
set-two old node a b ls room first second = record {
  count = length-set (set old node a) (node + 1) b ∙ length-set old node a;
  here = here;
  others = λ n ne next. get_or-set_other (set old node a) (node + 1) n b 0 next ∙ get_or-set_other old node n a 0 ne;
}
  where
    here : (i : ℕ) → i < 2 → 1 ≤ length ls → Blocks ls (slice_index (set (set old node a) (node + 1) b) (node + i))
    here zero lt some =
        let got : slice_index (set (set old node a) (node + 1) b) (node + 0) ≡ a = ap (λ (n : ℕ). slice_index (set (set old node a) (node + 1) b) n) (let at : node + 0 ≡ node = omega arith in at) ∙ (get_or-set_other (set old node a) (node + 1) node b 0 (λ e. omega (arith, e)) ∙ get_or-set_same old node a 0 (omega arith)) in
        subst (λ (n : ℕ). Blocks ls n) (sym got) first
    here (suc zero) lt some =
        let got : slice_index (set (set old node a) (node + 1) b) (node + 1) ≡ b = get_or-set_same (set old node a) (node + 1) b 0 (omega (arith, length-set old node a)) in
        subst (λ (n : ℕ). Blocks ls n) (sym got) second
    here (suc (suc i)) lt some = absurd (omega arith)

-- what is neither free nor true is false
pub fails-from : (o : Option Bool) → is_some o ≡ true → o ≢ Some true → o ≡ Some false
fails-from None some ne = absurd (let no : false ≡ true = some in cc)
fails-from (Some true) some ne = absurd (ne refl)
fails-from (Some false) some ne = refl

-- and what isn't there is none
pub none-from : (o : Option Bool) → is_some o ≡ false → o ≡ None
none-from None none = refl
none-from (Some b) none = absurd (let no : true ≡ false = none in cc)
