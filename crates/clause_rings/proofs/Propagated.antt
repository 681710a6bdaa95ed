-- Propagation on the way, and at its end.
use Rattle.std.proofs.Common.{◌≡◌, ℕ, ◌+◌, ◌*◌, ◌≤◌, ◌<◌, false, List, [], length, take, refl, ap, sym, ◌∙◌, subst, arith, ⊎_elim, Some}
use Rattle.std.proofs.lemmas.Bool.{cases_eq}
use Rattle.std.proofs.lemmas.List.{take_all}
use Rattle.order_ints.specs.declared.literal.Lit.{Lit}
use Rattle.literal_trail.specs.declared.entry.Entry.{Entry}
use Rattle.literal_trail.specs.Trail.{truth_in}
use Rattle.literal_trail.specs.Standing.{IsUnit, IsFalse, IsQuiet}
use Rattle.clause_arena.specs.Clauses.{Clause, clause_at, lits_of, lit_in}
use Rattle.index_ring.specs.Lists.{RingLists, Stands, list_of, times, without, first_in}
use Rattle.index_ring.proofs.Times.{length-without, times-same}
use Rattle.clause_rings.specs.Clauses.{IsComplete, IsApart}
use Rattle.clause_rings.specs.Watches.{IsWatched, IsWaiting, IsIdle, IsKept}
use Rattle.clause_rings.specs.Keeping.{Keeps, seen, Advances, AreMet}
use Rattle.clause_rings.specs.declared.watches.Watches.{Watches}
use Rattle.clause_rings.proofs.Entries.{truth-has}
use Rattle.clause_rings.proofs.Literals.{contains-at, true-quiet}
use Rattle.clause_rings.proofs.Looked.{advances-none, advances-both}
use Rattle.clause_rings.proofs.Walked.{first-some}
use Rattle.clause_rings.proofs.Watching.{watching-next}

-- what belongs together does, and propagation has changed nothing else
pub record IsOnTheWay (a w : Watches) : Type 0 where
  pub kept : Keeps w
  pub advances : Advances (seen a) (seen w)
  pub head : w.head ≡ a.head

pub way-start : (a : Watches) → Keeps a → IsOnTheWay a a
way-start a kept = record { kept = kept; advances = advances-none (seen a); head = refl }

pub way-next : (a w n : Watches) → IsOnTheWay a w → Keeps n → Advances (seen w) (seen n) → n.head ≡ w.head → IsOnTheWay a n
way-next a w n h kept adv head = record { kept = kept; advances = advances-both (seen a) (seen w) (seen n) h.advances adv; head = head ∙ h.head }

-- the first of a ring stands in it
pub first-stands : (rings : RingLists) (r node : ℕ) → Some node ≡ first_in (list_of rings r) → Stands rings r node
first-stands rings r node is = let b = first-some (list_of rings r) node is in omega (arith, ap (times node) b.1, times-same node node b.0 refl)

-- a ring with a node less is shorter
pub less-without : (node : ℕ) (list : List ℕ) → 1 ≤ times node list → length (without node list) < length list
less-without node list h = omega (arith, length-without node list)

-- a clause that is watched and worked off is quiet
pub watched-quiet : (x : Clause) (rings : RingLists) (es : List Entry) (c : ℕ) → IsApart x.lits → IsWatched x rings es es c → IsQuiet es x.lits
watched-quiet x rings es c apart w = record { not_false = not_false; not_unit = not_unit }
  where
    -- a watched literal that is false tells of a true one
    told : (i : ℕ) → i < 2 → truth_in es (lit_in x.lits i) ≡ Some false → IsQuiet es x.lits
    told i lt f = let e = truth-has es (lit_in x.lits i) false f in true-quiet es x.lits e.0.level (w.guarded i lt e.0 e.1 f)

    two : 2 ≤ length x.lits
    two = w.two

    in0 : 0 < length x.lits
    in0 = omega (arith, two)

    in1 : 1 < length x.lits
    in1 = omega (arith, two)

    not_false : IsFalse es x.lits → ⊥
    not_false f = (told 0 (omega arith) (f (lit_in x.lits 0) (contains-at x.lits 0 in0))).not_false f

    not_unit : (u : Lit) → IsUnit es x.lits u → ⊥
    not_unit u h = ⊎_elim same other (cases_eq (lit_in x.lits 0).var u.var)
      where
        other : ((lit_in x.lits 0).var ≡ u.var → ⊥) → ⊥
        other ne = (told 0 (omega arith) (h.others (lit_in x.lits 0) (contains-at x.lits 0 in0) (λ e. ne (ap (λ (l : Lit). l.var) e)))).not_unit u h

        same : (lit_in x.lits 0).var ≡ u.var → ⊥
        same e = (told 1 (omega arith) (h.others (lit_in x.lits 1) (contains-at x.lits 1 in1) (λ k. let no : 0 ≡ 1 = apart 0 1 in0 in1 (e ∙ sym (ap (λ (l : Lit). l.var) k)) in omega arith))).not_unit u h

-- where all is worked off and no clause waits, none is false or unit
pub complete : (w : Watches) → Keeps w → w.head ≡ length w.trail.entries → list_of w.rings 0 ≡ [] → IsComplete w.trail.entries w.arena.clauses
complete w kept all none c live = ⊎_elim watched (⊎_elim waiting idle) (kept.watching.attended c)
  where
    done : take w.head w.trail.entries ≡ w.trail.entries
    done = take_all w.head w.trail.entries (omega arith)

    watched : IsWatched (clause_at w.arena.clauses c) w.rings w.trail.entries (take w.head w.trail.entries) c → IsQuiet w.trail.entries (lits_of w.arena.clauses c)
    watched h = watched-quiet (clause_at w.arena.clauses c) w.rings w.trail.entries c (kept.db.apart c live) (subst (λ (es : List Entry). IsWatched (clause_at w.arena.clauses c) w.rings w.trail.entries es c) done h)

    waiting : IsWaiting (clause_at w.arena.clauses c) w.rings c → IsQuiet w.trail.entries (lits_of w.arena.clauses c)
    waiting h = absurd (let stands : 1 ≤ times (2 * c) (list_of w.rings 0) = h.stands in let nothing : times (2 * c) (list_of w.rings 0) ≡ 0 = ap (times (2 * c)) none in omega arith)

    idle : IsIdle (clause_at w.arena.clauses c) w.rings w.trail.entries c → IsQuiet w.trail.entries (lits_of w.arena.clauses c)
    idle h = true-quiet w.trail.entries (lits_of w.arena.clauses c) 0 (h.done live)

-- the entry at the head is worked off
pub kept-next : (w : Watches) → Keeps w → w.head < length w.trail.entries → AreMet w → IsKept w.arena.clauses w.trail w.rings w.blockers.items (w.head + 1)
kept-next w kept lt met = record { db = kept.db; watching = watching-next w.arena.clauses w.trail w.rings w.head lt met kept.watching; blocked = kept.blocked; room = kept.room }
