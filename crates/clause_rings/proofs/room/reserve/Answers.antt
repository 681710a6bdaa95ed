-- More blockers and nodes are harmless, and there are enough of both for the references.
use Rattle.std.proofs.Common.{ℕ, List, ◌≡◌, ◌≤◌, ◌+◌, ◌∙◌, length, replicate, sym, subst, ap, arith, max, ◌⊎◌, inl, inr, ⊎_elim, Result, Ok, Err}
use Rattle.std.proofs.lemmas.List.{length-append, length-replicate}
use Rattle.clause_arena.specs.Clauses.{Clause, Arena, no_clause, clause_at, IsWider}
use Rattle.std.specs.Result.{OnOk, OnErr}
use Rattle.clause_rings.specs.Watches.{IsKept}
use Rattle.clause_rings.proofs.Widened.{kept-blockers, kept-nodes, kept-wider, wider-at}
use Rattle.clause_rings.proofs.room.reserve.Goals as goal

pub returns-in_err-make_blockers-clause-kept : goal.returns-in_err-make_blockers-clause-kept
returns-in_err-make_blockers-clause-kept c = let w = c.args.watches.now in kept-blockers w.arena.clauses w.trail w.rings w.blockers.items c.make_blockers.new.blockers.items w.head c.make_blockers.ensures.more c.requires.kept

pub returns-in_err-make_nodes-clause-kept : goal.returns-in_err-make_nodes-clause-kept
returns-in_err-make_nodes-clause-kept c = let w = c.args.watches.now in kept-nodes w.arena.clauses w.trail w.rings c.make_nodes.new.rings c.make_blockers.new.blockers.items w.head c.make_nodes.ensures.more c.make_nodes.ensures.made (kept-blockers w.arena.clauses w.trail w.rings w.blockers.items c.make_blockers.new.blockers.items w.head c.make_blockers.ensures.more c.requires.kept)

-- what a call gives on its two outcomes
on-either : {T E : Type 0} (P Q R : Type 0) → (r : Result T E) → OnOk r P → OnOk r Q → OnErr r R → (P × Q) ⊎ R
on-either P Q R (Ok x) p q e = inl (p, q)
on-either P Q R (Err x) p q e = inr e

pub returns-clause-kept : goal.returns-clause-kept
returns-clause-kept c = ⊎_elim wider same (on-either (IsWider c.args.watches.now.arena c.reserve.new.self) (c.reserve.new.self.spare_clauses ≡ max c.args.watches.now.arena.spare_clauses c.args.clauses) (c.reserve.new.self ≡ c.args.watches.now.arena) c.reserve.result c.reserve.ensures.wider c.reserve.ensures.clauses c.reserve.ensures.err)
  where
    made : IsKept c.args.watches.now.arena.clauses c.args.watches.now.trail c.make_nodes.new.rings c.make_blockers.new.blockers.items c.args.watches.now.head
    made = kept-nodes c.args.watches.now.arena.clauses c.args.watches.now.trail c.args.watches.now.rings c.make_nodes.new.rings c.make_blockers.new.blockers.items c.args.watches.now.head c.make_nodes.ensures.more c.make_nodes.ensures.made (kept-blockers c.args.watches.now.arena.clauses c.args.watches.now.trail c.args.watches.now.rings c.args.watches.now.blockers.items c.make_blockers.new.blockers.items c.args.watches.now.head c.make_blockers.ensures.more c.requires.kept)

    same : c.reserve.new.self ≡ c.args.watches.now.arena → IsKept c.reserve.new.self.clauses c.args.watches.now.trail c.make_nodes.new.rings c.make_blockers.new.blockers.items c.args.watches.now.head
    same e = subst (λ (a : Arena). IsKept a.clauses c.args.watches.now.trail c.make_nodes.new.rings c.make_blockers.new.blockers.items c.args.watches.now.head) (sym e) made

    wider : IsWider c.args.watches.now.arena c.reserve.new.self × (c.reserve.new.self.spare_clauses ≡ max c.args.watches.now.arena.spare_clauses c.args.clauses) → IsKept c.reserve.new.self.clauses c.args.watches.now.trail c.make_nodes.new.rings c.make_blockers.new.blockers.items c.args.watches.now.head
    wider (w, spare) =
        let count : length c.reserve.new.self.clauses ≡ length c.args.watches.now.arena.clauses + w.more = ap (length {A = Clause}) w.clauses ∙ (length-append c.args.watches.now.arena.clauses (replicate w.more no_clause) ∙ ap (λ (n : ℕ). length c.args.watches.now.arena.clauses + n) (length-replicate w.more no_clause)) in
        let few : w.more ≤ c.saturating_sub-more.result = omega (arith, w.spare_clauses, c.saturating_sub-more.ensures, c.spare_clauses.ensures.count) in
        let nodes = c.in_ok-make_nodes.ensures.ok in
        let blockers = c.in_ok-make_blockers.ensures.ok in
        kept-wider c.args.watches.now.arena.clauses c.reserve.new.self.clauses c.args.watches.now.trail c.make_nodes.new.rings c.make_blockers.new.blockers.items c.args.watches.now.head (λ d. ap (λ (cs : List Clause). clause_at cs d) w.clauses ∙ wider-at c.args.watches.now.arena.clauses w.more d) (omega (arith, c.references-references.ensures.count)) (omega (arith, c.references-references.ensures.count)) made
