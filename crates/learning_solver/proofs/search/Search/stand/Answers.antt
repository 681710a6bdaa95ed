use Rattle.std.proofs.Common.{◌≡◌, ◌∙◌, ℕ, Some, refl, sym, ap, arith}
use Rattle.literal_trail.specs.Trail.{entry_of}
use Rattle.learning_solver.proofs.MoveLaws.{assumed-true, reason-there, level-bottom, lit-negated, entry-var}
use Rattle.learning_solver.proofs.search.Search.stand.Goals as goal

pub returns-then-level-gt0 : goal.returns-then-level-gt0
returns-then-level-gt0 c = assumed-true c.args.self.now.db.trail c.args.assumption (c.requires.assumed (omega arith))

pub unreachable-requires : goal.unreachable-requires
unreachable-requires c =
    let t = c.args.self.now.db.trail in
    reason-there t c.requires.search.db.trail (omega arith) c.in-Some.a.var c.in-Some-entry_of.entry (sym c.entry_of.ensures ∙ c.in-Some-entry_of.is) c.in-None-reason.is

pub returns-in-Some-reason : goal.returns-in-Some-reason
returns-in-Some-reason c =
    let t = c.args.self.now.db.trail in
    let a = c.in-Some.a in
    let e = c.in-Some-entry_of.entry in
    let found : entry_of t.entries a.var ≡ Some e = sym c.entry_of.ensures ∙ c.in-Some-entry_of.is in
    let bottom : t.level ≡ 0 = omega arith in
    let var = entry-var t a.var e found in (
      bottom,
      record {
        lit = a;
        is = c.in-Some.is;
        negated = lit-negated e.lit a var c.if-entry-a.false;
        entry = e;
        forced = record {
          found = ap (λ (v : ℕ). entry_of t.entries v) var ∙ found;
          bottom = level-bottom t c.requires.search.db.trail bottom a.var e found;
          because = c.in-Some-reason.is;
        };
        same = refl;
      },
    )
