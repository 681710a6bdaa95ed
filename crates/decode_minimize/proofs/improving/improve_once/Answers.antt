use Rattle.std.proofs.Common.{◌≡◌, ◌+◌, Option, Some, ℤ, refl, sym, ap, ◌∙◌, subst, Ok}
use Rattle.std.specs.Prelude.{IfSome}
use Rattle.order_ints.specs.declared.atom.Atom.{Atom}
use Rattle.order_ints.specs.declared.cnf.Cnf.{Cnf}
use Rattle.order_ints.specs.View.{resolve}
use Rattle.order_ints.specs.Place.{AtomBelow}
use Rattle.decode_minimize.specs.declared.asking.Ended.TheVariants.{Spent}
use Rattle.decode_minimize.specs.declared.asking.Round.TheVariants as round
use Rattle.decode_minimize.specs.declared.seeker.ValuedRound.{ValuedRound}
use Rattle.decode_minimize.specs.declared.seeker.ValuedRound.TheVariants.{Last}
use Rattle.decode_minimize.specs.Incumbents.{incumbent_behind, round_of, IsValued}
use Rattle.decode_minimize.specs.Objectives.{bound_of}
use Rattle.decode_minimize.specs.Rounds.{AreSatisfying, IsRound}
use Rattle.decode_minimize.proofs.Hearing.{told-values}
use Rattle.decode_minimize.proofs.Turning.{asked_bound, asked-is, asked-below, better-turned, ended-turned}
use Rattle.decode_minimize.proofs.improving.improve_once.Goals as goal

pub ask-requires-clause-below : goal.ask-requires-clause-below
ask-requires-clause-below g c =
    let is : c.resolve-bound.result ≡ asked_bound c.args.sought.now c.args.best.now = asked-is c.args.seeker.now.solver c.args.sought.now c.args.best.now c.requires.seeking c.bound_of.result c.resolve-bound.result c.bound_of.ensures c.resolve-bound.ensures in
    subst (AtomBelow (c.args.seeker.now.solver.cnf.vars + 1)) (sym is) (asked-below c.args.seeker.now.solver c.args.sought.now c.args.best.now c.requires.seeking)

pub returns-in-Better-clause-turned : goal.returns-in-Better-clause-turned
returns-in-Better-clause-turned g c =
    let is : c.resolve-bound.result ≡ asked_bound c.args.sought.now c.args.best.now = asked-is c.args.seeker.now.solver c.args.sought.now c.args.best.now c.requires.seeking c.bound_of.result c.resolve-bound.result c.bound_of.ensures c.resolve-bound.ensures in
    let found = subst (λ (r : ValuedRound). IsRound c.ask.new.self.solver c.resolve-bound.result (round_of r)) c.in-Better.is c.in_ok-found.ensures.round in
    better-turned c.args.seeker.now.solver c.ask.new.self.solver c.args.sought.now c.args.options c.args.best.now c.requires.seeking c.ask.ensures.cnf c.in-Better.found.values c.in-Better.found
    refl (subst (IsValued c.args.sought.now) c.in-Better.is c.in_ok-found.ensures.number) (subst (λ (b : Atom). IsRound c.ask.new.self.solver b (round.Better c.in-Better.found.values)) is found) c.ask.ensures.most

pub returns-in-Last-clause-turned : goal.returns-in-Last-clause-turned
returns-in-Last-clause-turned g c =
    let is : c.resolve-bound.result ≡ asked_bound c.args.sought.now c.args.best.now = asked-is c.args.seeker.now.solver c.args.sought.now c.args.best.now c.requires.seeking c.bound_of.result c.resolve-bound.result c.bound_of.ensures c.resolve-bound.ensures in
    let found = subst (λ (r : ValuedRound). IsRound c.ask.new.self.solver c.resolve-bound.result (round_of r)) c.in-Last.is c.in_ok-found.ensures.round in
    let was = λ (e : c.in-Last.ended ≡ Spent). c.in_ok-found.was ∙ ap Ok (c.in-Last.is ∙ ap Last e) in
    ended-turned c.args.seeker.now.solver c.ask.new.self.solver c.args.sought.now c.args.options c.args.best.now c.requires.seeking c.ask.ensures.cnf c.in-Last.ended c.ask.ensures.most
    (λ e. c.ask.ensures.unasked (is ∙ e)) (λ e. c.ask.ensures.spent (was e)) (λ e. c.ask.ensures.spent_early (was e)) (subst (λ (b : Atom). IsRound c.ask.new.self.solver b (round.Last c.in-Last.ended)) is found)

-- the bound that is asked for is that of the incumbent
pub ask-requires-clause-better : goal.ask-requires-clause-better
ask-requires-clause-better g c =
    let is : c.resolve-bound.result ≡ asked_bound c.args.sought.now c.args.best.now = asked-is c.args.seeker.now.solver c.args.sought.now c.args.best.now c.requires.seeking c.bound_of.result c.resolve-bound.result c.bound_of.ensures c.resolve-bound.ensures in
    subst (λ (o : Option ℤ). IfSome o (λ n. c.resolve-bound.result ≡ resolve c.args.sought.now.view.now (bound_of c.args.sought.now.direction c.args.sought.now.integer.now n))) (sym c.requires.kept) is

pub returns-in-Better-clause-kept : goal.returns-in-Better-clause-kept
returns-in-Better-clause-kept g c =
    c.in_ok-found.ensures.incumbent ∙ ap (incumbent_behind c.args.seeker.now.incumbent) c.in-Better.is

pub returns-in-Last-clause-kept : goal.returns-in-Last-clause-kept
returns-in-Last-clause-kept g c = c.in_ok-found.ensures.incumbent ∙ ap (incumbent_behind c.args.seeker.now.incumbent) c.in-Last.is ∙ c.requires.kept

pub tell-requires-clause-short : goal.tell-requires-clause-short
tell-requires-clause-short g c = c.requires.heard.short

pub tell-requires-clause-heard : goal.tell-requires-clause-heard
tell-requires-clause-heard g c =
    let found = subst (λ (r : ValuedRound). IsRound c.ask.new.self.solver c.resolve-bound.result (round_of r)) c.in-Better.is c.in_ok-found.ensures.round in
    told-values g.W.SolutionWatcher.heard c.args.seeker.now.solver.cnf c.args.sought.now.names c.requires.heard c.in-Better.found.values c.as_slice.result.now
    (subst (λ (f : Cnf). AreSatisfying f c.in-Better.found.values) c.ask.ensures.cnf found.0) c.as_slice.ensures
