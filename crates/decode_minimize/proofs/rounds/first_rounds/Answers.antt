use Rattle.std.proofs.Common.{◌≡◌, Option, Ok, ℤ, refl, sym, ap, ◌∙◌, subst}
use Rattle.std.specs.Prelude.{IfSome}
use Rattle.order_ints.specs.declared.atom.Atom.TheVariants.{False}
use Rattle.order_ints.specs.declared.cnf.Cnf.{Cnf}
use Rattle.order_ints.specs.View.{resolve}
use Rattle.decode_minimize.specs.declared.seeker.ValuedRound.{ValuedRound}
use Rattle.decode_minimize.specs.declared.seeker.ValuedRound.TheVariants.{Last}
use Rattle.learning_solver.specs.Outcome.{Logged}
use Rattle.decode_minimize.specs.Heard.{IsHeard}
use Rattle.decode_minimize.specs.Incumbents.{incumbent_behind, round_of, IsValued}
use Rattle.decode_minimize.specs.Objectives.{bound_of}
use Rattle.decode_minimize.specs.Rounds.{IsRound}
use Rattle.decode_minimize.specs.Solved.{IsRefuted, IsGivenUp}
use Rattle.decode_minimize.proofs.Ready.{solvable-apart}
use Rattle.decode_minimize.proofs.Rounding.{first-refuted, first-given_up, first-seeking, first-satisfying}
use Rattle.decode_minimize.proofs.Hearing.{told-values}
use Rattle.decode_minimize.proofs.rounds.first_rounds.Goals as goal

pub with-requires-clause-differ : goal.with-requires-clause-differ
with-requires-clause-differ g c = solvable-apart c.args.cnf.now c.requires.solvable

-- no solution is known before the first round
pub ask-requires-clause-better : goal.ask-requires-clause-better
ask-requires-clause-better g c =
    subst (λ (o : Option ℤ). IfSome o (λ n. False ≡ resolve c.args.sought.now.view.now (bound_of c.args.sought.now.direction c.args.sought.now.integer.now n))) (sym c.in_ok-seeker.ensures.incumbent) tt

pub returns-in-Last-Shown : goal.returns-in-Last-Shown
returns-in-Last-Shown g c =
    let shown = subst (λ (r : ValuedRound). IsRound c.ask.new.self.solver False (round_of r)) (c.in-Last-Shown.is ∙ ap Last c.in-Last-Shown.field-0-is) c.in_ok-ask.ensures.round in
    subst (IsRefuted c.args.cnf.now c.args.options) (sym c.into_lines.ensures)
    (first-refuted c.args.cnf.now c.in_ok-seeker.seeker.solver c.ask.new.self.solver c.args.options c.in_ok-seeker.ensures.solver c.ask.ensures.cnf c.into_log.result.lines c.into_log.ensures.lines
    c.into_log.ensures.accepted c.into_log.ensures.fresh c.into_log.ensures.readable c.ask.ensures.within c.ask.ensures.most shown)

pub returns-in-Last-Spent : goal.returns-in-Last-Spent
returns-in-Last-Spent g c =
    let last = c.in-Last-Spent.is ∙ ap Last c.in-Last-Spent.field-0-is in
    let was = c.in_ok-ask.was ∙ ap Ok last in
    let unshown = subst (λ (r : ValuedRound). IsRound c.ask.new.self.solver False (round_of r)) last c.in_ok-ask.ensures.round in
    subst (IsGivenUp c.args.cnf.now c.args.options) (sym c.into_lines-in-Last-Spent.ensures)
    (first-given_up c.args.cnf.now c.in_ok-seeker.seeker.solver c.ask.new.self.solver c.args.options c.in_ok-seeker.ensures.solver c.ask.ensures.cnf c.into_log-in-Last-Spent.result.lines c.into_log-in-Last-Spent.ensures.lines
    c.into_log-in-Last-Spent.ensures.accepted c.into_log-in-Last-Spent.ensures.fresh c.into_log-in-Last-Spent.ensures.readable (c.ask.ensures.spent was) (c.ask.ensures.spent_early was) unshown)

pub rounds_from-requires-clause-seeking : goal.rounds_from-requires-clause-seeking
rounds_from-requires-clause-seeking g c =
    let found = subst (λ (r : ValuedRound). IsRound c.ask.new.self.solver False (round_of r)) c.in-Better.is c.in_ok-ask.ensures.round in
    first-seeking c.args.cnf.now c.in_ok-seeker.seeker.solver c.ask.new.self.solver c.args.options c.in_ok-seeker.ensures.solver c.ask.ensures.cnf c.args.sought.now c.in-Better.best.values c.in-Better.best
    c.requires.seekable found refl (subst (IsValued c.args.sought.now) c.in-Better.is c.in_ok-ask.ensures.number)

pub rounds_from-requires-clause-kept : goal.rounds_from-requires-clause-kept
rounds_from-requires-clause-kept g c =
    c.in_ok-ask.ensures.incumbent ∙ ap (incumbent_behind c.in_ok-seeker.seeker.incumbent) c.in-Better.is

pub tell-requires-clause-short : goal.tell-requires-clause-short
tell-requires-clause-short g c = c.requires.heard.short

pub tell-requires-clause-heard : goal.tell-requires-clause-heard
tell-requires-clause-heard g c =
    let found = subst (λ (r : ValuedRound). IsRound c.ask.new.self.solver False (round_of r)) c.in-Better.is c.in_ok-ask.ensures.round in
    told-values g.W.SolutionWatcher.heard c.args.cnf.now c.args.sought.now.names c.requires.heard c.in-Better.best.values c.as_slice.result.now
    (first-satisfying c.args.cnf.now c.in_ok-seeker.seeker.solver c.ask.new.self.solver c.args.options c.in_ok-seeker.ensures.solver c.ask.ensures.cnf c.in-Better.best.values found)
    c.as_slice.ensures

pub rounds_from-requires-clause-heard : goal.rounds_from-requires-clause-heard
rounds_from-requires-clause-heard g c =
    subst (λ (f : Cnf). IsHeard g.W.SolutionWatcher.heard f c.args.sought.now.names) (sym (c.ask.ensures.cnf ∙ ap (λ (s : Logged). s.cnf) c.in_ok-seeker.ensures.solver)) c.requires.heard
