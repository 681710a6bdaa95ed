use Rattle.std.proofs.Common.{◌≡◌, not, sym, ap, ◌∙◌, subst, ℕ, Bool}
use Rattle.order_ints.specs.declared.atom.Atom.{Atom}
use Rattle.order_ints.specs.declared.literal.Lit.{Lit}
use Rattle.order_ints.specs.Truth.{not_lit}
use Rattle.decode_minimize.specs.Rounds.{IsRound}
use Rattle.decode_minimize.proofs.Refuting.{round-none, round-some}
use Rattle.decode_minimize.proofs.asking.ask_bound.Goals as goal

negated-is : (a l : Lit) → a.var ≡ l.var → a.positive ≡ not l.positive → a ≡ not_lit l
negated-is a l var sign = ap (λ (v : ℕ). record { var = v; positive = a.positive }) var ∙ ap (λ (p : Bool). record { var = l.var; positive = p }) sign

pub returns-in_ok-round-in-False-clause-round : goal.returns-in_ok-round-in-False-clause-round
returns-in_ok-round-in-False-clause-round g c =
    subst (λ (b : Atom). IsRound c.ask.new.solver b c.in_ok-round-in-False.round) (sym c.in-False.is)
    (round-none c.ask.new.solver c.in_ok-round-in-False.round c.in_ok-round-in-False.ensures.asked)

pub returns-in_ok-round-in-Of-clause-round : goal.returns-in_ok-round-in-Of-clause-round
returns-in_ok-round-in-Of-clause-round g c =
    subst (λ (b : Atom). IsRound c.ask-in-Of.new.solver b c.in_ok-round-in-Of.round) (sym c.in-Of.is)
    (round-some c.ask-in-Of.new.solver c.in-Of.literal c.negated.result c.in_ok-round-in-Of.round (negated-is c.negated.result c.in-Of.literal c.negated.ensures.var c.negated.ensures.sign) c.in_ok-round-in-Of.ensures.asked)
