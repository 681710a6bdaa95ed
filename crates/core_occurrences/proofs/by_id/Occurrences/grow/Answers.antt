use Rattle.std.proofs.Common.{◌≡◌, ◌∙◌, List, ℕ, ap, sym, subst, arith}
use Rattle.core_occurrences.specs.Lists.{OccurrenceLists, IsOccurrences, grown}
use Rattle.core_occurrences.specs.Bodies.{named_by, named}
use Rattle.core_occurrences.proofs.Named.{listed-named, named-grown, bodies-grown}
use Rattle.core_occurrences.proofs.by_id.Occurrences.grow.Goals as goal

pub returns-in_err-reserve-clause-occurrences : goal.returns-in_err-reserve-clause-occurrences
returns-in_err-reserve-clause-occurrences c = listed-named c.self.inside.bodies.items c.self.inside.cores.items c.self.inside.held c.self.invariant

pub returns-in_err-reserve-2-clause-occurrences : goal.returns-in_err-reserve-2-clause-occurrences
returns-in_err-reserve-2-clause-occurrences c =
    subst (λ (l : List ℕ). IsOccurrences (named l c.self.inside.held)) (sym c.reserve-2.ensures.items) (listed-named c.self.inside.bodies.items c.self.inside.cores.items c.self.inside.held c.self.invariant)

pub returns-in_err-grow-clause-occurrences : goal.returns-in_err-grow-clause-occurrences
returns-in_err-grow-clause-occurrences c =
    subst (λ (o : OccurrenceLists). IsOccurrences (named c.reserve-2.new.self.items o)) (sym c.in_err-grow.ensures.err)
    (subst (λ (l : List ℕ). IsOccurrences (named l c.self.inside.held)) (sym c.reserve-2.ensures.items) (listed-named c.self.inside.bodies.items c.self.inside.cores.items c.self.inside.held c.self.invariant))

pub returns-clause-lists : goal.returns-clause-lists
returns-clause-lists c =
    let same_bodies : (b : ℕ) → named_by c.push_names.new.names.items b ≡ named_by c.self.inside.bodies.items b = λ b. c.push_names.ensures.same b ∙ ap (λ (l : List ℕ). named_by l b) c.reserve.ensures.items in
    let same_cores : (b : ℕ) → named_by c.push_names-2.new.names.items b ≡ named_by c.self.inside.cores.items b = λ b. c.push_names-2.ensures.same b ∙ ap (λ (l : List ℕ). named_by l b) c.reserve-2.ensures.items in
    ap (named c.push_names-2.new.names.items) c.in_ok-grow.ensures.lists
    ∙ named-grown c.self.inside.bodies.items c.self.inside.cores.items c.self.inside.held c.self.invariant c.push_names.new.names.items c.push_names-2.new.names.items same_bodies same_cores c.args.vars c.args.ids c.args.nodes
    ∙ ap (λ (o : OccurrenceLists). grown o c.args.vars c.args.ids c.args.nodes) c.self.view_is

pub returns-clause-occurrences : goal.returns-clause-occurrences
returns-clause-occurrences c =
    let same_bodies : (b : ℕ) → named_by c.push_names.new.names.items b ≡ named_by c.self.inside.bodies.items b = λ b. c.push_names.ensures.same b ∙ ap (λ (l : List ℕ). named_by l b) c.reserve.ensures.items in
    let same_cores : (b : ℕ) → named_by c.push_names-2.new.names.items b ≡ named_by c.self.inside.cores.items b = λ b. c.push_names-2.ensures.same b ∙ ap (λ (l : List ℕ). named_by l b) c.reserve-2.ensures.items in
    listed-named c.push_names.new.names.items c.push_names-2.new.names.items c.grow.new.self
    (bodies-grown c.self.inside.bodies.items c.self.inside.cores.items c.self.inside.held c.self.invariant c.push_names.new.names.items c.push_names-2.new.names.items same_bodies same_cores c.grow.new.self
    (omega (arith, c.push_names.ensures.count, c.ids-last.ensures.count)) (omega (arith, c.push_names-2.ensures.count, c.ids-last.ensures.count)) c.in_ok-grow.ensures.occurrences)
