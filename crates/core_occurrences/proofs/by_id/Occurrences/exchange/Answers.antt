use Rattle.std.proofs.Common.{◌≡◌, ◌∙◌, List, ℕ, length, ap, sym, subst, arith}
use Rattle.std.specs.Vec.{with_items}
use Rattle.std.proofs.lemmas.List.{with_items_is}
use Rattle.core_occurrences.specs.Lists.{OccurrenceLists}
use Rattle.core_occurrences.specs.Bodies.{named_by, named, swapped, exchanged, AreBodies}
use Rattle.core_occurrences.proofs.Named.{listed-named, named-exchanged, bodies-exchanged}
use Rattle.core_occurrences.proofs.by_id.Occurrences.exchange.Goals as goal

pub invariant_of-self : goal.invariant_of-self
invariant_of-self c =
    let bodies : (with_items c.self.inside.bodies c.exchange_bodies.new.bodies).items ≡ c.exchange_bodies.new.bodies = with_items_is c.self.inside.bodies c.exchange_bodies.new.bodies (omega (arith, c.exchange_bodies.auto.bodies, c.as_mut_slice-bodies.ensures.len)) in
    let cores : (with_items c.self.inside.cores c.exchange_bodies.new.cores).items ≡ c.exchange_bodies.new.cores = with_items_is c.self.inside.cores c.exchange_bodies.new.cores (omega (arith, c.exchange_bodies.auto.cores, c.as_mut_slice.ensures.len)) in
    let swaps : (b : ℕ) → named_by c.exchange_bodies.new.cores b ≡ swapped c.args.first c.args.second (named_by c.self.inside.cores.items b) = λ b. c.exchange_bodies.ensures.swapped b ∙ ap (λ (l : List ℕ). swapped c.args.first c.args.second (named_by l b)) c.as_mut_slice.ensures.value in
    let kept : AreBodies (with_items c.self.inside.bodies c.exchange_bodies.new.bodies).items (with_items c.self.inside.cores c.exchange_bodies.new.cores).items c.self.inside.held =
    subst (λ (l : List ℕ). AreBodies l (with_items c.self.inside.cores c.exchange_bodies.new.cores).items c.self.inside.held) (sym bodies)
    (subst (λ (l : List ℕ). AreBodies c.exchange_bodies.new.bodies l c.self.inside.held) (sym cores)
    (bodies-exchanged c.self.inside.bodies.items c.self.inside.cores.items c.self.inside.held c.self.invariant c.exchange_bodies.new.bodies c.exchange_bodies.new.cores c.args.first c.args.second
    c.exchange_bodies.ensures.inverse swaps c.requires.first.0 c.requires.second.0 (c.exchange_bodies.auto.cores ∙ ap length c.as_mut_slice.ensures.value))) in
    kept

pub returns-clause-lists : goal.returns-clause-lists
returns-clause-lists c =
    let bodies : (with_items c.self.inside.bodies c.exchange_bodies.new.bodies).items ≡ c.exchange_bodies.new.bodies = with_items_is c.self.inside.bodies c.exchange_bodies.new.bodies (omega (arith, c.exchange_bodies.auto.bodies, c.as_mut_slice-bodies.ensures.len)) in
    let cores : (with_items c.self.inside.cores c.exchange_bodies.new.cores).items ≡ c.exchange_bodies.new.cores = with_items_is c.self.inside.cores c.exchange_bodies.new.cores (omega (arith, c.exchange_bodies.auto.cores, c.as_mut_slice.ensures.len)) in
    let swaps : (b : ℕ) → named_by c.exchange_bodies.new.cores b ≡ swapped c.args.first c.args.second (named_by c.self.inside.cores.items b) = λ b. c.exchange_bodies.ensures.swapped b ∙ ap (λ (l : List ℕ). swapped c.args.first c.args.second (named_by l b)) c.as_mut_slice.ensures.value in
    ap (λ (l : List ℕ). named l c.self.inside.held) cores
    ∙ named-exchanged c.self.inside.bodies.items c.self.inside.cores.items c.self.inside.held c.self.invariant c.exchange_bodies.new.bodies c.exchange_bodies.new.cores c.args.first c.args.second
    c.exchange_bodies.ensures.inverse swaps
    ∙ ap (λ (s : OccurrenceLists). exchanged s c.args.first c.args.second) c.self.view_is

pub returns-clause-occurrences : goal.returns-clause-occurrences
returns-clause-occurrences c =
    let bodies : (with_items c.self.inside.bodies c.exchange_bodies.new.bodies).items ≡ c.exchange_bodies.new.bodies = with_items_is c.self.inside.bodies c.exchange_bodies.new.bodies (omega (arith, c.exchange_bodies.auto.bodies, c.as_mut_slice-bodies.ensures.len)) in
    let cores : (with_items c.self.inside.cores c.exchange_bodies.new.cores).items ≡ c.exchange_bodies.new.cores = with_items_is c.self.inside.cores c.exchange_bodies.new.cores (omega (arith, c.exchange_bodies.auto.cores, c.as_mut_slice.ensures.len)) in
    let swaps : (b : ℕ) → named_by c.exchange_bodies.new.cores b ≡ swapped c.args.first c.args.second (named_by c.self.inside.cores.items b) = λ b. c.exchange_bodies.ensures.swapped b ∙ ap (λ (l : List ℕ). swapped c.args.first c.args.second (named_by l b)) c.as_mut_slice.ensures.value in
    let kept : AreBodies (with_items c.self.inside.bodies c.exchange_bodies.new.bodies).items (with_items c.self.inside.cores c.exchange_bodies.new.cores).items c.self.inside.held =
    subst (λ (l : List ℕ). AreBodies l (with_items c.self.inside.cores c.exchange_bodies.new.cores).items c.self.inside.held) (sym bodies)
    (subst (λ (l : List ℕ). AreBodies c.exchange_bodies.new.bodies l c.self.inside.held) (sym cores)
    (bodies-exchanged c.self.inside.bodies.items c.self.inside.cores.items c.self.inside.held c.self.invariant c.exchange_bodies.new.bodies c.exchange_bodies.new.cores c.args.first c.args.second
    c.exchange_bodies.ensures.inverse swaps c.requires.first.0 c.requires.second.0 (c.exchange_bodies.auto.cores ∙ ap length c.as_mut_slice.ensures.value))) in
    listed-named (with_items c.self.inside.bodies c.exchange_bodies.new.bodies).items (with_items c.self.inside.cores c.exchange_bodies.new.cores).items c.self.inside.held kept
