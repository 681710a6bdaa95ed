use Rattle.std.proofs.Common.{◌≡◌, ◌∙◌, ◌++◌, ◌∷◌, [], ◌<◌, List, ℕ, suc, true, length, map, get_or, refl, ap, sym, subst, arith, append_assoc, rules}
use Rattle.std.specs.Prelude.{is_ok}
use Rattle.std.specs.List.{Contains}
use Rattle.std.proofs.lemmas.Bool.{cond-true}
use Rattle.std.proofs.lemmas.List.{append-nil, get_or_default, length-map}
use Rattle.std.proofs.lemmas.List.Sorted.{Contains-permutation, IsPermutation-sym}
use Rattle.index_ring.specs.Lists.{times}
use Rattle.core_occurrences.specs.Lists.{OccurrenceLists, IsOccurrences, cores_at}
use Rattle.core_occurrences.specs.Bodies.{named_by}
use Rattle.core_occurrences.proofs.Named.{at-named, listed-named}
use Rattle.core_occurrences.proofs.Upwards.{rises}
use Rattle.core_occurrences.proofs.by_id.Occurrences.ids_at.Goals as goal

pub loop-body-init : goal.loop-body-init
loop-body-init c =
    let cores = c.self.inside.cores.items in
    let slice : c.as_slice-cores.result.now ≡ cores = c.as_slice-cores.ensures.value in
    let walk : c.into_iter-body-iterator.result ≡ cores_at c.self.inside.held c.args.var = c.into_iter-body-iterator.ensures.into_iter_gives ∙ c.cores_of-body-items.ensures.lists in
    let whole : map (named_by c.as_slice-cores.result.now) c.into_iter-body-iterator.result ≡ cores_at c.args.self.now c.args.var =
    ap (λ (l : List ℕ). map (named_by l) c.into_iter-body-iterator.result) slice ∙ ap (map (named_by cores)) walk
    ∙ sym (at-named c.self.inside.bodies.items cores c.self.inside.held c.self.invariant c.args.var) ∙ ap (λ (s : OccurrenceLists). cores_at s c.args.var) c.self.view_is in
    record {
      all = ap (λ (l : List ℕ). l ++ map (named_by c.as_slice-cores.result.now) c.into_iter-body-iterator.result) c.requires.empty ∙ whole;
      inside = λ b h.
          let range = c.self.invariant.listed.inside c.args.var b (subst (λ (l : List ℕ). Contains l b) walk h) in
          omega (arith, range.1, c.self.invariant.count, ap length slice);
      long = omega (arith, c.args.ids.now.ok.0, ap length c.requires.empty, ap length whole, length-map c.into_iter-body-iterator.result (named_by c.as_slice-cores.result.now));
      room = omega arith;
    }

pub bounds-cores-body : goal.bounds-cores-body
bounds-cores-body c = c.loop-body.invariant.inside c.in-Some.body (subst (λ (l : List ℕ). Contains l c.in-Some.body) (sym c.in-Some.ensures.steps) (0, omega arith, refl))

pub loop-body-preserved : goal.loop-body-preserved
loop-body-preserved c =
    let slice = c.as_slice-cores.result.now in
    let steps : c.loop-body.body-iterator ≡ c.in-Some.body ∷ c.next.new.self = c.in-Some.ensures.steps in
    let inside : c.in-Some.body < length slice = c.loop-body.invariant.inside c.in-Some.body (subst (λ (l : List ℕ). Contains l c.in-Some.body) (sym steps) (0, omega arith, refl)) in
    let added : is_ok c.push.result ≡ true = c.push.ensures.succeeds (omega (arith, c.loop-body.invariant.long, ap length steps, c.loop-body.invariant.room, c.requires.room)) in
    let items : c.push.new.self.items ≡ c.loop-body.ids.items ++ get_or slice c.in-Some.body 0 ∷ [] = c.push.ensures.items ∙ cond-true _ _ _ added in
    record {
      all = ap (λ (l : List ℕ). l ++ map (named_by slice) c.next.new.self) items
          ∙ append_assoc c.loop-body.ids.items (get_or slice c.in-Some.body 0 ∷ []) (map (named_by slice) c.next.new.self)
          ∙ ap (λ (x : ℕ). c.loop-body.ids.items ++ x ∷ map (named_by slice) c.next.new.self) (get_or_default slice c.in-Some.body 0 c.in-Some.body inside)
          ∙ ap (λ (l : List ℕ). c.loop-body.ids.items ++ map (named_by slice) l) (sym steps)
          ∙ c.loop-body.invariant.all;
      inside = λ b h. c.loop-body.invariant.inside b (subst (λ (l : List ℕ). Contains l b) (sym steps) (suc h.0, omega (arith, h.1), h.2));
      long = omega (arith, c.push.ensures.len ∙ cond-true _ _ _ added, ap length steps, c.loop-body.invariant.long);
      room = omega (arith, c.loop-body.invariant.room, c.push.ensures.capacity);
    }

pub returns-clause-same : goal.returns-clause-same
returns-clause-same c =
    let slice = c.as_slice-cores.result.now in
    let none : c.loop-body.body-iterator ≡ [] = search rules in
    let listed : c.loop-body.ids.items ≡ cores_at c.args.self.now c.args.var =
    sym (append-nil c.loop-body.ids.items) ∙ ap (λ (l : List ℕ). c.loop-body.ids.items ++ map (named_by slice) l) (sym none) ∙ c.loop-body.invariant.all in
    let moved = c.sort_unstable.ensures.permutation in
    λ id. (
      λ h. subst (λ (l : List ℕ). Contains l id) listed (Contains-permutation _ _ id (IsPermutation-sym _ _ moved) h),
      λ h. Contains-permutation _ _ id moved (subst (λ (l : List ℕ). Contains l id) (sym listed) h),
    )

pub returns-clause-ascending : goal.returns-clause-ascending
returns-clause-ascending c =
    let slice = c.as_slice-cores.result.now in
    let none : c.loop-body.body-iterator ≡ [] = search rules in
    let listed : c.loop-body.ids.items ≡ cores_at c.args.self.now c.args.var =
    sym (append-nil c.loop-body.ids.items) ∙ ap (λ (l : List ℕ). c.loop-body.ids.items ++ map (named_by slice) l) (sym none) ∙ c.loop-body.invariant.all in
    let is = subst IsOccurrences c.self.view_is (listed-named c.self.inside.bodies.items c.self.inside.cores.items c.self.inside.held c.self.invariant) in
    rises _ _ c.sort_unstable.ensures.permutation c.sort_unstable.ensures.sorted (λ v. omega (arith, ap (times v) listed, is.once c.args.var v))

pub returns-clause-occurrences : goal.returns-clause-occurrences
returns-clause-occurrences c = subst IsOccurrences c.self.view_is (listed-named c.self.inside.bodies.items c.self.inside.cores.items c.self.inside.held c.self.invariant)
