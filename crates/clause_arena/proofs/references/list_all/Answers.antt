use Rattle.std.proofs.Common.{◌≡◌, ◌∙◌, ◌+◌, ◌++◌, ◌∷◌, [], ℕ, List, length, refl, ap, sym, subst, arith, append_assoc, append-nil}
use Rattle.std.specs.List.{range_with_len}
use Rattle.std.proofs.lemmas.List.{map-id}
use Rattle.std.proofs.lemmas.List.FromFn.{map-range_with_len_more}
use Rattle.index_ring.specs.Lists.{RingLists, list_of}
use Rattle.clause_arena.specs.References.{AreListed}
use Rattle.clause_arena.proofs.Lists.{pushed-first, pushed-second, pushed-two, pushed-listed}
use Rattle.clause_arena.proofs.references.list_all.Goals as goal

pub loop-k-init : goal.loop-k-init
loop-k-init c = (
  sym (append-nil (list_of c.args.order.now 1)),
  refl,
  c.requires.two,
  refl,
  subst (AreListed c.args.order.now) (omega arith) c.requires.free,
  c.requires.rings,
)

-- one number more
range-more : (a n : ℕ) → range_with_len a (n + 1) ≡ range_with_len a n ++ (a + n) ∷ []
range-more a n =
    let same : ℕ → ℕ = λ x. x in
    sym (map-id (range_with_len a (n + 1))) ∙ map-range_with_len_more same a n (a + n) refl ∙ ap (λ (xs : List ℕ). xs ++ (a + n) ∷ []) (map-id (range_with_len a n))

pub loop-k-preserved : goal.loop-k-preserved
loop-k-preserved c =
    let old = c.loop-k.order in
    let v = c.args.first + c.loop-k.k in
    let is = c.push_back.ensures.lists in
    let two : length old.lists ≡ 2 = c.loop-k.invariant.2 in (
      ap (λ (r : RingLists). list_of r 1) is ∙ pushed-second old v two ∙ ap (λ (xs : List ℕ). xs ++ v ∷ []) c.loop-k.invariant.0
          ∙ append_assoc (list_of c.args.order.now 1) (range_with_len c.args.first c.loop-k.k) (v ∷ [])
          ∙ ap (λ (xs : List ℕ). list_of c.args.order.now 1 ++ xs) (sym (range-more c.args.first c.loop-k.k)),
      ap (λ (r : RingLists). list_of r 0) is ∙ pushed-first old v ∙ c.loop-k.invariant.1,
      ap (λ (r : RingLists). length r.lists) is ∙ pushed-two old v two,
      ap (λ (r : RingLists). r.nodes) is ∙ c.loop-k.invariant.3,
      subst (λ (r : RingLists). AreListed r (c.args.first + (c.loop-k.k + 1))) (sym is)
          (subst (AreListed _) (omega arith) (pushed-listed old v two c.loop-k.invariant.4)),
      c.push_back.ensures.rings,
    )
