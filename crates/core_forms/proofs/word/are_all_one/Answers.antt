use Rattle.std.proofs.Common.{◌≡◌, ℕ, Bool, List, Contains, sym, subst, ◌∙◌}
use Rattle.core_forms.proofs.Letters.{all-one, told-alike}
use Rattle.core_forms.proofs.word.are_all_one.Goals as goal

pub returns-in-Some : goal.returns-in-Some
returns-in-Some g c = λ e xs ys front back.
    let σ : ℕ → Bool = g.T.TruthValues.valuation c.args.sigma in
    let told : Bool = c.in-Some.told in
    let first : (v : ℕ) → Contains c.args.first.now.names v → σ v ≡ told =
    λ v h. c.in-Some.ensures v (subst (λ (vs : List ℕ). Contains vs v) (sym c.as_slice.ensures.list) h) in
    let second : (v : ℕ) → Contains c.args.second.now.names v → σ v ≡ told =
    λ v h. told-alike c.truth_of-in-Some.result told (λ t. (w : ℕ) → Contains c.as_slice-in-Some.result.now w → σ w ≡ t) c.truth_of-in-Some.ensures (sym c.eq.ensures ∙ e)
    v (subst (λ (vs : List ℕ). Contains vs v) (sym c.as_slice-in-Some.ensures.list) h) in
    all-one σ told c.args.first.now.base c.args.second.now.base c.args.first.now.weight c.args.second.now.weight
    c.args.first.now.names c.args.second.now.names (c.are_alike.ensures.base c.if-not-are_alike.false) (c.are_alike.ensures.weight c.if-not-are_alike.false)
    first second xs ys front back
