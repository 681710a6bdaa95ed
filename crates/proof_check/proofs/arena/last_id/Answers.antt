use Rattle.std.proofs.Common.{◌-◌, ◌<◌, ℕ, length, arith, sym, ◌∙◌, false}
use Rattle.std.proofs.lemmas.Bool.{eqb-false}
use Rattle.std.proofs.lemmas.List.{length-map, get_or-map}
use Rattle.proof_check.specs.declared.arena.Place.{Place}
use Rattle.proof_check.specs.Arena.{place_ids}
use Rattle.proof_check.proofs.Ascending.{last-at}
use Rattle.proof_check.proofs.arena.last_id.Goals as goal

pub returns-else-is_empty : goal.returns-else-is_empty
returns-else-is_empty c =
    let n : ℕ = length c.args.places.now in
    let some : 0 < n = (let h = eqb-false n 0 (sym c.is_empty.ensures ∙ c.if-is_empty.false) in omega (arith, h)) in
    let inside : n - 1 < n = omega (arith, some) in
    sym (get_or-map (λ (p : Place). p.id) c.args.places.now (n - 1) (record { id = 0; start = 0; len = 0; live = false }) 0 inside)
    ∙ sym (last-at 0 (place_ids c.args.places.now) (n - 1) (omega (arith, some, length-map c.args.places.now (λ (p : Place). p.id))))
