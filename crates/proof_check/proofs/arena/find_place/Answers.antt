use Rattle.std.proofs.Common.{◌≡◌, ◌<◌, ◌+◌, ◌-◌, ◌/◌, ℕ, false, length, arith}
use Rattle.std.proofs.lemmas.List.{length-map, get_or-map}
use Rattle.proof_check.specs.declared.arena.Place.{Place}
use Rattle.proof_check.specs.Arena.{place_ids}
use Rattle.proof_check.proofs.Ascending.{below-middle, above-middle}
use Rattle.proof_check.proofs.arena.find_place.Goals as goal

pub loop-low-preserved-then-at-id-2 : goal.loop-low-preserved-then-at-id-2
loop-low-preserved-then-at-id-2 c =
    let ids = place_ids c.args.places.now in
    let m : ℕ = c.loop-low.low + (c.loop-low.high - c.loop-low.low) / 2 in
    let inside : m < length c.args.places.now = omega (arith, c.loop-low.invariant.within) in
    let at = get_or-map (λ (p : Place). p.id) c.args.places.now m (record { id = 0; start = 0; len = 0; live = false }) 0 inside in
    record {
      within = c.loop-low.invariant.within;
      smaller = below-middle ids c.args.id m c.requires (omega (arith, inside, length-map c.args.places.now (λ (p : Place). p.id))) (omega (arith, at, c.if-at-id-2.true));
      greater = c.loop-low.invariant.greater;
    }

pub loop-low-preserved : goal.loop-low-preserved
loop-low-preserved c =
    let ids = place_ids c.args.places.now in
    let m : ℕ = c.loop-low.low + (c.loop-low.high - c.loop-low.low) / 2 in
    let inside : m < length c.args.places.now = omega (arith, c.loop-low.invariant.within) in
    let at = get_or-map (λ (p : Place). p.id) c.args.places.now m (record { id = 0; start = 0; len = 0; live = false }) 0 inside in
    let size : length ids ≡ length c.args.places.now = length-map c.args.places.now (λ (p : Place). p.id) in
    record {
      within = omega (arith, c.loop-low.invariant.within);
      smaller = c.loop-low.invariant.smaller;
      greater = λ i from inside-i. above-middle ids c.args.id m c.requires (omega (arith, at, c.if-at-id-2.false, c.if-at-id.false)) i from (omega (arith, inside-i, size));
    }
