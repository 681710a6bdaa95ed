use Rattle.std.proofs.Common.{◌≡◌, ◌∙◌, ◌<◌, ℕ, List, length, take, get_or, ap, sym, subst, arith}
use Rattle.std.specs.Vec.{with_items, vec_capacity}
use Rattle.std.proofs.lemmas.List.{with_items_is, length-take-le}
use Rattle.literal_trail.specs.declared.tables.Value.{Value}
use Rattle.literal_trail.specs.Trail.{Trail, IsTrail, cut_back}
use Rattle.literal_trail.specs.Tables.{IsKept, AreTables}
use Rattle.literal_trail.proofs.Keeping.{end-within, kept-cut_back, made-cut_back, same-cut_back}
use Rattle.literal_trail.proofs.trail.LiteralTrail.cut_back.Goals as goal
use Rattle.literal_trail.proofs.trail.LiteralTrail.cut_back.Goals.{After-truncate}

-- the tables, as the vectors have them
values_are : (c : After-truncate) → (with_items c.self.inside.values c.keep_front.new.values).items ≡ c.keep_front.new.values
values_are c = with_items_is c.self.inside.values c.keep_front.new.values (omega (arith, c.keep_front.auto.values, c.as_mut_slice-values.ensures.len))

places_are : (c : After-truncate) → (with_items c.self.inside.places c.keep_front.new.places).items ≡ c.keep_front.new.places
places_are c = with_items_is c.self.inside.places c.keep_front.new.places (omega (arith, c.keep_front.auto.places, c.as_mut_slice.ensures.len))

tables : (c : After-truncate) → AreTables c.keep_front.new.entries.items (with_items c.self.inside.values c.keep_front.new.values).items (with_items c.self.inside.places c.keep_front.new.places).items
tables c =
    subst (λ (vs : List Value). AreTables c.keep_front.new.entries.items vs (with_items c.self.inside.places c.keep_front.new.places).items) (sym (values_are c))
    (subst (λ (ps : List ℕ). AreTables c.keep_front.new.entries.items c.keep_front.new.values ps) (sym (places_are c)) c.keep_front.ensures.tables)

count : (c : After-truncate) → length (with_items c.self.inside.places c.keep_front.new.places).items ≡ length c.self.inside.places.items
count c = ap (length {A = ℕ}) (places_are c) ∙ c.keep_front.auto.places ∙ ap (length {A = ℕ}) c.as_mut_slice.ensures.value

end_is : (c : After-truncate) → get_or c.as_slice-then-level-as_slice.result.now c.args.level 0 ≡ get_or c.self.inside.ends.items c.args.level 0
end_is c = ap (λ (ends : List ℕ). get_or ends c.args.level 0) c.as_slice-then-level-as_slice.ensures.value

lower : (c : After-truncate) → c.args.level < length c.self.inside.ends.items
lower c = omega (arith, c.if-level-as_slice.true, c.as_slice.ensures.len)

kept : (c : After-truncate) → IsKept c.self.inside.vars c.keep_front.new.entries.items (with_items c.self.inside.values c.keep_front.new.values).items (with_items c.self.inside.places c.keep_front.new.places).items c.truncate.new.self.items (vec_capacity c.keep_front.new.entries) (vec_capacity c.truncate.new.self)
kept c =
    kept-cut_back c.self.inside.vars c.self.inside.entries.items c.self.inside.values.items c.self.inside.places.items c.self.inside.ends.items (vec_capacity c.self.inside.entries) (vec_capacity c.self.inside.ends) c.self.invariant c.args.level
    c.keep_front.new.entries.items (with_items c.self.inside.values c.keep_front.new.values).items (with_items c.self.inside.places c.keep_front.new.places).items c.truncate.new.self.items
    (vec_capacity c.keep_front.new.entries) (vec_capacity c.truncate.new.self)
    (lower c) (tables c) (count c) (c.keep_front.ensures.entries ∙ ap (λ (n : ℕ). take n c.self.inside.entries.items) (end_is c)) c.truncate.ensures.items
    (omega (arith, c.keep_front.ensures.capacity)) (omega (arith, c.truncate.ensures.capacity))

pub keep_front-requires-clause-count : goal.keep_front-requires-clause-count
keep_front-requires-clause-count c =
    let below : c.args.level < length c.self.inside.ends.items = omega (arith, c.if-level-as_slice.true, c.as_slice.ensures.len) in
    omega (arith, end-within c.self.inside.vars c.self.inside.entries.items c.self.inside.values.items c.self.inside.places.items c.self.inside.ends.items (vec_capacity c.self.inside.entries) (vec_capacity c.self.inside.ends) c.self.invariant c.args.level below, ap (λ (ends : List ℕ). get_or ends c.args.level 0) c.as_slice-then-level-as_slice.ensures.value)

pub invariant_of-self : goal.invariant_of-self
invariant_of-self c = kept (goal.at.invariant_of-self c).After-truncate

pub returns-then-level-as_slice-clause-trail : goal.returns-then-level-as_slice-clause-trail
returns-then-level-as_slice-clause-trail c =
    made-cut_back c.self.inside.vars c.self.inside.entries.items c.self.inside.values.items c.self.inside.places.items c.self.inside.ends.items (vec_capacity c.self.inside.entries) (vec_capacity c.self.inside.ends) c.self.invariant c.args.level (length c.truncate.new.self.items) c.keep_front.new.entries.items (lower c)
    (c.keep_front.ensures.entries ∙ ap (λ (n : ℕ). take n c.self.inside.entries.items) (end_is c))
    (ap (length {A = ℕ}) c.truncate.ensures.items ∙ length-take-le c.args.level c.self.inside.ends.items (omega (arith, lower c)))
    ∙ ap (λ (t : Trail). cut_back t c.args.level) c.self.view_is

pub returns-then-level-as_slice-clause-is_trail : goal.returns-then-level-as_slice-clause-is_trail
returns-then-level-as_slice-clause-is_trail c = (kept (goal.at.returns-then-level-as_slice-clause-is_trail c).After-truncate).trail

pub returns-else-level-as_slice-clause-trail : goal.returns-else-level-as_slice-clause-trail
returns-else-level-as_slice-clause-trail c =
    same-cut_back c.args.self.now c.args.level (subst IsTrail c.self.view_is c.self.invariant.trail) c.requires
    (omega (arith, c.if-level-as_slice.false, c.as_slice.ensures.len, ap (λ (t : Trail). t.level) c.self.view_is))
