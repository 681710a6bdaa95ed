use Rattle.std.proofs.Common.{◌≡◌, ◌∙◌, ◌+◌, ◌++◌, ◌∷◌, [], ℕ, List, length, Some, ap, sym, subst, arith}
use Rattle.std.specs.Vec.{with_items, vec_capacity}
use Rattle.std.proofs.lemmas.List.{with_items_is}
use Rattle.order_ints.specs.Place.{LitBelow}
use Rattle.literal_trail.specs.declared.tables.Value.{Value}
use Rattle.literal_trail.specs.Trail.{Trail, entry_of}
use Rattle.literal_trail.specs.Tables.{IsKept, AreTables}
use Rattle.literal_trail.proofs.Keeping.{free-room, kept-implied}
use Rattle.literal_trail.proofs.trail.LiteralTrail.imply.Goals as goal
use Rattle.literal_trail.proofs.trail.LiteralTrail.imply.Goals.{After-add_entry}

-- the tables, as the vectors have them
values_are : (c : After-add_entry) → (with_items c.self.inside.values c.add_entry.new.values).items ≡ c.add_entry.new.values
values_are c = with_items_is c.self.inside.values c.add_entry.new.values (omega (arith, c.add_entry.auto.values, c.as_mut_slice-values.ensures.len))

places_are : (c : After-add_entry) → (with_items c.self.inside.places c.add_entry.new.places).items ≡ c.add_entry.new.places
places_are c = with_items_is c.self.inside.places c.add_entry.new.places (omega (arith, c.add_entry.auto.places, c.as_mut_slice.ensures.len))

tables : (c : After-add_entry) → AreTables c.add_entry.new.entries.items (with_items c.self.inside.values c.add_entry.new.values).items (with_items c.self.inside.places c.add_entry.new.places).items
tables c =
    subst (λ (vs : List Value). AreTables c.add_entry.new.entries.items vs (with_items c.self.inside.places c.add_entry.new.places).items) (sym (values_are c))
    (subst (λ (ps : List ℕ). AreTables c.add_entry.new.entries.items c.add_entry.new.values ps) (sym (places_are c)) c.add_entry.ensures.tables)

count : (c : After-add_entry) → length (with_items c.self.inside.places c.add_entry.new.places).items ≡ length c.self.inside.places.items
count c = ap (length {A = ℕ}) (places_are c) ∙ c.add_entry.auto.places ∙ ap (length {A = ℕ}) c.as_mut_slice.ensures.value

kept : (c : After-add_entry) → IsKept c.self.inside.vars c.add_entry.new.entries.items (with_items c.self.inside.values c.add_entry.new.values).items (with_items c.self.inside.places c.add_entry.new.places).items c.self.inside.ends.items (vec_capacity c.add_entry.new.entries) (vec_capacity c.self.inside.ends)
kept c =
    kept-implied c.self.inside.vars c.self.inside.entries.items c.self.inside.values.items c.self.inside.places.items c.self.inside.ends.items (vec_capacity c.self.inside.entries) (vec_capacity c.self.inside.ends) c.self.invariant
    c.add_entry.new.entries.items (with_items c.self.inside.values c.add_entry.new.values).items (with_items c.self.inside.places c.add_entry.new.places).items (vec_capacity c.add_entry.new.entries)
    (tables c) (count c) c.add_entry.ensures.capacity c.args.l c.args.reason
    (subst (λ (t : Trail). LitBelow (t.vars + 1) c.args.l) (sym c.self.view_is) c.requires.lit) (ap (λ (t : Trail). entry_of t.entries c.args.l.var) c.self.view_is ∙ c.requires.free)
    (c.add_entry.ensures.entries ∙ ap (λ (ends : List ℕ). c.self.inside.entries.items ++ record { lit = c.args.l; level = length ends; reason = Some c.args.reason } ∷ []) c.as_slice.ensures.value)

pub add_entry-requires-clause-room : goal.add_entry-requires-clause-room
add_entry-requires-clause-room c =
    let room = free-room c.self.inside.vars c.self.inside.entries.items c.self.inside.values.items c.self.inside.places.items c.self.inside.ends.items (vec_capacity c.self.inside.entries) (vec_capacity c.self.inside.ends) c.self.invariant c.args.l
    (subst (λ (t : Trail). LitBelow (t.vars + 1) c.args.l) (sym c.self.view_is) c.requires.lit) (ap (λ (t : Trail). entry_of t.entries c.args.l.var) c.self.view_is ∙ c.requires.free) in
    omega (arith, room.0, c.self.invariant.entries_fit)

pub invariant_of-self : goal.invariant_of-self
invariant_of-self c = kept (goal.at.invariant_of-self c).After-add_entry

pub returns-clause-is_trail : goal.returns-clause-is_trail
returns-clause-is_trail c = (kept (goal.at.returns-clause-is_trail c).After-add_entry).trail
