use Rattle.std.proofs.Common.{◌≡◌, ◌∙◌, ◌+◌, ◌++◌, ◌∷◌, [], true, ℕ, List, length, ap, sym, subst, arith}
use Rattle.std.specs.Prelude.{is_ok, vec_len}
use Rattle.std.proofs.lemmas.Bool.{cond-true}
use Rattle.std.specs.Vec.{with_items, vec_capacity}
use Rattle.std.proofs.lemmas.List.{with_items_is}
use Rattle.order_ints.specs.Place.{LitBelow}
use Rattle.literal_trail.specs.declared.entry.Entry.{Entry}
use Rattle.literal_trail.specs.declared.tables.Value.{Value}
use Rattle.literal_trail.specs.Trail.{Trail, entry_of}
use Rattle.literal_trail.specs.Tables.{IsKept, AreTables}
use Rattle.literal_trail.proofs.Keeping.{free-room, kept-chosen}
use Rattle.literal_trail.proofs.trail.LiteralTrail.choose.Goals as goal
use Rattle.literal_trail.proofs.trail.LiteralTrail.choose.Goals.{After-add_entry}

-- the tables, as the vectors have them
values_are : (c : After-add_entry) → (with_items c.self.inside.values c.add_entry.new.values).items ≡ c.add_entry.new.values
values_are c = with_items_is c.self.inside.values c.add_entry.new.values (omega (arith, c.add_entry.auto.values, c.as_mut_slice-values.ensures.len))

places_are : (c : After-add_entry) → (with_items c.self.inside.places c.add_entry.new.places).items ≡ c.add_entry.new.places
places_are c = with_items_is c.self.inside.places c.add_entry.new.places (omega (arith, c.add_entry.auto.places, c.as_mut_slice.ensures.len))

tables : (c : After-add_entry) → AreTables c.add_entry.new.entries.items (with_items c.self.inside.values c.add_entry.new.values).items (with_items c.self.inside.places c.add_entry.new.places).items
tables c =
    subst (λ (vs : List Value). AreTables c.add_entry.new.entries.items vs (with_items c.self.inside.places c.add_entry.new.places).items) (sym (values_are c))
    (subst (λ (ps : List ℕ). AreTables c.add_entry.new.entries.items c.add_entry.new.values ps) (sym (places_are c)) c.add_entry.ensures.tables)

count : (c : After-add_entry) → length (with_items c.self.inside.places c.add_entry.new.places).items ≡ length c.self.inside.places.items
count c = ap (length {A = ℕ}) (places_are c) ∙ c.add_entry.auto.places ∙ ap (length {A = ℕ}) c.as_mut_slice.ensures.value

ends_are : (c : After-add_entry) → c.push.new.self.items ≡ c.self.inside.ends.items ++ length c.self.inside.entries.items ∷ []
ends_are c =
    let added : is_ok c.push.result ≡ true = ap is_ok c.unwrap.ensures in
    c.push.ensures.items ∙ cond-true _ _ _ added ∙ ap (λ (xs : List Entry). c.self.inside.ends.items ++ length xs ∷ []) c.as_slice.ensures.value

kept : (c : After-add_entry) → IsKept c.self.inside.vars c.add_entry.new.entries.items (with_items c.self.inside.values c.add_entry.new.values).items (with_items c.self.inside.places c.add_entry.new.places).items c.push.new.self.items (vec_capacity c.add_entry.new.entries) (vec_capacity c.push.new.self)
kept c =
    let added : is_ok c.push.result ≡ true = ap is_ok c.unwrap.ensures in
    let longer : vec_len c.push.new.self ≡ vec_len c.self.inside.ends + 1 = c.push.ensures.len ∙ cond-true _ _ _ added in
    kept-chosen c.self.inside.vars c.self.inside.entries.items c.self.inside.values.items c.self.inside.places.items c.self.inside.ends.items (vec_capacity c.self.inside.entries) (vec_capacity c.self.inside.ends) c.self.invariant
    c.add_entry.new.entries.items (with_items c.self.inside.values c.add_entry.new.values).items (with_items c.self.inside.places c.add_entry.new.places).items (vec_capacity c.add_entry.new.entries)
    (tables c) (count c) c.add_entry.ensures.capacity c.args.l (length c.as_slice-2.result.now) c.push.new.self.items (vec_capacity c.push.new.self)
    (subst (λ (t : Trail). LitBelow (t.vars + 1) c.args.l) (sym c.self.view_is) c.requires.lit) (ap (λ (t : Trail). entry_of t.entries c.args.l.var) c.self.view_is ∙ c.requires.free)
    (ends_are c) (omega (arith, c.as_slice-2.ensures.len, longer)) c.push.ensures.capacity
    c.add_entry.ensures.entries

pub unwrap-requires : goal.unwrap-requires
unwrap-requires c =
    let room = free-room c.self.inside.vars c.self.inside.entries.items c.self.inside.values.items c.self.inside.places.items c.self.inside.ends.items (vec_capacity c.self.inside.entries) (vec_capacity c.self.inside.ends) c.self.invariant c.args.l
    (subst (λ (t : Trail). LitBelow (t.vars + 1) c.args.l) (sym c.self.view_is) c.requires.lit) (ap (λ (t : Trail). entry_of t.entries c.args.l.var) c.self.view_is ∙ c.requires.free) in
    c.push.ensures.succeeds (omega (arith, room.1, c.self.invariant.ends_fit))

pub add_entry-requires-clause-room : goal.add_entry-requires-clause-room
add_entry-requires-clause-room c =
    let room = free-room c.self.inside.vars c.self.inside.entries.items c.self.inside.values.items c.self.inside.places.items c.self.inside.ends.items (vec_capacity c.self.inside.entries) (vec_capacity c.self.inside.ends) c.self.invariant c.args.l
    (subst (λ (t : Trail). LitBelow (t.vars + 1) c.args.l) (sym c.self.view_is) c.requires.lit) (ap (λ (t : Trail). entry_of t.entries c.args.l.var) c.self.view_is ∙ c.requires.free) in
    omega (arith, room.0, c.self.invariant.entries_fit)

pub invariant_of-self : goal.invariant_of-self
invariant_of-self c = kept (goal.at.invariant_of-self c).After-add_entry

pub returns-clause-is_trail : goal.returns-clause-is_trail
returns-clause-is_trail c = (kept (goal.at.returns-clause-is_trail c).After-add_entry).trail
