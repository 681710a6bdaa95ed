-- The map lines of a model: what can be written of them, and the assignment that they give.
use Rattle.std.proofs.Common.{arith, ◌≡◌, ℕ, ◌<◌, ◌^◌, List, [], ◌∷◌, ◌++◌, length, length-append, append_assoc, reverse, map, refl, ap, ap₂, sym, ◌∙◌, ℤ, pos, FitsSigned}
use Rattle.std.specs.Prelude.{unsigned_abs, ◌+ℤ◌}
use Rattle.std.specs.Int.{w128}
use Rattle.std.proofs.lemmas.Int.{ints}
use Rattle.std.proofs.lemmas.List.{reverse-append}
use Rattle.order_ints.specs.declared.atom.Atom.{Atom}
use Rattle.order_ints.specs.declared.order_int.MapValue.{MapValue}
use Rattle.order_ints.specs.declared.order_int.MapValue.TheVariants.{Bool, Int}
use Rattle.order_ints.specs.OrderRange.{weights, AreRising}
use Rattle.model_meaning.specs.declared.model.Kind.{Kind}
use Rattle.model_meaning.specs.declared.model.Kind.TheVariants as kind
use Rattle.model_meaning.specs.declared.model.Decl.{Decl}
use Rattle.name_map.specs.Values.{values_of}
use Rattle.name_map.specs.Fits.{ValueFits, ValuesFit}
use Rattle.name_map.specs.declared.entries.MapEntry.{MapEntry}
use Rattle.dimacs_out.specs.CompiledText.{WeightsCount, ValueBelow, EntriesBelow}
use Rattle.compile_mode.specs.Compiled.{entries_of}

-- one entry for each declaration
pub as_many : (n : ℕ) (decls : List Decl) (values : List MapValue) → ValuesFit n decls values → length decls ≡ length values
as_many n [] [] h = refl
as_many n [] (v ∷ values) h = elim h [ ]
as_many n (d ∷ decls) [] h = elim h [ ]
as_many n (d ∷ decls) (v ∷ values) h = omega (arith, as_many n decls values h.1)

-- what the names of the map lines stand for is the map
pub same_values : (n : ℕ) (decls : List Decl) (values : List MapValue) → ValuesFit n decls values → values_of (entries_of decls values) ≡ values
same_values n [] [] h = refl
same_values n [] (v ∷ values) h = elim h [ ]
same_values n (d ∷ decls) [] h = elim h [ ]
same_values n (d ∷ decls) (v ∷ values) h = ap (λ l. v ∷ l) (same_values n decls values h.1)

-- the names of the map lines are the declared names
pub same_names : (n : ℕ) (decls : List Decl) (values : List MapValue) → ValuesFit n decls values
    → map (λ (e : MapEntry). e.name) (entries_of decls values) ≡ map (λ (d : Decl). d.name) decls
same_names n [] [] h = refl
same_names n [] (v ∷ values) h = elim h [ ]
same_names n (d ∷ decls) [] h = elim h [ ]
same_names n (d ∷ decls) (v ∷ values) h = ap (λ l. d.name ∷ l) (same_names n decls values h.1)

-- the weights of a bounded integer fit 128 bits
weights_count : (steps : List (Atom × ℕ)) → AreRising steps → weights steps < 2 ^ 128 → WeightsCount steps
weights_count [] r h = tt
weights_count (s ∷ steps) r h = (r.0, omega (arith, h), weights_count steps r.1 (omega (arith, h)))

small_weights : (base : ℤ) (w : ℕ) → unsigned_abs base < 2 ^ 100 → unsigned_abs (base +ℤ pos w) < 2 ^ 100 → w < 2 ^ 128
small_weights base w low high = omega (arith, ints)

small_base : (base : ℤ) → unsigned_abs base < 2 ^ 100 → FitsSigned w128 base
small_base base low = omega (arith, ints)

value_below : (n : ℕ) (k : Kind) (v : MapValue) → ValueFits n k v → ValueBelow n v
value_below n kind.Bool (Bool a) h = h
value_below n kind.Bool (Int a) h = elim h [ ]
value_below n (kind.Range low high) (Bool a) h = elim h [ ]
value_below n (kind.Range low high) (Int a) h =
    (small_base a.base h.sound.0.0, h.below, weights_count a.steps h.sound.1 (small_weights a.base (weights a.steps) h.sound.0.0 h.sound.0.1))
value_below n (kind.Listed vs) (Bool a) h = elim h [ ]
value_below n (kind.Listed vs) (Int a) h =
    (small_base a.base h.sound.0.0, h.below, weights_count a.steps h.sound.1 (small_weights a.base (weights a.steps) h.sound.0.0 h.sound.0.1))

-- what each name stands for can be written
pub entries_below : (n : ℕ) (decls : List Decl) (values : List MapValue) → ValuesFit n decls values → EntriesBelow n (entries_of decls values)
entries_below n [] [] h = tt
entries_below n [] (v ∷ values) h = elim h [ ]
entries_below n (d ∷ decls) [] h = elim h [ ]
entries_below n (d ∷ decls) (v ∷ values) h = (value_below n d.kind v h.0, entries_below n decls values h.1)

-- one more declaration and one more value at the end give one more line at the end
pub one_more : (decls : List Decl) (d : Decl) (values : List MapValue) (v : MapValue) → length decls ≡ length values
    → entries_of (decls ++ d ∷ []) (values ++ v ∷ []) ≡ entries_of decls values ++ record { name = d.name; value = v } ∷ []
one_more [] d [] v h = refl
one_more [] d (w ∷ values) v h = absurd (omega arith)
one_more (e ∷ decls) d [] v h = absurd (omega arith)
one_more (e ∷ decls) d (w ∷ values) v h =
    ap (λ (l : List MapEntry). record { name = e.name; value = w } ∷ l) (one_more decls d values v (omega arith))

shorter : {A B : Type 0} (old new : List A) (x : A) (others rest : List B) (y : B) → old ≡ new ++ x ∷ [] → others ≡ rest ++ y ∷ []
    → length old ≡ length others → length new ≡ length rest
shorter old new x others rest y e f same =
    omega (arith, ap length e, ap length f, length-append new (x ∷ []), length-append rest (y ∷ []))

-- the line of the last declaration goes before those that were made
pub lines_taken : (decls rest : List Decl) (d : Decl) (values more : List MapValue) (v : MapValue) (made new all : List MapEntry)
    → decls ≡ rest ++ d ∷ [] → values ≡ more ++ v ∷ [] → new ≡ made ++ record { name = d.name; value = v } ∷ []
    → length decls ≡ length values → entries_of decls values ++ reverse made ≡ all
    → (entries_of rest more ++ reverse new ≡ all) × (length rest ≡ length more)
lines_taken decls rest d values more v made new all e f g same k =
    let line : MapEntry = record { name = d.name; value = v } in
    let fewer = shorter decls rest d values more v e f same in (
      ap (λ l. entries_of rest more ++ l) (ap reverse g ∙ reverse-append made (line ∷ []))
          ∙ sym (append_assoc (entries_of rest more) (line ∷ []) (reverse made))
          ∙ ap (λ l. l ++ reverse made) (sym (one_more rest d more v fewer))
          ∙ ap₂ (λ ds vs. entries_of ds vs ++ reverse made) (sym e) (sym f) ∙ k,
      fewer,
    )
