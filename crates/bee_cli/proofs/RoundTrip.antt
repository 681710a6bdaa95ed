-- What is compiled is read, and the values that are decoded for it are the lines of a solution.
use Rattle.std.proofs.Common.{arith, ◌≡◌, ℕ, ◌+◌, ◌≤◌, ◌^◌, ℤ, pos, List, [], ◌∷◌, ◌++◌, codes, length, map, refl, ap, sym, subst, ◌∙◌}
use Rattle.std.specs.Prelude.{unsigned_abs, ◌+ℤ◌, ◌≤ℤ◌}
use Rattle.std.proofs.lemmas.Int.{ints}
use Rattle.bee_text.specs.Lines.{join_lines}
use Rattle.order_ints.specs.declared.order_int.MapValue.{MapValue}
use Rattle.order_ints.specs.declared.order_int.MapValue.TheVariants.{Bool, Int}
use Rattle.order_ints.specs.OrderRange.{weights}
use Rattle.order_ints.specs.Truth.{Valuation, valuation_of}
use Rattle.order_ints.specs.Numbers.{number_of, numbers_of}
use Rattle.order_ints.specs.Satisfies.{Satisfies}
use Rattle.model_meaning.specs.declared.model.Kind.{Kind}
use Rattle.model_meaning.specs.declared.model.Kind.TheVariants as kind
use Rattle.model_meaning.specs.declared.model.Decl.{Decl}
use Rattle.value_lists.specs.ValueLists.{first_of, last_of}
use Rattle.name_map.specs.Fits.{ValueFits, ValuesFit}
use Rattle.name_map.specs.declared.entries.MapEntry.{MapEntry}
use Rattle.dimacs_out.specs.declared.text.CnfText.{CnfText}
use Rattle.name_map.specs.Values.{is_boolean, is_boolean_kind}
use Rattle.name_map.specs.ValueLines.{value_line, declared_line, declared_lines}
use Rattle.dimacs_out.specs.ValueLines.{number_line, values_text}
use Rattle.dimacs_out.proofs.TextTells.{text_tells_all}
use Rattle.dimacs_read.specs.TextLines.{IsInLimit, IsTextOf}
use Rattle.dimacs_read.specs.ReadLaws.{AreInLimit}
use Rattle.dimacs_read.proofs.Lawful.{written_is_read, read_is_writable, values_satisfy}
use Rattle.model_texts.specs.ModelTexts.{longest_text}
use Rattle.compile_mode.specs.Compiled.{entries_of, written_of, Compiles}
use Rattle.decode_mode.specs.Decoded.{IsDecoded}
use Rattle.bee_cli.specs.DecodeLaws.{TellsSolution, CompiledIsRead, DecodedIsSolution}
use Rattle.compile_mode.proofs.Headline.{made, well, writable}

-- what the names stand for is in the limit of what is read

low_limit : (low high base : ℤ) (w : ℕ) → unsigned_abs low ≤ 1073741824 → unsigned_abs high ≤ 1073741824 → low ≤ℤ base → (base +ℤ pos w) ≤ℤ high → unsigned_abs base ≤ 2 ^ 30
low_limit low high base w p q r s = omega (arith, ints)

high_limit : (low high base : ℤ) (w : ℕ) → unsigned_abs low ≤ 1073741824 → unsigned_abs high ≤ 1073741824 → low ≤ℤ base → (base +ℤ pos w) ≤ℤ high → unsigned_abs (base +ℤ pos w) ≤ 2 ^ 30
high_limit low high base w p q r s = omega (arith, ints)

value_in_limit : (n : ℕ) (k : Kind) (v : MapValue) → ValueFits n k v → IsInLimit v
value_in_limit n k (Bool a) h = tt
value_in_limit n kind.Bool (Int a) h = elim h [ ]
value_in_limit n (kind.Range low high) (Int a) h = (
  low_limit low high a.base (weights a.steps) h.low_in_limit h.high_in_limit h.least h.greatest,
  high_limit low high a.base (weights a.steps) h.low_in_limit h.high_in_limit h.least h.greatest,
)
value_in_limit n (kind.Listed vs) (Int a) h = (
  low_limit (first_of vs) (last_of vs) a.base (weights a.steps) h.low_in_limit h.high_in_limit h.least h.greatest,
  high_limit (first_of vs) (last_of vs) a.base (weights a.steps) h.low_in_limit h.high_in_limit h.least h.greatest,
)

in_limit : (n : ℕ) (decls : List Decl) (values : List MapValue) → ValuesFit n decls values → AreInLimit (entries_of decls values)
in_limit n [] [] h = tt
in_limit n [] (v ∷ values) h = elim h [ ]
in_limit n (d ∷ decls) [] h = elim h [ ]
in_limit n (d ∷ decls) (v ∷ values) h = (value_in_limit n d.kind v h.0, in_limit n decls values h.1)

-- the lines of the names are those of the declarations

kind_same : (n : ℕ) (k : Kind) (v : MapValue) → ValueFits n k v → is_boolean v ≡ is_boolean_kind k
kind_same n kind.Bool (Bool a) h = refl
kind_same n kind.Bool (Int a) h = elim h [ ]
kind_same n (kind.Range low high) (Bool a) h = elim h [ ]
kind_same n (kind.Range low high) (Int a) h = refl
kind_same n (kind.Listed vs) (Bool a) h = elim h [ ]
kind_same n (kind.Listed vs) (Int a) h = refl

lines_same : (σ : Valuation) (n : ℕ) (decls : List Decl) (values : List MapValue) → ValuesFit n decls values
    → map (λ (e : MapEntry). number_line e (number_of σ e.value)) (entries_of decls values) ≡ declared_lines decls (numbers_of σ values)
lines_same σ n [] [] h = refl
lines_same σ n [] (v ∷ values) h = elim h [ ]
lines_same σ n (d ∷ decls) [] h = elim h [ ]
lines_same σ n (d ∷ decls) (v ∷ values) h =
    let first : value_line d.name (is_boolean v) (number_of σ v) ≡ declared_line d (number_of σ v) =
    ap (λ b. value_line d.name b (number_of σ v)) (kind_same n d.kind v h.0) in
    let rest = lines_same σ n decls values h.1 in
    λ i. first i ∷ rest i

module _ (text compiled : List ℕ) (short : length text ≤ longest_text) (c : Compiles text compiled) where
  is_read : IsTextOf (written_of (made text compiled short c)) compiled
  is_read =
      let x = made text compiled short c in
      let fits = (well text compiled short c).fits in
      subst (λ (t : List ℕ). IsTextOf (written_of x) t) (sym c.is.writes)
      (written_is_read (written_of x) (writable text compiled short c) fits.vars (in_limit (x.cnf.vars + 1) x.decls x.map.entries fits.values))

  module _ (answer written : List ℕ) (d : IsDecoded (record { first = compiled; second = answer }) written) where
    same : d.held ≡ written_of (made text compiled short c)
    same =
        text_tells_all d.held (written_of (made text compiled short c)) (read_is_writable d.held d.form.readable) (writable text compiled short c)
        (sym d.form.spelled ∙ c.is.writes)

    solution : TellsSolution c.model written
    solution =
        let x = made text compiled short c in
        let w = well text compiled short c in
        let σ : Valuation = valuation_of d.tells.values in
        let P : CnfText → Type 0 = λ y. Satisfies σ y.cnf in
        let satisfies : Satisfies σ x.cnf = subst P same (values_satisfy d.held.cnf answer d.tells.values d.tells.told) in
        let a : List ℤ = numbers_of σ x.map.entries in
        let lines = lines_same σ (x.cnf.vars + 1) x.decls x.map.entries w.fits.values in
        record {
          solution = a;
          solves = (w.solutions a).1 (σ, satisfies, refl);
          writes = d.tells.writes ∙ ap (λ (y : CnfText). values_text σ y.entries) same ∙ ap join_lines lines ∙ ap (λ ds. join_lines (declared_lines ds a)) c.is.is.decls;
        }

pub compiled_is_read : CompiledIsRead
compiled_is_read text compiled short c = (written_of (made text compiled short c), is_read text compiled short c)

pub decoded_is_solution : DecodedIsSolution
decoded_is_solution text texts written short c d = solution text texts.first short c texts.second written d
