-- A text says one model.
use Rattle.std.proofs.Common.{◌≡◌, List, ℕ, ap, sym, ◌∙◌, Ok}
use Rattle.bumblebee_reader.specs.declared.syntax.Item.{Item}
use Rattle.bumblebee_reader.specs.Reading.{AtItem, Outcome, reading}
use Rattle.bumblebee_reader.proofs.Text.{reading_from_text}
use Rattle.model_meaning.specs.declared.model.Model.{Model}
use Rattle.typed_model.specs.Items.{model_of}
use Rattle.model_texts.specs.ModelTexts.{IsModelOf}

ok_same : (xs ys : List Item) (o : Outcome) → o ≡ Ok xs → o ≡ Ok ys → xs ≡ ys
ok_same xs ys o e f = let both : Ok xs ≡ Ok ys = sym e ∙ f in cc

pub one_model : (text : List ℕ) (m n : Model) → IsModelOf text m → IsModelOf text n → m ≡ n
one_model text m n h k =
    let same = ok_same h.syntax.items k.syntax.items (reading AtItem 1 text) (reading_from_text text h.syntax h.spelled) (reading_from_text text k.syntax k.spelled) in
    h.model_is ∙ ap model_of same ∙ sym k.model_is
