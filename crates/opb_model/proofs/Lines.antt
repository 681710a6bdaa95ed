-- The lines of a model's text, put together of their parts.
use Rattle.std.proofs.Common.{rules, ◌≡◌, ℕ, List, [], ◌∷◌, ◌++◌, append_assoc, append-nil, map, codes, ap, sym, ◌∙◌, Some}
use Rattle.std.specs.List.{flat_map}
use Rattle.bumblebee_reader.specs.declared.syntax.Term.{Term as Word}
use Rattle.bumblebee_reader.specs.declared.syntax.Term.TheVariants as word
use Rattle.bumblebee_reader.specs.Canonical.{term_text, terms_text, item_line}
use Rattle.opb_front.specs.declared.items.Term.{Term}
use Rattle.opb_front.specs.declared.items.Comparison.{Comparison}
use Rattle.opb_front.specs.declared.items.Comparison.TheVariants.{Equal}
use Rattle.opb_front.specs.declared.items.Objective.{Objective}
use Rattle.opb_model.specs.Models.{sum_name, cost_name}
use Rattle.opb_model.specs.Items.{coefficient_word, literal_word, sum_item, cost_item, cost_items}
use Rattle.opb_model.specs.Written.{sum_front}

line : (n c m b : List ℕ)
    → (n ++ (codes "([" ++ (c ++ (codes "],[" ++ (m ++ codes "],"))))) ++ (b ++ codes ")\n")
    ≡ (n ++ (codes "(" ++ (((codes "[" ++ (c ++ codes "]")) ++ ((codes "," ++ (codes "[" ++ (m ++ codes "]"))) ++ ((codes "," ++ b) ++ []))) ++ codes ")"))) ++ 10 ∷ []
line n c m b = search (rules, append_assoc)

-- the front of a sum's line, and what it is compared with
pub sum_line : (c : Comparison) (ts : List Term) (bound : Word) → sum_front c ts ++ (term_text bound ++ codes ")\n") ≡ item_line (sum_item c ts bound)
sum_line c ts bound = line (sum_name c) (terms_text (map coefficient_word ts)) (terms_text (map literal_word ts)) (term_text bound)

-- the lines of the objective, written one after another
pub objective_lines : (o : Objective) (x a b y : List ℕ) → a ≡ x ++ item_line (cost_item o) → b ≡ a ++ sum_front Equal o.terms → y ≡ b ++ codes "o)\n"
    → y ≡ x ++ flat_map item_line (cost_items (Some o))
objective_lines o x a b y e f g =
    let l = item_line (cost_item o) in
    let s = sum_front Equal o.terms in
    let t = item_line (sum_item Equal o.terms (word.Plain cost_name)) in
    g ∙ (ap (λ z. z ++ codes "o)\n") (f ∙ ap (λ z. z ++ s) e)
    ∙ (append_assoc (x ++ l) s (codes "o)\n") ∙ (ap (λ z. (x ++ l) ++ z) (sum_line Equal o.terms (word.Plain cost_name))
    ∙ (append_assoc x l t ∙ ap (λ z. x ++ (l ++ z)) (sym (append-nil t))))))
