-- Lists of files that are changed one after another.
use Rattle.std.proofs.Common.{◌≡◌, ℕ, ◌<◌, ◌+◌, List, [], ◌∷◌, ◌++◌, length, take, drop, map, set, get_or, reverse, arith, ap, sym, ◌∙◌, add-zero}
use Rattle.std.proofs.lemmas.List.{take_at, take_more_set, map_push, map_more, drop-set-lt, drop-drop, get_or-drop, reverse-reverse, with_items_is, length-reverse}
use Rattle.std.specs.Prelude.{string_bytes, String}
use Rattle.std.specs.Global.{Vec, Global}
use Rattle.std.specs.Vec.{with_items}
use Rattle.bee_outside.specs.MemShelf.{given_file}
use Rattle.bee_outside.specs.MemFiles.{kept_file}

-- lists that are the same from i on have the same element there
pub get_or-same_ahead : {X : Type 0} (xs ys : List X) (i : ℕ) (d : X) → drop i ys ≡ drop i xs → get_or ys i d ≡ get_or xs i d
get_or-same_ahead xs ys i d ahead =
    let e : get_or (drop i ys) 0 d ≡ get_or (drop i xs) 0 d = ap (λ zs. get_or zs 0 d) ahead in
    ap (λ n. get_or ys n d) (sym (add-zero i)) ∙ sym (get_or-drop i ys 0 d) ∙ e ∙ get_or-drop i xs 0 d ∙ ap (λ n. get_or xs n d) (add-zero i)

-- one element more is changed in place, so that f of it is g of what it was
pub map_in_place_more : {X Y : Type 0} (f g : X → Y) (xs ys : List X) (i : ℕ) (d y : X) → i < length xs → i < length ys → map f (take i ys) ≡ map g (take i xs) → drop i ys ≡ drop i xs → f y ≡ g (get_or ys i d) → map f (take (i + 1) (set ys i y)) ≡ map g (take (i + 1) xs)
map_in_place_more f g xs ys i d y h h2 done ahead one =
    ap (map f) (take_more_set ys i y h2) ∙ map_push f (take i ys) y ∙ ap (λ zs. zs ++ f y ∷ []) done
    ∙ ap (λ z. map g (take i xs) ++ z ∷ []) (one ∙ ap g (get_or-same_ahead xs ys i d ahead)) ∙ sym (map_more g xs i d h)

-- and the elements behind it stay
pub ahead_more : {X : Type 0} (xs ys : List X) (i : ℕ) (y : X) → drop i ys ≡ drop i xs → drop (i + 1) (set ys i y) ≡ drop (i + 1) xs
ahead_more xs ys i y ahead =
    drop-set-lt (i + 1) ys i y (omega arith) ∙ sym (drop-drop 1 i ys) ∙ ap (drop 1) ahead ∙ drop-drop 1 i xs

-- a file whose bytes were put into reverse order is kept as what it was
pub kept_file-reversed : (file : String Global × Vec ℕ) (bytes : List ℕ) → bytes ≡ reverse file.1.items → kept_file (file.0, with_items file.1 bytes) ≡ given_file file
kept_file-reversed file bytes e =
    let n : length bytes ≡ file.1.len = ap length e ∙ length-reverse file.1.items ∙ sym file.1.ok.0 in
    ap (λ zs. (string_bytes file.0, zs)) (ap reverse (with_items_is file.1 bytes n ∙ e) ∙ reverse-reverse file.1.items)

-- so many first elements of a whole list that another stands behind are that list
pub take-whole : {X : Type 0} (xs ys : List X) (n : ℕ) → length xs ≡ n → take n (xs ++ ys) ≡ xs
take-whole xs ys n e = take_at xs ys n e
