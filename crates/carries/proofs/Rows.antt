-- A list of which a part goes round by one.
use Rattle.std.proofs.Common.{◌≡◌, ℕ, suc, ◌-◌, List, ◌++◌, length, take, drop, sym, ap, ◌∙◌, add-one, arith}
use borrow.Rule.Slice.PartMut.{put_mid}
use Rattle.std.specs.List.{remove}
use Rattle.std.proofs.lemmas.List.{length-drop, append_assoc, append-nil, take_rest, drop_all, drop-drop}

-- what is left in place of xs, where its part from p on went round by one
pub gone-round : {X : Type 0} (xs ys : List X) (p : ℕ) → ys ≡ drop 1 (take (length xs - p) (drop p xs)) ++ take 1 (take (length xs - p) (drop p xs)) → put_mid p (length xs - p) xs ys ≡ remove xs p ++ take 1 (drop p xs)
gone-round xs ys p e =
    ap (λ l. take p xs ++ (ys ++ l)) (drop_all (length xs - p) (drop p xs) (omega (arith, length-drop p xs)))
    ∙ ap (λ l. take p xs ++ l) (append-nil ys ∙ e ∙ ap (λ l. drop 1 l ++ take 1 l) (take_rest xs p) ∙ ap (λ l. l ++ take 1 (drop p xs)) (drop-drop 1 p xs ∙ ap (λ n. drop n xs) (add-one p)))
    ∙ sym (append_assoc (take p xs) (drop (suc p) xs) (take 1 (drop p xs)))
