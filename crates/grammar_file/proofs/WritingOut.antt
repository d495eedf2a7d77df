-- The productions of marked words after the lines.
use Rattle.grammar_file.proofs.Std.{◌≡◌, ℕ, ◌+◌, ◌<◌, List, [], ◌∷◌, ◌++◌, ap, sym, ◌∙◌, length, take, get_or, Bor, flat_map, take_more, flat_map_more, map-append}
use Rattle.grammar_file.proofs.Common.{Statement, added, texts}

-- the statements with what is added for one more word
pub added_more : (ss ts us : List Statement) (ws : List (Bor (List ℕ))) (i : ℕ) (d : Bor (List ℕ)) → i < length ws → ts ≡ ss ++ flat_map added (texts (take i ws))
    → us ≡ ts ++ added (get_or ws i d).now → us ≡ ss ++ flat_map added (texts (take (i + 1) ws))
added_more ss ts us ws i d within before more =
    more
    ∙ ap (λ xs. xs ++ added (get_or ws i d).now) before
    ∙ flat_map_more added ss (texts (take i ws)) (get_or ws i d).now
    ∙ ap (λ xs. ss ++ flat_map added xs) (sym (map-append (λ w. w.now) (take i ws) (get_or ws i d ∷ [])))
    ∙ ap (λ xs. ss ++ flat_map added (texts xs)) (sym (take_more ws i d within))
