-- Worked examples of outlines as JSON values.
use Rattle.std.proofs.Common.{◌≡◌, ℕ, List, [], ◌∷◌, Some, None, refl}
use Rattle.std.specs.Prelude.{codes}
use Rattle.serde_json.specs.Data.{Data, Items, array, item, member, no_items, no_members, number, object, string, unsigned}
use Rattle.definitions.specs.declared.Range.{Range}
use Rattle.editor_replies.specs.Sending.{forest, outline_result}
use Rattle.editor_replies.specs.Sent.{SymbolData}

-- from 1:2 to 3:4, as a range and as its JSON value
range : Range
range = record { start = record { line = 1; character = 2 }; end = record { line = 3; character = 4 } }

place : ℕ → ℕ → Data
place line character =
    object (member (codes "character") (number (unsigned character)) (member (codes "line") (number (unsigned line)) no_members))

range_value : Data
range_value = object (member (codes "end") (place 3 4) (member (codes "start") (place 1 2) no_members))

-- a symbol of kind 12 whose name has this one letter, and its JSON value with these in it
symbol : ℕ → ℕ → SymbolData
symbol letter depth = record { name = letter ∷ []; kind = 12; depth = depth; range = range; selection = range }

value : ℕ → Items → Data
value letter inner = object
    (member (codes "children") (array inner)
    (member (codes "kind") (number (unsigned 12))
    (member (codes "name") (string (letter ∷ []))
    (member (codes "range") range_value
    (member (codes "selectionRange") range_value no_members)))))

-- `a`, in which `b` lies with `c` in it, and then `d`; and behind `a` stands `e`
symbols : List SymbolData
symbols = symbol 97 0 ∷ symbol 98 1 ∷ symbol 99 2 ∷ symbol 100 1 ∷ symbol 101 0 ∷ []

-- each is in the one that it lies in
nested : outline_result None symbols
    ≡ array (item (value 97 (item (value 98 (item (value 99 no_items) no_items)) (item (value 100 no_items) no_items))) (item (value 101 no_items) no_items))
unfolding symbols symbol value range_value place range
nested = refl

-- with one level below the first, `c` stands beside `b`
cut_off : forest 1 0 symbols
    ≡ item (value 97 (item (value 98 no_items) (item (value 99 no_items) (item (value 100 no_items) no_items)))) (item (value 101 no_items) no_items)
unfolding symbols symbol value range_value place range
cut_off = refl

-- one after another, each with the URI `u` of the document
listed : outline_result (Some (117 ∷ [])) (symbol 97 0 ∷ symbol 98 1 ∷ [])
    ≡ array
    (item (object (member (codes "kind") (number (unsigned 12))
    (member (codes "location") (object (member (codes "range") range_value (member (codes "uri") (string (117 ∷ [])) no_members)))
    (member (codes "name") (string (97 ∷ [])) no_members))))
    (item (object (member (codes "kind") (number (unsigned 12))
    (member (codes "location") (object (member (codes "range") range_value (member (codes "uri") (string (117 ∷ [])) no_members)))
    (member (codes "name") (string (98 ∷ [])) no_members)))) no_items))
unfolding symbol range_value place range
listed = refl
