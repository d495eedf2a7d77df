-- What is printed of a grammar with a conflict.
use Rattle.std.specs.Prelude.{ℕ, ◌++◌, List, take, drop, flat_map, codes, encode_utf8_all, Option, Some, None}
use Rattle.definitions.specs.declared.Symbol.{Symbol}
use Rattle.definitions.specs.declared.Symbol.TheVariants.{Rule as Terminal, Nonterminal}
use Rattle.definitions.specs.Trees.{left_of}
use Rattle.grammar.specs.Grammars.{FileGrammar}
use Rattle.grammar.specs.Notes.{symbol_name}
use Rattle.tables.specs.Sets.{side}
use Rattle.tables.specs.declared.conflict.Conflict.{Conflict}
use Rattle.tables.specs.Item.{Item}

-- the name of a symbol, in UTF-8
abbrev pub name_bytes : FileGrammar → Symbol → List ℕ
name_bytes file symbol = encode_utf8_all (symbol_name file symbol)

-- the names of symbols with a space before each
abbrev pub names_with_spaces : FileGrammar → List Symbol → List ℕ
names_with_spaces file symbols = flat_map (λ s. codes " " ++ name_bytes file s) symbols

-- `look_name file look`: the name of a lookahead, or `end`
abbrev pub look_name : FileGrammar → Option ℕ → List ℕ
look_name file None = codes "end"
look_name file (Some a) = name_bytes file (Terminal a)

-- `left_name file p`: the name of a production's left side, or `(start)` for the production that is added
abbrev pub left_name : FileGrammar → Option ℕ → List ℕ
left_name file None = codes "(start)"
left_name file (Some p) = name_bytes file (Nonterminal (left_of file.grammar p))

-- `line file left right item`: the line of an item with these sides and its dot
abbrev pub line : FileGrammar → List ℕ → List Symbol → Item → List ℕ
line file left right i =
    codes "item: " ++ (left ++ (codes " =" ++ (names_with_spaces file (take i.at right)
    ++ (codes " ." ++ (names_with_spaces file (drop i.at right) ++ (codes ", " ++ (look_name file i.look ++ codes "\n")))))))

-- `item_line file item`: the line of an item, with its dot
abbrev pub item_line : FileGrammar → Item → List ℕ
item_line file i = line file (left_name file i.production) (side file.grammar i.production) i

-- `conflict_text file conflict`: the four lines of a conflict: the lookahead at which its items call for different moves, the symbols after
-- which they do, and the two items
abbrev pub conflict_text : FileGrammar → Conflict → List ℕ
conflict_text file c =
    codes "lrls: conflict on " ++ (look_name file c.look ++ (codes "\nafter:" ++ (names_with_spaces file c.prefix.items
    ++ (codes "\n" ++ (item_line file c.first ++ item_line file c.second)))))
