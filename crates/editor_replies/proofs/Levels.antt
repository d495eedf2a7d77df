-- Which symbols of a list are shown on a level, and what is sent of them.
use Rattle.std.proofs.Common.{◌≡◌, ℕ, zero, suc, ◌+◌, ◌-◌, ◌<◌, ◌≤◌, Some, cond, true, false, List, [], ◌∷◌, length, drop, take, map, get_or, nat_lt, if◌then◌else◌, refl, sym, ap, ◌∙◌, subst, arith}
use Rattle.std.specs.List.{prefix_len}
use Rattle.std.proofs.lemmas.Bool.{false≢true, le-ltb, lt-ltb}
use Rattle.std.proofs.lemmas.List.{drop_all, drop_more, length-drop, take-map, take_all}
use Rattle.serde.specs.Event.{Log, Logs, seq_begins, seq_ends}
use Rattle.serde_json.specs.Data.{array, item, no_items}
use Rattle.serde_json.specs.Events.{SendsItems, SendsValue, items_len}
use Rattle.editor_replies.specs.Sent.{SymbolData, symbol_view}
use Rattle.editor_replies.specs.Sending.{below, forest, inside, is_shown_at, nested_data}
use Rattle.outline.specs.declared.symbols.OutlineSymbol.{OutlineSymbol}

-- a symbol that is shown on a level comes first, with what lies in it
pub forest_shown : (levels depth : ℕ) (s : SymbolData) (ss : List SymbolData) → is_shown_at levels depth s ≡ true
    → forest levels depth (s ∷ ss) ≡ item (nested_data s (below levels depth ss)) (forest levels depth ss)
forest_shown zero depth s ss e = refl
forest_shown (suc levels) depth s ss e =
    ap (λ b. if b then item (nested_data s (below (suc levels) depth ss)) (forest (suc levels) depth ss) else forest (suc levels) depth ss) e

-- one that isn't is left out
pub forest_hidden : (levels depth : ℕ) (s : SymbolData) (ss : List SymbolData) → is_shown_at levels depth s ≡ false
    → forest levels depth (s ∷ ss) ≡ forest levels depth ss
forest_hidden zero depth s ss e = absurd (false≢true (sym e))
forest_hidden (suc levels) depth s ss e =
    ap (λ b. if b then item (nested_data s (below (suc levels) depth ss)) (forest (suc levels) depth ss) else forest (suc levels) depth ss) e

-- of no symbols none is
empty : (levels depth : ℕ) → forest levels depth [] ≡ no_items
empty zero depth = refl
empty (suc levels) depth = refl

-- the symbols from place k on, as data
abbrev left : (k : ℕ) (xs : List OutlineSymbol) → List SymbolData
left k xs = map symbol_view (drop k xs)

first_left : (xs : List OutlineSymbol) (k : ℕ) (d : OutlineSymbol) → k < length xs → left k xs ≡ symbol_view (get_or xs k d) ∷ left (k + 1) xs
first_left xs k d within = ap (map symbol_view) (drop_more xs k d within)

-- where the symbol at place k is shown and was sent, and then those after it, those from k on were sent
pub sent_shown : (levels depth : ℕ) (xs : List OutlineSymbol) (k : ℕ) (d : OutlineSymbol) (before mid end : Log) → k < length xs
    → is_shown_at levels depth (symbol_view (get_or xs k d)) ≡ true
    → SendsValue (nested_data (symbol_view (get_or xs k d)) (below levels depth (map symbol_view (drop (k + 1) xs)))) before mid
    → SendsItems (forest levels depth (map symbol_view (drop (k + 1) xs))) mid end
    → SendsItems (forest levels depth (map symbol_view (drop k xs))) before end
sent_shown levels depth xs k d before mid end within shown first rest =
    subst (λ ds. SendsItems ds before end)
    (sym (ap (forest levels depth) (first_left xs k d within) ∙ forest_shown levels depth (symbol_view (get_or xs k d)) (left (k + 1) xs) shown)) (mid, first, rest)

-- where it isn't, those after it are those from k on
pub sent_hidden : (levels depth : ℕ) (xs : List OutlineSymbol) (k : ℕ) (d : OutlineSymbol) → k < length xs
    → is_shown_at levels depth (symbol_view (get_or xs k d)) ≡ false
    → forest levels depth (map symbol_view (drop k xs)) ≡ forest levels depth (map symbol_view (drop (k + 1) xs))
sent_hidden levels depth xs k d within hidden =
    ap (forest levels depth) (first_left xs k d within) ∙ forest_hidden levels depth (symbol_view (get_or xs k d)) (left (k + 1) xs) hidden

-- behind the last symbol nothing is shown
pub none_left : (levels depth : ℕ) (xs : List OutlineSymbol) (k : ℕ) → length xs ≤ k → forest levels depth (map symbol_view (drop k xs)) ≡ no_items
none_left levels depth xs k past = ap (λ l. forest levels depth (map symbol_view l)) (drop_all k xs past) ∙ empty levels depth

-- the array of what is shown, where whatever sends what is left sends all, and nothing is left
pub all_sent : (levels depth : ℕ) (xs : List OutlineSymbol) (k : ℕ) (old first before end : Log) → length xs ≤ k
    → Logs old first (seq_begins (Some (items_len (forest levels depth (map symbol_view xs))))) → Logs before end seq_ends
    → ((e : Log) → SendsItems (forest levels depth (map symbol_view (drop k xs))) before e → SendsItems (forest levels depth (map symbol_view xs)) first e)
    → SendsValue (array (forest levels depth (map symbol_view xs))) old end
all_sent levels depth xs k old first before end past begun ended so_far =
    (first, begun, so_far end (subst (λ ds. SendsItems ds before end) (sym (none_left levels depth xs k past)) ended))

-- how many of those from place k on lie deeper than `depth`, before one that doesn't
abbrev pub deeper_from : ℕ → List OutlineSymbol → ℕ → ℕ
deeper_from depth xs k = prefix_len (λ (s : SymbolData). nat_lt depth s.depth) (map symbol_view (drop k xs))

-- one that lies deeper is one more
pub deeper_more : (depth : ℕ) (xs : List OutlineSymbol) (k : ℕ) (d : OutlineSymbol) → k < length xs → depth < (get_or xs k d).depth
    → deeper_from depth xs k ≡ 1 + deeper_from depth xs (k + 1)
deeper_more depth xs k d within deeper =
    ap (prefix_len (λ (s : SymbolData). nat_lt depth s.depth)) (first_left xs k d within)
    ∙ ap (λ b. cond b (1 + deeper_from depth xs (k + 1)) 0) (lt-ltb depth (get_or xs k d).depth deeper)

-- at one that doesn't, there is none
pub deeper_ends : (depth : ℕ) (xs : List OutlineSymbol) (k : ℕ) (d : OutlineSymbol) → k < length xs → (get_or xs k d).depth ≤ depth → deeper_from depth xs k ≡ 0
deeper_ends depth xs k d within shallow =
    ap (prefix_len (λ (s : SymbolData). nat_lt depth s.depth)) (first_left xs k d within)
    ∙ ap (λ b. cond b (1 + deeper_from depth xs (k + 1)) 0) (le-ltb depth (get_or xs k d).depth shallow)

-- nor is there behind the last one
pub deeper_none : (depth : ℕ) (xs : List OutlineSymbol) (k : ℕ) → length xs ≤ k → deeper_from depth xs k ≡ 0
deeper_none depth xs k past = ap (λ l. prefix_len (λ (s : SymbolData). nat_lt depth s.depth) (map symbol_view l)) (drop_all k xs past)

-- where the first `end` are those that lie deeper, they are what lies inside
pub inside_is : (depth : ℕ) (xs : List OutlineSymbol) (end : ℕ) → deeper_from depth xs 0 ≡ end → map symbol_view (take end xs) ≡ inside depth (map symbol_view xs)
inside_is depth xs end e = sym (take-map symbol_view end xs) ∙ ap (λ n. take n (map symbol_view xs)) (sym e)

-- on no level below nothing is sent
pub none_below : (levels depth : ℕ) (ss : List SymbolData) (old first end : Log) → levels ≡ 0 → Logs old first (seq_begins (Some 0)) → Logs first end seq_ends
    → SendsValue (array (below levels depth ss)) old end
none_below zero depth ss old first end e begun ended = (first, begun, ended)
none_below (suc levels) depth ss old first end e begun ended = absurd (omega (arith, e))

-- all from place k on is what is left
pub rest_is : (xs : List OutlineSymbol) (k : ℕ) → take (length xs - k) (drop k xs) ≡ drop k xs
rest_is xs k = take_all (length xs - k) (drop k xs) (omega (arith, length-drop k xs))
