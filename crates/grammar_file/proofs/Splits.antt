-- A list of lines, cut at one of them.
use Rattle.grammar_file.proofs.Std.{◌≡◌, ◌≢◌, ℕ, suc, ◌+◌, ◌<◌, List, [], ◌∷◌, ◌++◌, refl, ap, sym, ◌∙◌, length, take, drop, get_or, Bor, subst, Option, Some, None, map, option_map, filter_map, cons_option, enumerate_from}
use Rattle.grammar_file.proofs.Std.{arith, append_assoc, map-append, take_more, take-append-drop, length-take-le, filter_map-append}
use Rattle.grammar_file.proofs.Common.{Version, Statement, Line, Nothing, at, line_of, numbered, statements_in, texts}
use Rattle.grammar_file.proofs.Common.{Numbered, ProductionLine, productions, as_production, Cause, HaveReferents, reference_fault, IsLineFault, IsFirstLineFault, IsFirstReferenceFault, statement_of, lines_view, IsRead, File}
use Rattle.grammar_file.proofs.OneMoreItem.{push_at, cons_option-append}

numbered-split : {Y : Type 0} (h : (ℕ × List ℕ) → Option Y) (xs : List (List ℕ)) (y : List ℕ) (zs : List (List ℕ)) (n m : ℕ) → m ≡ n + length xs
    → filter_map h (enumerate_from n (xs ++ y ∷ zs)) ≡ filter_map h (enumerate_from n xs) ++ cons_option (h (m, y)) (filter_map h (enumerate_from (m + 1) zs))
numbered-split h [] y zs n m e =
    let same : n ≡ m = omega arith in
    ap (λ k. cons_option (h (k, y)) (filter_map h (enumerate_from (k + 1) zs))) same
numbered-split h (x ∷ xs) y zs n m e =
    ap (λ r. cons_option (h (n, x)) r) (numbered-split h xs y zs (n + 1) m (omega arith))
    ∙ cons_option-append (h (n, x)) (filter_map h (enumerate_from (n + 1) xs)) (cons_option (h (m, y)) (filter_map h (enumerate_from (m + 1) zs)))

cut : {X : Type 0} (xs : List X) (i : ℕ) (d : X) → i < length xs → xs ≡ take i xs ++ get_or xs i d ∷ drop (i + 1) xs
cut xs i d within = sym (take-append-drop (i + 1) xs) ∙ ap (λ prefix. prefix ++ drop (i + 1) xs) (take_more xs i d within) ∙ append_assoc (take i xs) (get_or xs i d ∷ []) (drop (i + 1) xs)

pub length-texts : (ws : List (Bor (List ℕ))) → length (texts ws) ≡ length ws
length-texts [] = refl
length-texts (w ∷ ws) = ap (λ n. suc n) (length-texts ws)

length-prefix : (lines : List (Bor (List ℕ))) (i : ℕ) → i < length lines → i + 2 ≡ 2 + length (texts (take i lines))
length-prefix lines i within =
    let one : length (texts (take i lines)) ≡ length (take i lines) = length-texts (take i lines) in
    let two : length (take i lines) ≡ i = length-take-le i lines (omega arith) in
    omega arith

-- what one more line says
pub statements_more : (v : Version) (lines : List (Bor (List ℕ))) (i : ℕ) (d : Bor (List ℕ)) → i < length lines → statements_in v (texts (take (i + 1) lines))
    ≡ statements_in v (texts (take i lines)) ++ cons_option (numbered (i + 2) (line_of v (get_or lines i d).now)) []
statements_more v lines i d within =
    ap (λ prefix. statements_in v (texts prefix)) (take_more lines i d within)
    ∙ ap (statements_in v) (map-append (λ w. w.now) (take i lines) (get_or lines i d ∷ []))
    ∙ numbered-split (λ t. numbered t.0 (line_of v t.1)) (texts (take i lines)) (get_or lines i d).now [] 2 (i + 2) (length-prefix lines i within)

-- and what all of them say, of which one says something
pub statements_split : (v : Version) (lines : List (Bor (List ℕ))) (i : ℕ) (d : Bor (List ℕ)) → i < length lines → (after : List Statement)
    × (statements_in v (texts lines) ≡ statements_in v (texts (take i lines)) ++ cons_option (numbered (i + 2) (line_of v (get_or lines i d).now)) after)
statements_split v lines i d within = (
  filter_map (λ t. numbered t.0 (line_of v t.1)) (enumerate_from (i + 2 + 1) (texts (drop (i + 1) lines))),
  ap (λ all. statements_in v (texts all)) (cut lines i d within)
      ∙ ap (statements_in v) (map-append (λ w. w.now) (take i lines) (get_or lines i d ∷ drop (i + 1) lines))
      ∙ numbered-split (λ t. numbered t.0 (line_of v t.1)) (texts (take i lines)) (get_or lines i d).now (texts (drop (i + 1) lines)) 2 (i + 2) (length-prefix lines i within),
)

pub said_more : (ns : List Numbered) (i : ℕ) (x : Numbered) → i < length ns → x ≡ get_or ns i x → lines_view (take (i + 1) ns) ≡ lines_view (take i ns) ++ statement_of x ∷ []
said_more ns i x within is =
    ap lines_view (take_more ns i x within) ∙ map-append statement_of (take i ns) (get_or ns i x ∷ []) ∙ ap (λ y. lines_view (take i ns) ++ statement_of y ∷ []) (sym is)

pub said_split : (ns : List Numbered) (i : ℕ) (x : Numbered) → i < length ns → x ≡ get_or ns i x → lines_view ns ≡ lines_view (take i ns) ++ statement_of x ∷ lines_view (drop (i + 1) ns)
said_split ns i x within is =
    ap lines_view (cut ns i x within) ∙ map-append statement_of (take i ns) (get_or ns i x ∷ drop (i + 1) ns)
    ∙ ap (λ y. lines_view (take i ns) ++ statement_of y ∷ lines_view (drop (i + 1) ns)) (sym is)

pub referents_more : (ss : List Statement) (ns : List Numbered) (i : ℕ) (x : Numbered) → i < length ns → x ≡ get_or ns i x → HaveReferents ss (lines_view (take i ns))
    → reference_fault ss (statement_of x).says ≡ None → HaveReferents ss (lines_view (take (i + 1) ns))
referents_more ss ns i x within is before at =
    subst (λ (some : List Statement). HaveReferents ss some) (sym (said_more ns i x within is)) (push_at (λ k s. reference_fault ss s.says ≡ None) (lines_view (take i ns)) (statement_of x) before at)

-- the first line that uses a name wrongly
pub first_reference_fault : (ns : List Numbered) (i : ℕ) (x : Numbered) (c : Cause) → i < length ns → x ≡ get_or ns i x → HaveReferents (lines_view ns) (lines_view (take i ns))
    → reference_fault (lines_view ns) (statement_of x).says ≡ Some c → IsFirstReferenceFault (lines_view ns) x.number c
first_reference_fault ns i x c within is before fault = (lines_view (take i ns), lines_view (drop (i + 1) ns), (statement_of x, said_split ns i x within is, refl, before, fault))

numbered-some : (n : ℕ) (l : Line) → l ≢ Nothing → numbered n l ≡ Some (at n l)
numbered-some n Nothing says = absurd (says refl)
numbered-some n d says = refl

-- what is read of one more line
pub read_more : (v : Version) (f g : File) (lines : List (Bor (List ℕ))) (i : ℕ) (d : Bor (List ℕ)) (l : Line) → i < length lines → IsRead f (statements_in v (texts (take i lines)))
    → l ≡ line_of v (get_or lines i d).now → IsRead g (lines_view f.statements.items ++ cons_option (numbered (i + 2) l) []) → IsRead g (statements_in v (texts (take (i + 1) lines)))
read_more v f g lines i d l within before is read =
    let earlier : List Statement = lines_view f.statements.items in
    let e : earlier ++ cons_option (numbered (i + 2) l) [] ≡ statements_in v (texts (take (i + 1) lines)) =
    ap (λ k. earlier ++ cons_option (numbered (i + 2) k) []) is
    ∙ ap (λ ss. ss ++ cons_option (numbered (i + 2) (line_of v (get_or lines i d).now)) []) before.statements
    ∙ sym (statements_more v lines i d within) in
    subst (λ (ss : List Statement). IsRead g ss) e read

-- the first line that has a fault
pub first_line_fault : (v : Version) (f : File) (lines : List (Bor (List ℕ))) (i : ℕ) (d : Bor (List ℕ)) (l : Line) (c : Cause) → i < length lines
    → IsRead f (statements_in v (texts (take i lines))) → l ≡ line_of v (get_or lines i d).now → l ≢ Nothing
    → IsLineFault (lines_view f.statements.items) l c → IsFirstLineFault (statements_in v (texts lines)) (i + 2) c
first_line_fault v f lines i d l c within before is says fault =
    let split = statements_split v lines i d within in
    let prefix : List Statement = statements_in v (texts (take i lines)) in
    let some : numbered (i + 2) (line_of v (get_or lines i d).now) ≡ Some (at (i + 2) l) = ap (λ k. numbered (i + 2) k) (sym is) ∙ numbered-some (i + 2) l says in (
      prefix,
      split.0,
      (at (i + 2) l, split.1 ∙ ap (λ o. prefix ++ cons_option o split.0) some, refl, before.faultless, subst (λ (ss : List Statement). IsLineFault ss l c) before.statements fault),
    )

made_of : {X Y : Type 0} (f : X → Y) (o : Option X) → map f (cons_option o []) ≡ cons_option (option_map f o) []
made_of f None = refl
made_of f (Some x) = refl

-- the productions of one more line
pub productions_more : {Y : Type 0} (f : ProductionLine → Y) (ns : List Numbered) (i : ℕ) (x : Numbered) → i < length ns → x ≡ get_or ns i x
    → map f (productions (lines_view (take (i + 1) ns))) ≡ map f (productions (lines_view (take i ns))) ++ cons_option (option_map f (as_production (statement_of x).says)) []
productions_more f ns i x within is =
    ap (λ ss. map f (productions ss)) (said_more ns i x within is)
    ∙ ap (map f) (filter_map-append (λ s. as_production s.says) (lines_view (take i ns)) (statement_of x ∷ []))
    ∙ map-append f (productions (lines_view (take i ns))) (cons_option (as_production (statement_of x).says) [])
    ∙ ap (λ r. map f (productions (lines_view (take i ns))) ++ r) (made_of f (as_production (statement_of x).says))
