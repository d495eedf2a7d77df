-- The tokens and the parse that are kept, and what is reported of them.
use Rattle.docs.proofs.Std.{◌≡◌, ◌≤◌, ◌⊎◌, ◌↔◌, inl, inr, ℕ, Bool, true, false, not, cond, List, [], ◌∷◌, ◌++◌, encode_utf8_all, map, length, refl, sym, ap, subst, ◌∙◌, Option, None, option_map, Some, Vec, filter, Result, IfOk, Global, AllByRecursion, IfOk-weaker, recursion_from_All}
use Rattle.docs.proofs.Common.{Kind, Range, Position, Encoding, Stored, Fault, Node, AreFolds, IsSelection, AreDocumentTrees, IsNodeOf, IsVerdict, Answered, offset, Placed, is_skipped, kinds, Grammar, Tree, HaveRoots, all_kinds, plain_tree}
use Rattle.docs.proofs.Common.{FileGrammar, lexicon_of}
use Rattle.docs.proofs.Common.{Token, significant_kinds, kind_in, plain, is_significant, AreTokensOf}
use Rattle.docs.proofs.Common.{Verdict, TreeAt, FaultAt, FaultAtEnd, plain_of, AreStacked, IsParseOf, verdict_in}
use Rattle.docs.proofs.Common.{Sets}
use Rattle.docs.proofs.Common.{Cell, tree, NodeId, NodeChild, Child}
use Rattle.docs.proofs.Common.{text_of, AreRootsOf, trees_of_roots}
use Rattle.docs.proofs.Common.{AreFoldsOf, IsSelectionOf, placed_parts, IsDiagnosis, fault_of, Reading, IsReading, Reads, rows, written_tree, AreSelections, IsReported}
use Rattle.docs.proofs.Common.{Doc, IsCurrent, LanguageData}

-- ---- the kinds of significant tokens

one_more : (marked skipped : Bool) (x : Token) (rest : List Token) (after : List Kind) → marked ≡ skipped → map kind_in rest ≡ after
    → map kind_in (cond (not marked) (x ∷ rest) rest) ≡ cond (not skipped) (kind_in x ∷ after) after
one_more true true x rest after e f = f
one_more false false x rest after e f = ap (λ ks. kind_in x ∷ ks) f
one_more marked skipped x rest after e f = absurd (let g : ⊥ = cc in g)

kinds_same : (skips : List Bool) (items : List Token) → AllByRecursion (λ x. x.skipped ≡ is_skipped skips (kind_in x)) items → significant_kinds items ≡ kinds skips (map plain items)
kinds_same skips [] all = refl
kinds_same skips (x ∷ items) all = one_more x.skipped (is_skipped skips (kind_in x)) x (filter is_significant items) (kinds skips (map plain items)) all.0 (kinds_same skips items all.1)

kinds_are : (l : LanguageData) (d : Doc) → IsCurrent l d → significant_kinds d.tokens.items ≡ kinds l.file.skips (map plain d.tokens.items)
kinds_are l d current = kinds_same l.file.skips d.tokens.items (recursion_from_All _ d.tokens.items current.tokens.marked)

-- ---- a reading

-- the trees of the document's kinds, by the grammar of its tables
abbrev pub AreTreesOf : LanguageData → Doc → List Tree → Type 0
AreTreesOf l d trees = AreDocumentTrees l.tables.grammar (significant_kinds d.tokens.items) (verdict_in d.store d.parse.verdict) trees

abbrev pub reading_of : Doc → List Tree → Reading
reading_of d trees = record { tokens = map plain d.tokens.items; verdict = verdict_in d.store d.parse.verdict; trees = trees }

pub is_reading : (l : LanguageData) (d : Doc) (trees : List Tree) → IsCurrent l d → AreTreesOf l d trees → IsReading l.file d.text (reading_of d trees)
is_reading l d trees current are =
    let v = verdict_in d.store d.parse.verdict in
    let same = kinds_are l d current in
    record {
      tokens = current.tokens.tokens;
      verdict = subst (λ ks. IsVerdict l.file.grammar ks v) same (subst (λ (g : Grammar). IsVerdict g (significant_kinds d.tokens.items) v) current.grammar current.parse.stop.verdict);
      trees = subst (λ ks. AreDocumentTrees l.file.grammar ks v trees) same (subst (λ (g : Grammar). AreDocumentTrees g (significant_kinds d.tokens.items) v trees) current.grammar are);
    }

-- the trees that the parse found
abbrev pub stacked_trees : (l : LanguageData) (d : Doc) → IsCurrent l d → List Tree
stacked_trees l d current = current.parse.stop.stack.trees

pub stacked_reading : (l : LanguageData) (d : Doc) (current : IsCurrent l d) → IsReading l.file d.text (reading_of d (stacked_trees l d current))
stacked_reading l d current = is_reading l d (stacked_trees l d current) current current.parse.stop.stack.are

-- ---- what is reported

pub rows_shown : (encoding : Encoding) (l : LanguageData) (d : Doc) (file : FileGrammar) (reported : List (List ℕ × Range)) → IsCurrent l d → file ≡ l.file
    → reported ≡ rows encoding file d.text (map plain d.tokens.items) → Reads l.file d.text (λ reading. reported ≡ rows encoding l.file d.text reading.tokens)
rows_shown encoding l d file reported current same e =
    (reading_of d (stacked_trees l d current), stacked_reading l d current, e ∙ ap (λ (f : FileGrammar). rows encoding f d.text (map plain d.tokens.items)) same)

pub verdict_shown : (l : LanguageData) (d : Doc) (reported : Option (List ℕ)) → IsCurrent l d → reported ≡ written_tree l.file (verdict_in d.store d.parse.verdict)
    → Reads l.file d.text (λ reading. reported ≡ written_tree l.file reading.verdict)
verdict_shown l d reported current e = (reading_of d (stacked_trees l d current), stacked_reading l d current, e)

-- ---- what is reported of nodes

-- what stands on the stack has the nodes of the document's trees
pub record HasTheNodes (l : LanguageData) (d : Doc) : Type 0 where
  pub trees : List Tree
  pub are : AreTreesOf l d trees
  pub nodes : (n : Node) → IsNodeOf l.tables.grammar (plain_of d.store d.parse.stack) n ↔ IsNodeOf l.tables.grammar trees n
  pub few : length (all_kinds (plain_of d.store d.parse.stack)) ≤ length (significant_kinds d.tokens.items)

-- the law of `parser` on stacks
abbrev pub StacksHaveNodes : Type 0
StacksHaveNodes = (g : Grammar) (x : List Kind) (v : Answered) (stack : List Tree) → IsVerdict g x v → AreStacked g x v stack
    → (trees : List Tree) × AreDocumentTrees g x v trees × ((n : Node) → IsNodeOf g stack n ↔ IsNodeOf g trees n) × (length (all_kinds stack) ≤ length x)

pub has_the_nodes : StacksHaveNodes → (l : LanguageData) (d : Doc) → IsCurrent l d → HasTheNodes l d
has_the_nodes law l d current =
    let parse = current.parse in
    let h = law l.tables.grammar (significant_kinds d.tokens.items) (verdict_in d.store d.parse.verdict) (plain_of d.store d.parse.stack) parse.stop.verdict parse.stop.stack in
    record { trees = h.0; are = h.1; nodes = h.2; few = h.3 }

-- so it can be walked
pub are_roots : (l : LanguageData) (d : Doc) → IsCurrent l d → HasTheNodes l d → AreRootsOf l.file d.store (map plain d.tokens.items) d.parse.stack
are_roots l d current has = record {
  below = current.parse.stop.below;
  symbols = current.parse.stop.roots;
  are_trees = subst (λ (g : Grammar). HaveRoots g (trees_of_roots d.store d.parse.stack) current.parse.stop.roots) current.grammar current.parse.stop.are_roots;
  covered = subst (λ ks. length (all_kinds (trees_of_roots d.store d.parse.stack)) ≤ length ks) (kinds_are l d current) has.few;
}

-- equal nodes have equal folds, and equal selections
module _ (t : List ℕ) (tokens : List Placed) (P Q : Node → Type 0) (same : (n : Node) → P n ↔ Q n) where
  folds_by : (folds : List Bool) (pairs : List (ℕ × ℕ)) → AreFolds t tokens folds P pairs → AreFolds t tokens folds Q pairs
  folds_by folds pairs h = record {
    ascending = h.ascending;
    only = λ p c. let n = h.only p c in (n.0, (same n.0).0 n.1, n.2, n.3);
    all = λ n p is. h.all n p ((same n).1 is);
  }

  selection_by : (o : ℕ) (spans : List (ℕ × ℕ)) → IsSelection t tokens P o spans → IsSelection t tokens Q o spans
  selection_by o spans h = (
    h.0,
    record {
      nested = h.1.nested;
      only = λ r c. let n = h.1.only r c in (n.0, n.1, (same n.1).0 n.2, n.3, n.4);
      all = λ n is. h.1.all n ((same n).1 is);
    },
    h.2,
  )

node_same : (l : LanguageData) (d : Doc) → IsCurrent l d → (has : HasTheNodes l d) → (n : Node)
    → IsNodeOf l.file.grammar (trees_of_roots d.store d.parse.stack) n ↔ IsNodeOf l.file.grammar has.trees n
node_same l d current has n = subst (λ (g : Grammar). IsNodeOf g (plain_of d.store d.parse.stack) n ↔ IsNodeOf g has.trees n) current.grammar (has.nodes n)

-- what walks ask for, of a grammar file and a stack that are those of the language and the document
pub roots_found : (l : LanguageData) (d : Doc) (file : FileGrammar) (roots : List Child) → IsCurrent l d → HasTheNodes l d → file ≡ l.file
    → roots ≡ d.parse.stack → AreRootsOf file d.store (map plain d.tokens.items) roots
roots_found l d file roots current has same stack =
    subst (λ (f : FileGrammar). AreRootsOf f d.store (map plain d.tokens.items) roots) (sym same)
    (subst (λ (cs : List Child). AreRootsOf l.file d.store (map plain d.tokens.items) cs) (sym stack) (are_roots l d current has))

-- and what they report
pub folds_shown : (l : LanguageData) (d : Doc) (file : FileGrammar) (roots : List Child) (pairs : List (ℕ × ℕ)) → IsCurrent l d → HasTheNodes l d → file ≡ l.file
    → roots ≡ d.parse.stack → AreFoldsOf file d.text (map plain d.tokens.items) (trees_of_roots d.store roots) pairs
    → Reads l.file d.text (λ reading. AreFoldsOf l.file d.text reading.tokens reading.trees pairs)
folds_shown l d file roots pairs current has same stack are =
    let here : AreFoldsOf l.file d.text (map plain d.tokens.items) (trees_of_roots d.store d.parse.stack) pairs =
    subst (λ (f : FileGrammar). AreFoldsOf f d.text (map plain d.tokens.items) (trees_of_roots d.store d.parse.stack) pairs) same
    (subst (λ (cs : List Child). AreFoldsOf file d.text (map plain d.tokens.items) (trees_of_roots d.store cs) pairs) stack are) in
    (reading_of d has.trees, is_reading l d has.trees current has.are, folds_by d.text (placed_parts l.file (map plain d.tokens.items)) _ _ (node_same l d current has) l.file.folds pairs here)

pub selection_shown : (encoding : Encoding) (l : LanguageData) (d : Doc) (o : ℕ) (ranges : List Range) → IsCurrent l d → (has : HasTheNodes l d)
    → IsSelectionOf encoding l.file d.text (map plain d.tokens.items) (trees_of_roots d.store d.parse.stack) o ranges
    → IsSelectionOf encoding l.file d.text (map plain d.tokens.items) has.trees o ranges
selection_shown encoding l d o ranges current has is = (is.0, selection_by d.text (placed_parts l.file (map plain d.tokens.items)) _ _ (node_same l d current has) o is.0 is.1, is.2)

-- what a walk down the stack finds around a position
pub selection_answered : {E : Type 0} (encoding : Encoding) (l : LanguageData) (d : Doc) (roots : List Child) (result : Result (Vec Range Global) E) (at : ℕ) (position : Position)
    → IsCurrent l d → HasTheNodes l d → roots ≡ d.parse.stack → at ≡ offset encoding d.text position
    → (AreTokensOf (lexicon_of l.file) d.text d.tokens.items → AreRootsOf l.file d.store (map plain d.tokens.items) roots
    → IfOk result (λ ranges. IsSelectionOf encoding l.file d.text (map plain d.tokens.items) (trees_of_roots d.store roots) at ranges.items))
    → IfOk result (λ ranges. IsSelectionOf encoding l.file d.text (map plain d.tokens.items) (trees_of_roots d.store d.parse.stack) (offset encoding d.text position) ranges.items)
selection_answered encoding l d roots result at position current has stack same found =
    let is = found current.tokens (roots_found l d l.file roots current has refl stack) in
    IfOk-weaker result _ _ (λ ranges reported. subst (λ (o : ℕ). IsSelectionOf encoding l.file d.text (map plain d.tokens.items) (trees_of_roots d.store d.parse.stack) o ranges.items) same
    (subst (λ (cs : List Child). IsSelectionOf encoding l.file d.text (map plain d.tokens.items) (trees_of_roots d.store cs) at ranges.items) stack reported)) is

-- the selections around more and more positions
pub selections_more : (encoding : Encoding) (l : LanguageData) (t : List ℕ) (reading : Reading) (positions : List Position) (p : Position) (selections : List (List Range))
    (one : List Range) → AreSelections encoding l.file t reading positions selections → IsSelectionOf encoding l.file t reading.tokens reading.trees (offset encoding t p) one
    → AreSelections encoding l.file t reading (positions ++ (p ∷ [])) (selections ++ (one ∷ []))
selections_more encoding l t reading [] p selections one e is = (one, [], ap (λ (s : List (List Range)). s ++ (one ∷ [])) e, is, refl)
selections_more encoding l t reading (q ∷ positions) p selections one are is =
    (are.0, are.1 ++ (one ∷ []), ap (λ (s : List (List Range)). s ++ (one ∷ [])) are.2, are.3, selections_more encoding l t reading positions p are.1 one are.4 is)

selections_shown : (encoding : Encoding) (l : LanguageData) (d : Doc) (positions : List Position) (selections : List (List Range)) → IsCurrent l d → (has : HasTheNodes l d)
    → AreSelections encoding l.file d.text (reading_of d (trees_of_roots d.store d.parse.stack)) positions selections
    → AreSelections encoding l.file d.text (reading_of d has.trees) positions selections
selections_shown encoding l d [] selections current has e = e
selections_shown encoding l d (p ∷ positions) selections current has are =
    (are.0, are.1, are.2, selection_shown encoding l d (offset encoding d.text p) are.0 current has are.3, selections_shown encoding l d positions are.1 current has are.4)

pub selections_read : (encoding : Encoding) (l : LanguageData) (d : Doc) (positions : List Position) (selections : List (List Range)) → IsCurrent l d → HasTheNodes l d
    → AreSelections encoding l.file d.text (reading_of d (trees_of_roots d.store d.parse.stack)) positions selections
    → Reads l.file d.text (λ reading. AreSelections encoding l.file d.text reading positions selections)
selections_read encoding l d positions selections current has are =
    (reading_of d has.trees, is_reading l d has.trees current has.are, selections_shown encoding l d positions selections current has are)

-- ---- the fault

-- what is reported of the fault, by a grammar file and tables that are those of the language
pub fault_shown : (encoding : Encoding) (l : LanguageData) (d : Doc) (file : FileGrammar) (tables : Sets) (reported : Option Stored) → IsCurrent l d → file ≡ l.file → tables ≡ l.tables
    → ((cells : List Cell) → IsParseOf tables (significant_kinds d.tokens.items) cells d.parse → IsDiagnosis encoding file d.text
    (map plain d.tokens.items) (verdict_in cells d.parse.verdict) (option_map fault_of reported))
    → IsReported reported (option_map fault_of reported)
    → Reads l.file d.text (λ reading. (fault : Option Fault) × IsDiagnosis encoding l.file d.text reading.tokens reading.verdict fault × IsReported reported fault)
fault_shown encoding l d file tables reported current same by_tables is bytes =
    let fault = option_map fault_of reported in
    let v = verdict_in d.store d.parse.verdict in
    let parse : IsParseOf tables (significant_kinds d.tokens.items) d.store d.parse =
    subst (λ (t : Sets). IsParseOf t (significant_kinds d.tokens.items) d.store d.parse) (sym by_tables) current.parse in
    let here : IsDiagnosis encoding l.file d.text (map plain d.tokens.items) v fault =
    subst (λ (f : FileGrammar). IsDiagnosis encoding f d.text (map plain d.tokens.items) v fault) same (is d.store parse) in
    (reading_of d (stacked_trees l d current), stacked_reading l d current, (fault, here, bytes))

-- where no fault is reported, there is a tree
pub no_fault : (encoding : Encoding) (file : FileGrammar) (t : List ℕ) (items : List Token) (cells : List Cell) (v : Verdict)
    → IsDiagnosis encoding file t (map plain items) (verdict_in cells v) None → (root : NodeId) × (v ≡ TreeAt root)
no_fault encoding file t items cells (TreeAt root) is = (root, refl)
no_fault encoding file t items cells d is = absurd (let e = is.3 in let f : ⊥ = cc e in f)

pub tree_there : (encoding : Encoding) (l : LanguageData) (d : Doc) (file : FileGrammar) (tables : Sets) (reported : Option Stored) → IsCurrent l d → tables ≡ l.tables
    → ((cells : List Cell) → IsParseOf tables (significant_kinds d.tokens.items) cells d.parse → IsDiagnosis encoding file d.text
    (map plain d.tokens.items) (verdict_in cells d.parse.verdict) (option_map fault_of reported))
    → reported ≡ None → (root : NodeId) × (d.parse.verdict ≡ TreeAt root)
tree_there encoding l d file tables reported current by_tables is none =
    let parse : IsParseOf tables (significant_kinds d.tokens.items) d.store d.parse =
    subst (λ (t : Sets). IsParseOf t (significant_kinds d.tokens.items) d.store d.parse) (sym by_tables) current.parse in
    no_fault encoding file d.text d.tokens.items d.store d.parse.verdict
    (subst (λ (o : Option Stored). IsDiagnosis encoding file d.text (map plain d.tokens.items) (verdict_in d.store d.parse.verdict) (option_map fault_of o)) none (is d.store parse))

-- ---- what a text comes to

pub tree_outcome : (l : LanguageData) (d : Doc) (root : NodeId) (file : FileGrammar) (reported : List ℕ) → IsCurrent l d → d.parse.verdict ≡ TreeAt root
    → file ≡ l.file → reported ≡ encode_utf8_all (text_of file (plain_tree (tree d.store (NodeChild root)))) → Reads l.file d.text (λ reading. Some reported ≡ written_tree l.file reading.verdict)
tree_outcome l d root file reported current is same bytes =
    let t = plain_tree (tree d.store (NodeChild root)) in
    let here : reported ≡ encode_utf8_all (text_of l.file t) = bytes ∙ ap (λ (f : FileGrammar). encode_utf8_all (text_of f t)) same in
    verdict_shown l d (Some reported) current (ap (λ b. Some b) here ∙ ap (λ v. written_tree l.file (verdict_in d.store v)) (sym is))

pub no_tree_shown : (l : LanguageData) (d : Doc) (v : Verdict) → IsCurrent l d → ((k : ℕ) × (v ≡ FaultAt k)) ⊎ (v ≡ FaultAtEnd)
    → v ≡ d.parse.verdict → Reads l.file d.text (λ reading. None ≡ written_tree l.file reading.verdict)
no_tree_shown l d v current (inl at) same = verdict_shown l d None current (ap (λ w. written_tree l.file (verdict_in d.store w)) (sym at.1 ∙ same))
no_tree_shown l d v current (inr at_end) same = verdict_shown l d None current (ap (λ w. written_tree l.file (verdict_in d.store w)) (sym at_end ∙ same))
