use Rattle.views.proofs.Std.{◌≡◌, ◌++◌, ◌∷◌, [], List, ℕ, length, lit<, refl, sym, ap, ◌∙◌, ◌<◌, arith, string_bytes, encode_utf8_all, IsUtf8-string_bytes}
use Rattle.views.proofs.Common.{encodes-chars, NodeId, Child, Cell, tree, FileGrammar, text_of}
use Rattle.std.specs.Str.{chars}
use Rattle.definitions.specs.TreeEdits.{plain}
use Rattle.trees.specs.declared.store.Child.TheVariants.{Node}
use Rattle.views.proofs.Writing.{IsWriting, pending, writing_begun, writing_closed, writing_token, writing_node, smaller_closed, smaller_token, smaller_node, child_text, written}
use Rattle.views.proofs.tree.tree_text.Goals as goal
use Rattle.views.proofs.tree.tree_text.Goals.{In_ok-push-2, In_ok-push_str-in-Token, In_ok-push-in-Node}

-- the text of the tree of a node
abbrev whole_text : FileGrammar → List Cell → NodeId → List ℕ
whole_text f cells root = text_of f (plain (tree cells (Node root)))

-- what a turn of the loop does: less is left to write than was, and with what is written it is the text of the root
record Goes (f : FileGrammar) (cells : List Cell) (root : NodeId) (bytes : List ℕ) (before after : List (List Child)) : Type 0 where
  smaller : length (pending f cells after) < length (pending f cells before)
  preserved : IsWriting f cells (whole_text f cells root) bytes after

-- what holds of open nodes that are equal to these
goes : (f : FileGrammar) (cells : List Cell) (root : NodeId) (bytes : List ℕ) (before after old new : List (List Child)) → before ≡ old → after ≡ new
    → length (pending f cells new) < length (pending f cells old) → IsWriting f cells (whole_text f cells root) bytes new → Goes f cells root bytes before after
goes f cells root bytes before after old new was is less w = record { smaller = rw (was, is) less; preserved = rw is w }

-- the last open node has no more children, so it is closed
closed : (c : In_ok-push-2) → Goes c.args.grammar.now c.args.store.now c.args.root (string_bytes c.push-in_default-next.new.self) c.loop-children.open.items c.pop.new.self.items
closed c =
    let items : c.loop-children.open.items ≡ c.pop.new.self.items ++ c.in-Some.children ∷ [] = c.in-Some.ensures.items in
    let w = rw items at c.loop-children.invariant in
    let wrote = c.in_ok-push-2.ensures.bytes ∙ ap (λ x. string_bytes c.loop-children.text ++ x) (c.in_ok-push-2.ensures.ascii (lit< tt)) in
    goes _ _ _ _ _ _ _ _ items refl (smaller_closed _ _ _ _ c.pop.new.self.items c.in-Some.children w c.in_default-next.ensures.steps.0)
    (writing_closed _ _ _ _ c.pop.new.self.items c.in-Some.children w _ (IsUtf8-string_bytes c.loop-children.text) c.in_default-next.ensures.steps.0 wrote)

-- its next child is a token
token : (c : In_ok-push_str-in-Token) → Goes c.args.grammar.now c.args.store.now c.args.root (string_bytes c.push_str.new.self) c.loop-children.open.items c.push-in-Some.new.self.items
token c =
    let items : c.loop-children.open.items ≡ c.pop.new.self.items ++ c.in-Some.children ∷ [] = c.in-Some.ensures.items in
    let w = rw items at c.loop-children.invariant in
    let spaced = c.in_ok-push-4.ensures.bytes ∙ ap (λ x. string_bytes c.loop-children.text ++ x) (c.in_ok-push-4.ensures.ascii (lit< tt)) in
    let named = c.kind_name.ensures ∙ ap (child_text c.args.grammar.now c.args.store.now) (sym c.in-Token.is) in
    goes _ _ _ _ _ _ _ _ items c.in_ok-push-3.ensures.items (smaller_token _ _ _ _ c.pop.new.self.items c.in-Some.children w _ _ c.in-Some-next.ensures.steps)
    (writing_token _ _ _ _ c.pop.new.self.items c.in-Some.children w _ _ c.in-Some-next.ensures.steps (string_bytes c.push-in-Some-2.new.self)
    (IsUtf8-string_bytes c.loop-children.text) spaced _ _ (IsUtf8-string_bytes c.push-in-Some-2.new.self) c.in_ok-push_str-in-Token.ensures.bytes named)

-- its next child is a node, which is begun
node : (c : In_ok-push-in-Node) → Goes c.args.grammar.now c.args.store.now c.args.root (string_bytes c.begin-in-Node.new.text) c.loop-children.open.items c.push-in-Node.new.self.items
node c =
    let items : c.loop-children.open.items ≡ c.pop.new.self.items ++ c.in-Some.children ∷ [] = c.in-Some.ensures.items in
    let w = rw items at c.loop-children.invariant in
    let spaced = c.in_ok-push-4.ensures.bytes ∙ ap (λ x. string_bytes c.loop-children.text ++ x) (c.in_ok-push-4.ensures.ascii (lit< tt)) in
    let both = c.in_ok-push-in-Node.ensures.items ∙ ap (λ xs. xs ++ c.in_ok-begin-in-Node.field-0 ∷ []) c.in_ok-push-3.ensures.items in
    goes _ _ _ _ _ _ _ _ items both (smaller_node _ _ _ _ c.pop.new.self.items c.in-Some.children w _ _ c.in-Some-next.ensures.steps _
    (IsUtf8-string_bytes c.loop-children.text) spaced c.in-Node.id _ c.in_ok-begin-in-Node.field-0 c.in-Node.is c.in_ok-begin-in-Node.ensures)
    (writing_node _ _ _ _ c.pop.new.self.items c.in-Some.children w _ _ c.in-Some-next.ensures.steps _ (IsUtf8-string_bytes c.loop-children.text)
    spaced c.in-Node.id _ c.in_ok-begin-in-Node.field-0 c.in-Node.is c.in_ok-begin-in-Node.ensures)

pub loop-children-init : goal.loop-children-init
loop-children-init c =
    let items : c.push.new.self.items ≡ c.in_ok-begin.field-0 ∷ [] = c.in_ok-push.ensures.items ∙ ap (λ xs. xs ++ c.in_ok-begin.field-0 ∷ []) c.new-open.ensures.items in
    rw items (writing_begun c.args.grammar.now c.args.store.now c.args.root (string_bytes c.new-text.result)
    (string_bytes c.begin.new.text) c.in_ok-begin.field-0 c.new-text.ensures.bytes c.in_ok-begin.ensures)

pub loop-children-smaller-in_default-next : goal.loop-children-smaller-in_default-next
loop-children-smaller-in_default-next c = (closed c).smaller

pub loop-children-preserved-in_default-next : goal.loop-children-preserved-in_default-next
loop-children-preserved-in_default-next c = (closed c).preserved

pub loop-children-smaller-in_ok-push_str-in-Token : goal.loop-children-smaller-in_ok-push_str-in-Token
loop-children-smaller-in_ok-push_str-in-Token c = (token c).smaller

pub loop-children-preserved-in_ok-push_str-in-Token : goal.loop-children-preserved-in_ok-push_str-in-Token
loop-children-preserved-in_ok-push_str-in-Token c = (token c).preserved

pub loop-children-smaller : goal.loop-children-smaller
loop-children-smaller c = (node c).smaller

pub loop-children-preserved : goal.loop-children-preserved
loop-children-preserved c = (node c).preserved

whole : (c : goal.After-drop-open-2) → chars (string_bytes c.loop-children.text) ≡ whole_text c.args.grammar.now c.args.store.now c.args.root
whole c =
    let none : length c.loop-children.open.items ≡ 0 = omega (arith, c.in_default.ensures.cases, c.in_default.ensures.len) in
    written _ _ _ (string_bytes c.loop-children.text) c.loop-children.open.items none c.loop-children.invariant

pub returns-clause-text : goal.returns-clause-text
returns-clause-text c = whole c

pub returns-clause-bytes : goal.returns-clause-bytes
returns-clause-bytes c = sym (encodes-chars (string_bytes c.loop-children.text) (IsUtf8-string_bytes c.loop-children.text)) ∙ ap encode_utf8_all (whole c)
