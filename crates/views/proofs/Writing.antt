-- The text of a tree, written from start to end.
use Rattle.views.proofs.Std.{flat_map, codes, slice_index, IsUtf8, refl, sym, ap, subst, ◌∙◌, ◌≡◌, ℕ, ◌<◌, List, [], ◌∷◌, ◌++◌, length, map, All, slice_index_or}
use Rattle.views.proofs.Std.{get_or-append_seam, append-nil, get_or_append_left, flat_map-cons, flat_map-map, All-nil, All-cons, All-append, chars-append, chars-nil, arith, append_assoc, length-append}
use Rattle.views.proofs.Common.{tree_texts, Stamped, StampedBranch, StampedForest, plain_all, FileGrammar, lefts, NodeId, Child, Cell, tree, tree_of, trees_from, forest_of, AreBelow, text_of, rest_text, IsBegun}
use Rattle.std.specs.Str.{chars}
use Rattle.definitions.specs.TreeEdits.{plain}
use Rattle.trees.specs.declared.store.Child.TheVariants.{Node}

-- the text of a child
abbrev pub child_text : FileGrammar → List Cell → Child → List ℕ
child_text f cells c = text_of f (plain (tree cells c))

-- the name of the nonterminal of a production
abbrev pub name : FileGrammar → ℕ → List ℕ
name f p = slice_index_or f.nonterminals (slice_index (lefts f) p) []

texts-forest : (f : FileGrammar) (ts : List Stamped) (cs : List Child) → tree_texts f.names f.nonterminals (lefts f) (plain_all (forest_of ts cs)) ≡ map (λ c. text_of f (plain (tree_of ts c))) cs
texts-forest f ts [] = refl
texts-forest f ts (c ∷ cs) = ap (λ r. text_of f (plain (tree_of ts c)) ∷ r) (texts-forest f ts cs)

-- the text of a node is its beginning and what is left before its children
pub text-node : (f : FileGrammar) (cells : List Cell) (s : Stamped) (p born : ℕ) (cs : List Child) → s ≡ StampedBranch p born (forest_of (trees_from [] cells) cs)
    → text_of f (plain s) ≡ codes "(" ++ name f p ++ rest_text f cells cs
text-node f cells s p born cs e =
    let ts = trees_from [] cells in
    let texts : flat_map (λ c. codes " " ++ c) (tree_texts f.names f.nonterminals (lefts f) (plain_all (forest_of ts cs))) ≡ flat_map (λ c. codes " " ++ child_text f cells c) cs =
    ap (flat_map (λ c. codes " " ++ c)) (texts-forest f ts cs) ∙ flat_map-map (λ c. codes " " ++ c) (child_text f cells) cs in
    ap (λ t. text_of f (plain t)) e
    ∙ ap (λ x. codes "(" ++ name f p ++ x ++ codes ")") texts
    ∙ append_assoc (codes "(" ++ name f p) (flat_map (λ c. codes " " ++ child_text f cells c) cs) (codes ")")

rest-cons : (f : FileGrammar) (cells : List Cell) (c : Child) (cs : List Child) → rest_text f cells (c ∷ cs) ≡ codes " " ++ (child_text f cells c ++ rest_text f cells cs)
rest-cons f cells c cs =
    ap (λ x. x ++ codes ")") (flat_map-cons (λ d. codes " " ++ child_text f cells d) c cs)
    ∙ append_assoc (codes " " ++ child_text f cells c) (flat_map (λ d. codes " " ++ child_text f cells d) cs) (codes ")")

-- what is left of the text of all nodes that are open, the last one first
abbrev pub pending : FileGrammar → List Cell → List (List Child) → List ℕ
pending f cells [] = []
pending f cells (s ∷ stack) = pending f cells stack ++ rest_text f cells s

pub pending-push : (f : FileGrammar) (cells : List Cell) (stack : List (List Child)) (s : List Child) → pending f cells (stack ++ s ∷ []) ≡ rest_text f cells s ++ pending f cells stack
pending-push f cells [] s = sym (append-nil (rest_text f cells s))
pending-push f cells (r ∷ stack) s =
    ap (λ x. x ++ rest_text f cells r) (pending-push f cells stack s) ∙ append_assoc (rest_text f cells s) (pending f cells stack) (rest_text f cells r)

-- the production of a node, written twice
same_production : (s : Stamped) (p q b d : ℕ) (us vs : StampedForest) → s ≡ StampedBranch p b us → s ≡ StampedBranch q d vs → q ≡ p
same_production s p q b d us vs e h = cc

-- a parenthesis and the name are the beginning of a node's text
pub begun : (f : FileGrammar) (cells : List Cell) (id : NodeId) (old middle new n : List ℕ) (p : ℕ) (cs : List Child)
    → (born : ℕ) × (below : StampedForest) × (tree cells (Node id) ≡ StampedBranch p born below)
    → (q born : ℕ) × (tree cells (Node id) ≡ StampedBranch q born (forest_of (trees_from [] cells) cs))
    → IsUtf8 old → IsUtf8 middle → middle ≡ old ++ codes "(" → new ≡ middle ++ n → chars n ≡ name f p → AreBelow (length cells) cs
    → IsBegun f cells id old new cs
unfolding chars
begun f cells id old middle new n p cs made over u v e g named below =
    let same : over.0 ≡ p = same_production (tree cells (Node id)) p over.0 made.0 over.1 made.1 (forest_of (trees_from [] cells) cs) made.2 over.2 in
    record {
      prefix = codes "(" ++ name f p;
      written = ap chars g ∙ chars-append middle n v ∙ ap (λ x. x ++ chars n) (ap chars e ∙ chars-append old (codes "(") u)
          ∙ append_assoc (chars old) (codes "(") (chars n) ∙ ap (λ x. chars old ++ (codes "(" ++ x)) named;
      rest = ap (λ k. codes "(" ++ name f k ++ rest_text f cells cs) (sym same) ∙ sym (text-node f cells (tree cells (Node id)) over.0 over.1 cs over.2);
      below = below;
    }

-- these bytes are written, and what the open nodes leave is the rest of the text
pub record IsWriting (f : FileGrammar) (cells : List Cell) (all bytes : List ℕ) (stack : List (List Child)) : Type 0 where
  pub below : All (λ s. AreBelow (length cells) s) stack
  pub whole : chars bytes ++ pending f cells stack ≡ all

abbrev Below : List Cell → List Child → Type 0
Below cells s = AreBelow (length cells) s

below-push : (cells : List Cell) (stack : List (List Child)) (s : List Child) → All (Below cells) stack → Below cells s → All (Below cells) (stack ++ s ∷ [])
below-push cells stack s h k = All-append (Below cells) stack (s ∷ []) h (All-cons (Below cells) s [] k (All-nil (Below cells)))

pub writing_begun : (f : FileGrammar) (cells : List Cell) (id : NodeId) (old new : List ℕ) (s : List Child) → old ≡ [] → IsBegun f cells id old new s
    → IsWriting f cells (text_of f (plain (tree cells (Node id)))) new (s ∷ [])
writing_begun f cells id old new s e b = record {
  below = below-push cells [] s (All-nil (Below cells)) b.below;
  whole = ap (λ x. x ++ rest_text f cells s) (b.written ∙ ap (λ x. x ++ b.prefix) (ap chars e ∙ chars-nil)) ∙ b.rest;
}

-- where no node is open, they are the text
pub written : (f : FileGrammar) (cells : List Cell) (all bytes : List ℕ) (stack : List (List Child)) → length stack ≡ 0 → IsWriting f cells all bytes stack → chars bytes ≡ all
written f cells all bytes [] e w = sym (append-nil (chars bytes)) ∙ w.whole
written f cells all bytes (s ∷ stack) e w = absurd (omega (arith, e))

-- the last open node
module _ (f : FileGrammar) (cells : List Cell) (all bytes : List ℕ) (stack : List (List Child)) (s : List Child) (w : IsWriting f cells all bytes (stack ++ s ∷ [])) where
  here : Below cells s
  here = subst (Below cells) (get_or-append_seam stack s [] s) (w.below (length stack) s (omega (arith, length-append stack (s ∷ []))))

  others : All (Below cells) stack
  others = λ k d l. subst (Below cells) (get_or_append_left stack (s ∷ []) d k l) (w.below k d (omega (arith, l, length-append stack (s ∷ []))))

  left : chars bytes ++ (rest_text f cells s ++ pending f cells stack) ≡ all
  left = ap (λ x. chars bytes ++ x) (sym (pending-push f cells stack s)) ∙ w.whole

  -- has no more children
  pub writing_closed : (new : List ℕ) → IsUtf8 bytes → s ≡ [] → new ≡ bytes ++ codes ")" → IsWriting f cells all new stack
  unfolding chars
  writing_closed new u e n = record {
    below = others;
    whole = ap (λ x. chars x ++ pending f cells stack) n
        ∙ ap (λ x. x ++ pending f cells stack) (chars-append bytes (codes ")") u)
        ∙ append_assoc (chars bytes) (codes ")") (pending f cells stack)
        ∙ ap (λ cs. chars bytes ++ (rest_text f cells cs ++ pending f cells stack)) (sym e)
        ∙ left;
  }

  pub smaller_closed : s ≡ [] → length (pending f cells stack) < length (pending f cells (stack ++ s ∷ []))
  smaller_closed e =
      let long = ap length (pending-push f cells stack s ∙ ap (λ cs. rest_text f cells cs ++ pending f cells stack) e) in
      omega (arith, long)

  -- has another child
  module _ (c : Child) (r : List Child) (e : s ≡ c ∷ r) where
    next : rest_text f cells s ++ pending f cells stack ≡ codes " " ++ (child_text f cells c ++ pending f cells (stack ++ r ∷ []))
    next =
        ap (λ cs. rest_text f cells cs ++ pending f cells stack) e
        ∙ ap (λ x. x ++ pending f cells stack) (rest-cons f cells c r)
        ∙ ap (λ x. codes " " ++ x) (append_assoc (child_text f cells c) (rest_text f cells r) (pending f cells stack))
        ∙ ap (λ x. codes " " ++ (child_text f cells c ++ x)) (sym (pending-push f cells stack r))

    parts : AreBelow (length cells) (c ∷ r)
    parts = subst (AreBelow (length cells)) e here

    pub rest_below : All (Below cells) (stack ++ r ∷ [])
    rest_below = below-push cells stack r others parts.1

    pub smaller_token : length (pending f cells (stack ++ r ∷ [])) < length (pending f cells (stack ++ s ∷ []))
    smaller_token =
        let long = ap length (pending-push f cells stack s ∙ next) in
        omega (arith, long, length-append (child_text f cells c) (pending f cells (stack ++ r ∷ [])))

    module _ (spaced : List ℕ) (u : IsUtf8 bytes) (g : spaced ≡ bytes ++ codes " ") where
      spaced_left : chars spaced ++ (child_text f cells c ++ pending f cells (stack ++ r ∷ [])) ≡ all
      unfolding chars
      spaced_left =
          ap (λ x. x ++ (child_text f cells c ++ pending f cells (stack ++ r ∷ []))) (ap chars g ∙ chars-append bytes (codes " ") u)
          ∙ append_assoc (chars bytes) (codes " ") (child_text f cells c ++ pending f cells (stack ++ r ∷ []))
          ∙ ap (λ x. chars bytes ++ x) (sym next)
          ∙ left

      pub writing_token : (new n : List ℕ) → IsUtf8 spaced → new ≡ spaced ++ n → chars n ≡ child_text f cells c → IsWriting f cells all new (stack ++ r ∷ [])
      writing_token new n v h named = record {
        below = rest_below;
        whole = ap (λ x. x ++ pending f cells (stack ++ r ∷ [])) (ap chars h ∙ chars-append spaced n v ∙ ap (λ x. chars spaced ++ x) named)
            ∙ append_assoc (chars spaced) (child_text f cells c) (pending f cells (stack ++ r ∷ []))
            ∙ spaced_left;
      }

      pub writing_node : (id : NodeId) (new : List ℕ) (d : List Child) → c ≡ Node id → IsBegun f cells id spaced new d → IsWriting f cells all new (stack ++ r ∷ [] ++ d ∷ [])
      writing_node id new d is b = record {
        below = below-push cells (stack ++ r ∷ []) d rest_below b.below;
        whole = ap (λ x. chars new ++ x) (pending-push f cells (stack ++ r ∷ []) d)
            ∙ ap (λ x. x ++ (rest_text f cells d ++ pending f cells (stack ++ r ∷ []))) b.written
            ∙ append_assoc (chars spaced) b.prefix (rest_text f cells d ++ pending f cells (stack ++ r ∷ []))
            ∙ ap (λ x. chars spaced ++ x) (sym (append_assoc b.prefix (rest_text f cells d) (pending f cells (stack ++ r ∷ [])))
            ∙ ap (λ x. x ++ pending f cells (stack ++ r ∷ [])) (b.rest ∙ ap (child_text f cells) (sym is)))
            ∙ spaced_left;
      }

      pub smaller_node : (id : NodeId) (new : List ℕ) (d : List Child) → c ≡ Node id → IsBegun f cells id spaced new d
          → length (pending f cells (stack ++ r ∷ [] ++ d ∷ [])) < length (pending f cells (stack ++ s ∷ []))
      smaller_node id new d is b =
          let long = ap length (pending-push f cells stack s ∙ next) in
          let one = ap length (pending-push f cells (stack ++ r ∷ []) d) in
          let node = ap length (b.rest ∙ ap (child_text f cells) (sym is)) in
          omega (
            arith,
            long,
            one,
            node,
            length-append b.prefix (rest_text f cells d),
            length-append (rest_text f cells d) (pending f cells (stack ++ r ∷ [])),
            length-append (child_text f cells c) (pending f cells (stack ++ r ∷ [])),
          )
