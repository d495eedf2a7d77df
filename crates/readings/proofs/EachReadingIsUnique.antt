-- A text has one reading by a grammar file, and a reading has one answer to each question.
use Rattle.readings.proofs.Std.{◌≡◌, ℕ, Bool, List, [], ◌∷◌, sym, ap, subst, ◌∙◌, reverse, map, length, Option, Some}
use Rattle.readings.proofs.Common.{Kind, Position, Range, Encoding, Expression, AreFolds, Diagnostic, IsSelection, diagnostic, range_of, AreDocumentTrees, IsNodeOf, HasNoConflict, IsExpected, IsVerdict, Verdict, HasTree, offset, AreTokens, Placed, Token, kinds, Grammar, Tree}
use Rattle.readings.proofs.Common.{FileGrammar, AreFoldsOf, IsSelectionOf, placed_parts, IsDiagnosis, IsFaultAfter, looks, Reading, IsReading, AreSelections, AnswersOnce}

-- of each thing that an answer is made of there is one
pub record Unique : Type 0 where
  pub tokens : (rules : List Expression) (t : List ℕ) (xs ys : List Token) → AreTokens rules t xs → AreTokens rules t ys → xs ≡ ys
  pub verdicts : (g : Grammar) → HasNoConflict g → (x : List Kind) (v w : Verdict) → IsVerdict g x v → IsVerdict g x w → v ≡ w
  pub trees : (g : Grammar) → HasNoConflict g → (x : List Kind) (v w : Verdict) (one two : List Tree) → IsVerdict g x v
      → IsVerdict g x w → AreDocumentTrees g x v one → AreDocumentTrees g x w two → one ≡ two
  pub rules : (g : Grammar) (x : List Kind) (r s : List ℕ) (a b : Bool) → IsExpected g x r a → IsExpected g x s b → r ≡ s
  pub ends : (g : Grammar) (x : List Kind) (r s : List ℕ) (a b : Bool) → IsExpected g x r a → IsExpected g x s b → a ≡ b
  pub folds : (g : Grammar) (trees : List Tree) (t : List ℕ) (tokens : List Placed) (folds : List Bool) (one two : List (ℕ × ℕ))
      → AreFolds t tokens folds (IsNodeOf g trees) one → AreFolds t tokens folds (IsNodeOf g trees) two → one ≡ two
  pub selections : (g : Grammar) (trees : List Tree) (t : List ℕ) (tokens : List Placed) (o : ℕ) (one two : List (ℕ × ℕ))
      → IsSelection t tokens (IsNodeOf g trees) o one → IsSelection t tokens (IsNodeOf g trees) o two → one ≡ two

-- so there is one of each answer
module _ (unique : Unique) (file : FileGrammar) (free : HasNoConflict file.grammar) where
  one_reading : (t : List ℕ) (a b : Reading) → IsReading file t a → IsReading file t b → b ≡ a
  one_reading t a b ia ib =
      let tokens : b.tokens ≡ a.tokens = unique.tokens file.patterns t b.tokens a.tokens ib.tokens ia.tokens in
      let vb : IsVerdict file.grammar (kinds file.skips a.tokens) b.verdict = subst (λ xs. IsVerdict file.grammar (kinds file.skips xs) b.verdict) tokens ib.verdict in
      let tb : AreDocumentTrees file.grammar (kinds file.skips a.tokens) b.verdict b.trees = subst (λ xs. AreDocumentTrees file.grammar (kinds file.skips xs) b.verdict b.trees) tokens ib.trees in
      let verdict : b.verdict ≡ a.verdict = unique.verdicts file.grammar free (kinds file.skips a.tokens) b.verdict a.verdict vb ia.verdict in
      let trees : b.trees ≡ a.trees = unique.trees file.grammar free (kinds file.skips a.tokens) b.verdict a.verdict b.trees a.trees vb ia.verdict tb ia.trees in
      λ i. record { tokens = tokens i; verdict = verdict i; trees = trees i }

  one_selection : (encoding : Encoding) (t : List ℕ) (r : Reading) (o : ℕ) (one other : List Range) → IsSelectionOf encoding file t r.tokens r.trees o one
      → IsSelectionOf encoding file t r.tokens r.trees o other → other ≡ one
  one_selection encoding t r o one other a b =
      b.2 ∙ (ap (λ spans. reverse (map (range_of encoding t) spans)) (unique.selections file.grammar r.trees t (placed_parts file r.tokens) o b.0 a.0 b.1 a.1) ∙ sym a.2)

  one_list : (encoding : Encoding) (t : List ℕ) (r : Reading) (positions : List Position) (one other : List (List Range))
      → AreSelections encoding file t r positions one → AreSelections encoding file t r positions other → other ≡ one
  one_list encoding t r [] one other a b = b ∙ sym a
  one_list encoding t r (p ∷ positions) one other a b =
      let first : b.0 ≡ a.0 = one_selection encoding t r (offset encoding t p) a.0 b.0 a.3 b.3 in
      let others : b.1 ≡ a.1 = one_list encoding t r positions a.1 b.1 a.4 b.4 in
      b.2 ∙ (ap (λ f. f ∷ b.1) first ∙ (ap (λ fs. a.0 ∷ fs) others ∙ sym a.2))

  one_after : (encoding : Encoding) (t : List ℕ) (tokens : List Token) (x : List Kind) (one other : Option Diagnostic)
      → IsFaultAfter encoding file t tokens x one → IsFaultAfter encoding file t tokens x other → other ≡ one
  one_after encoding t tokens x one other a b =
      let reported : List ℕ → Bool → Option Diagnostic = λ rules at_end. Some (diagnostic encoding file.names t (placed_parts file tokens) (length x) (looks rules at_end)) in
      let rules : b.0 ≡ a.0 = unique.rules file.grammar x b.0 a.0 b.1 a.1 b.2 a.2 in
      let ends : b.1 ≡ a.1 = unique.ends file.grammar x b.0 a.0 b.1 a.1 b.2 a.2 in
      b.3 ∙ (ap (λ rs. reported rs b.1) rules ∙ (ap (λ e. reported a.0 e) ends ∙ sym a.3))

  one_diagnosis : (encoding : Encoding) (t : List ℕ) (tokens : List Token) (v : Verdict) (one other : Option Diagnostic)
      → IsDiagnosis encoding file t tokens v one → IsDiagnosis encoding file t tokens v other → other ≡ one
  one_diagnosis encoding t tokens (HasTree tree) one other a b = b ∙ sym a
  one_diagnosis encoding t tokens d one other a b = one_after encoding t tokens _ one other a b

  one_folds : (t : List ℕ) (r : Reading) (one other : List (ℕ × ℕ)) → AreFoldsOf file t r.tokens r.trees one → AreFoldsOf file t r.tokens r.trees other → other ≡ one
  one_folds t r one other a b = unique.folds file.grammar r.trees t (placed_parts file r.tokens) file.folds other one b a

  pub answers_once : AnswersOnce file
  answers_once = record { readings = one_reading; faults = λ encoding t r. one_diagnosis encoding t r.tokens r.verdict; folds = one_folds; selections = one_list }
