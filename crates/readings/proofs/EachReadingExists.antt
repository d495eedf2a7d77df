-- Each text that fits has a reading, and each reading an answer to each question.
use Rattle.readings.proofs.Std.{◌≡◌, ℕ, zero, suc, ◌+◌, true, List, [], ◌∷◌, take, refl, subst, arith, Option, None}
use Rattle.readings.proofs.Common.{Kind, Position, Range, Encoding, Diagnostic, AreDocumentTrees, IsVerdict, IsViable, Verdict, HasTree, FaultAt, FaultAtEnd, offset, Token, kinds, Tree, FileGrammar, IsDiagnosis, IsFaultAfter, fits, Reading, IsReading, AreSelections, AlwaysAnswers, LayersAnswer}
use Rattle.readings.proofs.Texts.{is_text}
use Rattle.readings.proofs.Trees.{document_rooted}

viable_prefix : (file : FileGrammar) → LayersAnswer file → (x : List Kind) (k : ℕ) → IsVerdict file.grammar x (FaultAt k) → IsViable file.grammar (take k x)
viable_prefix file always x zero is = subst (λ y. IsViable file.grammar y) (nothing x) always.begins
  where
    nothing : (y : List Kind) → [] ≡ take 0 y
    nothing y = refl
viable_prefix file always x (suc k) is =
    let next : k + 1 ≡ suc k = omega arith in
    subst (λ n. IsViable file.grammar (take n x)) next (is.2 k (omega arith))

some_trees : (file : FileGrammar) → LayersAnswer file → (x : List Kind) (v : Verdict) → IsVerdict file.grammar x v → (trees : List Tree) × AreDocumentTrees file.grammar x v trees
some_trees file always x (HasTree t) is = (t ∷ [], refl)
some_trees file always x (FaultAt k) is = always.settled (take k x) (viable_prefix file always x k is)
some_trees file always x FaultAtEnd is = always.settled x is.1

pub some_reading : (file : FileGrammar) → LayersAnswer file → (t : List ℕ) → fits t ≡ true → (reading : Reading) × IsReading file t reading
some_reading file always t fit =
    let tokens = always.tokens t (is_text t fit) in
    let verdict = always.verdicts (kinds file.skips tokens.0) in
    let trees = some_trees file always (kinds file.skips tokens.0) verdict.0 verdict.1 in
    (record { tokens = tokens.0; verdict = verdict.0; trees = trees.0 }, record { tokens = tokens.1; verdict = verdict.1; trees = trees.1 })

fault_after : (encoding : Encoding) (file : FileGrammar) → LayersAnswer file → (t : List ℕ) (tokens : List Token) (x : List Kind)
    → IsViable file.grammar x → (fault : Option Diagnostic) × IsFaultAfter encoding file t tokens x fault
fault_after encoding file always t tokens x viable = let next = always.expected x viable in (_, (next.0, next.1, next.2, refl))

some_diagnosis : (encoding : Encoding) (file : FileGrammar) → LayersAnswer file → (t : List ℕ) (tokens : List Token) (v : Verdict)
    → IsVerdict file.grammar (kinds file.skips tokens) v → (fault : Option Diagnostic) × IsDiagnosis encoding file t tokens v fault
some_diagnosis encoding file always t tokens (HasTree tree) is = (None, refl)
some_diagnosis encoding file always t tokens (FaultAt k) is = fault_after encoding file always t tokens (take k (kinds file.skips tokens)) (viable_prefix file always (kinds file.skips tokens) k is)
some_diagnosis encoding file always t tokens FaultAtEnd is = fault_after encoding file always t tokens (kinds file.skips tokens) is.1

some_selections : (encoding : Encoding) (file : FileGrammar) → LayersAnswer file → (t : List ℕ) (reading : Reading) → IsReading file t reading → (positions : List Position)
    → (selections : List (List Range)) × AreSelections encoding file t reading positions selections
some_selections encoding file always t reading is [] = ([], refl)
some_selections encoding file always t reading is (p ∷ positions) =
    let rooted = document_rooted file.grammar (kinds file.skips reading.tokens) reading.verdict reading.trees is.verdict is.trees in
    let first = always.selections encoding t reading.tokens reading.trees rooted.0 is.tokens rooted.1 rooted.2 (offset encoding t p) in
    let others = some_selections encoding file always t reading is positions in
    (first.0 ∷ others.0, (first.0, others.0, refl, first.1, others.1))

pub always_answers : (file : FileGrammar) → LayersAnswer file → AlwaysAnswers file
always_answers file always = record {
  readings = some_reading file always;
  faults = λ encoding t r is. some_diagnosis encoding file always t r.tokens r.verdict is.verdict;
  folds = λ t r is. always.folds t r.tokens r.trees;
  selections = λ encoding t r is. some_selections encoding file always t r is;
}
