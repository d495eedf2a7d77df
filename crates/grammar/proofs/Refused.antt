-- A text with a fault is no grammar's file.
use Rattle.grammar.proofs.Std.{◌≡◌, inl, inr, ℕ, List, [], ◌∷◌, ◌++◌, refl, ap, ◌∙◌, length, take, arith, subst, Option, Some, None, Result, Ok, Err, IfErr, slice_get, chars, slice_get_within, IfSome_then, both_ways}
use Rattle.grammar.proofs.Common.{PatternFault}
use Rattle.grammar.proofs.Common.{refused, GrammarFault, Statement, statements, Line, Rule, nonterminals, written_out, Cause, HasPattern, HasPatternFault, IsFaultless, IsLineFault, IsFileFault, too_large, first_line, line, no_start, reference, reference_fault, Reports}
use Rattle.grammar.proofs.Common.{IsFault, file_fault, unproductive, FileGrammar, IsGrammarOf}

met : {X : Type 0} (xs : List X) (y : X) (ys : List X) → slice_get (xs ++ y ∷ ys) (length xs) ≡ Some y
met [] y ys = refl
met (x ∷ xs) y ys = met xs y ys

prefix : {X : Type 0} (xs : List X) (y : X) (ys : List X) → take (length xs) (xs ++ y ∷ ys) ≡ xs
prefix [] y ys = refl
prefix (x ∷ xs) y ys = ap (λ zs. x ∷ zs) (prefix xs y ys)

either : (o : Option Cause) (c : Cause) → o ≡ Some c → o ≡ None → ⊥
either o c some none = cc

no_pattern_fault : (l : Line) (f : PatternFault) → HasPatternFault l f → HasPattern l → ⊥
no_pattern_fault (Rule skip name pattern) f fault has = refused (chars pattern) f fault has.0 has.1
no_pattern_fault d f fault has = fault

no_line_fault : (ss : List Statement) (l : Line) (c : Cause) → IsFaultless ss l → IsLineFault ss l c → ⊥
no_line_fault ss l c free (inl early) = either _ c early free.early
no_line_fault ss l c free (inr (inl h)) = no_pattern_fault l h.1.0 h.1.1 free.pattern
no_line_fault ss l c free (inr (inr h)) = either _ c h.2 free.late

module _ (text : List ℕ) (g : FileGrammar) (of : IsGrammarOf text g) where
  abbrev ss : List Statement
  ss = statements text

  faultless_at : (before after : List Statement) (s : Statement) → ss ≡ before ++ s ∷ after → IsFaultless before s.says
  faultless_at before after s split =
      let there : slice_get ss (length before) ≡ Some s = ap (λ xs. slice_get xs (length before)) split ∙ met before s after in
      let is : take (length before) ss ≡ before = ap (take (length before)) split ∙ prefix before s after in
      subst (λ (xs : List Statement). IsFaultless xs s.says) is (of.whole.faultless (length before) s there)

  referent_at : (before after : List Statement) (s : Statement) → ss ≡ before ++ s ∷ after → reference_fault ss s.says ≡ None
  referent_at before after s split = of.referents (length before) s (ap (λ xs. slice_get xs (length before)) split ∙ met before s after)

  no_file_fault : (n : ℕ) (c : Cause) → IsFileFault text n c → ⊥
  no_file_fault n c (too_large large) = omega (arith, large, of.whole.small)
  no_file_fault n c (first_line small none) = both_ways _ none of.whole.headed
  no_file_fault n c (line m d small headed h) =
      let (before, after, more) = h in
      let (s, split, is, free, fault) = more in
      no_line_fault before s.says d (faultless_at before after s split) fault
  no_file_fault n c (no_start small headed free none) = both_ways _ none of.whole.started
  no_file_fault n c (reference m d whole h) =
      let (before, after, more) = h in
      let (s, split, is, fine, fault) = more in
      either _ d fault (referent_at before after s split)

  no_fault : (n : ℕ) (c : Cause) → IsFault text n c → ⊥
  no_fault n c (file_fault m d h) = no_file_fault m d h
  no_fault n c (unproductive m k w whole refers first there at) = first.unproductive (of.productive k (slice_get_within (nonterminals (written_out ss)) k w there))

refused_text : (text : List ℕ) (n : ℕ) (c : Cause) → IsFault text n c → (g : FileGrammar) → IsGrammarOf text g → ⊥
refused_text text n c fault g of = no_fault text g of n c fault

-- the text that is refused for a cause is no grammar's file
pub no_file : (text : List ℕ) (r : Result FileGrammar GrammarFault) → IfErr r (λ f. Reports f (IsFault text)) → IfErr r (λ f. Reports f (λ _ _. (g : FileGrammar) → IsGrammarOf text g → ⊥))
no_file text (Ok g) shows = tt
no_file text (Err f) shows = IfSome_then _ shows (refused_text text f.line)
