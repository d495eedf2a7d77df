-- The grammar of a file without a fault.
use Rattle.grammar.proofs.Std.{slice_get_within, get_or_from_slice_get, flat_map, IfSome_then, ◌≡◌, ℕ, ◌<◌, List, refl, ap, sym, ◌∙◌, length, arith, subst, Bor, Some, Result, Ok, Err, IfOk, IfErr, map, slice_get}
use Rattle.grammar.proofs.Common.{AreNotes, AreWithin, production_of, grammar_of, IsFirstProduction, IsFault, file_fault, unproductive, FileGrammar, IsGrammar, IsUsable, AreBelow, AllProductiveIn, IsUnproductiveIn, grammar_with, file_grammar, IsGrammarOf, Parts}
use Rattle.grammar.proofs.Common.{AreParts, AreProductive, IsUnproductive}
use Rattle.grammar.proofs.Common.{Cause, GrammarFault, Numbered, File, RuleLine, productions, nonterminals, defined, added, marked, written_out, IsWhole, HaveReferents, IsFileFault, Unproductive, Names, lines_view, AreNames, ArePatterns, IsWrittenOut, Reports, length-texts}
use Rattle.grammar.proofs.Common.{Word, Statement, statements, texts}
use Rattle.grammar.proofs.Common.{Symbol, Nonterminal, Production'}
use Rattle.grammar.proofs.NumbersInRange.{known}
use Rattle.grammar.proofs.Ranges.{lefts_below, is_grammar}
use Rattle.grammar.proofs.WrittenOut.{rules_written, few_nonterminals, few_productions, are_once, plain_lefts, are_fine, are_short, start_in}

-- what is reported of the lines and names is reported of the file
pub shown_of_file : (text : List ℕ) (f : GrammarFault) → Reports f (IsFileFault text) → Reports f (IsFault text)
shown_of_file text f shows = IfSome_then _ shows (file_fault f.line)

pub productions_are : (names : Names) (ss : List Statement) (ps : List Production') → AreNames names ss
    → ps ≡ map (production_of names.nonterminals (map (λ r. r.name) names.rules)) (productions ss) → ps ≡ (grammar_of ss).productions
productions_are names ss ps named are =
    are
    ∙ ap (λ x. map (production_of x (map (λ r. r.name) names.rules)) (productions ss)) named.nonterminals
    ∙ ap (λ x. map (production_of (nonterminals ss) (map (λ r. r.name) x)) (productions ss)) named.rules

module _ (ss : List Statement) (names : List (Bor (List ℕ))) (ps : List Production') (same : texts names ≡ nonterminals ss) (are : ps ≡ (grammar_of ss).productions) where
  count_is : length names ≡ length (nonterminals ss)
  count_is = sym (length-texts names) ∙ ap length same

  pub below : AreBelow ps (length names)
  below p x there = omega (arith, lefts_below ss p x (ap (λ ys. slice_get ys p) (sym are) ∙ there), count_is)

  pub productive : AllProductiveIn ps (length names) → AreProductive ss
  productive all n within = all (grammar_of ss) n (sym are) (omega (arith, within, count_is))

  pub unproductive_is : (line : ℕ) (c : Cause) → (n : ℕ) × ((w : Word) × (slice_get (texts names) n ≡ Some w) × (c ≡ Unproductive w) × IsUnproductiveIn ps n × IsFirstProduction ss w line)
      → IsUnproductive ss line c
  unproductive_is line c h =
      let (n, named) = h in
      let (w, there, is, at, first) = named in
      (n, (w, ap (λ ws. slice_get ws n) (sym same) ∙ there, is, record { unproductive = at.unproductive (grammar_of ss) (sym are); before = λ m l. at.before (grammar_of ss) m (sym are) l }, first))

module _ (text : List ℕ) (file : File) (whole : IsWhole text) (read : IsWrittenOut file (statements text)) (refers : HaveReferents (statements text) (statements text))
    (ns : List Numbered) (same : ns ≡ file.statements.items) where
  abbrev own : List Statement
  own = statements text

  -- with the productions of the marked words
  abbrev ss : List Statement
  ss = written_out own

  line_view : lines_view ns ≡ ss
  line_view = ap lines_view same ∙ read.statements

  pub is_sound : AreProductive (lines_view ns) → IsGrammar (grammar_with (lines_view ns) file.patterns.items file.defined.items)
  is_sound all =
      subst (λ (xs : List Statement). IsGrammar (grammar_with xs file.patterns.items file.defined.items)) (sym line_view)
      (subst (λ (xs : List Symbol). IsGrammar (grammar_with ss file.patterns.items xs)) (sym read.defined)
      (is_grammar ss file.patterns.items (defined own)
      (are_once own whole.faultless (plain_lefts text)) (are_fine own refers) (are_short own read.few) (start_in own refers whole.started)
      (omega (arith, read.few.few_rules, ap length (rules_written own))) (few_nonterminals own read.few) (few_productions own read.few)
      (subst (λ (rs : List RuleLine). ArePatterns rs file.patterns.items) (sym (rules_written own)) read.patterns)
      (subst AreProductive line_view all) (known own (flat_map added (marked own)) file.patterns.items (defined own))))

  pub is_meant : (r : Result FileGrammar GrammarFault) → IfOk r (λ f. AreProductive (lines_view ns))
      → IfOk r (λ f. f ≡ grammar_with (lines_view ns) file.patterns.items file.defined.items) → IfOk r (λ f. IsGrammarOf text f)
  is_meant (Ok f) all is =
      let of_file : f ≡ file_grammar own file.patterns.items = is ∙ (λ i. grammar_with (line_view i) file.patterns.items (read.defined i)) in
      subst (λ (g : FileGrammar). IsGrammarOf text g) (sym of_file)
      (record { whole = whole; referents = refers; patterns = read.patterns; productive = subst AreProductive line_view all; is = refl })
  is_meant (Err e) all is = tt

  pub is_fault : (r : Result FileGrammar GrammarFault) → IfErr r (λ e. Reports e (IsUnproductive (lines_view ns))) → IfErr r (λ e. Reports e (IsFault text))
  is_fault (Ok f) shows = tt
  is_fault (Err e) shows =
      IfSome_then _ shows
      (λ c h.
      let (n, found) = subst (λ (xs : List Statement). IsUnproductive xs e.line c) line_view h in
      let (w, there, is, first, stands) = found in
      subst (λ d. IsFault text e.line d) (sym is) (unproductive e.line n w whole refers first there stands))

module _ (f : FileGrammar) (parts : Parts) (ps : List Production') (sound : IsGrammar f) (has : AreParts parts f) (same : ps ≡ f.grammar.productions) where
  -- the grammar of these parts
  abbrev pub of_parts : FileGrammar
  of_parts = record {
    names = parts.names.items;
    patterns = f.patterns;
    skips = parts.skips.items;
    nonterminals = parts.nonterminals.items;
    folds = parts.folds.items;
    grammar = record { start = parts.start; rules = length parts.names.items; productions = ps };
    defined = f.defined;
  }

  pub same_parts : of_parts ≡ f
  same_parts =
      let rules : length parts.names.items ≡ f.grammar.rules = ap length has.names ∙ sym sound.rules in
      λ i. record {
        names = has.names i;
        patterns = f.patterns;
        skips = has.skips i;
        nonterminals = has.nonterminals i;
        folds = has.folds i;
        grammar = record { start = has.start i; rules = rules i; productions = same i };
        defined = f.defined;
      }

  pub made : IsGrammar of_parts
  made = subst (λ (x : FileGrammar). IsGrammar x) (sym same_parts) sound

  pub start_within : parts.start < length parts.nonterminals.items
  start_within = omega (arith, sound.start, has.start, ap length has.nonterminals)

  pub all_within : AreWithin ps (length parts.nonterminals.items)
  all_within p x k n there stands =
      let fine = sound.right p x.left x.right (ap (λ (qs : List Production'). slice_get qs p) (sym same) ∙ there) k (Nonterminal n) (slice_get_within x.right k (Nonterminal n) stands) in
      let below : n < length f.nonterminals = subst (IsUsable f) (get_or_from_slice_get x.right k (Nonterminal n) (Nonterminal n) stands) fine in
      omega (arith, below, ap length has.nonterminals)

  pub are_notes : (noted symbols notes : List Symbol) → noted ≡ symbols → AreNotes f noted notes → AreNotes of_parts symbols notes
  are_notes noted symbols notes is noted_are = subst (λ (g : FileGrammar). AreNotes g symbols notes) (sym same_parts) (subst (λ ss. AreNotes f ss notes) is noted_are)
