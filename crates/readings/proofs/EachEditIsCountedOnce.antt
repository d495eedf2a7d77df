-- Of each edit at most one answer is given, and of each document at most one list of counts.
use Rattle.readings.proofs.Std.{◌≡◌, ℕ, List, length, sym, ap, subst, ◌∙◌, ◌⊎◌, inl, inr, Option, Some, None}
use Rattle.readings.proofs.Common.{Range, Stats, Encoding, all_branches, FileGrammar, one_built, Reading, AnswersOnce, IsNext, Makes, AreStats, ReportsLast, CountsOnce, IsAbove, number_after, edit_of, without_nodes, LastEdit, OpenDocument}
use Rattle.readings.proofs.Decided.{Decided, both_decided, either_decided, less_decided, same_decided}

pub above_or_not : (last : Option LastEdit) (number : ℕ) → Decided (IsAbove last number)
above_or_not None number = less_decided 0 number
above_or_not (Some last) number = either_decided (less_decided last.number number) (both_decided (same_decided last.number number) (same_decided last.built 0))

made_once : (encoding : Encoding) (file : FileGrammar) (t : List ℕ) (range : Option Range) (s : List ℕ) (last : Option LastEdit) (r q : Reading) (one other : LastEdit)
    → Makes file (edit_of encoding t range s (number_after last)) last r q one → Makes file (edit_of encoding t range s (number_after last)) last r q other → other ≡ one
made_once encoding file t range s last r q one other a b =
    same (b.number ∙ sym a.number) (b.scanned ∙ sym a.scanned) (built (above_or_not last (number_after last)))
  where
    same : other.number ≡ one.number → other.scanned ≡ one.scanned → other.built ≡ one.built → other ≡ one
    same number scanned built = λ i. record { number = number i; scanned = scanned i; built = built i }

    built : IsAbove last (number_after last) ⊎ (¬ IsAbove last (number_after last)) → other.built ≡ one.built
    built (inl above) = one_built (b.built above) (a.built above)
    built (inr below) = b.all_built below ∙ sym (a.all_built below)

edits_once : (file : FileGrammar) → AnswersOnce file → (encoding : Encoding) (t : List ℕ) (range : Option Range) (s : List ℕ) (last : Option LastEdit) (one other : LastEdit)
    → IsNext encoding file t range s last one → IsNext encoding file t range s last other → other ≡ one
edits_once file once encoding t range s last one other a b =
    let e = edit_of encoding t range s (number_after last) in
    let old : b.old ≡ a.old = once.readings t a.old b.old a.was b.was in
    let new : b.new ≡ a.new = once.readings _ a.new b.new a.is b.is in
    let here : Makes file e last a.old a.new other = subst (λ (q : Reading). Makes file e last a.old q other) new (subst (λ (r : Reading). Makes file e last r b.new other) old b.makes) in
    made_once encoding file t range s last a.old a.new one other a.makes here

same_stats : (one other : Stats) → other.edit ≡ one.edit → other.scanned ≡ one.scanned → other.tokens ≡ one.tokens
    → other.branches ≡ one.branches → other.built ≡ one.built → without_nodes other ≡ without_nodes one
same_stats one other edit scanned tokens branches built = λ i. record { edit = edit i; scanned = scanned i; tokens = tokens i; branches = branches i; built = built i; nodes = 0 }

stats_alike : (file : FileGrammar) → AnswersOnce file → (d : OpenDocument) (one other : Stats) → AreStats file d one → AreStats file d other → without_nodes other ≡ without_nodes one
stats_alike file once d one other a b = by d.last a.last b.last
  where
    reading : b.reading ≡ a.reading
    reading = once.readings d.text a.reading b.reading a.is b.is

    tokens : other.tokens ≡ one.tokens
    tokens = b.tokens ∙ (ap (λ (r : Reading). length r.tokens) reading ∙ sym a.tokens)

    nodes : other.branches ≡ one.branches
    nodes = b.branches ∙ (ap (λ (r : Reading). all_branches r.trees) reading ∙ sym a.branches)

    by : (last : Option LastEdit) → ReportsLast last one → ReportsLast last other → without_nodes other ≡ without_nodes one
    by None p q = same_stats one other (q.0 ∙ sym p.0) (q.1 ∙ (tokens ∙ sym p.1)) tokens nodes (q.2 ∙ (nodes ∙ sym p.2))
    by (Some last) p q = same_stats one other (q.0 ∙ sym p.0) (q.1 ∙ sym p.1) tokens nodes (q.2 ∙ sym p.2)

pub counts_once : (file : FileGrammar) → AnswersOnce file → CountsOnce file
counts_once file once = record { edits = edits_once file once; stats = stats_alike file once }
