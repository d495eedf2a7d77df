-- Blanks at the ends of a text, as std's calls cut them off.
use Rattle.grammar_line.proofs.Std.{◌≡◌, ◌≢◌, ◌<◌, ◌-◌, [], ◌∷◌, ◌++◌, ◌∙◌, ◌⊎◌}
use Rattle.grammar_line.proofs.Std.{ℕ, Bool, true, false, List, length, take, drop, refl, sym, ap, ⊎_elim, Option, Some, None, IfSome, char_set_contains, encode_utf8, len_utf8, FindsPrefixBy, FindsSuffixBy, HasPassingCharAt, CutsPrefixes, CutsSuffixes, IsTrimStartMatches, IsTrimEndMatches}
use Rattle.grammar_line.proofs.Std.{arith, false≢true, common_steps, take-append-drop, drop_all, append-nil}
use Rattle.grammar_line.proofs.Common.{is_blank, trim_start, trim_end, or_nothing}

abbrev is_listed : ℕ → Bool
is_listed = char_set_contains (32 ∷ 9 ∷ [])

-- what a search for one of the two blanks finds at the start of a text, and at its end
abbrev Starts : List ℕ → Option ℕ → Type 0
Starts s found = (k : ℕ → Bool) → ((c : ℕ) → is_listed c ≡ k c) → FindsPrefixBy k s found

abbrev Ends : List ℕ → Option ℕ → Type 0
Ends s found = (k : ℕ → Bool) → ((c : ℕ) → is_listed c ≡ k c) → FindsSuffixBy k s found

listed : (c : ℕ) → is_listed c ≡ true → (c ≡ 32) ⊎ (c ≡ 9)
listed c h = grind (arith, common_steps)

is_blank_no : (b : ℕ) → b ≢ 32 → b ≢ 9 → is_blank b ≡ false
is_blank_no b space tab = grind (arith, common_steps)

trim_start-same : (t : List ℕ) → ((r : List ℕ) → t ≢ 32 ∷ r) → ((r : List ℕ) → t ≢ 9 ∷ r) → trim_start t ≡ t
trim_start-same [] space tab = refl
trim_start-same (b ∷ bs) space tab = rw (is_blank_no b (λ e. space bs (ap (λ x. x ∷ bs) e)) (λ e. tab bs (ap (λ x. x ∷ bs) e))) refl

trim_end-blank : (t : List ℕ) (c : ℕ) → is_blank c ≡ true → trim_end (t ++ c ∷ []) ≡ trim_end t
trim_end-blank [] c h = rw h refl
trim_end-blank (b ∷ bs) c h = ap (or_nothing b) (trim_end-blank bs c h)

trim_end-same : (t : List ℕ) → ((r : List ℕ) → t ≢ r ++ 32 ∷ []) → ((r : List ℕ) → t ≢ r ++ 9 ∷ []) → trim_end t ≡ t
trim_end-same [] space tab = refl
trim_end-same (b ∷ []) space tab = rw (is_blank_no b (λ e. space [] (ap (λ x. x ∷ []) e)) (λ e. tab [] (ap (λ x. x ∷ []) e))) refl
trim_end-same (b ∷ c ∷ cs) space tab =
    ap (or_nothing b) (trim_end-same (c ∷ cs) (λ r e. space (b ∷ r) (ap (λ x. b ∷ x) e)) (λ r e. tab (b ∷ r) (ap (λ x. b ∷ x) e)))

-- a blank at the start is cut off, and one at the end
first_cut : (s : List ℕ) (n : ℕ) → HasPassingCharAt is_listed s 0 n → trim_start s ≡ trim_start (drop n s)
unfolding encode_utf8
first_cut s n (c, passes, at) =
    let is : (d : ℕ) → c ≡ d → s ≡ encode_utf8 d ++ drop n s = λ d e. at.split ∙ ap (λ x. encode_utf8 x ++ drop n s) e in
    ⊎_elim (λ e. ap trim_start (is 32 e)) (λ e. ap trim_start (is 9 e)) (listed c passes)

last_cut : (s : List ℕ) (n : ℕ) → HasPassingCharAt is_listed s (length s - n) (length s) → trim_end s ≡ trim_end (take (length s - n) s)
unfolding encode_utf8
last_cut s n (c, passes, at) =
    let kept = take (length s - n) s in
    let rest : drop (length s - n) s ≡ encode_utf8 c = at.split ∙ ap (λ x. encode_utf8 c ++ x) (drop_all (length s) s (omega arith)) ∙ append-nil (encode_utf8 c) in
    let is : (d : ℕ) → c ≡ d → s ≡ kept ++ encode_utf8 d = λ d e. sym (take-append-drop (length s - n) s) ∙ ap (λ x. kept ++ x) rest ∙ ap (λ x. kept ++ encode_utf8 x) e in
    ⊎_elim (λ e. ap trim_end (is 32 e) ∙ trim_end-blank kept 32 refl) (λ e. ap trim_end (is 9 e) ∙ trim_end-blank kept 9 refl) (listed c passes)

first_cuts : (s : List ℕ) (ns : List ℕ) (r : List ℕ) → CutsPrefixes Starts s ns r → trim_start s ≡ trim_start r
first_cuts s [] r h = ap trim_start (sym h)
first_cuts s (n ∷ ns) r (m, cuts, found, is) = first_cuts s ns m cuts ∙ first_cut m n (found is_listed (λ c. refl)) ∙ ap trim_start (sym is)

last_cuts : (s : List ℕ) (ns : List ℕ) (r : List ℕ) → CutsSuffixes Ends s ns r → trim_end s ≡ trim_end r
last_cuts s [] r h = ap trim_end (sym h)
last_cuts s (n ∷ ns) r (m, cuts, found, is) = last_cuts s ns m cuts ∙ last_cut m n (found is_listed (λ c. refl)) ∙ ap trim_end (sym is)

wide : (s : List ℕ) (i j : ℕ) → HasPassingCharAt is_listed s i j → i < j
wide s i j (c, passes, at) =
    let one : len_utf8 c ≡ 1 = ⊎_elim (λ e. ap len_utf8 e) (λ e. ap len_utf8 e) (listed c passes) in
    omega (arith, at.ends, one)

-- what is left begins with no blank, or ends with none
first_left : (r : List ℕ) (found : Option ℕ) → Starts r found → IfSome found (λ n. n ≡ 0) → trim_start r ≡ r
unfolding encode_utf8
first_left r None none h =
    trim_start-same r (λ rest e. false≢true (sym (none is_listed (λ c. refl) 32 rest refl e))) (λ rest e. false≢true (sym (none is_listed (λ c. refl) 9 rest refl e)))
first_left r (Some n) found h = absurd (let w = wide r 0 n (found is_listed (λ c. refl)) in omega (arith, w, h))

last_left : (r : List ℕ) (found : Option ℕ) → Ends r found → IfSome found (λ n. n ≡ 0) → trim_end r ≡ r
unfolding encode_utf8
last_left r None none h =
    trim_end-same r (λ rest e. false≢true (sym (none is_listed (λ c. refl) 32 rest refl e))) (λ rest e. false≢true (sym (none is_listed (λ c. refl) 9 rest refl e)))
last_left r (Some n) found h = absurd (let w = wide r (length r - n) (length r) (found is_listed (λ c. refl)) in omega (arith, w, h))

pub starts_trimmed : (s r : List ℕ) → IsTrimStartMatches Starts s r → r ≡ trim_start s
starts_trimmed s r ((ns, cuts), (found, is, none)) = sym (first_cuts s ns r cuts ∙ first_left r found is none)

pub ends_trimmed : (s r : List ℕ) → IsTrimEndMatches Ends s r → r ≡ trim_end s
ends_trimmed s r ((ns, cuts), (found, is, none)) = sym (last_cuts s ns r cuts ∙ last_left r found is none)
