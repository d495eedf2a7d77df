-- How clap reads the words of a command: they name as many paths as it takes, or are refused.
use Rattle.commands.proofs.Std.{◌==◌, ◌≡◌, ◌∙◌, ◌⊎◌, inl, inr, ℕ, Bool, true, false, refl, sym, ap, subst, List, [], ◌∷◌, Option, Some, None, option_map, codes, cases_Bool, All, fold, IsUtf8, bytes_eq, option_map_id, All-head, All-tail}
use Rattle.commands.proofs.Std.{Kinds, or_else, reading_of, AnyText, CommandLine, Held, Row, Text, idle, Walk, finished, settled, walked, Shape, built_leaf, inherited, check_fault, defaults_fault, other_fault, settle_fault, turn_fault, walk_fault, clap_on_literals}
use Rattle.commands.proofs.Common.{alone, grammar_in, one, text_in, two, is_flag, paths}
use Rattle.commands.proofs.Flags.{no_first, HasHelpAlone, IsFlagWord, flag_fails, IsPath, kind_of}

-- the commands as they are built
abbrev pub built_one : Text → Shape
built_one name = built_leaf (inherited alone.top (one name).top)

abbrev pub built_two : Shape
built_two = built_leaf (inherited alone.top two.top)

abbrev row : Text → Row
row g = record { id = codes "GRAMMAR"; values = g ∷ []; count = None; source = Some CommandLine; reading = reading_of AnyText }

-- Where the reading of a command's words stands, by what is held and which path is next. After the first `--` each word is a path.
abbrev pub stand : List Row → Option (Text × List Text) → ℕ → Bool → Walk
stand rows pending position t = record { held = record { rows = rows; pending = pending; skip = 0 }; waiting = idle; position = position; is_trailing = t; stopped = None }

-- no path is read, one is, two are
abbrev pub at_none : Bool → Walk
at_none = stand [] None 1

abbrev at_one : Text → Bool → Walk
at_one g = stand [] (Some (codes "GRAMMAR", g ∷ [])) 2

abbrev at_two : Text → Text → Bool → Walk
at_two g x = stand (row g ∷ []) (Some (codes "TEXT", x ∷ [])) 3

-- what comes of the end of the words
abbrev end_fault : Shape → Held → Kinds
end_fault s end = or_else (settle_fault s.rules s.args_override_self end)
    (or_else (defaults_fault (settled s.rules end).rows s.rules) (check_fault s (finished s.rules end) false))

-- what comes of the words that are left
abbrev pub rest_fault : Shape → Walk → List Text → Kinds
rest_fault s w words = or_else (walk_fault s [] w words) (end_fault s (fold (walked s.rules []) w words).held)

step_on : (s : Shape) (w after : Walk) (word : Text) (rest : List Text) → turn_fault s [] w word ≡ [] → walked s.rules [] w word ≡ after
    → rest_fault s w (word ∷ rest) ≡ rest_fault s after rest
unfolding walk_fault
step_on s w after word rest e f =
    ap (λ k. or_else (or_else k (walk_fault s [] (walked s.rules [] w word) rest)) (end_fault s (fold (walked s.rules []) (walked s.rules [] w word) rest).held)) e
    ∙ ap (λ v. rest_fault s v rest) f

stuck : (s : Shape) (w : Walk) (word : Text) (rest : List Text) → (turn_fault s [] w word ≡ [] → ⊥) → rest_fault s w (word ∷ rest) ≡ [] → ⊥
unfolding walk_fault
stuck s w word rest bad e = bad (no_first _ (walk_fault s [] (walked s.rules [] w word) rest)
    (no_first _ (end_fault s (fold (walked s.rules []) (walked s.rules [] w word) rest).held) e))

-- a word that is a path, or follows the first `--`
abbrev Goes : Bool → Text → Type 0
Goes true word = Unit {0}
Goes false word = IsPath word

-- the flags that clap adds
flags_of_one : (name : Text) → HasHelpAlone (built_one name).rules
flags_of_one name = record {
  long = λ n. elim (cases_Bool (bytes_eq (codes "help") n)) [ inl e ↦ inr (rw e refl) | inr e ↦ inl (rw e refl) ];
  short = λ y. elim (cases_Bool (104 == y)) [ inl e ↦ inr (rw e refl) | inr e ↦ inl (rw e refl) ];
}

flags_of_two : HasHelpAlone built_two.rules
flags_of_two = record {
  long = λ n. elim (cases_Bool (bytes_eq (codes "help") n)) [ inl e ↦ inr (rw e refl) | inr e ↦ inl (rw e refl) ];
  short = λ y. elim (cases_Bool (104 == y)) [ inl e ↦ inr (rw e refl) | inr e ↦ inl (rw e refl) ];
}

-- the next word of a command with one path
none_step : (name word : Text) (t : Bool) → Goes t word → (turn_fault (built_one name) [] (at_none t) word ≡ []) × (walked (built_one name).rules [] (at_none t) word ≡ at_one word t)
unfolding clap_on_literals
none_step name word true h = (refl, refl)
none_step name word false h = (rw (h.0, h.1, h.2) refl, rw (h.0, h.1, h.2) refl)

one_fault : (name word g : Text) (t : Bool) → Goes t word → turn_fault (built_one name) [] (at_one g t) word ≡ [] → ⊥
unfolding clap_on_literals
one_fault name word g true h e = cc
one_fault name word g false h e = let bad = rw (h.0, h.1, h.2) at e in cc

-- the next word of a command with two paths
none_step_in_two : (word : Text) (t : Bool) → Goes t word → (turn_fault built_two [] (at_none t) word ≡ []) × (walked built_two.rules [] (at_none t) word ≡ at_one word t)
unfolding clap_on_literals
none_step_in_two word true h = (refl, refl)
none_step_in_two word false h = (rw (h.0, h.1, h.2) refl, rw (h.0, h.1, h.2) refl)

one_step_in_two : (word g : Text) (t : Bool) → Goes t word → (turn_fault built_two [] (at_one g t) word ≡ []) × (walked built_two.rules [] (at_one g t) word ≡ at_two g word t)
unfolding clap_on_literals
one_step_in_two word g true h = (refl, refl)
one_step_in_two word g false h = (rw (h.0, h.1, h.2) refl, rw (h.0, h.1, h.2) refl)

two_fault_in_two : (word g x : Text) (t : Bool) → Goes t word → turn_fault built_two [] (at_two g x t) word ≡ [] → ⊥
unfolding clap_on_literals
two_fault_in_two word g x true h e = cc
two_fault_in_two word g x false h e = let bad = rw (h.0, h.1, h.2) at e in cc

-- the first `--`
dashes_step : (s : Shape) (rows : List Row) (pending : Option (Text × List Text)) (position : ℕ) → (turn_fault s [] (stand rows pending position false) (codes "--") ≡ [])
    × (walked s.rules [] (stand rows pending position false) (codes "--") ≡ stand rows pending position true)
unfolding clap_on_literals
dashes_step s rows pending position = (refl, refl)

-- the rows at the end of a command's words
abbrev pub rows_from : Shape → Walk → List Text → List Row
rows_from s w words = finished s.rules (fold (walked s.rules []) w words).held

-- The words that are left come to paths as a command takes them, or are refused: A is what there is of such paths, and Shows is what the rows say of them.
abbrev pub Done : {A : Type 0} → (A → List Text) → (A → List Row → Type 0) → Shape → Walk → List Text → Option (List Text) → Type 0
Done {A} of Shows s w words shown =
    ((a : A) × (shown ≡ Some (of a)) × (rest_fault s w words ≡ []) × Shows a (rows_from s w words))
    ⊎ ((rest_fault s w words ≡ [] → ⊥) × ((a : A) → shown ≡ Some (of a) → ⊥))

-- one path, and two
abbrev pub of_one : Text → List Text
of_one g = g ∷ []

abbrev pub ShowsOne : Text → List Row → Type 0
ShowsOne g rows = grammar_in rows ≡ Some g

abbrev pub of_two : Text × Text → List Text
of_two p = p.0 ∷ p.1 ∷ []

abbrev pub ShowsTwo : Text × Text → List Row → Type 0
ShowsTwo p rows = (grammar_in rows ≡ Some p.0) × (text_in rows ≡ Some p.1)

-- the end of the words
end_none : (name : Text) (t : Bool) → rest_fault (built_one name) (at_none t) [] ≡ [] → ⊥
unfolding clap_on_literals
end_none name t e = cc

end_one : (name g : Text) (t : Bool) → (rest_fault (built_one name) (at_one g t) [] ≡ []) × ShowsOne g (rows_from (built_one name) (at_one g t) [])
unfolding clap_on_literals
end_one name g t = (refl, refl)

end_none_in_two : (t : Bool) → rest_fault built_two (at_none t) [] ≡ [] → ⊥
unfolding clap_on_literals
end_none_in_two t e = cc

end_one_in_two : (g : Text) (t : Bool) → rest_fault built_two (at_one g t) [] ≡ [] → ⊥
unfolding clap_on_literals
end_one_in_two g t e = cc

end_two_in_two : (g x : Text) (t : Bool) → (rest_fault built_two (at_two g x t) [] ≡ []) × ShowsTwo (g, x) (rows_from built_two (at_two g x t) [])
unfolding clap_on_literals
end_two_in_two g x t = (refl, (refl, refl))

-- the paths among the words that are left
abbrev left : Bool → List Text → Option (List Text)
left true words = Some words
left false words = paths words

left_path : (t : Bool) (word : Text) (rest : List Text) → Goes t word → (t ≡ false → is_flag word ≡ false) → left t (word ∷ rest) ≡ option_map (λ others. word ∷ others) (left t rest)
left_path true word rest h plain = refl
left_path false word rest h plain = let flat = plain refl in rw (h.0, flat) refl

left_flag : (word : Text) (rest : List Text) → bytes_eq word (codes "--") ≡ false → is_flag word ≡ true → left false (word ∷ rest) ≡ None
left_flag word rest a f = rw (a, f) refl

map_twice : (f h : List Text → List Text) (o : Option (List Text)) → option_map f (option_map h o) ≡ option_map (λ x. f (h x)) o
map_twice f h None = refl
map_twice f h (Some x) = refl

-- a flag is refused wherever a command's words stand
flag_turn : (s : Shape) (rows : List Row) (pending : Option (Text × List Text)) (position : ℕ) (word : Text) → HasHelpAlone s.rules → IsFlagWord word
    → turn_fault s [] (stand rows pending position false) word ≡ [] → ⊥
flag_turn s rows pending position word only f e =
    let first : other_fault s None word (record { rows = rows; pending = pending; skip = 0 }) ≡ [] = no_first _ _ e in
    flag_fails s.rules s.args_override_self word rows pending only f (rw f.0 at first)

one_more : (g word a : Text) (o : Option (List Text)) → option_map (λ ps. g ∷ word ∷ ps) o ≡ Some (a ∷ []) → ⊥
one_more g word a None e = cc
one_more g word a (Some ps) e = cc

two_more : (g x word a b : Text) (o : Option (List Text)) → option_map (λ ps. g ∷ x ∷ word ∷ ps) o ≡ Some (a ∷ b ∷ []) → ⊥
two_more g x word a b None e = cc
two_more g x word a b (Some ps) e = cc

module _ {A : Type 0} (of : A → List Text) (Shows : A → List Row → Type 0) (s : Shape) where
  -- what comes of the words after the next one, comes of all
  on : (w after : Walk) (word : Text) (rest : List Text) (shown : Option (List Text)) → (turn_fault s [] w word ≡ []) × (walked s.rules [] w word ≡ after)
      → Done of Shows s after rest shown → Done of Shows s w (word ∷ rest) shown
  on w after word rest shown e (inl d) = inl (d.0, d.1, step_on s w after word rest e.0 e.1 ∙ d.2, subst (Shows d.0) (sym (ap (λ v. rows_from s v rest) e.1)) d.3)
  on w after word rest shown e (inr d) = inr ((λ h. d.0 (sym (step_on s w after word rest e.0 e.1) ∙ h)), d.1)

  -- where the end and a further path come to something, all words do
  module _ (only : HasHelpAlone s.rules) (rows : List Row) (pending : Option (Text × List Text)) (position : ℕ) (front : List Text → List Text)
      (end : (t : Bool) → Done of Shows s (stand rows pending position t) [] (Some (front [])))
      (path : (t : Bool) (word : Text) (rest : List Text) → Goes t word → All IsUtf8 rest
      → Done of Shows s (stand rows pending position t) (word ∷ rest) (option_map (λ ps. front (word ∷ ps)) (left t rest))) where
    read : (t : Bool) (words : List Text) → All IsUtf8 words → Done of Shows s (stand rows pending position t) words (option_map front (left t words))
    read true [] u = end true
    read false [] u = end false
    read true (word ∷ rest) u = path true word rest tt (All-tail IsUtf8 word rest u)
    read false (word ∷ rest) u = elim (kind_of word (All-head IsUtf8 word rest u)) [
      | inl e ↦ subst (λ v. Done of Shows s (stand rows pending position false) (v ∷ rest) (option_map front (left false (v ∷ rest)))) (sym e)
          (on (stand rows pending position false) (stand rows pending position true) (codes "--") rest _ (dashes_step s rows pending position) (read true rest (All-tail IsUtf8 word rest u)))
      | inr (inl f) ↦ inr (
        stuck s (stand rows pending position false) word rest (flag_turn s rows pending position word only f.1),
        λ a e. let bad = rw (left_flag word rest f.1.0 f.0) at e in cc,
      )
      | inr (inr p) ↦ subst (Done of Shows s (stand rows pending position false) (word ∷ rest))
          (sym (ap (option_map front) (left_path false word rest p.1 (λ _. p.0)) ∙ map_twice _ _ _)) (path false word rest p.1 (All-tail IsUtf8 word rest u))
    ]

-- a command that takes one path, after one and before it
one_one : (name g : Text) (t : Bool) (words : List Text) → All IsUtf8 words → Done of_one ShowsOne (built_one name) (at_one g t) words (option_map (λ ps. g ∷ ps) (left t words))
one_one name g = read of_one ShowsOne (built_one name) (flags_of_one name) [] (Some (codes "GRAMMAR", g ∷ [])) 2 (λ ps. g ∷ ps) (λ t. let e = end_one name g t in inl (g, refl, e.0, e.1))
    (λ t word rest h u. inr (stuck (built_one name) (at_one g t) word rest (one_fault name word g t h), λ a e. one_more g word a (left t rest) e))

pub one_none : (name : Text) (t : Bool) (words : List Text) → All IsUtf8 words → Done of_one ShowsOne (built_one name) (at_none t) words (left t words)
one_none name t words u = subst (Done of_one ShowsOne (built_one name) (at_none t) words) (option_map_id (left t words))
    (read of_one ShowsOne (built_one name) (flags_of_one name) [] None 1 (λ ps. ps) (λ t. inr (end_none name t, λ a e. cc))
    (λ t word rest h u. on of_one ShowsOne (built_one name) (at_none t) (at_one word t) word rest _ (none_step name word t h) (one_one name word t rest u)) t words u)

-- a command that takes two, after two, one and none
two_two : (g x : Text) (t : Bool) (words : List Text) → All IsUtf8 words → Done of_two ShowsTwo built_two (at_two g x t) words (option_map (λ ps. g ∷ x ∷ ps) (left t words))
two_two g x = read of_two ShowsTwo built_two flags_of_two (row g ∷ []) (Some (codes "TEXT", x ∷ [])) 3 (λ ps. g ∷ x ∷ ps) (λ t. let e = end_two_in_two g x t in inl ((g, x), refl, e.0, e.1))
    (λ t word rest h u. inr (stuck built_two (at_two g x t) word rest (two_fault_in_two word g x t h), λ a e. two_more g x word a.0 a.1 (left t rest) e))

two_one : (g : Text) (t : Bool) (words : List Text) → All IsUtf8 words → Done of_two ShowsTwo built_two (at_one g t) words (option_map (λ ps. g ∷ ps) (left t words))
two_one g = read of_two ShowsTwo built_two flags_of_two [] (Some (codes "GRAMMAR", g ∷ [])) 2 (λ ps. g ∷ ps) (λ t. inr (end_one_in_two g t, λ a e. cc))
    (λ t word rest h u. on of_two ShowsTwo built_two (at_one g t) (at_two g word t) word rest _ (one_step_in_two word g t h) (two_two g word t rest u))

pub two_none : (t : Bool) (words : List Text) → All IsUtf8 words → Done of_two ShowsTwo built_two (at_none t) words (left t words)
two_none t words u = subst (Done of_two ShowsTwo built_two (at_none t) words) (option_map_id (left t words))
    (read of_two ShowsTwo built_two flags_of_two [] None 1 (λ ps. ps) (λ t. inr (end_none_in_two t, λ a e. cc))
    (λ t word rest h u. on of_two ShowsTwo built_two (at_none t) (at_one word t) word rest _ (none_step_in_two word t h) (two_one word t rest u)) t words u)
