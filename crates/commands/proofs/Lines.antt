-- How clap reads the program's words: they ask for a task, or are refused.
use Rattle.commands.proofs.Std.{◌==◌, ◌≡◌, ◌∙◌, ◌⊎◌, inl, inr, Bool, false, refl, sym, ap, subst, List, [], ◌∷◌, drop, Some, None, is_some, codes, string_bytes, true≢false, cases_Bool, All, fold, IsUtf8, bytes_eq, All-head, All-tail, bytes_eq-Decides}
use Rattle.commands.proofs.Std.{Kinds, or_else, Names, Row, Text, subcommand_met, idle, Walk, finished, nothing_held, settled, walked, Shape, entered, names_of, built, check_fault, defaults_fault, entered_fault, other_fault, settle_fault, turn_fault, walk_fault, clap_on_literals}
use Rattle.commands.proofs.Std.{walk_stopped, stopped_fault}
use Rattle.commands.proofs.Common.{grammar_in, lrls, text_in, Asks, paths, Words, Check, Parse, Serve}
use Rattle.clap.specs.Simple.{subcommand_of}
use Rattle.clap.specs.Faults.{fault_of}
use Rattle.commands.proofs.Flags.{no_first, help, HasHelpAlone, IsFlagWord, flag_fails, IsPath, kind_of}
use Rattle.commands.proofs.Commands.{built_one, built_two, at_none, rest_fault, rows_from, one_none, two_none}

-- the program's commands, `help` among them, and its own arguments
abbrev names : Names
names = names_of (built lrls)

abbrev all : Shape
all = (built lrls).top

-- where a command is met, with the words after its name
abbrev met_at : Text → List Text → Walk
met_at name words = record (at_none false) { stopped = Some (name, words) }

-- what comes of the whole line, by the faults of the walk and where that ends
abbrev line_fault : Kinds → Walk → Kinds
line_fault k w = or_else k (or_else (entered_fault (built lrls) w.stopped) (or_else (settle_fault all.rules all.args_override_self w.held)
    (or_else (defaults_fault (settled all.rules w.held).rows all.rules) (check_fault all (finished all.rules w.held) (is_some (entered (built lrls) w.stopped))))))

end_is : (name : Text) (rest : List Text) → walked all.rules names (at_none false) name ≡ met_at name [] → fold (walked all.rules names) (at_none false) (name ∷ rest) ≡ met_at name rest
end_is name rest e = ap (λ w. fold (walked all.rules names) w rest) e ∙ sym (walk_stopped all.rules names (at_none false) name [] rest)

none_before : (name : Text) (rest : List Text) → walked all.rules names (at_none false) name ≡ met_at name [] → turn_fault all names (at_none false) name ≡ []
    → walk_fault all names (at_none false) (name ∷ rest) ≡ []
unfolding walk_fault
none_before name rest e f =
    ap (λ k. or_else k (walk_fault all names (walked all.rules names (at_none false) name) rest)) f
    ∙ (ap (λ w. walk_fault all names w rest) e ∙ stopped_fault all names (at_none false) (name, []) rest)

enters : (name : Text) (rest : List Text) → walked all.rules names (at_none false) name ≡ met_at name [] → turn_fault all names (at_none false) name ≡ []
    → fault_of lrls (codes "lrls" ∷ name ∷ rest) ≡ line_fault [] (met_at name rest)
enters name rest e f = ap (λ k. line_fault k (fold (walked all.rules names) (at_none false) (name ∷ rest))) (none_before name rest e f) ∙ ap (line_fault []) (end_is name rest e)

found_in : (name : Text) (rest : List Text) → walked all.rules names (at_none false) name ≡ met_at name []
    → subcommand_of lrls (codes "lrls" ∷ name ∷ rest) ≡ entered (built lrls) (Some (name, rest))
found_in name rest e = ap (λ (w : Walk). entered (built lrls) w.stopped) (end_is name rest e)

or_none : (k : Kinds) → or_else k [] ≡ k
or_none [] = refl
or_none (x ∷ xs) = refl

-- a line that begins with the name of a command has the faults and the rows of the words after it
record Begins (name : Text) (command : Shape) : Type 0 where
  fault : (rest : List Text) → fault_of lrls (codes "lrls" ∷ name ∷ rest) ≡ rest_fault command (at_none false) rest
  found : (rest : List Text) → subcommand_of lrls (codes "lrls" ∷ name ∷ rest) ≡ Some (name, rows_from command (at_none false) rest)

check_begins : Begins (codes "check") (built_one (codes "check"))
unfolding clap_on_literals
check_begins = record { fault = λ rest. enters (codes "check") rest refl refl ∙ or_none _; found = λ rest. found_in (codes "check") rest refl }

serve_begins : Begins (codes "serve") (built_one (codes "serve"))
unfolding clap_on_literals
serve_begins = record { fault = λ rest. enters (codes "serve") rest refl refl ∙ or_none _; found = λ rest. found_in (codes "serve") rest refl }

parse_begins : Begins (codes "parse") built_two
unfolding clap_on_literals
parse_begins = record { fault = λ rest. enters (codes "parse") rest refl refl ∙ or_none _; found = λ rest. found_in (codes "parse") rest refl }

flags_of_top : HasHelpAlone (built lrls).top.rules
flags_of_top = record {
  long = λ n. elim (cases_Bool (bytes_eq (codes "help") n)) [ inl e ↦ inr (rw e refl) | inr e ↦ inl (rw e refl) ];
  short = λ y. elim (cases_Bool (104 == y)) [ inl e ↦ inr (rw e refl) | inr e ↦ inl (rw e refl) ];
}

-- a line that is no command's is refused
no_walk_fault : (words : List Text) → fault_of lrls (codes "lrls" ∷ words) ≡ [] → walk_fault all names (at_none false) words ≡ []
no_walk_fault words e = no_first _ _ e

line_stuck : (word : Text) (rest : List Text) → (turn_fault all names (at_none false) word ≡ [] → ⊥) → fault_of lrls (codes "lrls" ∷ word ∷ rest) ≡ [] → ⊥
unfolding walk_fault
line_stuck word rest bad e = bad (no_first _ (walk_fault all names (walked all.rules names (at_none false) word) rest) (no_walk_fault (word ∷ rest) e))

help_stuck : turn_fault all names (at_none false) (codes "help") ≡ [] → ⊥
unfolding clap_on_literals
help_stuck e = cc

trailing_stuck : (word : Text) (rest : List Text) → fault_of lrls (codes "lrls" ∷ codes "--" ∷ word ∷ rest) ≡ [] → ⊥
unfolding clap_on_literals
trailing_stuck word rest e = let bad = no_walk_fault (codes "--" ∷ word ∷ rest) e in cc

dashes_stuck : fault_of lrls (codes "lrls" ∷ codes "--" ∷ []) ≡ [] → ⊥
unfolding clap_on_literals
dashes_stuck e = cc

nothing_stuck : fault_of lrls (codes "lrls" ∷ []) ≡ [] → ⊥
unfolding clap_on_literals
nothing_stuck e = cc

-- the word is the name of no command
record IsNoCommand (word : Text) : Type 0 where
  check : bytes_eq (codes "check") word ≡ false
  parse : bytes_eq (codes "parse") word ≡ false
  serve : bytes_eq (codes "serve") word ≡ false
  help : bytes_eq (codes "help") word ≡ false

none_met : (word : Text) → IsNoCommand word → subcommand_met names idle word ≡ None
none_met word apart = rw (apart.check, apart.parse, apart.serve, apart.help) refl

flag_stuck : (word : Text) → IsNoCommand word → IsFlagWord word → turn_fault all names (at_none false) word ≡ [] → ⊥
flag_stuck word apart f e =
    let first : other_fault all (subcommand_met names idle word) word nothing_held ≡ [] = no_first _ _ e in
    let flag : other_fault all None word nothing_held ≡ [] = subst (λ m. other_fault all m word nothing_held ≡ []) (none_met word apart) first in
    flag_fails all.rules all.args_override_self word [] None flags_of_top f (rw f.0 at flag)

path_stuck : (word : Text) → IsNoCommand word → IsPath word → turn_fault all names (at_none false) word ≡ [] → ⊥
unfolding clap_on_literals
path_stuck word apart p e = let bad = rw (apart.check, apart.parse, apart.serve, apart.help, p.0, p.1, p.2) at e in cc

other_stuck : (word : Text) (rest : List Text) → IsUtf8 word → IsNoCommand word → fault_of lrls (codes "lrls" ∷ word ∷ rest) ≡ [] → ⊥
other_stuck word rest utf8 apart = elim (kind_of word utf8) [
  | inl e ↦ subst (λ v. fault_of lrls (codes "lrls" ∷ v ∷ rest) ≡ [] → ⊥) (sym e) (ends rest)
  | inr (inl f) ↦ line_stuck word rest (flag_stuck word apart f.1)
  | inr (inr p) ↦ line_stuck word rest (path_stuck word apart p.1)
]
  where
    ends : (rest : List Text) → fault_of lrls (codes "lrls" ∷ codes "--" ∷ rest) ≡ [] → ⊥
    ends [] = dashes_stuck
    ends (x ∷ xs) = trailing_stuck x xs

-- clap takes the words, which then ask for a task, or it refuses them, and then they ask for none
pub data Outcome (words : List Text) : Type 0 where
  one_path : (name g : Text) (rest : List Text) (rows : List Row) → (name ≡ codes "check") ⊎ (name ≡ codes "serve") → words ≡ name ∷ rest → paths rest ≡ Some (g ∷ [])
      → subcommand_of lrls (codes "lrls" ∷ words) ≡ Some (name, rows) → grammar_in rows ≡ Some g → fault_of lrls (codes "lrls" ∷ words) ≡ [] → Outcome words
  two_paths : (g x : Text) (rest : List Text) (rows : List Row) → words ≡ codes "parse" ∷ rest → paths rest ≡ Some (g ∷ x ∷ [])
      → subcommand_of lrls (codes "lrls" ∷ words) ≡ Some (codes "parse", rows) → grammar_in rows ≡ Some g → text_in rows ≡ Some x → fault_of lrls (codes "lrls" ∷ words) ≡ [] → Outcome words
  refused : (fault_of lrls (codes "lrls" ∷ words) ≡ [] → ⊥) → ((task : Words) → Asks words task → ⊥) → Outcome words

abbrev begins_with : Text → List Text → Bool
begins_with name [] = false
begins_with name (word ∷ rest) = bytes_eq name word

-- the words of these tasks begin otherwise
no_task : (word : Text) (rest : List Text) → IsNoCommand word → (task : Words) → Asks (word ∷ rest) task → ⊥
no_task word rest apart (Check g) asks = absurd (true≢false (sym (ap (begins_with (codes "check")) asks.1) ∙ apart.check))
no_task word rest apart (Parse g x) asks = absurd (true≢false (sym (ap (begins_with (codes "parse")) asks.1) ∙ apart.parse))
no_task word rest apart (Serve g) asks = absurd (true≢false (sym (ap (begins_with (codes "serve")) asks.1) ∙ apart.serve))

check_asks : (rest : List Text) → ((g : Text) → paths rest ≡ Some (g ∷ []) → ⊥) → (task : Words) → Asks (codes "check" ∷ rest) task → ⊥
check_asks rest apart (Check g) asks = apart (string_bytes g) (ap paths (ap (drop 1) asks.1) ∙ asks.2)
check_asks rest apart d asks = absurd (true≢false (ap (begins_with (codes "check")) asks.1))

serve_asks : (rest : List Text) → ((g : Text) → paths rest ≡ Some (g ∷ []) → ⊥) → (task : Words) → Asks (codes "serve" ∷ rest) task → ⊥
serve_asks rest apart (Serve g) asks = apart (string_bytes g) (ap paths (ap (drop 1) asks.1) ∙ asks.2)
serve_asks rest apart d asks = absurd (true≢false (ap (begins_with (codes "serve")) asks.1))

parse_asks : (rest : List Text) → ((g x : Text) → paths rest ≡ Some (g ∷ x ∷ []) → ⊥) → (task : Words) → Asks (codes "parse" ∷ rest) task → ⊥
parse_asks rest apart (Parse g x) asks = apart (string_bytes g) (string_bytes x) (ap paths (ap (drop 1) asks.1) ∙ asks.2)
parse_asks rest apart d asks = absurd (true≢false (ap (begins_with (codes "parse")) asks.1))

one_outcome : (name : Text) → (name ≡ codes "check") ⊎ (name ≡ codes "serve") → Begins name (built_one name)
    → ((rest : List Text) → ((g : Text) → paths rest ≡ Some (g ∷ []) → ⊥) → (task : Words) → Asks (name ∷ rest) task → ⊥)
    → (rest : List Text) → All IsUtf8 rest → Outcome (name ∷ rest)
one_outcome name is begins asks rest u = elim (one_none name false rest u) [
  | inl d ↦ one_path name d.0 rest _ is refl d.1 (begins.found rest) d.3 (begins.fault rest ∙ d.2)
  | inr d ↦ refused (λ e. d.0 (sym (begins.fault rest) ∙ e)) (asks rest d.1)
]

parse_outcome : (rest : List Text) → All IsUtf8 rest → Outcome (codes "parse" ∷ rest)
parse_outcome rest u = elim (two_none false rest u) [
  | inl d ↦ two_paths d.0.0 d.0.1 rest _ refl d.1 (parse_begins.found rest) d.3.0 d.3.1 (parse_begins.fault rest ∙ d.2)
  | inr d ↦ refused (λ e. d.0 (sym (parse_begins.fault rest) ∙ e)) (parse_asks rest (λ g x. d.1 (g, x)))
]

help_outcome : (rest : List Text) → Outcome (codes "help" ∷ rest)
help_outcome rest = refused (line_stuck (codes "help") rest help_stuck) asks
  where
    asks : (task : Words) → Asks (codes "help" ∷ rest) task → ⊥
    asks (Check g) h = absurd (true≢false (ap (begins_with (codes "help")) h.1))
    asks (Parse g x) h = absurd (true≢false (ap (begins_with (codes "help")) h.1))
    asks (Serve g) h = absurd (true≢false (ap (begins_with (codes "help")) h.1))

pub outcome : (words : List Text) → All IsUtf8 words → Outcome words
outcome [] u = refused nothing_stuck asks
  where
    asks : (task : Words) → Asks [] task → ⊥
    asks (Check g) h = let bad = h.1 in cc
    asks (Parse g x) h = let bad = h.1 in cc
    asks (Serve g) h = let bad = h.1 in cc
outcome (word ∷ rest) u =
    let tail = All-tail IsUtf8 word rest u in
    elim (cases_Bool (bytes_eq (codes "check") word)) [
      | inl e ↦ subst (λ v. Outcome (v ∷ rest)) ((bytes_eq-Decides _ word).0 e) (one_outcome (codes "check") (inl refl) check_begins check_asks rest tail)
      | inr check ↦ elim (cases_Bool (bytes_eq (codes "parse") word)) [
        | inl e ↦ subst (λ v. Outcome (v ∷ rest)) ((bytes_eq-Decides _ word).0 e) (parse_outcome rest tail)
        | inr parse ↦ elim (cases_Bool (bytes_eq (codes "serve") word)) [
          | inl e ↦ subst (λ v. Outcome (v ∷ rest)) ((bytes_eq-Decides _ word).0 e) (one_outcome (codes "serve") (inr refl) serve_begins serve_asks rest tail)
          | inr serve ↦ elim (cases_Bool (bytes_eq (codes "help") word)) [
            | inl e ↦ subst (λ v. Outcome (v ∷ rest)) ((bytes_eq-Decides _ word).0 e) (help_outcome rest)
            | inr help ↦
                let apart : IsNoCommand word = record { check = check; parse = parse; serve = serve; help = help } in
                refused (other_stuck word rest (All-head IsUtf8 word rest u) apart) (no_task word rest apart)
          ]
        ]
      ]
    ]
