-- All expressions that one text spells mean the same texts: a machine that reads the text makes one form, which means what each of
-- them does.
use Rattle.patterns.proofs.Std.{◌≡◌, ◌⊎◌, ◌↔◌, inl, inr, ℕ, ◌==◌, Bool, true, false, cond, List, [], ◌∷◌, ◌++◌, Option, Some, None, refl, sym, ◌∙◌, ap, subst, append_assoc, IsTrue, AllByRecursion, append-nil}
use Rattle.patterns.proofs.Common.{Interval, Expression, IsCharacter, IsJoin, IsNonemptyJoin, is_in_class, Matches, Written, Plain, Escaped, BadEscape, written}
use Rattle.patterns.proofs.Common.{Level, Alt, Seq, Rep, Atom, SpellsAt, Spells, choice, sequence, star, plus, optional, literal, class, group, one_seq, one_rep, one_atom, blank_before, blank_after, IsSign, IsBlank, IsLiteralRest, IsLiteral, IsClassRest, IsClass, IsClassChar}
use Rattle.patterns.proofs.Literals.{by_plain, not_equal}

-- a set of texts
abbrev Language : Type 1
Language = List ℕ → Type 0

abbrev Same : Language → Language → Type 0
Same K L = (u : List ℕ) → K u ↔ L u

abbrev Join : Language → Language → Language
Join K L u = (v w : List ℕ) × (u ≡ v ++ w) × K v × L w

abbrev Union : Language → Language → Language
Union K L u = K u ⊎ L u

abbrev Empty : Language
Empty u = u ≡ []

abbrev Maybe : Language → Language
Maybe L u = (u ≡ []) ⊎ L u

same : (L : Language) → Same L L
same L u = ((λ x. x), (λ x. x))

turned : (K L : Language) → Same K L → Same L K
turned K L s u = ((s u).1, (s u).0)

through : (K L M : Language) → Same K L → Same L M → Same K M
through K L M s t u = ((λ x. (t u).0 ((s u).0 x)), (λ x. (s u).1 ((t u).1 x)))

join_same : (A K L M : Language) → Same A K → Same L M → Same (Join A L) (Join K M)
join_same A K L M s t u =
    ((λ (v, w, e, a, l). (v, w, e, (s v).0 a, (t w).0 l)), (λ (v, w, e, k, m). (v, w, e, (s v).1 k, (t w).1 m)))

union_same : (A K L M : Language) → Same A K → Same L M → Same (Union A L) (Union K M)
union_same A K L M s t u =
    ((λ x. elim x [ inl a ↦ inl ((s u).0 a) | inr b ↦ inr ((t u).0 b) ]), (λ x. elim x [ inl a ↦ inl ((s u).1 a) | inr b ↦ inr ((t u).1 b) ]))

join_assoc : (K L M : Language) → Same (Join (Join K L) M) (Join K (Join L M))
join_assoc K L M u = (
  (λ (v, w, e, (x, y, f, k, l), m). (x, y ++ w, e ∙ ap (λ z. z ++ w) f ∙ append_assoc x y w, k, (y, w, refl, l, m))),
  (λ (x, v, e, k, (y, w, f, l, m)). (x ++ y, w, e ∙ ap (λ z. x ++ z) f ∙ sym (append_assoc x y w), (x, y, refl, k, l), m)),
)

union_assoc : (K L M : Language) → Same (Union (Union K L) M) (Union K (Union L M))
union_assoc K L M u =
    ((λ x. elim x [ inl (inl a) ↦ inl a | inl (inr b) ↦ inr (inl b) | inr c ↦ inr (inr c) ]), (λ x. elim x [ inl a ↦ inl (inl a) | inr (inl b) ↦ inl (inr b) | inr (inr c) ↦ inr c ]))

empty_joined : (L : Language) → Same (Join Empty L) L
empty_joined L u =
    ((λ (v, w, e, f, l). let P : List ℕ → Type 0 = λ x. L x in subst P (sym (e ∙ ap (λ x. x ++ w) f)) l), (λ l. ([], u, refl, refl, l)))

maybe_same : (K L : Language) → Same K L → Same (Maybe K) (Maybe L)
maybe_same K L s u =
    ((λ x. elim x [ inl a ↦ inl a | inr b ↦ inr ((s u).0 b) ]), (λ x. elim x [ inl a ↦ inl a | inr b ↦ inr ((s u).1 b) ]))

each_same : (K L : Language) → ((u : List ℕ) → K u → L u) → (us : List (List ℕ)) → AllByRecursion K us → AllByRecursion L us
each_same K L s [] h = tt
each_same K L s (u ∷ us) h = (s u h.0, each_same K L s us h.1)

star_same : (K L : Language) → Same K L → Same (IsJoin K) (IsJoin L)
star_same K L s u =
    ((λ (us, all, e). (us, each_same K L (λ v. (s v).0) us all, e)), (λ (us, all, e). (us, each_same L K (λ v. (s v).1) us all, e)))

plus_same : (K L : Language) → Same K L → Same (IsNonemptyJoin K) (IsNonemptyJoin L)
plus_same K L s u =
    ((λ (us, some, all, e). (us, some, each_same K L (λ v. (s v).0) us all, e)), (λ (us, some, all, e). (us, some, each_same L K (λ v. (s v).1) us all, e)))

-- what the machine makes of a text
data Form : Type 0 where
  Nothing : Form
  Blank : Form
  Text : List ℕ → Form
  Members : Bool → List Interval → Form
  Joined : Form → Form → Form
  Either : Form → Form → Form
  Many : Form → Form
  Some_of : Form → Form
  At_most_one : Form → Form

abbrev Means : Form → Language
Means Nothing u = ⊥
Means Blank u = u ≡ []
Means (Text v) u = u ≡ v
Means (Members negated is) u = (c : ℕ) × (u ≡ c ∷ []) × IsCharacter c × IsTrue (is_in_class negated is c)
Means (Joined a b) u = Join (Means a) (Means b) u
Means (Either a b) u = Union (Means a) (Means b) u
Means (Many a) u = IsJoin (Means a) u
Means (Some_of a) u = IsNonemptyJoin (Means a) u
Means (At_most_one a) u = Maybe (Means a) u

-- what stands inside one pair of parentheses: the alternatives after which a `|` stands, the parts since then but the last, and
-- that last part
record Frame : Type 0 where
  pub before : Form
  pub prefix : Form
  pub last : Form

-- outside literals and classes; in a literal with these characters so far; in a class with these intervals and the first character
-- of an item; after that and a `-`
data Mode : Type 0 where
  Out : Mode
  Lit : List ℕ → Mode
  Cls : Bool → List Interval → Option ℕ → Mode
  Dash : Bool → List Interval → ℕ → Mode

abbrev frame : Form → Form → Form → Frame
frame a b c = record { before = a; prefix = b; last = c }

abbrev begun : Frame
begun = frame Nothing Blank Blank

abbrev branch : Frame → Form
branch f = Joined f.prefix f.last

abbrev value : Frame → Form
value f = Either f.before (branch f)

abbrev push : Frame → Form → Frame
push f v = frame f.before (branch f) v

abbrev with_last : (Form → Form) → Frame → Frame
with_last sign f = frame f.before f.prefix (sign f.last)

abbrev next_branch : Frame → Frame
next_branch f = frame (value f) Blank Blank

abbrev interval : ℕ → ℕ → Interval
interval a b = record { first = a; last = b }

abbrev flushed : List Interval → Option ℕ → List Interval
flushed is None = is
flushed is (Some a) = is ++ interval a a ∷ []

abbrev dashed : Bool → List Interval → Option ℕ → Mode
dashed n is None = Cls n is None
dashed n is (Some a) = Dash n is a

abbrev Go : Type 0
Go = List Frame → Frame → Mode → Frame

abbrev popped : Go → List Frame → Frame → Frame
popped go [] f = f
popped go (g ∷ fs) f = go fs (push g (value f)) Out

abbrev outside : Go → List Frame → Frame → ℕ → Frame
outside go fs f c =
    cond (c == 34) (go fs f (Lit []))
    (cond (c == 91) (go fs f (Cls false [] None))
    (cond (c == 40) (go (f ∷ fs) begun Out)
    (cond (c == 41) (popped go fs f)
    (cond (c == 124) (go fs (next_branch f) Out)
    (cond (c == 42) (go fs (with_last Many f) Out)
    (cond (c == 43) (go fs (with_last Some_of f) Out)
    (cond (c == 63) (go fs (with_last At_most_one f) Out)
    (go fs f Out))))))))

abbrev read_one : Go → Written → List Frame → Frame → Mode → Frame
read_one go (Plain o c) fs f Out = outside go fs f c
read_one go (Plain o c) fs f (Lit v) = cond (c == 34) (go fs (push f (Text v)) Out) (go fs f (Lit (v ++ c ∷ [])))
read_one go (Escaped o c) fs f (Lit v) = go fs f (Lit (v ++ c ∷ []))
read_one go (Plain o c) fs f (Cls n is p) =
    cond (c == 93) (go fs (push f (Members n (flushed is p))) Out)
    (cond (c == 45) (go fs f (dashed n is p))
    (cond (c == 94) (go fs f (Cls true [] None))
    (go fs f (Cls n (flushed is p) (Some c)))))
read_one go (Escaped o c) fs f (Cls n is p) = go fs f (Cls n (flushed is p) (Some c))
read_one go (Plain o c) fs f (Dash n is a) = go fs f (Cls n (is ++ interval a c ∷ []) None)
read_one go (Escaped o c) fs f (Dash n is a) = go fs f (Cls n (is ++ interval a c ∷ []) None)
read_one go a fs f m = f

abbrev run : List Written → List Frame → Frame → Mode → Frame
run [] fs f m = f
run (w ∷ ws) fs f m = read_one (λ gs g k. run ws gs g k) w fs f m

-- how a part of this level with these texts changes the frame
abbrev Adds : Level → Language → Frame → Frame → Type 0
Adds Atom L f g = (v : Form) × Same (Means v) L × (g ≡ push f v)
Adds Alt L f g = Same (Means (branch f)) Empty → Same (Means (value g)) (Union (Means f.before) L)
Adds d L f g = (g.before ≡ f.before) × Same (Means (branch g)) (Join (Means (branch f)) L)

abbrev Reports : Level → Language → List Written → Type 0
Reports l L ws = (fs : List Frame) (f : Frame) (rest : List Written) → (g : Frame) × Adds l L f g × (run (ws ++ rest) fs f Out ≡ run rest fs g Out)

blank_shown : (w : Written) (ws : List Written) (fs : List Frame) (f : Frame) → IsBlank w → run (w ∷ ws) fs f Out ≡ run ws fs f Out
blank_shown w ws fs f (inl h) = by_plain (λ x. run (x ∷ ws) fs f Out ≡ run ws fs f Out) 32 w (λ o. refl) h
blank_shown w ws fs f (inr h) = by_plain (λ x. run (x ∷ ws) fs f Out ≡ run ws fs f Out) 9 w (λ o. refl) h

-- one sign outside literals and classes
sign_shown : (c : ℕ) (w : Written) (ws : List Written) (fs : List Frame) (f : Frame) → IsSign c w → run (w ∷ ws) fs f Out ≡ outside (λ gs g k. run ws gs g k) fs f c
sign_shown c w ws fs f h = by_plain (λ x. run (x ∷ ws) fs f Out ≡ outside (λ gs g k. run ws gs g k) fs f c) c w (λ o. refl) h

along : (us vs ws rest : List Written) (fs : List Frame) (f : Frame) → ws ≡ us ++ vs → run (ws ++ rest) fs f Out ≡ run (us ++ (vs ++ rest)) fs f Out
along us vs ws rest fs f e = ap (λ x. run x fs f Out) (ap (λ x. x ++ rest) e ∙ append_assoc us vs rest)

blanks : Same (Means (Joined Blank Blank)) Empty
blanks = empty_joined Empty

choice_same : (f g h : Frame) (L M : Language) → Same (Means (value g)) (Union (Means f.before) L) → Same (Means (value h)) (Union (Means (value g)) M)
    → Same (Means (value h)) (Union (Means f.before) (Union L M))
choice_same f g h L M s t =
    through (Means (value h)) (Union (Means (value g)) M) (Union (Means f.before) (Union L M)) t
    (through (Union (Means (value g)) M) (Union (Union (Means f.before) L) M) (Union (Means f.before) (Union L M))
    (union_same (Means (value g)) (Union (Means f.before) L) M M s (same M)) (union_assoc (Means f.before) L M))

choice_shown : (us vs ws : List Written) (w : Written) (L M : Language) → ws ≡ us ++ w ∷ vs → IsSign 124 w → Reports Alt L us → Reports Alt M vs → Reports Alt (Union L M) ws
choice_shown us vs ws w L M e sign a b fs f rest =
    let one = a fs f (w ∷ vs ++ rest) in
    let two = b fs (next_branch one.0) rest in (
      two.0,
      (λ t. choice_same f one.0 two.0 L M (one.1 t) (two.1 blanks)),
      along us (w ∷ vs) ws rest fs f e ∙ one.2 ∙ sign_shown 124 w (vs ++ rest) fs one.0 sign ∙ two.2,
    )

sequence_same : (f g h : Frame) (L M : Language) → Same (Means (branch g)) (Join (Means (branch f)) L) → Same (Means (branch h)) (Join (Means (branch g)) M)
    → Same (Means (branch h)) (Join (Means (branch f)) (Join L M))
sequence_same f g h L M s t =
    through (Means (branch h)) (Join (Means (branch g)) M) (Join (Means (branch f)) (Join L M)) t
    (through (Join (Means (branch g)) M) (Join (Join (Means (branch f)) L) M) (Join (Means (branch f)) (Join L M))
    (join_same (Means (branch g)) (Join (Means (branch f)) L) M M s (same M)) (join_assoc (Means (branch f)) L M))

sequence_shown : (us vs ws : List Written) (L M : Language) → ws ≡ us ++ vs → Reports Seq L us → Reports Seq M vs → Reports Seq (Join L M) ws
sequence_shown us vs ws L M e a b fs f rest =
    let one = a fs f (vs ++ rest) in
    let two = b fs one.0 rest in (two.0, (two.1.0 ∙ one.1.0, sequence_same f one.0 two.0 L M one.1.1 two.1.1), along us vs ws rest fs f e ∙ one.2 ∙ two.2)

-- a sign of repetition after an atom
sign_repeats : (sign : Form → Form) (K L : Language) (c : ℕ) (us ws : List Written) (w : Written) → ((v : Form) → Same (Means v) K → Same (Means (sign v)) L)
    → ws ≡ us ++ w ∷ [] → IsSign c w → ((go : Go) (fs : List Frame) (f : Frame) → outside go fs f c ≡ go fs (with_last sign f) Out) → Reports Atom K us → Reports Rep L ws
sign_repeats sign K L c us ws w means e signed k a fs f rest =
    let one = a fs f (w ∷ rest) in
    let v = one.1.0 in (
      with_last sign (push f v),
      (refl, join_same (Means (branch f)) (Means (branch f)) (Means (sign v)) L (same (Means (branch f))) (means v one.1.1)),
      along us (w ∷ []) ws rest fs f e ∙ one.2 ∙ ap (λ x. run (w ∷ rest) fs x Out) one.1.2 ∙ sign_shown c w rest fs (push f v) signed ∙ k (λ gs g m. run rest gs g m) fs (push f v),
    )

atom_shown : (L : Language) (ws : List Written) → Reports Atom L ws → Reports Rep L ws
atom_shown L ws a fs f rest =
    let one = a fs f rest in
    let v = one.1.0 in
    let P : Frame → Type 0 = λ g. Adds Rep L f g in
    (one.0, subst P (sym one.1.2) (refl, join_same (Means (branch f)) (Means (branch f)) (Means v) L (same (Means (branch f))) one.1.1), one.2)

branch_same : (f g : Frame) (L : Language) → g.before ≡ f.before → Same (Means (branch g)) (Join (Means (branch f)) L)
    → Same (Means (branch f)) Empty → Same (Means (value g)) (Union (Means f.before) L)
branch_same f g L e s t =
    let P : Form → Type 0 = λ b. Same (Means (value g)) (Union (Means b) L) in
    subst P e (union_same (Means g.before) (Means g.before) (Means (branch g)) L (same (Means g.before))
    (through (Means (branch g)) (Join (Means (branch f)) L) L s
    (through (Join (Means (branch f)) L) (Join Empty L) L (join_same (Means (branch f)) Empty L L t (same L)) (empty_joined L))))

seq_shown : (L : Language) (ws : List Written) → Reports Seq L ws → Reports Alt L ws
seq_shown L ws a fs f rest =
    let one = a fs f rest in
    (one.0, (λ t. branch_same f one.0 L one.1.0 one.1.1 t), one.2)

before_shown : (l : Level) (L : Language) (us : List Written) (w : Written) → IsBlank w → Reports l L us → Reports l L (w ∷ us)
before_shown l L us w blank a fs f rest = let one = a fs f rest in (one.0, one.1, blank_shown w (us ++ rest) fs f blank ∙ one.2)

after_shown : (l : Level) (L : Language) (us ws : List Written) (w : Written) → ws ≡ us ++ w ∷ [] → IsBlank w → Reports l L us → Reports l L ws
after_shown l L us ws w e blank a fs f rest =
    let one = a fs f (w ∷ rest) in
    (one.0, one.1, along us (w ∷ []) ws rest fs f e ∙ one.2 ∙ blank_shown w rest fs one.0 blank)

none_either : (L : Language) → Same (Union (Means Nothing) L) L
none_either L u = ((λ x. elim x [ inl a ↦ absurd a | inr b ↦ b ]), (λ b. inr b))

group_shown : (us ws : List Written) (w x : Written) (L : Language) → ws ≡ w ∷ us ++ x ∷ [] → IsSign 40 w → IsSign 41 x → Reports Alt L us → Reports Atom L ws
group_shown us ws w x L e opens closes a fs f rest =
    let one = a (f ∷ fs) begun (x ∷ rest) in (
      push f (value one.0),
      (value one.0, through (Means (value one.0)) (Union (Means Nothing) L) L (one.1 blanks) (none_either L), refl),
      ap (λ y. run y fs f Out) (ap (λ y. y ++ rest) e ∙ ap (λ y. w ∷ y) (append_assoc us (x ∷ []) rest))
          ∙ sign_shown 40 w (us ++ x ∷ rest) fs f opens ∙ one.2 ∙ sign_shown 41 x rest (f ∷ fs) one.0 closes,
    )

literal_rest_shown : (v : List ℕ) (ws rest : List Written) (fs : List Frame) (f : Frame) (u : List ℕ) → IsLiteralRest v ws → run (ws ++ rest) fs f (Lit u) ≡ run rest fs (push f (Text (u ++ v))) Out
literal_rest_shown v [] rest fs f u h = absurd h
literal_rest_shown [] (Plain o c ∷ ws) rest fs f u h =
    let P : ℕ → Type 0 = λ x. run (Plain o x ∷ ws ++ rest) fs f (Lit u) ≡ run rest fs (push f (Text (u ++ []))) Out in
    subst P h.0 (ap (λ y. run (y ++ rest) fs (push f (Text u)) Out) h.1 ∙ ap (λ y. run rest fs (push f (Text y)) Out) (sym (append-nil u)))
literal_rest_shown (c ∷ v) (Plain o x ∷ ws) rest fs f u h =
    rw (not_equal x 34 h.0.1) (literal_rest_shown v ws rest fs f (u ++ x ∷ []) h.1 ∙ ap (λ y. run rest fs (push f (Text y)) Out) (append_assoc u (x ∷ []) v ∙ ap (λ y. u ++ y ∷ v) (sym h.0.0)))
literal_rest_shown (c ∷ v) (Escaped o x ∷ ws) rest fs f u h =
    literal_rest_shown v ws rest fs f (u ++ x ∷ []) h.1 ∙ ap (λ y. run rest fs (push f (Text y)) Out) (append_assoc u (x ∷ []) v ∙ ap (λ y. u ++ y ∷ v) (sym h.0))
literal_rest_shown v ws rest fs f u h = absurd h.0

literal_shown : (v : List ℕ) (ws : List Written) → IsLiteral v ws → Reports Atom (λ u. u ≡ v) ws
literal_shown v [] h fs f rest = absurd h
literal_shown v (w ∷ ws) h fs f rest =
    (push f (Text v), (Text v, same (λ u. u ≡ v), refl), sign_shown 34 w (ws ++ rest) fs f h.0 ∙ literal_rest_shown v ws rest fs f [] h.1)

class_char_shown : (c : ℕ) (w : Written) (ws : List Written) (fs : List Frame) (f : Frame) (n : Bool) (is : List Interval) (p : Option ℕ)
    → IsClassChar c w → run (w ∷ ws) fs f (Cls n is p) ≡ run ws fs f (Cls n (flushed is p) (Some c))
class_char_shown c (Plain o x) ws fs f n is p h =
    rw (not_equal x 93 h.1, not_equal x 45 h.2, not_equal x 94 h.3) (ap (λ y. run ws fs f (Cls n (flushed is p) (Some y))) (sym h.0))
class_char_shown c (Escaped o x) ws fs f n is p h = ap (λ y. run ws fs f (Cls n (flushed is p) (Some y))) (sym h)
class_char_shown c (BadEscape o) ws fs f n is p h = absurd h

last_char_shown : (c : ℕ) (w : Written) (ws : List Written) (fs : List Frame) (f : Frame) (n : Bool) (is : List Interval) (a : ℕ) → IsClassChar c w
    → run (w ∷ ws) fs f (Dash n is a) ≡ run ws fs f (Cls n (is ++ interval a c ∷ []) None)
last_char_shown c (Plain o x) ws fs f n is a h = ap (λ y. run ws fs f (Cls n (is ++ interval a y ∷ []) None)) (sym h.0)
last_char_shown c (Escaped o x) ws fs f n is a h = ap (λ y. run ws fs f (Cls n (is ++ interval a y ∷ []) None)) (sym h)
last_char_shown c (BadEscape o) ws fs f n is a h = absurd h

-- one sign in a class
class_sign_shown : (c : ℕ) (w : Written) (ws : List Written) (fs : List Frame) (f : Frame) (m : Mode) → IsSign c w → run (w ∷ ws) fs f m ≡ run (Plain 0 c ∷ ws) fs f m
class_sign_shown c (Plain o x) ws fs f Out h = ap (λ y. run (Plain 0 y ∷ ws) fs f Out) (sym h)
class_sign_shown c (Plain o x) ws fs f (Lit v) h = ap (λ y. run (Plain 0 y ∷ ws) fs f (Lit v)) (sym h)
class_sign_shown c (Plain o x) ws fs f (Cls n is p) h = ap (λ y. run (Plain 0 y ∷ ws) fs f (Cls n is p)) (sym h)
class_sign_shown c (Plain o x) ws fs f (Dash n is a) h = ap (λ y. run (Plain 0 y ∷ ws) fs f (Dash n is a)) (sym h)
class_sign_shown c d ws fs f m h = absurd h

single : (i : Interval) (c : ℕ) → i.first ≡ c → i.last ≡ i.first → interval c c ≡ i
single i c e f = sym (ap (λ x. interval x i.last) e ∙ ap (λ x. interval c x) (f ∙ e))

items_shown : (js : List Interval) (ws rest : List Written) (fs : List Frame) (f : Frame) (n : Bool) (is : List Interval) (p : Option ℕ) → IsClassRest js ws
    → run (ws ++ rest) fs f (Cls n is p) ≡ run rest fs (push f (Members n (flushed is p ++ js))) Out
items_shown [] ws rest fs f n is p (w, e, sign) =
    ap (λ x. run (x ++ rest) fs f (Cls n is p)) e ∙ class_sign_shown 93 w rest fs f (Cls n is p) sign
    ∙ ap (λ x. run rest fs (push f (Members n x)) Out) (sym (append-nil (flushed is p)))
items_shown (j ∷ js) ws rest fs f n is p ([], more, e, hi, hr) = absurd hi
items_shown (j ∷ js) ws rest fs f n is p (a ∷ [], more, e, hi, hr) =
    ap (λ x. run (x ++ rest) fs f (Cls n is p)) e ∙ class_char_shown j.first a (more ++ rest) fs f n is p hi.0
    ∙ items_shown js more rest fs f n (flushed is p) (Some j.first) hr
    ∙ ap (λ x. run rest fs (push f (Members n x)) Out) (append_assoc (flushed is p) (interval j.first j.first ∷ []) js ∙ ap (λ x. flushed is p ++ x ∷ js) (single j j.first refl hi.1))
items_shown (j ∷ js) ws rest fs f n is p (a ∷ b ∷ [], more, e, hi, hr) = absurd hi
items_shown (j ∷ js) ws rest fs f n is p (a ∷ b ∷ c ∷ [], more, e, hi, hr) =
    ap (λ x. run (x ++ rest) fs f (Cls n is p)) e ∙ class_char_shown j.first a (b ∷ c ∷ more ++ rest) fs f n is p hi.0
    ∙ class_sign_shown 45 b (c ∷ more ++ rest) fs f (Cls n (flushed is p) (Some j.first)) hi.1
    ∙ last_char_shown j.last c (more ++ rest) fs f n (flushed is p) j.first hi.2
    ∙ items_shown js more rest fs f n (flushed is p ++ interval j.first j.last ∷ []) None hr
    ∙ ap (λ x. run rest fs (push f (Members n x)) Out) (append_assoc (flushed is p) (j ∷ []) js)
items_shown (j ∷ js) ws rest fs f n is p (a ∷ b ∷ c ∷ d ∷ vs, more, e, hi, hr) = absurd hi

class_shown : (n : Bool) (is : List Interval) (ws : List Written) → IsClass n is ws → Reports Atom (Means (Members n is)) ws
class_shown false is (w ∷ ws) h fs f rest =
    (push f (Members false is), (Members false is, same (Means (Members false is)), refl), sign_shown 91 w (ws ++ rest) fs f h.0 ∙ items_shown is ws rest fs f false [] None h.1)
class_shown true is (w ∷ x ∷ ws) h fs f rest = (
  push f (Members true is),
  (Members true is, same (Means (Members true is)), refl),
  sign_shown 91 w (x ∷ ws ++ rest) fs f h.0 ∙ class_sign_shown 94 x (ws ++ rest) fs f (Cls false [] None) h.1 ∙ items_shown is ws rest fs f true [] None h.2,
)
class_shown n is ws h fs f rest = absurd h

shown : {l : Level} {d : ℕ} {e : Expression} {ws : List Written} → SpellsAt l d e ws → Reports l (Matches e) ws
shown (choice {a = a} {b = b} d us vs ws w f sign s t) = choice_shown us vs ws w (Matches a) (Matches b) f sign (shown s) (shown t)
shown (sequence {a = a} {b = b} d us vs ws f s t) = sequence_shown us vs ws (Matches a) (Matches b) f (shown s) (shown t)
shown (star {a = a} d us ws w f sign s) = sign_repeats Many (Matches a) (IsJoin (Matches a)) 42 us ws w (λ v. star_same (Means v) (Matches a)) f sign (λ go fs g. refl) (shown s)
shown (plus {a = a} d us ws w f sign s) = sign_repeats Some_of (Matches a) (IsNonemptyJoin (Matches a)) 43 us ws w (λ v. plus_same (Means v) (Matches a)) f sign (λ go fs g. refl) (shown s)
shown (optional {a = a} d us ws w f sign s) = sign_repeats At_most_one (Matches a) (Maybe (Matches a)) 63 us ws w (λ v. maybe_same (Means v) (Matches a)) f sign (λ go fs g. refl) (shown s)
shown (literal d v ws h) = literal_shown v.items ws h
shown (class d negated v ws h) = class_shown negated v.items ws h
shown (group {e = e} d us ws w x f opens closes small s) = group_shown us ws w x (Matches e) f opens closes (shown s)
shown (one_seq {e = e} d ws s) = seq_shown (Matches e) ws (shown s)
shown (one_rep d ws s) = shown s
shown (one_atom {e = e} d ws s) = atom_shown (Matches e) ws (shown s)
shown (blank_before {e = e} l d us w blank s) = before_shown l (Matches e) us w blank (shown s)
shown (blank_after {e = e} l d us ws w f blank s) = after_shown l (Matches e) us ws w f blank (shown s)

-- the form that the machine makes of a text
abbrev form : List Written → Form
form ws = value (run ws [] begun Out)

formed : (e : Expression) (d : ℕ) (ws : List Written) → SpellsAt Alt d e ws → Same (Means (form ws)) (Matches e)
formed e d ws s =
    let one = shown s [] begun [] in
    let P : Frame → Type 0 = λ g. Same (Means (value g)) (Matches e) in
    subst P (sym (ap (λ x. run x [] begun Out) (sym (append-nil ws)) ∙ one.2))
    (through (Means (value one.0)) (Union (Means Nothing) (Matches e)) (Matches e) (one.1 blanks) (none_either (Matches e)))

-- what one text spells means one set of texts
pub one_meaning : (t : List ℕ) (e g : Expression) → Spells e t → Spells g t → (u : List ℕ) → Matches e u ↔ Matches g u
one_meaning t e g s r =
    through (Matches e) (Means (form (written 0 t))) (Matches g) (turned (Means (form (written 0 t))) (Matches e) (formed e 0 (written 0 t) s)) (formed g 0 (written 0 t) r)
