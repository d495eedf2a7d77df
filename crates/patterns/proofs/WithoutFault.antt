-- A text without a fault spells a well made expression: what has been read is parts of one, and each further character goes on with them.
use Rattle.patterns.proofs.Std.{null_ptr, inl, inr, ℕ, zero, suc, nat_lt, nat_le, Bool, true, false, not, List, length, None, Ok, Err, Vec, refl, sym, ap, subst, if◌then◌else◌, AllByRecursion, list_all, digit_value, Global}
use Rattle.patterns.proofs.Std.{◌≡◌, ◌≢◌, ◌+◌, ◌-◌, ◌*◌, ◌^◌, ◌<◌, ◌≤◌, ◌==◌, ◌&&◌, ◌||◌, [], ◌∷◌, ◌++◌, ◌∙◌}
use Rattle.patterns.proofs.Std.{append_assoc, length-append, add-one, le_refl, arith, recursion_from_All, nat_tests, and_parts}
use Rattle.patterns.proofs.Common.{Interval, Expression, Literal, Class, Sequence', Choice', Star', Plus', Optional', Address, Level, Alt, Seq, Rep, Atom, SpellsAt, Spells, IsSign, IsBlank, IsLiteralChar, IsLiteralRest, IsLiteral, IsItem, IsClassChar, IsClassRest, IsClass, IsWellMade}
use Rattle.patterns.proofs.Common.{choice, sequence, star, plus, optional, literal, class, group, one_seq, one_rep, one_atom, blank_before, blank_after, IsCharacter, IsText, is_scalar, is_mark, Written, Plain, Escaped, BadEscape, written, escape, braced, digits}
use Rattle.patterns.proofs.Common.{Before, Nothing, AnAtom, ARepetition, is_something, is_atom, InItem, Opened, Items, First, Dash, State, Outside, InLiteral, InClass, Next, step, closed, close, dash, caret, char_in_class, is_nothing, fault_from, fault_at_end, or_later, first_fault}
use Rattle.patterns.proofs.Common.{is_empty, is_range}
use Rattle.std.proofs.Common.{append-nil}
use Rattle.patterns.proofs.Literals.{GoesOn, one_more, all_and_one, not_empty_after}
use Rattle.patterns.proofs.WellMade.{or_case, ranges, has_member, filled}

-- `ws` spells a well made expression as a part of this level, inside `d` parentheses
abbrev Makes : Level → ℕ → List Written → Type 0
Makes l d ws = (e : Expression) × SpellsAt l d e ws × IsWellMade e

-- `ws`, and whatever sequence comes after it, spell alternatives
abbrev TakesSequence : ℕ → List Written → Type 0
TakesSequence d ws = (us : List Written) → Makes Seq d us → Makes Alt d (ws ++ us)

-- `ws` is what such a prefix takes, and then a part of this level
abbrev EndsWith : Level → ℕ → List Written → Type 0
EndsWith l d ws = (us vs : List Written) × (ws ≡ us ++ vs) × TakesSequence d us × Makes l d vs

-- what `ws`, after the last open parenthesis, is where `Before` stands before the place
abbrev Stands : ℕ → Before → List Written → Type 0
Stands d Nothing ws = TakesSequence d ws
Stands d AnAtom ws = EndsWith Atom d ws
Stands d ARepetition ws = EndsWith Rep d ws

-- `ws` ends where the last of `d` open parentheses does
abbrev Opens : ℕ → List Written → Type 0
Opens zero ws = ws ≡ []
Opens (suc d) ws = (us vs : List Written) × (w : Written) × (ws ≡ us ++ (vs ++ w ∷ [])) × IsSign 40 w × (d < 64) × Opens d us × TakesSequence d vs

-- `cs` ends `ws`, and an atom may stand in its place
abbrev Begun : ℕ → List Written → List Written → Type 0
Begun d ws cs = (us vs : List Written) × (ws ≡ us ++ (vs ++ cs)) × Opens d us × TakesSequence d vs

-- `IsSoFar negated items at cs`: `cs` is a class up to here, its bracket included
abbrev IsSoFar : Bool → List Interval → InItem → List Written → Type 0
IsSoFar negated items Opened cs =
    GoesOn IsClassRest (IsClass negated) items cs × ((w : Written) → IsSign 94 w → GoesOn IsClassRest (IsClass true) items (cs ++ w ∷ []))
IsSoFar negated items Items cs = GoesOn IsClassRest (IsClass negated) items cs
IsSoFar negated items (First p a) cs =
    (bs : List Written) × (x : Written) × (cs ≡ bs ++ x ∷ []) × IsClassChar a x × (is_scalar a ≡ true) × GoesOn IsClassRest (IsClass negated) items bs
IsSoFar negated items (Dash p a) cs =
    (bs : List Written) × (x y : Written) × (cs ≡ bs ++ x ∷ y ∷ []) × IsClassChar a x × IsSign 45 y × (is_scalar a ≡ true) × GoesOn IsClassRest (IsClass negated) items bs

-- what has been read where a reader is in this state
abbrev Reached : State → List Written → Type 0
Reached (Outside d before) ws = (us vs : List Written) × (ws ≡ us ++ vs) × Opens d us × Stands d before vs
Reached (InLiteral d quote empty) ws =
    (ls : List Written) × (v : List ℕ) × Begun d ws ls × (is_empty v ≡ empty) × GoesOn IsLiteralRest IsLiteral v ls
Reached (InClass d bracket negated items at) ws =
    (cs : List Written) × Begun d ws cs × (list_all is_range items ≡ true) × IsSoFar negated items at cs

-- what has been read after a step, if it meets no fault
abbrev Goes : List Written → Next → Type 0
Goes ws (Ok s) = Reached s ws
Goes ws (Err f) = Unit {0}

by_test : {X : Type 0} (P : X → Type 0) (b : Bool) {x y : X} → (b ≡ true → P x) → (b ≡ false → P y) → P (if b then x else y)
by_test P true f g = f refl
by_test P false f g = g refl

sign_of : (c a : ℕ) → (c == a) ≡ true → a ≡ c
sign_of c a h = grind (arith, nat_tests)

differs : (c a : ℕ) → (c == a) ≡ false → c ≢ a
differs c a h = grind (arith, nat_tests)

below : (a b : ℕ) → nat_lt a b ≡ true → a < b
below a b h = grind (arith, nat_tests)

not_below : (a b : ℕ) → nat_lt a b ≡ false → b ≤ a
not_below a b h = grind (arith, nat_tests)

-- lists and addresses as they may lie in memory
abbrev heap : Global
heap = record { memory = record { seal = tt } }

abbrev nowhere : Address
nowhere = record { ptr = null_ptr; alloc = heap; value = tt }

abbrev vec_of : {A : Type 0} (xs : List A) → length xs < 2 ^ 63 → Vec A Global
vec_of xs small = record { ptr = null_ptr; len = length xs; cap = length xs; alloc = heap; items = xs; ok = (refl, le_refl (length xs)); small = small }

along : {l : Level} {d : ℕ} {ws us : List Written} → ws ≡ us → Makes l d us → Makes l d ws
along {l = l} {d = d} e m = let P : List Written → Type 0 = Makes l d in subst P (sym e) m

in_sequence : {d : ℕ} {us vs : List Written} → Makes Seq d us → Makes Seq d vs → Makes Seq d (us ++ vs)
in_sequence {d = d} {us = us} {vs = vs} (a, s, m) (b, t, k) = (Sequence' nowhere a nowhere b, sequence d us vs (us ++ vs) refl s t, (m, k))

as_rep : {d : ℕ} {ws : List Written} → Makes Atom d ws → Makes Rep d ws
as_rep {d = d} {ws = ws} (e, s, m) = (e, one_atom d ws s, m)

as_seq : {d : ℕ} {ws : List Written} → Makes Rep d ws → Makes Seq d ws
as_seq {d = d} {ws = ws} (e, s, m) = (e, one_rep d ws s, m)

as_alt : {d : ℕ} {ws : List Written} → Makes Seq d ws → Makes Alt d ws
as_alt {d = d} {ws = ws} (e, s, m) = (e, one_seq d ws s, m)

blank_on : {l : Level} {d : ℕ} {ws : List Written} (w : Written) → IsBlank w → Makes l d ws → Makes l d (ws ++ w ∷ [])
blank_on {l = l} {d = d} {ws = ws} w blank (e, s, m) = (e, blank_after l d ws (ws ++ w ∷ []) w refl blank s, m)

-- a part that ends what stands there is the beginning of a sequence
before_sequence : {d : ℕ} {ws : List Written} (l : Level) → ((vs : List Written) → Makes l d vs → Makes Seq d vs) → EndsWith l d ws → TakesSequence d ws
before_sequence l up (us, vs, e, takes, m) rest q =
    along (ap (λ x. x ++ rest) e ∙ append_assoc us vs rest) (takes (vs ++ rest) (in_sequence (up vs m) q))

takes_sequence : (d : ℕ) (b : Before) (ws : List Written) → Stands d b ws → TakesSequence d ws
takes_sequence d Nothing ws h = h
takes_sequence d AnAtom ws h = before_sequence Atom (λ vs m. as_seq (as_rep m)) h
takes_sequence d ARepetition ws h = before_sequence Rep (λ vs m. as_seq m) h

-- and may end the alternatives
alternatives : (d : ℕ) (b : Before) (ws : List Written) → is_something b ≡ true → Stands d b ws → Makes Alt d ws
alternatives d Nothing ws h m = cc
alternatives d AnAtom ws h (us, vs, e, takes, m) = along e (takes vs (as_seq (as_rep m)))
alternatives d ARepetition ws h (us, vs, e, takes, m) = along e (takes vs (as_seq m))

atom_begins : (d : ℕ) (b : Before) (ws : List Written) → Reached (Outside d b) ws → Begun d ws []
atom_begins d b ws (us, vs, e, opens, h) = (us, vs, e ∙ ap (λ x. us ++ x) (sym (append-nil vs)), opens, takes_sequence d b vs h)

goes_on : {d : ℕ} {ws cs : List Written} (w : Written) → Begun d ws cs → Begun d (ws ++ w ∷ []) (cs ++ w ∷ [])
goes_on {cs = cs} w (us, vs, e, opens, takes) =
    (us, vs, ap (λ x. x ++ w ∷ []) e ∙ append_assoc us (vs ++ cs) (w ∷ []) ∙ ap (λ x. us ++ x) (append_assoc vs cs (w ∷ [])), opens, takes)

no_longer : {d : ℕ} {ws cs : List Written} → Begun d ws cs → length cs ≤ length ws
no_longer {cs = cs} (us, vs, e, opens, takes) = omega (arith, ap length e ∙ length-append us (vs ++ cs), length-append vs cs)

atom_ends : {d : ℕ} {ws cs : List Written} → Begun d ws cs → Makes Atom d cs → Reached (Outside d AnAtom) ws
atom_ends {cs = cs} (us, vs, e, opens, takes) m = (us, vs ++ cs, e, opens, (vs, cs, refl, takes, m))

blank_stands : (d : ℕ) (b : Before) (ws : List Written) (w : Written) → IsBlank w → Stands d b ws → Stands d b (ws ++ w ∷ [])
blank_stands d Nothing ws w blank h =
    λ rest (e, s, m). along (append_assoc ws (w ∷ []) rest) (h (w ∷ rest) (e, blank_before Seq d rest w blank s, m))
blank_stands d y ws w blank (us, vs, e, takes, m) =
    (us, vs ++ w ∷ [], ap (λ x. x ++ w ∷ []) e ∙ append_assoc us vs (w ∷ []), takes, blank_on w blank m)

-- one character more outside literals and classes, after which this stands before the place
goes_outside : (d : ℕ) (b r : Before) (ws : List Written) (w : Written) → ((vs : List Written) → Stands d b vs → Stands d r (vs ++ w ∷ [])) → Reached (Outside d b) ws
    → Reached (Outside d r) (ws ++ w ∷ [])
goes_outside d b r ws w stands (us, vs, e, opens, h) = (us, vs ++ w ∷ [], ap (λ x. x ++ w ∷ []) e ∙ append_assoc us vs (w ∷ []), opens, stands vs h)

bar_stands : (d : ℕ) (b : Before) (ws : List Written) (w : Written) → is_something b ≡ true → IsSign 124 w → Stands d b ws → TakesSequence d (ws ++ w ∷ [])
bar_stands d b ws w something sign h rest q =
    let (a, s, m) = alternatives d b ws something h in
    let (c, t, k) = as_alt q in
    (Choice' nowhere a nowhere c, choice d ws rest ((ws ++ w ∷ []) ++ rest) w (append_assoc ws (w ∷ []) rest) sign s t, (m, k))

sign_stands : (d : ℕ) (b : Before) (ws : List Written) (w : Written) → ((vs : List Written) → Makes Atom d vs → Makes Rep d (vs ++ w ∷ [])) → is_atom b ≡ true
    → Stands d b ws → EndsWith Rep d (ws ++ w ∷ [])
sign_stands d AnAtom ws w signed h (us, vs, e, takes, m) = (us, vs ++ w ∷ [], ap (λ x. x ++ w ∷ []) e ∙ append_assoc us vs (w ∷ []), takes, signed vs m)
sign_stands d e ws w signed h m = cc

repeats : (d : ℕ) (o c : ℕ) → (c == 42 || (c == 43 || c == 63)) ≡ true → (vs : List Written) → Makes Atom d vs → Makes Rep d (vs ++ Plain o c ∷ [])
repeats d o c h vs (e, s, m) =
    or_case (c == 42) (c == 43 || c == 63) h
    (λ g. (Star' nowhere e, star d vs (vs ++ Plain o c ∷ []) (Plain o c) refl (sign_of c 42 g) s, m))
    (λ g. or_case (c == 43) (c == 63) g
    (λ k. (Plus' nowhere e, plus d vs (vs ++ Plain o c ∷ []) (Plain o c) refl (sign_of c 43 k) s, m))
    (λ k. (Optional' nowhere e, optional d vs (vs ++ Plain o c ∷ []) (Plain o c) refl (sign_of c 63 k) s, m)))

group_opens : (d : ℕ) (b : Before) (ws : List Written) (w : Written) → IsSign 40 w → d < 64 → Reached (Outside d b) ws → Reached (Outside (d + 1) Nothing) (ws ++ w ∷ [])
group_opens d b ws w sign small (us, vs, e, opens, h) =
    let P : ℕ → Type 0 = λ k. Reached (Outside k Nothing) (ws ++ w ∷ []) in
    subst P (sym (add-one d))
    (ws ++ w ∷ [], [], sym (append-nil (ws ++ w ∷ [])), (us, vs, w, ap (λ x. x ++ w ∷ []) e ∙ append_assoc us vs (w ∷ []), sign, small, opens, takes_sequence d b vs h), (λ rest q. as_alt q))

group_closes : (d : ℕ) (b : Before) (ws : List Written) (x : Written) → IsSign 41 x → is_something b ≡ true → nat_lt 0 d ≡ true → Reached (Outside d b) ws
    → Reached (Outside (d - 1) AnAtom) (ws ++ x ∷ [])
group_closes zero b ws x sign something h r = cc
group_closes (suc d) b ws x sign something h (us, vs, e, (before, prefix, w, f, opening, small, opens, takes), stands) =
    let (a, s, m) = alternatives (suc d) b vs something stands in
    let all = w ∷ vs ++ x ∷ [] in
    let same : suc d - 1 ≡ d = omega arith in
    let P : ℕ → Type 0 = λ k. Reached (Outside k AnAtom) (ws ++ x ∷ []) in
    let whole : ws ++ x ∷ [] ≡ before ++ (prefix ++ all) =
    ap (λ y. y ++ x ∷ []) e ∙ append_assoc us vs (x ∷ []) ∙ ap (λ y. y ++ (vs ++ x ∷ [])) f
    ∙ append_assoc before (prefix ++ w ∷ []) (vs ++ x ∷ []) ∙ ap (λ y. before ++ y) (append_assoc prefix (w ∷ []) (vs ++ x ∷ [])) in
    subst P (sym same) (atom_ends (before, prefix, whole, opens, takes) (a, group d vs all w x refl opening sign small s, m))

literal_begins : (d o c : ℕ) (b : Before) (ws : List Written) → (c == 34) ≡ true → Reached (Outside d b) ws → Reached (InLiteral d o true) (ws ++ Plain o c ∷ [])
literal_begins d o c b ws h r =
    (Plain o c ∷ [], [], goes_on (Plain o c) (atom_begins d b ws r), refl, (λ v left g. (sign_of c 34 h, g)))

class_begins : (d o c : ℕ) (b : Before) (ws : List Written) → (c == 91) ≡ true → Reached (Outside d b) ws → Reached (InClass d o false [] Opened) (ws ++ Plain o c ∷ [])
class_begins d o c b ws h r =
    (Plain o c ∷ [], goes_on (Plain o c) (atom_begins d b ws r), refl, ((λ v left g. (sign_of c 91 h, g)), (λ w sign v left g. (sign_of c 91 h, sign, g))))

outside_goes : (d : ℕ) (b : Before) (o c : ℕ) (ws : List Written) → Reached (Outside d b) ws → Goes (ws ++ Plain o c ∷ []) (step (Outside d b) (Plain o c))
outside_goes d b o c ws r =
    let w = Plain o c in
    let P : Next → Type 0 = Goes (ws ++ w ∷ []) in
    by_test P (c == 32 || c == 9)
    (λ h. goes_outside d b b ws w (λ vs. blank_stands d b vs w (or_case (c == 32) (c == 9) h (λ g. inl (sign_of c 32 g)) (λ g. inr (sign_of c 9 g)))) r)
    (λ _. by_test P (c == 34) (λ h. literal_begins d o c b ws h r)
    (λ _. by_test P (c == 91) (λ h. class_begins d o c b ws h r)
    (λ _. by_test P (c == 40 && nat_lt d 64)
    (λ h. let g = and_parts (c == 40) (nat_lt d 64) h in group_opens d b ws w (sign_of c 40 g.0) (below d 64 g.1) r)
    (λ _. by_test P (c == 41 && (is_something b && nat_lt 0 d))
    (λ h. let g = and_parts (c == 41) (is_something b && nat_lt 0 d) h in let k = and_parts (is_something b) (nat_lt 0 d) g.1 in group_closes d b ws w (sign_of c 41 g.0) k.0 k.1 r)
    (λ _. by_test P (c == 124 && is_something b)
    (λ h. let g = and_parts (c == 124) (is_something b) h in goes_outside d b Nothing ws w (λ vs. bar_stands d b vs w g.1 (sign_of c 124 g.0)) r)
    (λ _. by_test P ((c == 42 || (c == 43 || c == 63)) && is_atom b)
    (λ h. let g = and_parts (c == 42 || (c == 43 || c == 63)) (is_atom b) h in goes_outside d b ARepetition ws w (λ vs. sign_stands d b vs w (repeats d o c g.0) g.1) r)
    (λ _. tt)))))))

longer_literal : (v : List ℕ) (ws : List Written) → IsLiteralRest v ws → length v < length ws
longer_literal v [] h = absurd h
longer_literal [] (w ∷ ws) h = omega arith
longer_literal (c ∷ v) (w ∷ ws) h = omega (arith, longer_literal v ws h.1)

few_characters : (v : List ℕ) (ws : List Written) → IsLiteral v ws → length v < length ws
few_characters v [] h = absurd h
few_characters v (w ∷ ws) h = omega (arith, longer_literal v ws h.1)

literal_ends : {d : ℕ} {ws ls : List Written} (v : List ℕ) (w : Written) → Begun d ws ls → is_empty v ≡ false → GoesOn IsLiteralRest IsLiteral v ls → IsSign 34 w
    → length (ws ++ w ∷ []) < 2 ^ 63 → Reached (Outside d AnAtom) (ws ++ w ∷ [])
literal_ends {d = d} {ls = ls} v w begun some goes sign small =
    let P : List ℕ → Type 0 = λ x. IsLiteral x (ls ++ w ∷ []) in
    let all : IsLiteral v (ls ++ w ∷ []) = subst P (append-nil v) (goes [] (w ∷ []) (sign, refl)) in
    let whole = goes_on w begun in
    let fits : length v < 2 ^ 63 = omega (arith, few_characters v (ls ++ w ∷ []) all, no_longer whole) in
    atom_ends whole (Literal (vec_of v fits), literal d (vec_of v fits) (ls ++ w ∷ []) all, filled v (ap not some))

literal_goes : (d q : ℕ) (empty : Bool) (c : ℕ) (w : Written) (ws : List Written) → IsLiteralChar c w → Reached (InLiteral d q empty) ws → Reached (InLiteral d q false) (ws ++ w ∷ [])
literal_goes d q empty c w ws char (ls, v, begun, is_so, goes) =
    (ls ++ w ∷ [], v ++ c ∷ [], goes_on w begun, not_empty_after v c, one_more IsLiteralRest IsLiteral v c ls (w ∷ []) goes (λ others left h. (char, h)))

longer_class : (is : List Interval) (ws : List Written) → IsClassRest is ws → length is < length ws
longer_class [] ws (w, e, sign) = omega (arith, ap length e)
longer_class (i ∷ is) ws ([], rest, e, item, h) = absurd item
longer_class (i ∷ is) ws (w ∷ more, rest, e, item, h) = omega (arith, ap length e, length-append more rest, longer_class is rest h)

few_items : (negated : Bool) (is : List Interval) (ws : List Written) → IsClass negated is ws → length is < length ws
few_items false is (w ∷ ws) h = omega (arith, longer_class is ws h.1)
few_items true is (w ∷ x ∷ ws) h = omega (arith, longer_class is ws h.2)
few_items negated is ws h = absurd h

class_ends : {d : ℕ} {ws cs : List Written} (bracket : ℕ) (negated : Bool) (is : List Interval) (w : Written) → Begun d ws cs → list_all is_range is ≡ true
    → GoesOn IsClassRest (IsClass negated) is cs → IsSign 93 w → length (ws ++ w ∷ []) < 2 ^ 63 → Goes (ws ++ w ∷ []) (closed d bracket negated is)
class_ends {d = d} {ws = ws} {cs = cs} bracket negated is w begun ordered goes sign small =
    let P : List Interval → Type 0 = λ x. IsClass negated x (cs ++ w ∷ []) in
    let all : IsClass negated is (cs ++ w ∷ []) = subst P (append-nil is) (goes [] (w ∷ []) (w, refl, sign)) in
    let whole = goes_on w begun in
    let fits : length is < 2 ^ 63 = omega (arith, few_items negated is (cs ++ w ∷ []) all, no_longer whole) in
    by_test (Goes (ws ++ w ∷ [])) (is_nothing negated is) (λ _. tt)
    (λ some. atom_ends whole (Class negated (vec_of is fits), class d negated (vec_of is fits) (cs ++ w ∷ []) all, (ranges is ordered, has_member negated is ordered some)))

abbrev range : ℕ → ℕ → Interval
range a b = record { first = a; last = b }

is_ordered : (a b : ℕ) → is_scalar a ≡ true → is_scalar b ≡ true → a ≤ b → is_range (range a b) ≡ true
is_ordered a b h g k = let l : nat_le a b ≡ true = grind (arith, nat_tests) in rw (h, g, l) refl

item_ends : (negated : Bool) (items : List Interval) (bs : List Written) (i : Interval) (item : List Written) → IsItem i item
    → GoesOn IsClassRest (IsClass negated) items bs → GoesOn IsClassRest (IsClass negated) (items ++ i ∷ []) (bs ++ item)
item_ends negated items bs i item h goes = one_more IsClassRest (IsClass negated) items i bs item goes (λ others left g. (item, left, refl, h, g))

-- the items of a class where an item's first character ends it
first_ends : (negated : Bool) (items : List Interval) (cs : List Written) (p a : ℕ) → list_all is_range items ≡ true → IsSoFar negated items (First p a) cs
    → (list_all is_range (items ++ range a a ∷ []) ≡ true) × GoesOn IsClassRest (IsClass negated) (items ++ range a a ∷ []) cs
first_ends negated items cs p a ordered (bs, x, e, char, scalar, goes) =
    let P : List Written → Type 0 = GoesOn IsClassRest (IsClass negated) (items ++ range a a ∷ []) in
    (all_and_one is_range items (range a a) ordered (is_ordered a a scalar scalar (le_refl a)), subst P (sym e) (item_ends negated items bs (range a a) (x ∷ []) (char, refl) goes))

closing_goes : (d bracket : ℕ) (negated : Bool) (items : List Interval) (at : InItem) (w : Written) (o : ℕ) (ws : List Written) → IsSign 93 w
    → length (ws ++ w ∷ []) < 2 ^ 63 → Reached (InClass d bracket negated items at) ws → Goes (ws ++ w ∷ []) (close d bracket negated items at o)
closing_goes d bracket negated items Opened w o ws sign small (cs, begun, ordered, so) = class_ends bracket negated items w begun ordered so.0 sign small
closing_goes d bracket negated items Items w o ws sign small (cs, begun, ordered, so) = class_ends bracket negated items w begun ordered so sign small
closing_goes d bracket negated items (First p a) w o ws sign small (cs, begun, ordered, so) =
    let ended = first_ends negated items cs p a ordered so in
    class_ends bracket negated (items ++ range a a ∷ []) w begun ended.0 ended.1 sign small
closing_goes d bracket negated items (Dash p a) w o ws sign small r = tt

dash_goes : (d bracket : ℕ) (negated : Bool) (items : List Interval) (at : InItem) (w : Written) (o : ℕ) (ws : List Written) → IsSign 45 w
    → Reached (InClass d bracket negated items at) ws → Goes (ws ++ w ∷ []) (dash d bracket negated items at o)
dash_goes d bracket negated items (First p a) w o ws sign (cs, begun, ordered, (bs, x, e, char, scalar, goes)) =
    (cs ++ w ∷ [], goes_on w begun, ordered, (bs, x, w, ap (λ y. y ++ w ∷ []) e ∙ append_assoc bs (x ∷ []) (w ∷ []), char, sign, scalar, goes))
dash_goes d bracket negated items e w o ws sign r = tt

caret_goes : (d bracket : ℕ) (negated : Bool) (items : List Interval) (at : InItem) (w : Written) (o : ℕ) (ws : List Written) → IsSign 94 w
    → Reached (InClass d bracket negated items at) ws → Goes (ws ++ w ∷ []) (caret d bracket negated items at o)
caret_goes d bracket negated items Opened w o ws sign (cs, begun, ordered, so) = (cs ++ w ∷ [], goes_on w begun, ordered, so.1 w sign)
caret_goes d bracket negated items e w o ws sign r = tt

char_goes : (d bracket : ℕ) (negated : Bool) (items : List Interval) (at : InItem) (c : ℕ) (w : Written) (o : ℕ) (ws : List Written) → IsClassChar c w
    → is_scalar c ≡ true → Reached (InClass d bracket negated items at) ws → Goes (ws ++ w ∷ []) (char_in_class d bracket negated items at o c)
char_goes d bracket negated items Opened c w o ws char scalar (cs, begun, ordered, so) =
    (cs ++ w ∷ [], goes_on w begun, ordered, (cs, w, refl, char, scalar, so.0))
char_goes d bracket negated items Items c w o ws char scalar (cs, begun, ordered, so) =
    (cs ++ w ∷ [], goes_on w begun, ordered, (cs, w, refl, char, scalar, so))
char_goes d bracket negated items (First p a) c w o ws char scalar (cs, begun, ordered, so) =
    let ended = first_ends negated items cs p a ordered so in
    (cs ++ w ∷ [], goes_on w begun, ended.0, (cs, w, refl, char, scalar, ended.1))
char_goes d bracket negated items (Dash p a) c w o ws char scalar (cs, begun, ordered, (bs, x, y, e, first, sign, low, goes)) =
    let i = range a c in
    let P : List Written → Type 0 = GoesOn IsClassRest (IsClass negated) (items ++ i ∷ []) in
    by_test (Goes (ws ++ w ∷ [])) (nat_lt c a) (λ _. tt)
    (λ h. (
      cs ++ w ∷ [],
      goes_on w begun,
      all_and_one is_range items i ordered (is_ordered a c low scalar (not_below c a h)),
      subst P (sym (ap (λ z. z ++ w ∷ []) e ∙ append_assoc bs (x ∷ y ∷ []) (w ∷ []))) (item_ends negated items bs i (x ∷ y ∷ w ∷ []) (first, sign, char) goes),
    ))

-- the character that is written, if there is one, is a scalar value
abbrev IsGood : Written → Type 0
IsGood (Plain o c) = is_scalar c ≡ true
IsGood (Escaped o c) = is_scalar c ≡ true
IsGood (BadEscape o) = Unit {0}

step_goes : (s : State) (w : Written) (ws : List Written) → IsGood w → length (ws ++ w ∷ []) < 2 ^ 63 → Reached s ws → Goes (ws ++ w ∷ []) (step s w)
step_goes (Outside d b) (Plain o c) ws good small r = outside_goes d b o c ws r
step_goes (InLiteral d q empty) (Escaped o c) ws good small r = literal_goes d q empty c (Escaped o c) ws refl r
step_goes (InLiteral d q empty) (Plain o c) ws good small r =
    let P : Next → Type 0 = Goes (ws ++ Plain o c ∷ []) in
    by_test P (c == 34)
    (λ h. by_test P empty (λ _. tt) (λ some. literal_ends r.1 (Plain o c) r.2 (r.3 ∙ some) r.4 (sign_of c 34 h) small))
    (λ h. literal_goes d q empty c (Plain o c) ws (refl, differs c 34 h) r)
step_goes (InClass d b negated items at) (Escaped o c) ws good small r = char_goes d b negated items at c (Escaped o c) o ws refl good r
step_goes (InClass d b negated items at) (Plain o c) ws good small r =
    let w = Plain o c in
    let P : Next → Type 0 = Goes (ws ++ w ∷ []) in
    by_test P (c == 93) (λ h. closing_goes d b negated items at w o ws (sign_of c 93 h) small r)
    (λ p. by_test P (c == 45) (λ h. dash_goes d b negated items at w o ws (sign_of c 45 h) r)
    (λ q. by_test P (c == 94) (λ h. caret_goes d b negated items at w o ws (sign_of c 94 h) r)
    (λ k. char_goes d b negated items at c w o ws (refl, differs c 93 p, differs c 45 q, differs c 94 k) good r)))
step_goes s w ws good small r = tt

at_end : (n : ℕ) (s : State) (ws : List Written) → Reached s ws → fault_at_end n s ≡ None → Makes Alt 0 ws
at_end n (Outside zero AnAtom) ws (us, vs, e, nil, stands) h = along (e ∙ ap (λ x. x ++ vs) nil) (alternatives 0 AnAtom vs refl stands)
at_end n (Outside zero ARepetition) ws (us, vs, e, nil, stands) h = along (e ∙ ap (λ x. x ++ vs) nil) (alternatives 0 ARepetition vs refl stands)
at_end n d ws r h = cc

after_step : (n : ℕ) (ws us : List Written) (next : Next) → Goes ws next → or_later (λ s. fault_from n s us) next ≡ None
    → ((s : State) → Reached s ws → fault_from n s us ≡ None → Makes Alt 0 (ws ++ us)) → Makes Alt 0 (ws ++ us)
after_step n ws us (Ok s) r h later = later s r h
after_step n ws us (Err f) r h later = cc

spelled_from : (n : ℕ) (s : State) (ws us : List Written) → AllByRecursion IsGood us → length ws + length us < 2 ^ 63 → Reached s ws → fault_from n s us ≡ None → Makes Alt 0 (ws ++ us)
spelled_from n s ws [] good small r h = along (append-nil ws) (at_end n s ws r h)
spelled_from n s ws (u ∷ us) good small r h =
    let one = length-append ws (u ∷ []) in
    along (sym (append_assoc ws (u ∷ []) us))
    (after_step n (ws ++ u ∷ []) us (step s u) (step_goes s u ws good.0 (omega (arith, one)) r) h
    (λ t reached none. spelled_from n t (ws ++ u ∷ []) us good.1 (omega (arith, one)) reached none))

-- the characters that are written, at most `n` of them, are scalar values
abbrev AreGood : ℕ → List Written → Type 0
AreGood n ws = AllByRecursion IsGood ws × (length ws ≤ n)

one_good : {n m : ℕ} (w : Written) (ws : List Written) → IsGood w → n < m → AreGood n ws → AreGood m (w ∷ ws)
one_good w ws good less h = ((good, h.0), omega (arith, h.1))

scalar_code : (c : ℕ) → IsCharacter c → is_scalar c ≡ true
scalar_code c h = grind (arith, nat_tests)

mutual
  written_good : (o : ℕ) (t : List ℕ) → AllByRecursion IsCharacter t → AreGood (length t) (written o t)
  written_good o [] h = (tt, omega arith)
  written_good o (c ∷ t) h =
      by_test (AreGood (suc (length t))) (c == 92) (λ _. escape_good o t h.1)
      (λ _. one_good (Plain o c) (written (o + 1) t) (scalar_code c h.0) (omega arith) (written_good (o + 1) t h.1))

  escape_good : (o : ℕ) (t : List ℕ) → AllByRecursion IsCharacter t → AreGood (suc (length t)) (escape o t)
  escape_good o [] h = ((tt, tt), omega arith)
  escape_good o (c ∷ t) h =
      let P : List Written → Type 0 = AreGood (suc (suc (length t))) in
      let rest = written_good (o + 2) t h.1 in
      by_test P (c == 110) (λ _. one_good (Escaped o 10) (written (o + 2) t) refl (omega arith) rest)
      (λ _. by_test P (c == 114) (λ _. one_good (Escaped o 13) (written (o + 2) t) refl (omega arith) rest)
      (λ _. by_test P (c == 116) (λ _. one_good (Escaped o 9) (written (o + 2) t) refl (omega arith) rest)
      (λ _. by_test P (is_mark c) (λ _. one_good (Escaped o c) (written (o + 2) t) (scalar_code c h.0) (omega arith) rest)
      (λ _. by_test P (c == 117) (λ _. let g = braced_good o t h.1 in (g.0, omega (arith, g.1))) (λ _. ((tt, tt), omega arith))))))

  braced_good : (o : ℕ) (t : List ℕ) → AllByRecursion IsCharacter t → AreGood (suc (length t)) (braced o t)
  braced_good o [] h = ((tt, tt), omega arith)
  braced_good o (c ∷ t) h =
      by_test (AreGood (suc (suc (length t)))) (c == 123) (λ _. let g = digits_good o 0 0 t h.1 in (g.0, omega (arith, g.1))) (λ _. ((tt, tt), omega arith))

  digits_good : (o n value : ℕ) (t : List ℕ) → AllByRecursion IsCharacter t → AreGood (suc (length t)) (digits o n value t)
  digits_good o n value [] h = ((tt, tt), omega arith)
  digits_good o n value (c ∷ t) h =
      let P : List Written → Type 0 = AreGood (suc (suc (length t))) in
      by_test P (c == 125 && (nat_lt 0 n && is_scalar value))
      (λ g.
      let named = (and_parts (nat_lt 0 n) (is_scalar value) (and_parts (c == 125) (nat_lt 0 n && is_scalar value) g).1).1 in
      one_good (Escaped o value) (written (o + n + 4) t) named (omega arith) (written_good (o + n + 4) t h.1))
      (λ _. by_test P (nat_lt (digit_value c) 16 && nat_lt n 6) (λ _. let g = digits_good o (n + 1) (16 * value + digit_value c) t h.1 in (g.0, omega (arith, g.1))) (λ _. ((tt, tt), omega arith)))

-- a text without a fault spells a well made expression
pub spelled : (t : List ℕ) → IsText t → length t < 2 ^ 63 → first_fault t ≡ None → (e : Expression) × IsWellMade e × Spells e t
unfolding first_fault
spelled t chars small h =
    let good = written_good 0 t (recursion_from_All IsCharacter t chars) in
    let (e, s, m) = spelled_from (length t) (Outside 0 Nothing) [] (written 0 t) good.0 (omega (arith, good.1)) ([], [], refl, refl, (λ rest q. as_alt q)) h in
    (e, m, s)
