-- Trees say the same as the expressions that they are made of, and a part without a mark is passed over.
use Rattle.dfa.proofs.Std.{◌≡◌, ℕ, zero, suc, ◌+◌, ◌≤◌, Bool, true, false, ◌||◌, List, [], ◌∷◌, ◌++◌, length, drop, refl, sym, ap, ◌∙◌, subst, arith, ◌<◌, get_or, All, Some, if◌then◌else◌, or_parts, append-nil, append_assoc, drop_all, length-append}
use Rattle.dfa.proofs.Common.{Expression, Address}
use Rattle.dfa.proofs.Common.{Tree, Position, Pair', positions, mark, literal_end, ends, literal_next, next, all_next, all_positions, first_end, AreTreesOf, all_counts, all_tree_next, count, first_tree_end, IsCounted, IsJoined, IsLiteralTree, IsTree, IsTreeOf, any_mark, listed, tree_ends, tree_next}
use Rattle.definitions.specs.declared.expression.Expression.TheVariants as E
use Rattle.dfa.specs.declared.tree.Tree.TheVariants.{Plus', Optional'}
use Rattle.dfa.proofs.Steps.{length-literal_next, length-next}

or_assoc : (a b c : Bool) → a || (b || c) ≡ (a || b) || c
or_assoc true b c = refl
or_assoc false b c = refl

-- joining may be done in the second part
pub joined_right : (c : Bool) (n m : ℕ) (p q : _) (a b last new : Tree) → IsCounted (Pair' c n p a q b) → IsJoined c b last new
    → m ≡ n + count last → IsJoined c (Pair' c n p a q b) last (Pair' c m p a q new)
joined_right true n m p q a b last new k j is =
    record {
      many = is;
      counted = (omega (arith, is, k.0, j.many), k.1, j.counted);
      ends = λ marks o start.
          let at : o + count a + count b ≡ o + n = omega (arith, k.0) in
          ap (λ x. tree_ends marks o start a || x) (j.ends marks (o + count a) start) ∙ or_assoc (tree_ends marks o start a) (tree_ends marks (o + count a) start b)
          (tree_ends marks (o + count a + count b) start last) ∙ ap (λ i. tree_ends marks o start (Pair' true n p a q b) || tree_ends marks i start last) at;
      next = λ marks o start.
          let at : o + count a + count b ≡ o + n = omega (arith, k.0) in
          ap (λ x. tree_next marks o start a ++ x) (j.next marks (o + count a) start)
          ∙ sym (append_assoc (tree_next marks o start a) (tree_next marks (o + count a) start b) (tree_next marks (o + count a + count b) start last))
          ∙ ap (λ i. tree_next marks o start (Pair' true n p a q b) ++ tree_next marks i start last) at;
    }
joined_right false n m p q a b last new k j is = record {
  many = is;
  counted = (omega (arith, is, k.0, j.many), k.1, j.counted);
  ends = λ marks o start.
      let at : o + count a + count b ≡ o + n = omega (arith, k.0) in
      j.ends marks (o + count a) (tree_ends marks o start a) ∙ ap (λ i. tree_ends marks i (tree_ends marks o start (Pair' false n p a q b)) last) at;
  next = λ marks o start.
      let s = tree_ends marks o start a in
      let at : o + count a + count b ≡ o + n = omega (arith, k.0) in
      ap (λ x. tree_next marks o start a ++ x) (j.next marks (o + count a) s)
      ∙ sym (append_assoc (tree_next marks o start a) (tree_next marks (o + count a) s b) (tree_next marks (o + count a + count b) (tree_ends marks (o + count a) s b) last))
      ∙ ap (λ i. tree_next marks o start (Pair' false n p a q b) ++ tree_next marks i (tree_ends marks (o + count a) s b) last) at;
}

pub joined_in : (c same : Bool) (n m : ℕ) (p q : _) (a b old last new whole : Tree) → same ≡ c → whole ≡ Pair' same n p a q b → old ≡ b → IsCounted whole
    → m ≡ count whole + count last → IsJoined c old last new → IsJoined c whole last (Pair' same m p a q new)
joined_in c same n m p q a b old last new whole e f g k is j =
    subst (λ x. IsJoined x whole last (Pair' same m p a q new)) e
    (subst (λ x. IsJoined same x last (Pair' same m p a q new)) (sym f)
    (joined_right same n m p q a b last new (subst IsCounted f k) (subst (λ x. IsJoined same x last new) g (subst (λ x. IsJoined x old last new) (sym e) j)) (is ∙ ap (λ x. count x + count last) f)))

-- marks of two parts
any_mark-append : (marks : List Bool) (o m n : ℕ) → any_mark marks o (m + n) ≡ any_mark marks o m || any_mark marks (o + m) n
any_mark-append marks o zero n =
    let e : zero + n ≡ n = omega arith in
    let f : o ≡ o + zero = omega arith in
    ap (any_mark marks o) e ∙ ap (λ i. any_mark marks i n) f
any_mark-append marks o (suc m) n =
    let e : suc m + n ≡ suc (m + n) = omega arith in
    let f : o + 1 + m ≡ o + suc m = omega arith in
    ap (any_mark marks o) e ∙ ap (λ b. mark marks o || b) (any_mark-append marks (o + 1) m n) ∙ or_assoc (mark marks o) (any_mark marks (o + 1) m)
    (any_mark marks (o + 1 + m) n) ∙ ap (λ i. any_mark marks o (suc m) || any_mark marks i n) f

-- no mark lies in either of two parts
no_marks : (marks : List Bool) (o k m n : ℕ) → k ≡ m + n → any_mark marks o k ≡ false → (any_mark marks o m ≡ false) × (any_mark marks (o + m) n ≡ false)
no_marks marks o k m n e h = or_parts (any_mark marks o m) (any_mark marks (o + m) n) (sym (any_mark-append marks o m n) ∙ ap (any_mark marks o) (sym e) ∙ h)

fewer : (marks : List Bool) (o k m : ℕ) → k ≡ m → any_mark marks o k ≡ false → any_mark marks o m ≡ false
fewer marks o k m e h = ap (any_mark marks o) (sym e) ∙ h

-- a part without a mark, in which nothing begins, has no end
pub no_end : (t : Tree) (marks : List Bool) (o : ℕ) → IsCounted t → any_mark marks o (count t) ≡ false → tree_ends marks o false t ≡ false
no_end Position marks o k h = (or_parts (mark marks o) false h).0
no_end (Pair' true n p a q b) marks o k h =
    let s = no_marks marks o n (count a) (count b) k.0 h in
    ap (λ x. x || tree_ends marks (o + count a) false b) (no_end a marks o k.1 s.0) ∙ no_end b marks (o + count a) k.2 s.1
no_end (Pair' false n p a q b) marks o k h =
    let s = no_marks marks o n (count a) (count b) k.0 h in
    ap (λ x. tree_ends marks (o + count a) x b) (no_end a marks o k.1 s.0) ∙ no_end b marks (o + count a) k.2 s.1
no_end (Plus' n p a) marks o k h = no_end a marks o k.1 (fewer marks o n (count a) k.0 h)
no_end (Optional' n p a) marks o k h = ap (λ x. x || false) (no_end a marks o k.1 (fewer marks o n (count a) k.0 h))

-- and no position in it is next
pub no_next : (t : Tree) (marks : List Bool) (o : ℕ) → IsCounted t → any_mark marks o (count t) ≡ false → tree_next marks o false t ≡ []
no_next Position marks o k h = refl
no_next (Pair' true n p a q b) marks o k h =
    let s = no_marks marks o n (count a) (count b) k.0 h in
    ap (λ x. x ++ tree_next marks (o + count a) false b) (no_next a marks o k.1 s.0) ∙ no_next b marks (o + count a) k.2 s.1
no_next (Pair' false n p a q b) marks o k h =
    let s = no_marks marks o n (count a) (count b) k.0 h in
    ap (λ x. x ++ tree_next marks (o + count a) (tree_ends marks o false a) b) (no_next a marks o k.1 s.0)
    ∙ ap (λ x. tree_next marks (o + count a) x b) (no_end a marks o k.1 s.0) ∙ no_next b marks (o + count a) k.2 s.1
no_next (Plus' n p a) marks o k h =
    let none = fewer marks o n (count a) k.0 h in
    ap (λ x. tree_next marks o (x || false) a) (no_end a marks o k.1 none) ∙ no_next a marks o k.1 none
no_next (Optional' n p a) marks o k h = no_next a marks o k.1 (fewer marks o n (count a) k.0 h)

-- positions of two lists of marks, one after another
pub listed-append : (o n : ℕ) (xs ys : List Bool) → length xs ≡ n → listed o (xs ++ ys) ≡ listed o xs ++ listed (o + n) ys
listed-append o n [] ys e = let f : o ≡ o + n = omega (arith, e) in ap (λ i. listed i ys) f
listed-append o n (true ∷ xs) ys e =
    let f : o + 1 + length xs ≡ o + n = omega (arith, e) in
    ap (λ l. o ∷ l) (listed-append (o + 1) (length xs) xs ys refl ∙ ap (λ i. listed (o + 1) xs ++ listed i ys) f)
listed-append o n (false ∷ xs) ys e =
    let f : o + 1 + length xs ≡ o + n = omega (arith, e) in
    listed-append (o + 1) (length xs) xs ys refl ∙ ap (λ i. listed (o + 1) xs ++ listed i ys) f

-- the ends and the next positions of two parts
abbrev pub Ends : Type 0
Ends = List Bool → ℕ → Bool → Bool

abbrev pub Nexts : Type 0
Nexts = List Bool → ℕ → Bool → List Bool

abbrev pub pair_ends : Bool → ℕ → Ends → Ends → Ends
pair_ends c n e f marks o start = if c then e marks o start || f marks (o + n) start else f marks (o + n) (e marks o start)

abbrev pub pair_nexts : Bool → ℕ → Ends → Nexts → Nexts → Nexts
pair_nexts c n e x y marks o start = x marks o start ++ y marks (o + n) (if c then start else e marks o start)

pub pair_tree : (c : Bool) (a b t : Tree) (n k : ℕ) (e f : Ends) (x y : Nexts) → IsTree a n e x → IsTree b k f y
    → ((marks : List Bool) (o : ℕ) (start : Bool) → length (x marks o start) ≡ n) → IsJoined c a b t → IsTree t (n + k) (pair_ends c n e f) (pair_nexts c n e x y)
pair_tree c a b t n k e f x y g h many j = record {
  many = j.many ∙ (λ i. g.many i + h.many i);
  counted = j.counted;
  ends = λ marks o start.
      let first = g.ends marks o start in
      j.ends marks o start ∙ (λ i. if c then first i || h.ends marks (o + g.many i) start i else h.ends marks (o + g.many i) (first i) i);
  next = λ marks o start.
      let first = g.ends marks o start in
      j.next marks o start ∙ (λ i. g.next marks o start i ++ h.next marks (o + g.many i) (if c then start else first i) i)
      ∙ sym (listed-append o n (x marks o start) (y marks (o + n) (if c then start else e marks o start)) (many marks o start));
}

-- the two parts as a node
pub node : (c : Bool) (n : ℕ) (p q : Address) (a b : Tree) → n ≡ count a + count b → IsCounted a → IsCounted b → IsJoined c a b (Pair' c n p a q b)
node c n p q a b e k l = record { many = e; counted = (e, k, l); ends = λ marks o start. refl; next = λ marks o start. refl }

literal_end-append : (marks : List Bool) (o : ℕ) (start : Bool) (xs ys : List ℕ) → literal_end marks (o + length xs) (literal_end marks o start xs) ys ≡ literal_end marks o start (xs ++ ys)
literal_end-append marks o start [] ys = let f : o + 0 ≡ o = omega arith in ap (λ i. literal_end marks i start ys) f
literal_end-append marks o start (x ∷ xs) ys =
    let f : o + length (x ∷ xs) ≡ o + 1 + length xs = omega arith in
    ap (λ i. literal_end marks i (literal_end marks o start (x ∷ xs)) ys) f ∙ literal_end-append marks (o + 1) (mark marks o) xs ys

literal_next-append : (marks : List Bool) (o : ℕ) (start : Bool) (xs ys : List ℕ) → literal_next marks o start xs ++ literal_next marks
    (o + length xs) (literal_end marks o start xs) ys ≡ literal_next marks o start (xs ++ ys)
literal_next-append marks o start [] ys = let f : o + 0 ≡ o = omega arith in ap (λ i. literal_next marks i start ys) f
literal_next-append marks o start (x ∷ xs) ys =
    let f : o + length (x ∷ xs) ≡ o + 1 + length xs = omega arith in
    ap (λ i. start ∷ (literal_next marks (o + 1) (mark marks o) xs ++ literal_next marks i (literal_end marks o start (x ∷ xs)) ys)) f
    ∙ ap (λ l. start ∷ l) (literal_next-append marks (o + 1) (mark marks o) xs ys)

-- a literal of one character, and one of two parts
literal_one : (x : ℕ) → IsLiteralTree (x ∷ []) Position
literal_one x = record { many = refl; counted = tt; ends = λ marks o start. refl; next = λ marks o start. refl }

pub literal_one_of : (xs : List ℕ) → length xs ≡ 1 → IsLiteralTree xs Position
literal_one_of (x ∷ []) h = literal_one x
literal_one_of d h = absurd (omega (arith, h))

pub literal_parts : (xs ys all : List ℕ) (a b t : Tree) → xs ++ ys ≡ all → IsLiteralTree xs a → IsLiteralTree ys b → IsJoined false a b t → IsLiteralTree all t
literal_parts xs ys all a b t e g h j =
    let p = pair_tree false a b t (length xs) (length ys) (λ marks o start. literal_end marks o start xs) (λ marks o start. literal_end marks o start ys)
    (λ marks o start. literal_next marks o start xs) (λ marks o start. literal_next marks o start ys) g h (λ marks o start. length-literal_next marks o start xs) j in
    subst (λ l. IsLiteralTree l t) e (record {
      many = p.many ∙ sym (length-append xs ys);
      counted = p.counted;
      ends = λ marks o start. p.ends marks o start ∙ literal_end-append marks o start xs ys;
      next = λ marks o start. p.next marks o start ∙ ap (listed o) (literal_next-append marks o start xs ys);
    })

-- two expressions, one after another or as a choice
pub expression_pair : (c : Bool) (d e : Expression) (a b t : Tree) → IsTreeOf d a → IsTreeOf e b → IsJoined c a b t → IsTree t (positions d + positions e)
    (pair_ends c (positions d) (λ marks o start. ends marks o start d) (λ marks o start. ends marks o start e))
    (pair_nexts c (positions d) (λ marks o start. ends marks o start d) (λ marks o start. next marks o start d) (λ marks o start. next marks o start e))
expression_pair c d e a b t g h j = pair_tree c a b t (positions d) (positions e) (λ marks o start. ends marks o start d) (λ marks o start. ends marks o start e)
    (λ marks o start. next marks o start d) (λ marks o start. next marks o start e) g h (λ marks o start. length-next d marks o start) j

pub sequence_tree : (p q : Address) (e x y d f : Expression) (a b t : Tree) → e ≡ E.Sequence' p x q y → d ≡ x → f ≡ y → IsTreeOf d a → IsTreeOf f b → IsJoined false a b t → IsTreeOf e t
sequence_tree p q e x y d f a b t is k l g h j =
    let r = expression_pair false x y a b t (subst (λ z. IsTreeOf z a) k g) (subst (λ z. IsTreeOf z b) l h) j in
    subst (λ z. IsTreeOf z t) (sym is) (record { many = r.many; counted = r.counted; ends = r.ends; next = r.next })

pub choice_tree : (p q : Address) (e x y d f : Expression) (a b t : Tree) → e ≡ E.Choice' p x q y → d ≡ x → f ≡ y → IsTreeOf d a → IsTreeOf f b → IsJoined true a b t → IsTreeOf e t
choice_tree p q e x y d f a b t is k l g h j =
    let r = expression_pair true x y a b t (subst (λ z. IsTreeOf z a) k g) (subst (λ z. IsTreeOf z b) l h) j in
    subst (λ z. IsTreeOf z t) (sym is) (record { many = r.many; counted = r.counted; ends = r.ends; next = r.next })

-- nothing is added for a part that is passed over
pub none_added : (t : Tree) (marks : List Bool) (o : ℕ) (start : Bool) (out : List ℕ) → (start ≡ false) × (any_mark marks o (count t) ≡ false) → IsCounted t → out ≡ out ++ tree_next marks o start t
none_added t marks o start out apart k =
    sym (ap (λ x. out ++ tree_next marks o x t) apart.0 ∙ ap (λ l. out ++ l) (no_next t marks o k apart.1) ∙ append-nil out)

-- the trees of a list of rules
pub trees_counted : (rules : List Expression) (trees : List Tree) → AreTreesOf rules trees → All IsCounted trees
trees_counted [] [] a k d lt = absurd (omega (arith, lt))
trees_counted (e ∷ es) (t ∷ ts) a zero d lt = a.0.counted
trees_counted (e ∷ es) (t ∷ ts) a (suc k) d lt = trees_counted es ts a.1 k d (omega (arith, lt))
trees_counted rules trees a k d lt = elim a [ ]

pub trees_count : (rules : List Expression) (trees : List Tree) → AreTreesOf rules trees → all_counts trees ≡ all_positions rules
trees_count [] [] a = refl
trees_count (e ∷ es) (t ∷ ts) a = (λ i. a.0.many i + trees_count es ts a.1 i)
trees_count rules trees a = elim a [ ]

-- a rule has no more positions than all rules
pub rule_within : (rules : List Expression) (i : ℕ) (d : Expression) → i < length rules → positions (get_or rules i d) ≤ all_positions rules
rule_within [] i d lt = absurd (omega (arith, lt))
rule_within (e ∷ es) zero d lt = omega arith
rule_within (e ∷ es) (suc i) d lt = omega (arith, rule_within es i d (omega (arith, lt)))

pub trees_next : (rules : List Expression) (trees : List Tree) (marks : List Bool) (o : ℕ) (start : Bool) → AreTreesOf rules trees
    → all_tree_next marks o start trees ≡ listed o (all_next marks o start rules)
trees_next [] [] marks o start a = refl
trees_next (e ∷ es) (t ∷ ts) marks o start a = (λ i. a.0.next marks o start i ++ trees_next es ts marks (o + a.0.many i) start a.1 i)
    ∙ sym (listed-append o (positions e) (next marks o start e) (all_next marks (o + positions e) start es) (length-next e marks o start))
trees_next rules trees marks o start a = elim a [ ]

pub trees_end : (rules : List Expression) (trees : List Tree) (marks : List Bool) (o k : ℕ) → AreTreesOf rules trees → first_tree_end marks o k trees ≡ first_end marks o k rules
trees_end [] [] marks o k a = refl
trees_end (e ∷ es) (t ∷ ts) marks o k a = (λ i. if a.0.ends marks o false i then Some k else trees_end es ts marks (o + a.0.many i) (k + 1) a.1 i)
trees_end rules trees marks o k a = elim a [ ]

pub one_more_tree : (rules rest later : List Expression) (e : Expression) (trees new : List Tree) (t : Tree) → rest ≡ e ∷ later → new ≡ trees ++ t ∷ [] → IsTreeOf e t
    → ((more : List Tree) → AreTreesOf rest more → AreTreesOf rules (trees ++ more)) → (more : List Tree) → AreTreesOf later more → AreTreesOf rules (new ++ more)
one_more_tree rules rest later e trees new t here is of h more a =
    subst (AreTreesOf rules) (sym (ap (λ l. l ++ more) is ∙ append_assoc trees (t ∷ []) more)) (h (t ∷ more) (subst (λ l. AreTreesOf l (t ∷ more)) (sym here) (of, a)))

pub all_trees : (rules : List Expression) (i : ℕ) (trees : List Tree) → length rules ≤ i
    → ((more : List Tree) → AreTreesOf (drop i rules) more → AreTreesOf rules (trees ++ more)) → AreTreesOf rules trees
all_trees rules i trees le h =
    subst (AreTreesOf rules) (append-nil trees) (h [] (subst (λ l. AreTreesOf l []) (sym (drop_all i rules le)) tt))
