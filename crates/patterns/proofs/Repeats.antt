-- An atom with its sign of repetition, and what goes on after it.
use Rattle.patterns.proofs.Std.{◌≡◌, ℕ, zero, suc, ◌+◌, ◌-◌, ◌<◌, ◌==◌, ◌&&◌, nat_lt, Bool, true, false, List, [], ◌∷◌, ◌++◌, length, refl, sym, ◌∙◌, ap, subst, append_assoc, add-one, arith, Some, None, Vec, Result, Ok, Err, IsErr, IsErrAnd, IfErr, nat_tests, Global, append-nil, or_parts}
use Rattle.patterns.proofs.Common.{Expression, Literal, Class, Interval, PatternFault, Written, Plain, Before, Outside, Nothing, AnAtom, ARepetition, fault_from, Level, Alt, Rep, Atom, SpellsAt, literal, class, group, Syntax}
use Rattle.patterns.proofs.Common.{Refusal, Fault, Memory, writing, Begins, HasNoBlank, IsPart, IsRead, IsRepeated, IsAtEnd, IsLiteralPrefix, IsClassBody, Reports, stops, Character, is_sound}
use Rattle.patterns.proofs.Blanks.{Skips, blanks_after_part, blanks_skipped}
use Rattle.patterns.proofs.Literals.{not_equal}

-- `words` begins with the sign `c` at place `o`, and `rest` is left
abbrev pub Strips : ℕ → ℕ → List Character → List Character → Type 0
Strips o c words rest = (writing words ≡ Plain o c ∷ writing rest) × (length rest < length words)

-- a sign of repetition and the blanks after it
pub signed : {a e : Expression} {words left : List Character} (o c : ℕ) (rest : List Character) → Strips o c words rest → Skips rest left → is_sound e ≡ is_sound a
    → ((d : ℕ) (prefix : List Written) → SpellsAt Atom d a prefix → SpellsAt Rep d e (prefix ++ Plain o c ∷ []))
    → ((d n : ℕ) → fault_from n (Outside d AnAtom) (Plain o c ∷ writing rest) ≡ fault_from n (Outside d ARepetition) (writing rest)) → IsRepeated a e words left
signed {e = e} {words = words} {left = left} o c rest (f, short) (blanks, _, shorter) same spells steps = record {
  spelled = λ d prefix s. blanks_after_part Rep d e (prefix ++ writing words) (writing rest) (writing left)
      (prefix ++ Plain o c ∷ [], ap (λ x. prefix ++ x) f ∙ sym (append_assoc prefix (Plain o c ∷ []) (writing rest)), spells d prefix s) blanks;
  sound = λ s. same ∙ s;
  no_longer = omega arith;
  goes_on = λ d n. ap (fault_from n (Outside d AnAtom)) f ∙ steps d n ∙ blanks_skipped n d ARepetition (writing rest) (writing left) blanks;
}

-- where no sign of repetition stands, it makes no difference whether one stood before
pub no_sign : (n d : ℕ) (ws : List Written) → HasNoBlank ws → (Begins 42 ws → ⊥) → (Begins 43 ws → ⊥) → (Begins 63 ws → ⊥)
    → fault_from n (Outside d AnAtom) ws ≡ fault_from n (Outside d ARepetition) ws
no_sign n zero [] b s p q = refl
no_sign n (suc d) [] b s p q = refl
no_sign n d (Plain o c ∷ ws) b s p q =
    let differs : (a : ℕ) → (a ≡ c → ⊥) → (c == a) ≡ false = λ a h. not_equal c a (λ e. h (sym e)) in
    rw (differs 32 b.0, differs 9 b.1, differs 42 s, differs 43 p, differs 63 q) refl
no_sign n d (w ∷ ws) b s p q = refl

-- an atom and what repeats it
pub repeated : {d n : ℕ} {words rest left : List Character} {a e : Expression} → IsRead Atom d AnAtom n words rest a → IsRepeated a e rest left → IsRead Rep d ARepetition n words left e
repeated {d = d} {n = n} {left = left} {e = e} h g =
    let P : List Written → Type 0 = λ x. IsPart Rep d e x (writing left) in record {
      spelled = subst P (sym h.spelled.1) (g.spelled d h.spelled.0 h.spelled.2);
      sound = g.sound h.sound;
      shorter = omega (arith, h.shorter, g.no_longer);
      goes_on = h.goes_on ∙ g.goes_on d n;
    }

-- a part of one level is a part of the level above it
pub of_level : {l k : Level} {d n : ℕ} {after : Before} {words rest : List Character} {e : Expression} → ((us : List Written) → SpellsAt l d e us → SpellsAt k d e us)
    → IsRead l d after n words rest e → IsRead k d after n words rest e
of_level up h = record { spelled = (h.spelled.0, h.spelled.1, up h.spelled.0 h.spelled.2); sound = h.sound; shorter = h.shorter; goes_on = h.goes_on }

-- where a further part of a sequence must stand, it makes no difference what stands before
pub no_stop : (n d : ℕ) (ws : List Written) → stops ws ≡ false → HasNoBlank ws → fault_from n (Outside d ARepetition) ws ≡ fault_from n (Outside d Nothing) ws
no_stop n d [] h b = cc
no_stop n d (Plain o c ∷ ws) h b =
    let e = or_parts (c == 124) (c == 41) h in
    rw (not_equal c 32 (λ q. b.0 (sym q)), not_equal c 9 (λ q. b.1 (sym q)), e.0, e.1) refl
no_stop n d (w ∷ ws) h b = refl

-- a part, what stands between, and the next part
pub joined : {l k : Level} {d n : ℕ} {words rest after left : List Character} {a b e : Expression} (between : List Written) → IsRead l d ARepetition n words rest a
    → IsRead k d ARepetition n after left b → writing rest ≡ between ++ writing after → length left < length rest → fault_from n (Outside d ARepetition) (writing rest)
    ≡ fault_from n (Outside d Nothing) (writing after) → is_sound e ≡ is_sound a && is_sound b
    → ((us vs : List Written) → SpellsAt l d a us → SpellsAt k d b vs → SpellsAt l d e (us ++ (between ++ vs))) → IsRead l d ARepetition n words left e
joined {left = left} between h g f shorter goes_on sound spells =
    let (us, us_is, s) = h.spelled in
    let (vs, vs_is, t) = g.spelled in record {
      spelled = (
        us ++ (between ++ vs),
        us_is ∙ ap (λ x. us ++ x) (f ∙ ap (λ x. between ++ x) vs_is ∙ sym (append_assoc between vs (writing left)))
            ∙ sym (append_assoc us (between ++ vs) (writing left)),
        spells us vs s t,
      );
      sound = sound ∙ rw (h.sound, g.sound) refl;
      shorter = omega (arith, h.shorter);
      goes_on = h.goes_on ∙ goes_on ∙ g.goes_on;
    }

-- what `?` hands on reports what its refusal does, and what follows from that
pub hands_on : {A : Type 0} {P Q : PatternFault → Type 0} (result : Result A Refusal) (r : Refusal) → IsErr result × IsErrAnd result (λ e. e ≡ r)
    → ((f : PatternFault) → P f → Q f) → Reports r P → IfErr result (λ e. Reports e Q)
hands_on (Err e) (Fault f) k go h = rw k.1 (go f h)
hands_on (Err e) Memory k go h = rw k.1 tt
hands_on (Ok x) r k go h = tt

-- what an opening sign begins
pub enclosed : {d n : ℕ} {words rest : List Character} {e : Expression} (o c : ℕ) (inside : List Character) → Strips o c words inside
    → IsPart Atom d e (Plain o c ∷ writing inside) (writing rest) → is_sound e ≡ true → length rest < length inside → fault_from n (Outside d Nothing)
    (Plain o c ∷ writing inside) ≡ fault_from n (Outside d AnAtom) (writing rest) → IsRead Atom d AnAtom n words rest e
enclosed {d = d} {n = n} {rest = rest} {e = e} o c inside (f, short) part sound shorter goes_on =
    let P : List Written → Type 0 = λ x. IsPart Atom d e x (writing rest) in
    record { spelled = subst P (sym f) part; sound = sound; shorter = omega arith; goes_on = ap (fault_from n (Outside d Nothing)) f ∙ goes_on }

pub literal_part : {d o : ℕ} {v : Vec ℕ Global} {inside rest : List Written} → IsLiteralPrefix v.items inside rest → IsPart Atom d (Literal v) (Plain o 34 ∷ inside) rest
literal_part {d = d} {o = o} {v = v} (us, f, h) = (Plain o 34 ∷ us, ap (λ x. Plain o 34 ∷ x) f, literal d v (Plain o 34 ∷ us) (refl, h))

pub class_part : {d o : ℕ} {v : Vec Interval Global} {inside rest : List Written} (negated : Bool) → IsClassBody negated v.items inside rest
    → IsPart Atom d (Class negated v) (Plain o 91 ∷ inside) rest
class_part {d = d} {o = o} {v = v} false (us, f, h) = (Plain o 91 ∷ us, ap (λ x. Plain o 91 ∷ x) f, class d false v (Plain o 91 ∷ us) (refl, h))
class_part {d = d} {o = o} {v = v} true (w, more, g, sign, (us, f, h)) =
    (Plain o 91 ∷ w ∷ us, ap (λ x. Plain o 91 ∷ x) (g ∙ ap (λ x. w ∷ x) f), class d true v (Plain o 91 ∷ w ∷ us) (refl, sign, h))

pub group_opens : (n d o : ℕ) (words inside : List Written) → words ≡ Plain o 40 ∷ inside → d < 64 → fault_from n (Outside d Nothing) words ≡ fault_from n (Outside (d + 1) Nothing) inside
group_opens n d o words inside f small =
    let e : nat_lt d 64 ≡ true = grind (arith, nat_tests) in
    ap (fault_from n (Outside d Nothing)) f ∙ rw e refl

pub as_group : {d n : ℕ} {words rest left : List Character} {e : Expression} (o p : ℕ) (inside : List Character) → Strips o 40 words inside → d < 64
    → IsRead Alt (d + 1) ARepetition n inside rest e → Strips p 41 rest left → IsRead Atom d AnAtom n words left e
as_group {d = d} {n = n} {left = left} {e = e} o p inside strips small h (closed, shorter) =
    let (us, f, s) = h.spelled in
    let P : ℕ → Type 0 = λ k. SpellsAt Alt k e us in
    let ws = Plain o 40 ∷ us ++ Plain p 41 ∷ [] in
    let inner : nat_lt 0 (d + 1) ≡ true = grind (arith, nat_tests) in
    let same : d + 1 - 1 ≡ d = omega arith in
    enclosed o 40 inside strips (
      ws,
      ap (λ x. Plain o 40 ∷ x) (f ∙ ap (λ x. us ++ x) closed ∙ sym (append_assoc us (Plain p 41 ∷ []) (writing left))),
      group d us ws (Plain o 40) (Plain p 41) refl refl refl small (subst P (add-one d) s),
    ) h.sound (omega (arith, h.shorter))
    (group_opens n d o (Plain o 40 ∷ writing inside) (writing inside) refl small ∙ h.goes_on ∙ ap (fault_from n (Outside (d + 1) ARepetition)) closed ∙ rw (inner, same) refl)

at_end : (ws : List Written) → IsAtEnd ws → (Begins 41 ws → ⊥) → ws ≡ []
at_end [] h g = refl
at_end (w ∷ ws) h g = absurd (g h)

-- where a closing parenthesis is missing
pub unclosed : (n d : ℕ) (ws : List Written) → IsAtEnd ws → (Begins 41 ws → ⊥) → fault_from n (Outside (d + 1) ARepetition) ws ≡ Some (record { at = n; cause = Syntax })
unclosed n d ws end none = ap (fault_from n (Outside (d + 1) ARepetition)) (at_end ws end none) ∙ ap (λ k. fault_from n (Outside k ARepetition) []) (add-one d)

-- the whole of a text
pub read_whole : {n : ℕ} {e : Expression} {words rest : List Character} → IsRead Alt 0 ARepetition n words rest e → IsAtEnd (writing rest) → (Begins 41 (writing rest) → ⊥)
    → SpellsAt Alt 0 e (writing words) × (fault_from n (Outside 0 Nothing) (writing words) ≡ None)
read_whole {n = n} {e = e} {rest = rest} h end none =
    let nil = at_end (writing rest) end none in
    let P : List Written → Type 0 = SpellsAt Alt 0 e in
    let (us, f, s) = h.spelled in
    (subst P (sym (f ∙ ap (λ x. us ++ x) nil ∙ append-nil us)) s, h.goes_on ∙ ap (fault_from n (Outside 0 ARepetition)) nil)
