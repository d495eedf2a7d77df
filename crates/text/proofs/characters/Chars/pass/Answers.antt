use Rattle.text.proofs.Std.{rules, arith, inl, ap, sym, subst, ◌∙◌, ◌≡◌, ◌<◌, ◌≤◌, ◌++◌, ℕ, All, List, length, take, drop, true, All-weaker, chars, IsUtf8}
use Rattle.text.proofs.Common.{IsCharacter, text_in}
use Rattle.text.proofs.AsciiStart.{cut_after, enough, first_are, others_are}
use Rattle.text.proofs.characters.Chars.pass.Goals as goal

-- the first `n` bytes, which were seen in another list, are in ASCII
starts : (P : ℕ → Type 0) (seen bytes : List ℕ) (n : ℕ) → seen ≡ bytes → n ≤ length seen → All (λ x. (x < 128) × P x) (take n seen) → (n ≤ length bytes) × All (λ x. x < 128) (take n bytes)
starts P seen bytes n e within all = subst (λ (l : List ℕ). (n ≤ length l) × All (λ x. x < 128) (take n l)) e (within, All-weaker (λ x. (x < 128) × P x) (λ x. x < 128) (λ x h. h.0) (take n seen) all)

pub split_at-requires : goal.split_at-requires
split_at-requires g c =
    let bytes = c.self.inside.present.now in
    let n = c.passed-count.result in
    let ascii = starts (λ x. goal.F-post g c.args.test x true) c.as_bytes.result.now bytes n c.as_bytes.ensures.value c.passed-count.ensures.inside c.passed-count.ensures.passed in
    let utf8 : IsUtf8 bytes = search rules in
    cut_after bytes n ascii.0 ascii.1 utf8

pub returns-clause-inside : goal.returns-clause-inside
returns-clause-inside g c =
    let bytes = c.self.inside.present.now in
    let n = c.passed-count.result in
    let ascii = starts (λ x. goal.F-post g c.args.test x true) c.as_bytes.result.now bytes n c.as_bytes.ensures.value c.passed-count.ensures.inside c.passed-count.ensures.passed in
    subst (λ (l : List ℕ). n ≤ length l) c.self.view_is (enough bytes n ascii.0 ascii.1 (text_in c.self.inside.pieces))

pub returns-clause-left : goal.returns-clause-left
returns-clause-left g c =
    let bytes = c.self.inside.present.now in
    let rest = text_in c.self.inside.pieces in
    let n = c.passed-count.result in
    let ascii = starts (λ x. goal.F-post g c.args.test x true) c.as_bytes.result.now bytes n c.as_bytes.ensures.value c.passed-count.ensures.inside c.passed-count.ensures.passed in
    c.refill-self-inside.ensures.same
    ∙ ap (λ l. chars l ++ rest) c.split_at.ensures.back
    ∙ sym (others_are bytes n ascii.0 ascii.1 rest)
    ∙ ap (drop n) c.self.view_is

pub returns-clause-passed : goal.returns-clause-passed
returns-clause-passed g c =
    let bytes = c.self.inside.present.now in
    let n = c.passed-count.result in
    let Passes : ℕ → Type 0 = λ x. goal.F-post g c.args.test x true in
    let ascii = starts Passes c.as_bytes.result.now bytes n c.as_bytes.ensures.value c.passed-count.ensures.inside c.passed-count.ensures.passed in
    let same : take n c.as_bytes.result.now ≡ take n c.args.self.now = ap (take n) c.as_bytes.ensures.value
    ∙ sym (first_are bytes n ascii.0 ascii.1 (text_in c.self.inside.pieces)) ∙ ap (take n) c.self.view_is in
    subst (λ (l : List ℕ). All (λ x. IsCharacter x × Passes x) l) same (All-weaker (λ x. (x < 128) × Passes x) (λ x. IsCharacter x × Passes x)
    (λ x h. (inl (omega (arith, h.0)), h.1)) (take n c.as_bytes.result.now) c.passed-count.ensures.passed)
