-- What the state in which the machine stopped expects.
use Rattle.parser.proofs.Std.{◌≡◌, ◌⊎◌, ℕ, List, take, Option, sym, subst, inl, inr}
use Rattle.parser.proofs.Common.{Kind, Symbol, Tree, HaveRoots, IsStackAfter, Cell, AreExpected, Sets, IsStateOf, TreeAt, StopsAt, StopsAtEnd, plain_of, Stop, IsParseOf, AreStacked, AreExpectedAt, verdict_in}
use Rattle.parser.specs.declared.parse.Verdict.{Verdict}
use Rattle.parser.proofs.StopDecides.{settled_after}

abbrev pub IsFault : Verdict → Type 0
IsFault v = ((k : ℕ) × (v ≡ StopsAt k)) ⊎ (v ≡ StopsAtEnd)

-- what `Tables::expects` ensures
abbrev pub ShowsExpected : Sets → ℕ → List (Option ℕ) → Type 0
ShowsExpected t state looks = (x : List Kind) (stack : List Tree) (prefix : List Symbol) → IsStateOf t prefix state
    → IsStackAfter t.grammar x stack → HaveRoots t.grammar stack prefix → AreExpected t.grammar x looks

pub expected : (t : Sets) (kinds : List Kind) (cells : List Cell) (parse : Stop) (looks : List (Option ℕ)) → IsParseOf t kinds cells parse → (v : Verdict)
    → parse.verdict ≡ v → IsFault v → ShowsExpected t parse.state looks → AreExpectedAt t.grammar kinds (verdict_in cells parse.verdict) looks
expected t kinds cells parse looks h (TreeAt id) e f shows = absurd (elim f [ inl k ↦ cc k.1 | inr k ↦ cc k ])
expected t kinds cells parse looks h (StopsAt k) e f shows =
    let stacked = subst (λ v. AreStacked t.grammar kinds (verdict_in cells v) (plain_of cells parse.stack)) e h.stop.stack in
    let after = settled_after t.grammar (take k kinds) stacked.trees (plain_of cells parse.stack) stacked.are stacked.stack_is in
    subst (λ v. AreExpectedAt t.grammar kinds (verdict_in cells v) looks) (sym e) (shows (take k kinds) (plain_of cells parse.stack) h.stop.roots h.stop.state after h.stop.are_roots)
expected t kinds cells parse looks h StopsAtEnd e f shows =
    let stacked = subst (λ v. AreStacked t.grammar kinds (verdict_in cells v) (plain_of cells parse.stack)) e h.stop.stack in
    let after = settled_after t.grammar kinds stacked.trees (plain_of cells parse.stack) stacked.are stacked.stack_is in
    subst (λ v. AreExpectedAt t.grammar kinds (verdict_in cells v) looks) (sym e) (shows kinds (plain_of cells parse.stack) h.stop.roots h.stop.state after h.stop.are_roots)
