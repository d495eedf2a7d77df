-- A symbol that is added lies in those around it.
use Rattle.std.proofs.Common.{◌≡◌, ◌∙◌, ℕ, ◌+◌, ◌≤◌, List, [], ◌∷◌, ◌++◌, length, map, ap, sym, refl, subst, arith}
use Rattle.std.proofs.lemmas.List.{length-append, map-append}
use Rattle.std.proofs.lemmas.List.Elements.{All-push, All-same}
use Rattle.definitions.specs.declared.Unit.{Unit as Encoding}
use Rattle.settings.specs.declared.settings.Settings.{Settings}
use Rattle.outline.specs.declared.found.Found.{Found}
use Rattle.outline.specs.declared.symbols.OutlineSymbol.{OutlineSymbol}
use Rattle.outline.specs.Found.{IsFound, most_after}
use Rattle.outline.specs.Nesting.{AreNested, AreNestedFrom}
use Rattle.outline.specs.Symbols.{IsSymbolOf}

nested_more : (most : ℕ) (ds : List ℕ) (d : ℕ) → AreNestedFrom most ds → d ≤ most_after most ds → AreNestedFrom most (ds ++ d ∷ [])
nested_more most [] d h l = (l, tt)
nested_more most (e ∷ ds) d h l = (h.0, nested_more (e + 1) ds d h.1 l)

most_more : (most : ℕ) (ds : List ℕ) (d : ℕ) → most_after most (ds ++ d ∷ []) ≡ d + 1
most_more most [] d = refl
most_more most (e ∷ ds) d = most_more (e + 1) ds d

abbrev depths : List OutlineSymbol → List ℕ
depths symbols = map (λ s. s.depth) symbols

-- symbols around that are left out
pub found_fewer : (settings : Settings) (encoding : Encoding) (t : List ℕ) (old new : Found) → IsFound settings encoding t old → new.symbols ≡ old.symbols
    → length new.around.items ≤ length old.around.items → IsFound settings encoding t new
found_fewer settings encoding t old new h e l = record {
  symbols = All-same (IsSymbolOf settings encoding t) new.symbols.items old.symbols.items (ap (λ v. v.items) e) h.symbols;
  nested = subst AreNested (sym (ap (λ v. depths v.items) e)) h.nested;
  around = let same = ap (λ v. most_after 0 (depths v.items)) e in omega (arith, h.around, same);
}

-- a symbol more
pub found_more : (settings : Settings) (encoding : Encoding) (t : List ℕ) (old new : Found) (s : OutlineSymbol) (end : ℕ) → IsFound settings encoding t old
    → IsSymbolOf settings encoding t s → s.depth ≡ length old.around.items → new.symbols.items ≡ old.symbols.items ++ s ∷ []
    → new.around.items ≡ old.around.items ++ end ∷ [] → IsFound settings encoding t new
found_more settings encoding t old new s end h symbol depth e a =
    let more : depths new.symbols.items ≡ depths old.symbols.items ++ s.depth ∷ [] = ap depths e ∙ map-append (λ x. x.depth) old.symbols.items (s ∷ []) in
    let long : length new.around.items ≡ length old.around.items + 1 = ap length a ∙ length-append old.around.items (end ∷ []) in
    record {
      symbols = All-same (IsSymbolOf settings encoding t) new.symbols.items (old.symbols.items ++ s ∷ []) e
          (All-push (IsSymbolOf settings encoding t) old.symbols.items s h.symbols symbol);
      nested = subst AreNested (sym more) (nested_more 0 (depths old.symbols.items) s.depth h.nested (omega (arith, h.around)));
      around = omega (arith, ap (most_after 0) more, most_more 0 (depths old.symbols.items) s.depth);
    }
