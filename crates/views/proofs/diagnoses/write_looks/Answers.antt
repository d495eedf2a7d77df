use Rattle.views.proofs.Std.{encode, rules, ◌≡◌, ◌∙◌, ◌++◌, ◌∷◌, [], List, ℕ, ap, refl, sym, subst, option_map, string_bytes, codes, IsUtf8-string_bytes}
use Rattle.views.proofs.Common.{Rule, listed, name_or_end}
use Rattle.std.specs.Str.{chars}
use Rattle.views.proofs.FaultDiagnostic.{IsListing, names_of, listing_begun, listing_more}
use Rattle.views.proofs.diagnoses.write_looks.Goals as goal

pub loop-look-init : goal.loop-look-init
loop-look-init c =
    let names = c.args.grammar.now.names in
    let bytes = string_bytes c.args.reported.now in
    let all : List ℕ = chars bytes ++ listed (names_of names c.args.looks) in
    let same : c.into_iter-look-iterator.result ≡ c.args.looks = c.into_iter-look-iterator.ensures.into_iter_gives in
    record { text = ([], (refl, refl)); listing = subst (IsListing names all bytes []) (sym same) (listing_begun names bytes c.args.looks) }

pub loop-look-preserved : goal.loop-look-preserved
unfolding encode
loop-look-preserved c =
    let names = c.args.grammar.now.names in
    let all : List ℕ = chars (string_bytes c.args.reported.now) ++ listed (names_of names c.args.looks) in
    let next : c.loop-look.look-iterator ≡ c.in-Some.look ∷ c.next.new.self = c.in-Some.ensures.steps in
    let before = subst (IsListing names all (string_bytes c.loop-look.reported) c.loop-look.separator.now) next c.loop-look.invariant.listing in
    let mapped : c.map.result ≡ option_map Rule c.in-Some.look = (let m = c.map.ensures.cases in search rules) in
    record {
      text = (codes ", ", (refl, refl));
      listing = listing_more names all (string_bytes c.loop-look.reported) c.loop-look.separator.now c.in-Some.look c.next.new.self (string_bytes c.push_str.new.self)
          (string_bytes c.push_str-in-loop-look.new.self) c.name_or_end.result.now before (IsUtf8-string_bytes c.loop-look.reported)
          (IsUtf8-string_bytes c.push_str.new.self) c.in_ok-push_str.ensures.bytes c.in_ok-push_str-2.ensures.bytes (c.name_or_end.ensures ∙ ap (name_or_end names) mapped);
    }
