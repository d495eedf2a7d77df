-- What is offered at an offset of a text.
use Rattle.std.specs.Prelude.{◌≡◌, ℕ, List, Option, encode_utf8_all, flat_map, length, min, slice_range, string_bytes}
use Rattle.definitions.specs.Tokens.{Token, AreTokens}
use Rattle.grammar.specs.Grammars.{FileGrammar}
use Rattle.mending.specs.declared.repair.Repair.{Repair}
use Rattle.settings.specs.declared.expressions.RuleText.{RuleText}
use Rattle.completion.specs.Places.{MayFollow}
use Rattle.completion.specs.Words.{IsWord, offer_of}
use Rattle.completion.specs.declared.offers.Offer.{Offer}

-- the number of a rule, and the text that is offered, in UTF-8
abbrev pub offer : Offer → ℕ × List ℕ
offer o = (o.rule, string_bytes o.text)

-- `AreOffers file texts repairs t end start offers`: the word before offset `end` of the text `t`, or before its end, begins at `start`;
-- and these are the texts of the rules that may follow there, as the repairs mend the text, of those that go on with the word, in file
-- order
pub record AreOffers (file : FileGrammar) (texts : List (Option RuleText)) (repairs : List Repair) (t : List ℕ) (end start : ℕ)
    (offers : List (ℕ × List ℕ)) : Type 0 where
  pub word : IsWord t start (min end (length t))
  pub tokens : List Token
  pub are_tokens : AreTokens file.patterns t tokens
  pub rules : List ℕ
  pub follow : MayFollow file t tokens repairs start rules
  pub are : offers ≡ flat_map (offer_of texts (encode_utf8_all (slice_range t start (min end (length t))))) rules
