-- What `lrls serve` does, from the bytes of a grammar file and of what comes in to the bytes that go out.
use Rattle.std.specs.Prelude.{◌≡◌, ℕ, List, Option, IsErrOf}
use Rattle.commands.specs.Refusals.{IsRefused}
use Rattle.docs.specs.Languages.{IsLanguageOf}
use Rattle.readings.specs.Grammars.{FileGrammar}
use Rattle.sessions.specs.Alone.{EachDocumentIsAlone, HistoriesDecide, OthersCanBeLeftOut}
use Rattle.sessions.specs.Fresh.{EveryAnswerIsFresh}
use Rattle.sessions.specs.Sessions.{Session}
use Rattle.sessions.specs.Sizes.{TooLargeIsExact}
use Rattle.sessions.specs.declared.fault.RunFault.TheVariants.{Read, Write}
use Rattle.serving.specs.declared.served.Served.{Served}
use Rattle.serving.specs.declared.served.Served.TheVariants.{Ended, Refused}

-- what holds of every session of a grammar file: its answers are a fresh server's, a text is too large exactly where it has too many
-- bytes, and what is sent about a document depends on what is received about it alone
pub record Holds (file : FileGrammar) : Type 0 where
  pub fresh : EveryAnswerIsFresh file
  pub too_large : TooLargeIsExact file
  pub alone : EachDocumentIsAlone file
  pub by_history : HistoriesDecide file
  pub left_out : OthersCanBeLeftOut file

-- `IsServed bytes input_old input_new output_old output_new served`: the bytes define a language, and what was read and written is a
-- session of it that ended so; or they define none, this is to be printed, and nothing was read or written
abbrev pub IsServed : List ℕ → Option (List ℕ) → Option (List ℕ) → Option (List ℕ) → Option (List ℕ) → Served → Type 0
IsServed bytes ri rn wo wn (Ended outcome) =
    (file : FileGrammar) × IsLanguageOf bytes file × Holds file × Session file ri rn wo wn outcome
IsServed bytes ri rn wo wn (Refused printed) = IsRefused bytes printed × (rn ≡ ri) × (wn ≡ wo)

-- the session ended because reading failed
abbrev pub failed_reading : Served → Type 0
failed_reading (Ended outcome) = IsErrOf outcome Read
failed_reading (Refused printed) = ⊥

-- the session ended because writing failed
abbrev pub failed_writing : Served → Type 0
failed_writing (Ended outcome) = IsErrOf outcome Write
failed_writing (Refused printed) = ⊥
