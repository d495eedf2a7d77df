-- What the proofs of this crate cite of definitions, of types and of the repository's crates, passed on from one place. Declares nothing.
pub use Rattle.readings.proofs.Texts.{fits_from, large_from, spelled_again, spelled_large, too_long}
pub use Rattle.readings.specs.Answers.{AlwaysAnswers, AnswersOnce, AreSelections, IsReading, Reading, rows, written_tree}
pub use Rattle.readings.specs.Contents.{AreFoldsOf}
pub use Rattle.readings.specs.Diagnostics.{IsDiagnosis}
pub use Rattle.readings.specs.Edits.{AreStats, CountsOnce, IsAbove, IsNext, Makes, ReportsLast, edit_of, number_after, number_of}
pub use Rattle.readings.specs.Grammars.{FileGrammar}
pub use Rattle.readings.specs.Nodes.{all_branches}
pub use Rattle.readings.specs.Text.{changed}
pub use Rattle.readings.specs.Texts.{LastEdit, OpenDocument, fits}
pub use Rattle.rpc.specs.Ids.{Ident, numbered}
pub use Rattle.rpc.specs.Log.TheVariants.{Lost}
pub use Rattle.rpc.specs.Loss.{Loss}
pub use Rattle.rpc.specs.Loss.TheVariants.{MalformedChange, Memory, TooLarge}
pub use Rattle.rpc.specs.Messages.{Notification, Question, Received, Request, TextChange, Unfit}
pub use Rattle.rpc.specs.Messages.{about, accepted, change_text, change_view, close, exit, ignored, initialize, initialized, invalid, its_folds, its_selections, its_text, its_tokens, its_tree, malformed, notification, open_text, params, refused, request, shutdown, stats, unfit_change, unfit_close}
pub use Rattle.rpc.specs.Messages.{unfit_open, unknown, unread}
pub use Rattle.rpc.specs.Range.{Range}
pub use Rattle.rpc.specs.Reading.{Receives, is_text, received_in}
pub use Rattle.rpc.specs.Replies.{Answer, folds_reply, log_message, published_diagnostics, selections_reply, stats_reply, tokens_reply}
pub use Rattle.rpc.specs.Stats.{Stats}
pub use Rattle.rpc.specs.Unit.{Unit as Encoding}
pub use Rattle.rpc.specs.declared.message.Change.{Change}
pub use Rattle.sessions.specs.Alone.{AreAlikeFor, EachDocumentIsAlone, EachRunHasAHistory, Event, HistoriesDecide, History, Notes, OthersCanBeLeftOut, SameFor, SendTheSame, concerning, concerns, event_in, finds_room, is_lifecycle, loses, loses_memory, named}
pub use Rattle.sessions.specs.Answers.{IsAnswer, IsAnswerOf, IsCount, IsPublished, but_nodes, shown, tree_answer}
pub use Rattle.sessions.specs.Changes.{AreAlikeForNext, IsAfter}
pub use Rattle.sessions.specs.Documents.{Becomes, DocumentState, Held, IsLastAfter, edited, has_room, is_lost, is_open}
pub use Rattle.sessions.specs.Fresh.{AnswerAlike, EachTextIsItsEdits, EveryAnswerIsFresh, IsFresh, IsLastPublished, Publishes, RepliesOnly}
pub use Rattle.sessions.specs.Runs.{Run}
pub use Rattle.sessions.specs.Steps.{Changes, Closes, Enters, Forgets, Holds, Ignores, OnMalformed, OnNotification, OnRequest, Opens, Replies, Spoils, State, Step, exit_status, first_state, new_document}
pub use Rattle.sessions.specs.declared.phase.Phase.{Phase}
pub use Rattle.sessions.specs.declared.phase.Phase.TheVariants.{Down, New, Ready}
pub use Rattle.sessions.specs.Serving.{AllFit, CanServe}
pub use Rattle.definitions.proofs.Characters.{IsText-chars, IsText-edit}
pub use Rattle.rpc.specs.Texts.{IsSpelled, texts_of}
pub use Rattle.sessions.specs.Replies.{EachRequestIsAnswered, NoNotificationIsAnswered, NothingIsSentAfterExit, all_due, all_replied, before_exit, due, has_exit, is_exit, replied}
pub use Rattle.sessions.specs.Sizes.{TooLargeIsExact, is_large, outgrows}
