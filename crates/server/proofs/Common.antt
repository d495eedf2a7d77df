-- What the proofs of this crate cite of definitions, of types and of the repository's crates, passed on from one place. Declares nothing.
pub use Rattle.docs.specs.Docs.{IsCurrent, last_edit, open_document}
pub use Rattle.docs.specs.Edits.{IsNext, number_of}
pub use Rattle.docs.specs.Pending.{HasNone, IsPending, pending_number, pending_text, pending_unit}
pub use Rattle.docs.specs.Text.{changed}
pub use Rattle.docs.specs.Texts.{LastEdit, fits}
pub use Rattle.docs.specs.declared.doc.DocFault.{DocFault}
pub use Rattle.docs.specs.declared.doc.DocFault.TheVariants.{Memory}
pub use Rattle.frames.specs.Contents.{contents}
pub use Rattle.frames.specs.Frames.{Faulty, GoesOn, IsOpen, Open, Splits, Tail, fault_of, finish_of}
pub use Rattle.frames.specs.Write.{frame}
pub use Rattle.frames.specs.declared.fault.FrameFault.{FrameFault}
pub use Rattle.sessions.specs.declared.fault.RunFault.{RunFault}
pub use Rattle.sessions.specs.declared.fault.RunFault.TheVariants.{Frame, Read, Write}
pub use Rattle.readings.proofs.Results.{if_ok_both}
pub use Rattle.readings.specs.Answers.{AlwaysAnswers}
pub use Rattle.readings.specs.Grammars.{FileGrammar}
pub use Rattle.readings.specs.Texts.{OpenDocument}
pub use Rattle.rpc.specs.Ids.{id_view}
pub use Rattle.rpc.specs.Log.TheVariants.{CloseNotOpen}
pub use Rattle.rpc.specs.Loss.{Loss}
pub use Rattle.rpc.specs.Loss.TheVariants.{TooLarge}
pub use Rattle.rpc.specs.Messages.{Received, TextChange, change_view, received_of}
pub use Rattle.rpc.specs.Reading.{received_in}
pub use Rattle.rpc.specs.Replies.{Answer, log_message, reply_data, reply_view}
pub use Rattle.rpc.specs.Reply.{Reply}
pub use Rattle.rpc.specs.Unit.{Unit as Encoding}
pub use Rattle.rpc.specs.Written.{compact_text}
pub use Rattle.server.specs.Holding.{AreCurrent, IsEntryOf, documents_of, entry_at, entry_view}
pub use Rattle.server.specs.Loop.{EndsAt, HasServed, IsCutShort, Served, ServedInPart, run_fault}
pub use Rattle.sessions.specs.Serving.{CanServe}
pub use Rattle.server.specs.Losses.{loss_of}
pub use Rattle.server.specs.Questions.{question_view}
pub use Rattle.server.specs.States.{state_view}
pub use Rattle.docs.specs.Languages.{LanguageData}
pub use Rattle.docs.specs.declared.doc.Doc.{Doc}
pub use Rattle.server.specs.declared.entry.Entry.{Entry}
pub use Rattle.sessions.proofs.Edits.{after, all_changes, ends_there, goes_on, last_goes_on, may_lose}
pub use Rattle.sessions.proofs.LookUps.{inserted_again, inserted_removed, none_is, removed_none}
pub use Rattle.sessions.proofs.UncountedChanges.{becomes_by_parts, lost_by_parts, lost_on_the_way}
pub use Rattle.sessions.specs.Answers.{IsPublished}
pub use Rattle.sessions.specs.Changes.{IsAfter}
pub use Rattle.sessions.specs.Documents.{Becomes, DocumentState, Held, IsLastAfter, edited, has_room, is_lost, is_open}
pub use Rattle.sessions.specs.Runs.{Run, bytes_of}
pub use Rattle.sessions.specs.Sent.{sent}
pub use Rattle.sessions.specs.Sessions.{AppendsPrefix, Ends, IsWritten, Session}
pub use Rattle.sessions.specs.Steps.{Changes, Closes, Holds, Opens, State, Step, StepOn, first_state, new_document}
pub use Rattle.sessions.specs.declared.phase.Phase.{Phase}
pub use Rattle.sessions.proofs.Totals.{some_run}
pub use Rattle.sessions.proofs.Fits.{first_serves, run_serves}
