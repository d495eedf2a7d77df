-- What the proofs of this crate cite of definitions, of types and of the repository's crates, passed on from one place. Declares nothing.
pub use Rattle.frames.specs.Contents.{contents}
pub use Rattle.frames.specs.Frames.{Faulty, GoesOn, IsOpen, Open, Splits, Tail, fault_of}
pub use Rattle.frames.specs.Write.{frame}
pub use Rattle.frames.specs.declared.fault.FrameFault.{FrameFault}
pub use Rattle.sessions.specs.declared.fault.RunFault.{RunFault}
pub use Rattle.sessions.specs.declared.fault.RunFault.TheVariants.{Frame, Memory, Read, Write}
pub use Rattle.readings.specs.Grammars.{FileGrammar}
pub use Rattle.rpc.specs.Reading.{received_in}
pub use Rattle.rpc.specs.Written.{compact_text}
pub use Rattle.server.specs.Loop.{EndsAt, IsCutShort, run_fault}
pub use Rattle.sessions.specs.Runs.{Run}
pub use Rattle.sessions.specs.Sessions.{AppendsPrefix, Ends, IsWritten}
pub use Rattle.sessions.specs.Steps.{State, Step}
pub use Rattle.own_replies.specs.States.{IdeState, first_of}
pub use Rattle.replies.specs.Ids.{Ident}
pub use Rattle.questions.specs.Asked.{asked_in}
pub use Rattle.questions.specs.Cancels.{cancelled_by, cancels, later_view, question_id}
pub use Rattle.questions.specs.Own.{own_in, own_of}
pub use Rattle.editor_replies.specs.Sent.{Message, core_answers, core_part, message_view}
pub use Rattle.editor_replies.specs.Sending.{bytes_of, message_data}
pub use Rattle.own_replies.specs.Replies.{IsReply}
pub use Rattle.ide.specs.Steps.{AnswersItself, StepOnContent, StepsAsShown}
pub use Rattle.ide.specs.Runs.{Event, IsLeftOff, LeavesOut, Serves, comes, contents_of, looks}
pub use Rattle.ide.specs.Sessions.{IsTaken, Session}
pub use Rattle.ide.specs.Loop.{HasServed, Served, ServedInPart}
pub use Rattle.shown.specs.Shown.{AreShown, ShownData}
pub use Rattle.ide.specs.Servers.{state_of}
pub use Rattle.editor_replies.specs.declared.sent.Sent.{Sent}
