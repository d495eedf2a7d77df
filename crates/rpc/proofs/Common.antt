-- What the proofs of this crate cite of definitions, of types and of the repository's crates, passed on from one place. Declares nothing.
pub use Rattle.definitions.specs.declared.Position.{Position}
pub use Rattle.definitions.specs.declared.Range.{Range}
pub use Rattle.definitions.specs.declared.Unit.TheVariants.{Utf16, Utf32, Utf8}
pub use Rattle.replies.specs.Ids.{Ident, named, numbered}
pub use Rattle.rpc.specs.Fields.{fits_i32, fits_u31, integer_of, text_at}
pub use Rattle.rpc.specs.Messages.{Notification, Question, Received, Request, TextChange}
pub use Rattle.rpc.specs.Messages.{about, accepted, change_text, change_view, close, exit, ignored, initialize, initialized, invalid, its_folds, its_selections, its_text, its_tokens, its_tree, malformed, notification, open_text, params, refused, request, shutdown, stats, unknown, unread}
pub use Rattle.rpc.specs.Reading.{Gives, Receives}
pub use Rattle.rpc.specs.Reading.{change_notification, change_of, change_with, changes_at, changes_of, close_notification, document_request, document_text, encodings_at, first_and, first_unit, id_at, ident_of, is_invalid, is_reply, maybe_range, message_of, notification_of, of_method}
pub use Rattle.rpc.specs.Reading.{open_notification, params_at, place, position_of, positions_at, positions_of, range_of, read_change, read_close, read_open, received_as, received_in, request_of, selections_request, span, stats_request, unit_at, uri_at, value_of, version_at}
pub use Rattle.rpc.specs.Texts.{IsSpelled, id_texts, notification_texts, request_texts, texts_of}
pub use Rattle.rpc.specs.declared.message.Message.{Message}
pub use Rattle.rpc.specs.declared.message.RpcFault.{RpcFault}
pub use Rattle.definitions.specs.declared.Unit.{Unit as Encoding}
pub use Rattle.replies.specs.Replies.{id_data, position_data, range_data, unit_name}
pub use Rattle.rpc.specs.Writing.{IdFits, NotificationFits, PositionFits, QuestionFits, RangeFits, RequestFits, asking, change_data, notification_data, of_changes, of_client, of_document, of_opening, of_positions, question_data, request_data, telling, with_range}
