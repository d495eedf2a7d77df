-- What the proofs of this crate cite of definitions, of types and of the repository's crates, passed on from one place. Declares nothing.
pub use Rattle.definitions.specs.declared.Range.{Range}
pub use Rattle.replies.specs.Ids.{Ident, id_view, named, numbered}
pub use Rattle.replies.specs.Replies.{Answer}
pub use Rattle.replies.specs.Replies.{capabilities, capabilities_reply, code_of, diagnostic_list, document_data, error_reply, fold_data, folds_data, folds_reply, id_data, log_message, maybe_id_data, nested, null_reply, published, published_diagnostics, range_data, reply_data, reply_view}
pub use Rattle.replies.specs.Replies.{result_data, row_data, row_view, rows_data, selection_data, selections_data, selections_reply, stats_data, stats_reply, text_reply, tokens_reply, tree_reply, with_parent}
pub use Rattle.replies.specs.declared.reply.Reply.{Reply}
