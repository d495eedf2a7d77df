-- What the proofs of this crate cite of std and of the kit's crates, passed on from one place. Declares nothing.
pub use Rattle.std.proofs.Common.{◌++◌, ◌==◌, ◌∙◌, ◌∷◌, ◌≡◌, ◌⊎◌, []}
pub use Rattle.std.proofs.Common.{Bool, Err, IfOk, IsOkAnd, List, None, Ok, Option, Result, Some, String, ap, append_assoc, ap₂, arith, codes, drop, encode_utf8_all, false, flat_map, inl, inr, is_some, map, option_map, refl, rules, string_bytes, subst, sym, true, true≢false, ℕ}
unfoldable pub use Rattle.std.specs.Char.{encode_utf8}
pub use Rattle.std.specs.Prelude.{slice_get}
pub use Rattle.std.specs.List.{All, fold}
pub use Rattle.std.specs.Str.{IsUtf8, bytes_eq, chars}
pub use Rattle.std.specs.declared.alloc.AllocError.{AllocError}
pub use Rattle.std.proofs.Math.Utf8.{encodes}
pub use Rattle.std.proofs.lemmas.Bool.{cases_Bool, eqb-true}
pub use Rattle.std.proofs.lemmas.Iterator.Adapters.{option_map_id}
pub use Rattle.std.proofs.lemmas.List.{take_all}
pub use Rattle.std.proofs.lemmas.List.Elements.{All-cons, All-head, All-nil, All-tail}
pub use Rattle.std.proofs.lemmas.Result.{IfOk-weaker}
pub use Rattle.std.proofs.lemmas.Slice.Eq.{bytes_eq-Decides}
pub use Rattle.std.proofs.lemmas.Str.{IsUtf8-string_bytes, chars_past_char, encodes-chars}
pub use Rattle.clap.proofs.FaultLemmas.{stopped_fault}
unfoldable pub use Rattle.clap.proofs.OnLiterals.{clap_on_literals}
pub use Rattle.clap.proofs.WalkLemmas.{first_value-rows, walk_stopped}
pub use Rattle.clap.specs.Faults.{check_fault, defaults_fault, entered_fault, flag_word_fault, long_fault, other_fault, react_fault, settle_fault, short_fault, turn_fault}
unfoldable pub use Rattle.clap.specs.Faults.{flags_fault, walk_fault}
pub use Rattle.clap.specs.Kinds.{HasKind, IsAmong, Kinds, or_else}
pub use Rattle.clap.specs.Lexer.{long_of, name_and_value, short_of}
pub use Rattle.clap.specs.Simple.{Shape, app_of_fields, built, built_leaf, entered, filled, help_rule, inherited, names_of, on_top}
pub use Rattle.clap.specs.Values.{reading_of}
pub use Rattle.clap.specs.Walk.{Held, Names, Row, Rule, Text, Walk, arg_by_long, arg_by_short, finished, idle, nothing_held, reacted, settled, subcommand_met, walked}
pub use Rattle.clap.specs.Words.{AddsSubcommand, App, HasMatchesOf, app_of, fault_of, found_of, is_simple, is_simple_and_free, kind_of, subcommand_of, subcommand_rows_of, with_subcommand}
pub use Rattle.clap.specs.declared.builder.command.Command.{Command}
pub use Rattle.clap.specs.declared.builder.command.Command.TheViews.{out-Command as fields_of}
pub use Rattle.clap.specs.declared.builder.value_parser.ValueParser.TheVariants.{String as AnyText}
pub use Rattle.clap.specs.declared.parser.matches.ArgMatches.{ArgMatches}
pub use Rattle.clap.specs.declared.parser.matches.ValueSource.TheVariants.{CommandLine}
pub use Rattle.std.proofs.lemmas.Grind.{common_steps}
