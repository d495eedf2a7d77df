-- What the proofs of this crate cite of definitions, of types and of the repository's crates, passed on from one place. Declares nothing.
pub use Rattle.frames.specs.Contents.{contents}
pub use Rattle.frames.specs.Frames.{BeginsWith, Continues, Faulty, GoesOn, HasSplit, IsBegun, IsCut, IsOpen, IsReached, IsStreamFault, IsTail, Open, Splits, Tail, fault_of, given, start_at, start_of, tail_of, unfinished}
pub use Rattle.frames.specs.Header.{AreFieldLines, HaveLength, IsHeaderLength, IsHeaderPart, IsWhole}
pub use Rattle.frames.specs.Header.{blank_line, field_fault, field_length, field_of, has_length, header_length, header_size, is_blank, is_content_length, is_content_type, is_number, is_utf8_type, is_value_byte, length_fault, length_value, line_end, line_fault, line_length, lines_length, lines_of}
pub use Rattle.frames.specs.Header.{onto_first_line, through, trim}
pub use Rattle.frames.specs.Kept.{Awaits, HoldsNone, IsDecoder}
pub use Rattle.frames.specs.Write.{Writes}
pub use Rattle.frames.specs.declared.decoder.Frame.{Frame}
pub use Rattle.frames.specs.declared.fault.DeviceFault.{DeviceFault}
pub use Rattle.frames.specs.declared.fault.FrameFault.{FrameFault}
pub use Rattle.frames.specs.declared.fault.FrameFault.TheVariants.{BadCharset, BadField, LongHeader, Memory, NoLength, SecondLength}
pub use Rattle.frames.specs.declared.header.Start.{Start}
pub use Rattle.frames.specs.declared.header.Start.TheVariants.{Announces, Fails, NeedsMore}
