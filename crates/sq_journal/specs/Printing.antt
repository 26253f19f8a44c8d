-- Words of a line, as they are handed to the printer, and their texts.
use Rattle.std.specs.Prelude.{ℕ, List, decimal}
use Rattle.std.specs.Fmt.{signed_decimal}
use Rattle.sq_base.specs.Addresses.{address_text}
use Rattle.sq_base.specs.Escapes.{text_word}
use Rattle.sq_journal.specs.EntryText.{channel_word}
use Rattle.sq_journal.specs.declared.printing.EntryPiece.{EntryPiece}
use Rattle.sq_journal.specs.declared.printing.EntryPiece.TheVariants.{Plain, Number, Offset, Address, Escaped, Channel}

-- the text of a word
abbrev pub piece_text : EntryPiece → List ℕ
piece_text (Plain bytes) = bytes.now
piece_text (Number n) = decimal n
piece_text (Offset minutes) = signed_decimal minutes
piece_text (Address addr) = address_text addr
piece_text (Escaped bytes) = text_word bytes.now
piece_text (Channel channel) = channel_word channel
