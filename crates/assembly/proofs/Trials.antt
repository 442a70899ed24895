-- The texts and sheets to try (specs/Trial.antt), computed.
-- Assumes nothing.
use mathlib.Core.Path.{refl}
use Rattle.word.specs.Digits.{digits_of, value_of}
use Rattle.word.specs.Field.{bits_at, unsigned_at, signed_at, bytes_of}
use Rattle.word.specs.Numeral.{number_of}
use Rattle.word.specs.Text.{digit_char, digit_value, numeral, numeral_value, digit_count, natural, decimal}
use Rattle.word.specs.Wrap.{residue, signed}
use Rattle.program.specs.Command.{opcode_of}
use Rattle.program.specs.Name.{opcode_named}
use Rattle.program.specs.Decode.{decode_from, decode}
use Rattle.program.specs.Encode.{encode}
use Rattle.assembly.specs.Assembly.{cut, read_from, read_text, listing, assembled, listed}
use Rattle.assembly.specs.Trial.{Trials}

pub trials-hold : Trials
unfolding assembled listed read_text read_from cut opcode_named number_of numeral_value digit_value encode bytes_of digits_of value_of residue signed
    decode decode_from opcode_of unsigned_at signed_at bits_at listing decimal natural digit_count numeral digit_char
trials-hold = (refl, refl)
