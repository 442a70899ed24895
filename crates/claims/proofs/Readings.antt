-- Document 01's twelve starred readings and what they leave open (specs/Reading.antt), computed: each gives what it must.
-- Assumes nothing.
use mathlib.Core.Path.{◌≡◌, refl}
use mathlib.Core.List.{◌++◌, map}
use Rattle.word.specs.Digits.{digits_of, value_of}
use Rattle.word.specs.Wrap.{residue, signed, wrap, add_wrap, sub_wrap}
use Rattle.word.specs.Field.{bits_at, unsigned_at, signed_at, bytes_of}
use Rattle.word.specs.Lay.{laid}
use Rattle.word.specs.Text.{digit_char, numeral, digit_count, natural, decimal, hexadecimal}
use Rattle.label.specs.Set.{union, subset}
use Rattle.label.specs.Label.{join, flows}
use Rattle.label.specs.Word.{stored, low_label}
use Rattle.program.specs.Command.{opcode_of}
use Rattle.program.specs.Decode.{decode_from, decode}
use Rattle.program.specs.Encode.{encode}
use Rattle.machine.specs.Rule.{standard}
use Rattle.machine.specs.Environment.{barrier}
use Rattle.machine.specs.Step.{request, execute}
use Rattle.machine.specs.Run.{step, asked, run, along}
use Rattle.engine.specs.Layout.{paired}
use Rattle.engine.specs.Start.{labels_limit, start_of}
use Rattle.plain.specs.Plain.{plain}
use Rattle.policy.specs.Token.{token_of, token_at}
use Rattle.policy.specs.Read.{read_label, read_condition, read_rule_with, read_rules, read_table}
use Rattle.policy.specs.Row.{accepted_row}
use Rattle.policy.specs.Evaluate.{evaluate}
use Rattle.handler.specs.Kernel.{or_word, effect, handle}
use Rattle.handler.specs.Kernel as Kernel
use Rattle.handler.specs.Translate.{compile_rule, translate}
use Rattle.tagging.specs.Consult.{matches, consult}
use Rattle.tagged.specs.Tagged.{tagged}
use Rattle.report.specs.Job.{four_at, item_at, read_from, read_job}
use Rattle.report.specs.Lines.{page_text, line_text, lines_text}
use Rattle.report.specs.Page.{run_text, page_of}
use Rattle.claims.specs.Reading.{given, computed, expected, readings, others}

pub readings-hold : map computed (readings ++ others) ≡ map expected (readings ++ others)
unfolding given page_of run_text read_job read_from item_at four_at page_text line_text lines_text digits_of value_of residue signed wrap add_wrap sub_wrap
    bits_at unsigned_at signed_at bytes_of laid digit_char numeral digit_count natural decimal hexadecimal union subset join flows stored
    low_label opcode_of decode_from decode encode barrier request execute step asked run along paired labels_limit token_of token_at read_label
    read_condition read_rule_with read_rules read_table accepted_row evaluate or_word effect handle Kernel.step Kernel.run compile_rule translate
    matches consult start_of standard plain tagged
readings-hold = refl
