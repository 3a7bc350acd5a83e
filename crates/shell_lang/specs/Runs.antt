-- Bytes that stand together.
use Rattle.std.specs.Prelude.{ℕ, Bool}
use Rattle.outside.specs.Number.{is_digit}
use Rattle.shell_lang.specs.Bytes.{is_name_byte, is_plain, is_quoted}
use Rattle.text_lines.specs.Lines.{is_blank}
use Rattle.shell_lang.specs.declared.run.Run.{Run}
use Rattle.shell_lang.specs.declared.run.Run.TheVariants.{Name, Plain, Quoted, Digits, Blanks}

-- the byte belongs to such a run
abbrev pub is_in : Run → ℕ → Bool
is_in Name = is_name_byte
is_in Plain = is_plain
is_in Quoted = is_quoted
is_in Digits = is_digit
is_in Blanks = is_blank
