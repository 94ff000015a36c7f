-- Jakarta Servlet 6.0, section 7.1: the id of a session.
use Rattle.std.specs.Prelude.{ℕ, List, ◌++◌}
use Rattle.std.specs.Int.{to_be_bytes, w64}
use Rattle.hex.specs.Hex.{encode_lower}

-- 16 hexadecimal digits.
abbrev pub digits_of : ℕ → List ℕ
digits_of number = encode_lower (to_be_bytes w64 number)

-- The digits of the two random words, and of a serial that no other id has.
abbrev pub id_text : ℕ × ℕ → ℕ → List ℕ
id_text words serial = digits_of words.0 ++ digits_of words.1 ++ digits_of serial
