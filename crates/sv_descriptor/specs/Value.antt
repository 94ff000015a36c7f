-- The value at a key: its type is checked, and then it is read.
use Rattle.std.specs.Prelude.{ℕ, ℤ, pos, nat_abs, int_lt, Bool, true, false, ◌&&◌, ◌||◌, nat_le, List, length, if◌then◌else◌, Result, Ok, Err}
use Rattle.hex.specs.Hex.{decode_of}
use Rattle.toml.specs.Data.{Data, string, integer, boolean, table, Members}
use Rattle.sv_descriptor.specs.Fault.{Located, refuse}
use Rattle.sv_descriptor.specs.declared.fault.FaultCode.TheVariants.{WrongType, BadValue}
use Rattle.sv_descriptor.specs.declared.limits.TheConstants.{MAX_NAME_BYTES}

-- How the value at a key is read.
abbrev pub Reader : Type 0 → Type 0
Reader A = List ℕ → Data → Located A

-- A text, read further.
abbrev pub text_of : {A : Type 0} → (List ℕ → List ℕ → Located A) → Reader A
text_of reads key (string text) = reads key text
text_of reads key _ = refuse WrongType key

-- A whole number, read further.
abbrev pub whole_of : {A : Type 0} → (List ℕ → ℤ → Located A) → Reader A
whole_of reads key (integer number) = reads key number
whole_of reads key _ = refuse WrongType key

-- A table, read further.
abbrev pub table_of : {A : Type 0} → (Members → Located A) → Reader A
table_of reads key (table inner) = reads inner
table_of reads key _ = refuse WrongType key

abbrev pub truth : Reader Bool
truth key (boolean b) = Ok b
truth key _ = refuse WrongType key

abbrev pub is_text : Data → Bool
is_text (string _) = true
is_text _ = false

abbrev pub is_whole : Data → Bool
is_whole (integer _) = true
is_whole _ = false

abbrev pub is_truth : Data → Bool
is_truth (boolean _) = true
is_truth _ = false

abbrev pub is_table : Data → Bool
is_table (table _) = true
is_table _ = false

-- Any text.
abbrev pub any_text : List ℕ → List ℕ → Located (List ℕ)
any_text key text = Ok text

-- The length of a text is within bounds.
abbrev pub is_within : ℕ → ℕ → List ℕ → Bool
is_within least most text = nat_le least (length text) && nat_le (length text) most

abbrev pub is_name : List ℕ → Bool
is_name = is_within 1 MAX_NAME_BYTES

abbrev pub name : List ℕ → List ℕ → Located (List ℕ)
name key text = if is_name text then Ok text else refuse BadValue key

-- The bytes written as pairs of hexadecimal digits, in either case.
abbrev pub decoded : {E : Type 0} → List ℕ → Result (List ℕ) E → Located (List ℕ)
decoded key (Ok bytes) = Ok bytes
decoded key (Err e) = refuse BadValue key

abbrev pub hex_text : ℕ → ℕ → List ℕ → List ℕ → Located (List ℕ)
hex_text least most key text = if is_within least most text then decoded key (decode_of text) else refuse BadValue key

-- A whole number within bounds.
abbrev pub number_between : ℕ → ℕ → List ℕ → ℤ → Located ℕ
number_between least most key number =
    if int_lt number (pos least) || int_lt (pos most) number then refuse BadValue key else Ok (nat_abs number)
