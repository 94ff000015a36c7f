-- The arguments of a word at the control socket, as the server reads them: it splits a line at blanks, and leaves the rest of
-- the line to the last argument that the word may take.
use Rattle.std.specs.Prelude.{ℕ, ◌-◌, ◌==◌, Bool, List, codes, if◌then◌else◌, length, nat_eq, nat_lt, slice_get, take, Option, Some, None, option_and_then}
use Rattle.std.specs.List.{find, list_any, starts_with}
use Rattle.sv_control_words.specs.ControlWord.{most}
use Rattle.sv_control_words.specs.declared.control_word.ControlWord.{ControlWord}
use Rattle.sv_control_words.specs.declared.control_word.ControlWord.TheVariants.{Append, Explain}
use Rattle.sv_mapping.specs.Pattern.{is_pattern}
use Rattle.sv_mapping.specs.declared.pattern.TheConstants.{MAX_PATTERN_BYTES}

abbrev pub has_blank : List ℕ → Bool
has_blank text = list_any (λ b. b == 32) text

-- the first argument with a blank, of those before the last one that the word may take
abbrev pub blank_argument : ControlWord → List (List ℕ) → Option (List ℕ)
blank_argument known arguments = find has_blank (take (most known - 1) arguments)

abbrev pub unless_pattern : List ℕ → Option (List ℕ)
unless_pattern text = if is_pattern text then None else Some text

-- the pattern of a constraint that is to be added, if it is none (Jakarta Servlet 6.0, section 12.2)
abbrev pub wrong_pattern : ControlWord → List (List ℕ) → Option (List ℕ)
wrong_pattern Append arguments = option_and_then unless_pattern (slice_get arguments 1)
wrong_pattern known arguments = None

-- what a text lacks that is no pattern
abbrev pub pattern_rule : List ℕ → List ℕ
pattern_rule text =
    if nat_lt MAX_PATTERN_BYTES (length text) then codes "a pattern has at most 1024 bytes"
    else if starts_with nat_eq text (codes "*.") then codes "a pattern that begins with *. has no /"
    else codes "a pattern is empty, or begins with / or *."

-- which argument of a word may have blanks
abbrev pub blank_rule : ControlWord → List ℕ
blank_rule Explain = codes "only USER may have blanks"
blank_rule Append = codes "only ROLES may have blanks"
blank_rule known = codes "it may have no blanks"
