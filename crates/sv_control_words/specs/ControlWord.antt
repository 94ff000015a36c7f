-- The words that begin a line at the control socket.
use Rattle.std.specs.Prelude.{ℕ, List, codes, if◌then◌else◌, Option, Some, None}
use Rattle.std.specs.Str.{bytes_eq}
use Rattle.sv_control_words.specs.declared.control_word.ControlWord.{ControlWord}
use Rattle.sv_control_words.specs.declared.control_word.ControlWord.TheVariants.{Status, Constraints, Uncovered, Explain, Append, Withdraw, Stop}

abbrev pub word_named : List ℕ → Option ControlWord
word_named name =
    if bytes_eq name (codes "status") then Some Status
    else if bytes_eq name (codes "constraints") then Some Constraints
    else if bytes_eq name (codes "uncovered") then Some Uncovered
    else if bytes_eq name (codes "explain") then Some Explain
    else if bytes_eq name (codes "append") then Some Append
    else if bytes_eq name (codes "withdraw") then Some Withdraw
    else if bytes_eq name (codes "stop") then Some Stop
    else None

-- the word with its arguments
abbrev pub word_usage : ControlWord → List ℕ
word_usage Status = codes "status"
word_usage Constraints = codes "constraints"
word_usage Uncovered = codes "uncovered"
word_usage Explain = codes "explain METHOD TARGET [USER]"
word_usage Append = codes "append CONTEXT PATTERN METHODS ROLES"
word_usage Withdraw = codes "withdraw CONTEXT N"
word_usage Stop = codes "stop"

-- the least number of its arguments
abbrev pub least : ControlWord → ℕ
least Explain = 2
least Append = 4
least Withdraw = 2
least other = 0

-- the greatest number of its arguments
abbrev pub most : ControlWord → ℕ
most Explain = 3
most other = least other
