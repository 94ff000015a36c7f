-- The line that the arguments of the command `ctl` are.
use Rattle.std.specs.Prelude.{◌≡◌, ◌==◌, ◌&&◌, ℕ, Bool, true, false, List, [], ◌∷◌, ◌++◌, codes, flat_map, is_none, length, map, nat_le, not, string_bytes, Option, Some, None, Result, OnOk, IfSome, IsSome}
use Rattle.std.specs.List.{list_all, list_any}
use Rattle.sv_control_words.specs.ControlArguments.{blank_argument, wrong_pattern}
use Rattle.sv_control_words.specs.ControlWord as word
use Rattle.sv_control_words.specs.declared.control_request.ControlRequest.{ControlRequest}
use Rattle.sv_control_words.specs.declared.control_word.ControlWord.{ControlWord}
use Rattle.sv_text.specs.declared.no_memory.NoMemory.{NoMemory}

abbrev pub named : List ℕ → Option ControlWord
named name = word.word_named name

abbrev pub has_line_feed : List ℕ → Bool
has_line_feed text = list_any (λ b. b == 10) text

abbrev pub are_on_one_line : List (List ℕ) → Bool
are_on_one_line words = list_all (λ text. not (has_line_feed text)) words

-- the word is known and takes this number of arguments
abbrev pub takes : Option ControlWord → ℕ → Bool
takes None count = false
takes (Some known) count = nat_le (word.least known) count && nat_le count (word.most known)

-- the server reads the arguments as they are
abbrev pub are_read : Option ControlWord → List (List ℕ) → Bool
are_read None arguments = false
are_read (Some known) arguments = is_none (blank_argument known arguments) && is_none (wrong_pattern known arguments)

-- the words of a line
abbrev pub are_of_line : List (List ℕ) → Bool
are_of_line [] = false
are_of_line (name ∷ arguments) =
    takes (named name) (length arguments) && (are_on_one_line (name ∷ arguments) && are_read (named name) arguments)

-- the arguments are the name of a socket and the words of a line
abbrev pub IsControl : List (List ℕ) → ControlRequest → Type 0
IsControl arguments request =
    (arguments ≡ request.socket.now ∷ map string_bytes request.words.now) × (are_of_line (map string_bytes request.words.now) ≡ true)

-- the result is the request of the arguments, and there is one if they are those of any
abbrev pub FindsControl : List (List ℕ) → Option ControlRequest → Type 0
FindsControl arguments found =
    IfSome found (IsControl arguments) × ((any : ControlRequest) → IsControl arguments any → IsSome found)

-- arguments, each after a blank
abbrev pub arguments_text : List (List ℕ) → List ℕ
arguments_text arguments = flat_map (λ argument. codes " " ++ argument) arguments

abbrev pub Pushes : Result (Unit {0}) NoMemory → List ℕ → List (List ℕ) → List ℕ → Type 0
Pushes result before arguments after = OnOk result (after ≡ before ++ arguments_text arguments)

-- the line of some words
abbrev pub line_of : List (List ℕ) → List ℕ
line_of [] = codes "\n"
line_of (name ∷ arguments) = name ++ arguments_text arguments ++ codes "\n"
