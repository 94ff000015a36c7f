-- The meaning of the words after options.
use Rattle.std.specs.Prelude.{◌≡◌, ℕ, ◌<◌, ◌≤◌, ◌^◌, Bool, true, false, List, [], ◌∷◌, length, Option, Some, None, IfSome, IsSome}
use denote.Ref.{Bor}
use Rattle.std.specs.Char.{is_ascii_digit}
use Rattle.std.specs.List.{list_all}
use Rattle.std.specs.Net.Grammar.{IsSocketText}
use Rattle.std.specs.Str.Parse.{digits_value}
use Rattle.std.specs.declared.net.socket_addr.SocketAddr.{SocketAddr}

-- any word is a name
abbrev pub IsName : List ℕ → Bor (List ℕ) → Type 0
IsName word name = name.now ≡ word

-- the word writes this address with its port
abbrev pub IsAddress : List ℕ → SocketAddr → Type 0
IsAddress word address = IsSocketText word address

-- the word consists of decimal digits, and they write this number from 1 to the limit
abbrev pub IsCount : ℕ → List ℕ → ℕ → Type 0
IsCount limit word count = (list_all is_ascii_digit word ≡ true) × (digits_value 10 word ≡ count) × (0 < count) × (count ≤ limit)

-- the word consists of decimal digits, and they write the number of a descriptor that is no standard stream
abbrev pub IsDescriptor : List ℕ → ℕ → Type 0
IsDescriptor word number = IsCount 1048575 word number × (3 ≤ number)

-- no word gives no value, and one word gives its meaning
abbrev pub Says : {A : Type 0} → (List ℕ → A → Type 0) → List (List ℕ) → Option A → Type 0
Says means [] None = Unit {0}
Says means (word ∷ []) (Some value) = means word value
Says means words found = ⊥

-- no word gives this value, and one word gives its meaning
abbrev pub SaysOr : {A : Type 0} → A → (List ℕ → A → Type 0) → List (List ℕ) → A → Type 0
SaysOr usual means [] value = value ≡ usual
SaysOr usual means (word ∷ []) value = means word value
SaysOr usual means words value = ⊥

-- the option without a word is given or not
abbrev pub IsGiven : List (List ℕ) → Bool → Type 0
IsGiven [] false = Unit {0}
IsGiven (word ∷ []) true = Unit {0}
IsGiven words given = ⊥

-- the result has this property, and there is a result if any value has it
abbrev pub Finds : {A : Type 0} → (A → Type 0) → Option A → Type 0
Finds {A} asked found = IfSome found asked × ((any : A) → asked any → IsSome found)

-- the number that decimal digits write, unless there are no digits or it does not fit 32 bits
abbrev pub IsNumber : List ℕ → Option ℕ → Type 0
IsNumber word (Some number) = digits_value 10 word ≡ number
IsNumber word None = 0 < length word → digits_value 10 word < 2 ^ 32 → ⊥
