-- The parameters of a query or a form (URL Standard, section 5.1; Jakarta Servlet 6.0, section 3.1).
use Rattle.std.specs.Prelude.{ℕ, List, map, Option, find, bytes_eq}
use Rattle.std.specs.Option.{option_map}
use Rattle.std.specs.Str.Lossy.{utf8_lossy}
use Rattle.form_urlencoded.specs.Form.{decode, raw_pairs}

-- The decoded text: `+` means a space, escapes are decoded, and invalid UTF-8 becomes U+FFFD.
abbrev pub text_of : List ℕ → List ℕ
text_of written = utf8_lossy (decode written)

-- Names and values, decoded to texts.
abbrev pub texts_of : List (List ℕ × List ℕ) → List (List ℕ × List ℕ)
texts_of pairs = map (λ (name, value). (text_of name, text_of value)) pairs

-- The parameters of a query or a form, in order.
abbrev pub parameters_of : List ℕ → List (List ℕ × List ℕ)
parameters_of written = texts_of (raw_pairs written)

-- The value of the first parameter with the name.
abbrev pub first_named : List ℕ → List (List ℕ × List ℕ) → Option (List ℕ)
first_named name parameters = option_map (λ pair. pair.1) (find (λ pair. bytes_eq pair.0 name) parameters)
