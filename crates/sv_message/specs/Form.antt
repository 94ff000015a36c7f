-- The parameters of a form in the body of a request (Jakarta Servlet 6.0, section 3.1.1).
use Rattle.std.specs.Prelude.{ℕ, Bool, false, ◌&&◌, ◌==◌, List, [], take, bytes_eq, codes, Option, None, Some, if◌then◌else◌}
use Rattle.std.specs.List.{position_or_len}
use Rattle.http_header.specs.Token.{lowercase}
use Rattle.httparse.specs.Grammar.{trim_ows}
use Rattle.sv_message.specs.Parameters.{parameters_of}

abbrev pub semicolon : ℕ
semicolon = 59

-- The part of a Content-Type before its parameters (RFC 9110, section 8.3.1).
abbrev pub before_parameters : List ℕ → List ℕ
before_parameters value = take (position_or_len (λ b. b == semicolon) value) value

-- The same part without the blanks around it.
abbrev pub media_type : List ℕ → List ℕ
media_type value = trim_ows (before_parameters value)

-- Whether the media type is that of forms, in any case.
abbrev pub is_form_type : List ℕ → Bool
is_form_type value = bytes_eq (lowercase (media_type value)) (codes "application/x-www-form-urlencoded")

-- Whether the body of a request with the method and the Content-Type is a form.
abbrev pub is_form : List ℕ → Option (List ℕ) → Bool
is_form method None = false
is_form method (Some value) = bytes_eq method (codes "POST") && is_form_type value

-- The parameters of the body, if it is a form.
abbrev pub form_parameters : List ℕ → Option (List ℕ) → List ℕ → List (List ℕ × List ℕ)
form_parameters method content_type body = if is_form method content_type then parameters_of body else []
