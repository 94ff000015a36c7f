-- The token that ties a form to its session.
use Rattle.std.specs.Prelude.{ℕ, Bool, false, List, ◌++◌, Option, Some, bytes_eq, codes}
use Rattle.std.specs.Option.{option_map}
use Rattle.hex.specs.Hex.{encode_lower}
use Rattle.sha2.specs.Sha256.{sha256}
use Rattle.sv_exchange.specs.Parameters.{parameter_of}
use Rattle.sv_exchange.specs.Sessions.{session_id_of}
use Rattle.sv_exchange.specs.State.{State}
use Rattle.guestbook_components.specs.declared.token.TheConstants.{PURPOSE}

-- a digest of the session id, in hexadecimal digits
abbrev pub token_for : List ℕ → List ℕ
token_for id = encode_lower (sha256 (PURPOSE.now ++ id))

-- without a session there is no token
abbrev pub token_of : State → Option (List ℕ)
token_of asked = option_map token_for (session_id_of asked)

-- the form that was sent has the token of the session that sent it
abbrev pub is_sent_back : Option (List ℕ) → Option (List ℕ) → Bool
is_sent_back (Some token) (Some sent) = bytes_eq sent token
is_sent_back token sent = false

abbrev pub is_own_form : State → Bool
is_own_form asked = is_sent_back (token_of asked) (parameter_of (codes "token") asked)
