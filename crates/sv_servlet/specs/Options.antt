-- The address of an application (RFC 1122, section 3.2.1.3, and RFC 9293, section 3.1).
use Rattle.std.specs.Prelude.{◌≡◌, ℕ, List, [], ◌∷◌, ◌<◌, ◌^◌}
use Rattle.std.specs.Str.Parse.{IsNumeral, digits_value, without_leading_plus}
use Rattle.std.specs.Net.Addr.{IsV4And, ipv4_octets}
use Rattle.std.specs.Net.Socket.{socket_ip, socket_port}
use Rattle.sv_servlet.specs.declared.options.Options.{Options}

-- the address 127.0.0.1, which no other machine reaches, with this port
abbrev pub IsAtPort : ℕ → Options → Type 0
IsAtPort port options = IsV4And (socket_ip options.address) (λ ip. ipv4_octets ip ≡ 127 ∷ 0 ∷ 0 ∷ 1 ∷ []) × (socket_port options.address ≡ port)

abbrev pub IsOfThisMachine : Options → Type 0
IsOfThisMachine options = (port : ℕ) × IsAtPort port options

-- a text names a port by its decimal digits, with an optional leading plus
abbrev pub port_named : List ℕ → ℕ
port_named text = digits_value 10 (without_leading_plus text)

abbrev pub NamesPort : List ℕ → Type 0
NamesPort text = IsNumeral 10 (without_leading_plus text) × (port_named text < 2 ^ 16)
