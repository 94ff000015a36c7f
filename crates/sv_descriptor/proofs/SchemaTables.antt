-- The keys of a table, as in its map.
use Rattle.std.proofs.Common.{◌≡◌, List, [], ◌∷◌, map, string_bytes, refl, ap}
use Rattle.std.specs.Map.{keys_of}
use Rattle.toml.specs.View.{members_view}
use Rattle.toml.proofs.Views.{Entry}
use Rattle.sv_descriptor.specs.Table.{keys}

pub keys-members_view : (entries : List Entry) → keys (members_view entries) ≡ map string_bytes (keys_of entries)
keys-members_view [] = refl
keys-members_view (e ∷ entries) = ap (λ rest. string_bytes e.0 ∷ rest) (keys-members_view entries)
