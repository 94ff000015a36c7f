-- Jakarta Servlet 6.0 section 14.4 (listener).
use Rattle.std.specs.Prelude.{[], ◌∷◌, codes, Ok}
use Rattle.toml.specs.Data.{Members}
use Rattle.sv_text.specs.Steps.{◌>>=◌, ◌>>◌}
use Rattle.sv_descriptor.specs.Fault.{Located}
use Rattle.sv_descriptor.specs.Table.{required}
use Rattle.sv_descriptor.specs.Value.{name, text_of}
use Rattle.sv_descriptor.specs.Ignored.{element_keys}
use Rattle.sv_descriptor.specs.declared.listener.ListenerEntry.{ListenerEntry}

abbrev pub listener : Members → Located ListenerEntry
listener table = do
  element_keys (codes "listener-class" ∷ []) table
  class ← required (text_of name) (codes "listener-class") table
  Ok (record { listener_class = class })
