-- The form of a pattern in the code, with borrowed texts.
use Rattle.sv_mapping.specs.Pattern as spec
use Rattle.sv_mapping.specs.declared.form.Form.{Form}
use Rattle.sv_mapping.specs.declared.form.Form.TheVariants.{Root, Default, Extension, Prefix, Exact}

-- The same form in the definitions.
abbrev pub form_seen : Form → spec.Form
form_seen Root = spec.Root
form_seen Default = spec.Default
form_seen (Extension wanted) = spec.Extension wanted.now
form_seen (Prefix prefix) = spec.Prefix prefix.now
form_seen (Exact text) = spec.Exact text.now
