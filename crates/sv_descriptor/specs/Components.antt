-- Jakarta Servlet 6.0 section 14.4: servlets, filters and listeners.
use Rattle.std.specs.Prelude.{[], codes, Ok}
use Rattle.toml.specs.Data.{Members}
use Rattle.sv_text.specs.Steps.{◌>>=◌}
use Rattle.sv_descriptor.specs.Fault.{Located}
use Rattle.sv_descriptor.specs.Table.{optional_or}
use Rattle.sv_descriptor.specs.Filter.{filter_entry, filter_mapping}
use Rattle.sv_descriptor.specs.Listener.{listener}
use Rattle.sv_descriptor.specs.Servlet.{servlet, servlet_mapping}
use Rattle.sv_descriptor.specs.Tables.{tables}
use Rattle.sv_descriptor.specs.declared.components.Components.{Components}

abbrev pub components : Members → Located Components
components table = do
  its_servlets ← optional_or [] (tables servlet) (codes "servlet") table
  its_servlet_mappings ← optional_or [] (tables servlet_mapping) (codes "servlet-mapping") table
  its_filters ← optional_or [] (tables filter_entry) (codes "filter") table
  its_filter_mappings ← optional_or [] (tables filter_mapping) (codes "filter-mapping") table
  its_listeners ← optional_or [] (tables listener) (codes "listener") table
  Ok (record {
    servlets = its_servlets;
    servlet_mappings = its_servlet_mappings;
    filters = its_filters;
    filter_mappings = its_filter_mappings;
    listeners = its_listeners;
  })
