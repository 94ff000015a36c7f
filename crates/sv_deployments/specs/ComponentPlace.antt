-- The places of components in a descriptor.
use Rattle.std.specs.Prelude.{List, codes}
use Rattle.sv_descriptor.specs.Fault.{item_key}
use Rattle.sv_descriptor.specs.declared.fault.ValueStep.{ValueStep}
use Rattle.sv_deployments.specs.declared.component_place.ComponentPlace.{ComponentPlace}
use Rattle.sv_deployments.specs.declared.component_place.ComponentPlace.TheVariants.{Servlet, Filter, Listener}

-- the steps from the table of the descriptor to the class of the component
abbrev pub steps_to : ComponentPlace → List ValueStep
steps_to (Servlet place) = item_key (codes "servlet") place (codes "servlet-class")
steps_to (Filter place) = item_key (codes "filter") place (codes "filter-class")
steps_to (Listener place) = item_key (codes "listener") place (codes "listener-class")
