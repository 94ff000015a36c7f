-- The names of the kinds of dispatches (Jakarta Servlet 6.0, section 6.2.5).
use Rattle.std.specs.Prelude.{ℕ, List, codes}
use Rattle.sv_mapping.specs.declared.kind.Kind.{Kind}
use Rattle.sv_mapping.specs.declared.kind.Kind.TheVariants.{Request, Forward, Include, Error}

abbrev pub kind_name : Kind → List ℕ
kind_name Request = codes "REQUEST"
kind_name Forward = codes "FORWARD"
kind_name Include = codes "INCLUDE"
kind_name Error = codes "ERROR"
