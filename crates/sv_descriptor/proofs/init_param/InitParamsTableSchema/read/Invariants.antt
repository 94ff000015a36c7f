use Rattle.std.proofs.Common.{◌≡◌, ◌++◌, Ok}
use Rattle.toml.specs.View.{members_view, table_view}
use Rattle.sv_text.specs.Steps.{◌>>=◌}
use Rattle.sv_descriptor.specs.InitParam.{init_params}
use Rattle.sv_descriptor.proofs.init_param.InitParamsTableSchema.read.Given as goal

abbrev pub invariant-loop-name : goal.invariant-loop-name
invariant-loop-name l = (init_params (members_view l.name-iterator) >>= λ rest. Ok (l.params.items ++ rest)) ≡ init_params (table_view l.fn.table)
