use Rattle.std.proofs.Common.{◌≡◌, ◌++◌, take}
use Rattle.std.specs.String.{string_bytes}
use Rattle.std.specs.List.{flat_map}
use Rattle.sv_page.specs.LeftOut.{unsearched_html}
use Rattle.sv_page.proofs.left_out.push_unsearched.Given as goal

abbrev pub invariant-loop-kind : goal.invariant-loop-kind
invariant-loop-kind l = string_bytes l.text ≡ string_bytes l.fn.text ++ flat_map (unsearched_html l.path) (take l.kind-index l.kinds)
