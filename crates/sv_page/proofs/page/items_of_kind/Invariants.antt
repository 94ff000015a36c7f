use Rattle.std.proofs.Common.{◌≡◌, ◌++◌, drop}
use Rattle.std.specs.String.{string_bytes}
use Rattle.std.specs.List.{flat_map}
use Rattle.sv_page.specs.Page.{items_of_kind, kind_items}
use Rattle.sv_page.specs.Shares.{shares}
use Rattle.sv_page.proofs.page.items_of_kind.Given as goal

abbrev pub invariant-loop-context : goal.invariant-loop-context
invariant-loop-context l =
    string_bytes l.text ++ flat_map (λ share. kind_items l.kind share.0 share.1) (shares (λ context. context.findings) l.left (drop l.context-index l.contexts)) ≡ items_of_kind l.contexts l.kind
