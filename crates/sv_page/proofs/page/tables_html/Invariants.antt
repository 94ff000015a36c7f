use Rattle.std.proofs.Common.{◌≡◌, ◌++◌, drop}
use Rattle.std.specs.String.{string_bytes}
use Rattle.std.specs.List.{flat_map}
use Rattle.sv_page.specs.HtmlTables.{section_html}
use Rattle.sv_page.specs.Page.{tables_html}
use Rattle.sv_page.specs.Shares.{shares}
use Rattle.sv_page.proofs.page.tables_html.Given as goal

abbrev pub invariant-loop-context : goal.invariant-loop-context
invariant-loop-context l =
    string_bytes l.text ++ flat_map (λ share. section_html share.0 share.1) (shares (λ context. context.rows) l.left (drop l.context-index l.contexts)) ≡ tables_html l.contexts
