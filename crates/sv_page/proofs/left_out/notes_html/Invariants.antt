use Rattle.std.proofs.Common.{◌≡◌, ◌++◌, drop}
use Rattle.std.specs.String.{string_bytes}
use Rattle.std.specs.List.{flat_map}
use Rattle.sv_page.specs.LeftOut.{note_of, notes_html}
use Rattle.sv_page.specs.Shares.{shares}
use Rattle.sv_page.proofs.left_out.notes_html.Given as goal

abbrev pub invariant-loop-context : goal.invariant-loop-context
invariant-loop-context l =
    string_bytes l.text ++ flat_map (λ share. note_of share.0 share.1) (shares (λ context. context.findings) l.left (drop l.context-index l.contexts)) ≡ notes_html l.contexts
