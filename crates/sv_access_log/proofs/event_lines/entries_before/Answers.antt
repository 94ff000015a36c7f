use Rattle.std.proofs.Common.{◌≡◌, ◌∙◌, ◌-◌, rules}
use Rattle.std.specs.List.{fold}
use Rattle.sv_run.specs.declared.access.Access.{Access}
use Rattle.sv_access_log.proofs.EntryCounts.{left_after}
use Rattle.sv_access_log.proofs.event_lines.entries_before.Goals as goal

pub returns : goal.returns
returns c =
    let folded : c.fold.result ≡ fold (λ left (access : Access). left - access.entries) c.args.entries c.args.accesses.now = search rules in
    folded ∙ left_after c.args.entries c.args.accesses.now
