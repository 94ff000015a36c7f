use Rattle.std.proofs.Common.{subst, sym}
use Rattle.sv_arguments.proofs.Saying.{says_found, usual_found}
use Rattle.sv_arguments.proofs.Setting.{value_proper}
use Rattle.sv_arguments.proofs.run_options.access_log_format_in.Goals as goal
use Rattle.sv_arguments.specs.RunWords.{IsAccessLogFormat}
use Rattle.sv_arguments.specs.Settings.{values}
use Rattle.sv_arguments.specs.Values.{SaysOr}
use Rattle.sv_arguments.specs.declared.key.Key.TheVariants.{AccessLogFormat}
use Rattle.sv_arguments.specs.declared.run_options.AccessLogFormat as log
use Rattle.sv_arguments.specs.declared.run_options.AccessLogFormat.TheVariants.{Combined}

pub returns-in-Some : goal.returns-in-Some
returns-in-Some c = λ settings are.
    let Is : log.AccessLogFormat → Type 0 = λ form. SaysOr Combined IsAccessLogFormat (values AccessLogFormat settings) form in
    subst Is (sym c.unwrap_or.ensures)
    (usual_found IsAccessLogFormat Combined (values AccessLogFormat settings) c.access_log_format_named.result
    (says_found IsAccessLogFormat (values AccessLogFormat settings) c.in-Some.name c.access_log_format_named.result (c.in-Some.ensures settings are)
    (λ word is. value_proper c.args.given.now.set AccessLogFormat word settings are.1.0 is) c.access_log_format_named.ensures))
