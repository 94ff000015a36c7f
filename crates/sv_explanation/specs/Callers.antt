-- The caller of a request (Jakarta Servlet 6.0, sections 13.6.3 and 13.8).
use Rattle.std.specs.Prelude.{Bool, Option, None, Some, is_some, if◌then◌else◌}
use Rattle.sv_realm.specs.declared.caller.Caller.{Caller}
use Rattle.sv_explanation.specs.declared.explanation.JudgedCaller.{JudgedCaller}
use Rattle.sv_explanation.specs.declared.explanation.JudgedCaller.TheVariants as callers
use Rattle.sv_explanation.specs.declared.site_context.AskedCaller.{AskedCaller}
use Rattle.sv_explanation.specs.declared.site_context.AskedCaller.TheVariants as asked
use Rattle.sv_explanation.specs.declared.site_context.SiteContext.{SiteContext}

-- Nobody can log in to a context without a login configuration.
abbrev pub can_log_in : SiteContext → Bool
can_log_in context = is_some context.descriptor.login

-- The caller, given whether anybody can log in.
abbrev pub caller_by : Bool → AskedCaller → Option Caller
caller_by can_log_in asked.Nobody = None
caller_by can_log_in (asked.Known caller) = if can_log_in then Some caller else None
caller_by can_log_in (asked.Unknown name) = None

-- The caller of a request in a context.
abbrev pub caller_of : SiteContext → Option Caller
caller_of context = caller_by (can_log_in context) context.caller

-- What an explanation says about the caller: the name, or why there is none although one is asked for.
abbrev pub judged_caller_by : Bool → AskedCaller → JudgedCaller
judged_caller_by can_log_in asked.Nobody = callers.Nobody
judged_caller_by can_log_in (asked.Known caller) = if can_log_in then callers.Named caller.name else callers.NoLogin caller.name
judged_caller_by can_log_in (asked.Unknown name) = callers.NoSuchUser name

abbrev pub judged_caller : SiteContext → JudgedCaller
judged_caller context = judged_caller_by (can_log_in context) context.caller
