-- The caller whose access is shown.
use Rattle.std.specs.Prelude.{ℕ, Bool, false, ◌&&◌, ◌||◌, List, [], ◌∷◌, ◌++◌, codes, Option, None, Some, Ok, Err, is_some, if◌then◌else◌}
use Rattle.std.specs.List.{list_any}
use Rattle.std.specs.Option.{option_map, option_map_or}
use Rattle.sv_constraints.specs.Covering.{lists}
use Rattle.sv_constraints.specs.declared.constraint.Auth.{Auth}
use Rattle.sv_constraints.specs.declared.constraint.Auth.TheVariants as auth
use Rattle.sv_constraints.specs.declared.constraint.Constraint.{Constraint}
use Rattle.sv_explanation.specs.declared.site_context.AskedCaller.{AskedCaller}
use Rattle.sv_explanation.specs.declared.site_context.AskedCaller.TheVariants as callers
use Rattle.sv_findings.specs.RoleFindings.{is_role}
use Rattle.sv_program.specs.Configuration.{Step}
use Rattle.sv_program.specs.Shown.{quoted}
use Rattle.sv_program.specs.declared.command_fault.CommandFault.TheVariants as fault
use Rattle.sv_realm.specs.Realm.{caller_named}
use Rattle.sv_realm.specs.declared.account.User.{User}
use Rattle.sv_realm.specs.declared.caller.Caller.{Caller}
use Rattle.sv_report.specs.declared.report.Viewer.{Viewer}
use Rattle.sv_audited_contexts.specs.declared.audited_context.AuditedContext.{AuditedContext}
use Rattle.sv_audit_command.specs.declared.access_options.Asked.{Asked}
use Rattle.sv_audit_command.specs.declared.access_options.Asked.TheVariants as asked

-- A user that no context has is a fault.
abbrev pub check_user : List ℕ → List AuditedContext → Step (Unit {0})
check_user name contexts = if list_any (λ context. is_some (caller_named context.realm name)) contexts then Ok tt else Err (fault.User (quoted name))

-- Whether the constraint lists the role (section 13.8.1).
abbrev pub names : Auth → List ℕ → Bool
names auth.Absent role = false
names (auth.Roles roles) role = lists roles role

-- Whether a constraint names the role. `*` and `**` are no roles.
abbrev pub is_named : List ℕ → List Constraint → Bool
is_named role constraints = is_role role && list_any (λ constraint. names constraint.auth role) constraints

-- Whether the role is declared, a constraint names it, or a user has it.
abbrev pub knows_role : List ℕ → AuditedContext → Bool
knows_role role context =
    lists context.rules.declared role || is_named role context.constraints || option_map_or (λ roles. lists roles role) context.surroundings.held false

-- A role that no context knows is a fault.
abbrev pub check_role : List ℕ → List AuditedContext → Step (Unit {0})
check_role role contexts = if list_any (knows_role role) contexts then Ok tt else Err (fault.Role (quoted role))

abbrev pub check_viewer : Option Asked → List AuditedContext → Step (Unit {0})
check_viewer None contexts = Ok tt
check_viewer (Some (asked.User name)) contexts = check_user name.now contexts
check_viewer (Some (asked.Role role)) contexts = check_role role.now contexts

-- A user with all their roles.
abbrev pub user_viewer : Caller → Viewer
user_viewer caller = record { name = caller.name; roles = caller.roles }

-- A caller with only this role.
abbrev pub role_viewer : List ℕ → Viewer
role_viewer role = record { name = codes "role " ++ role; roles = role ∷ [] }

-- The caller in a context with these users; none if it does not have the user.
abbrev pub viewer_in : Option Asked → List User → Option Viewer
viewer_in None users = None
viewer_in (Some (asked.User name)) users = option_map user_viewer (caller_named users name.now)
viewer_in (Some (asked.Role role)) users = Some (role_viewer role.now)

-- A request by a caller with only this role, who is no user.
abbrev pub role_caller : List ℕ → Caller
role_caller role = record { number = 0; name = codes "role " ++ role; roles = role ∷ [] }

-- The user of this name, which the context may not have.
abbrev pub user_caller : List ℕ → Option Caller → AskedCaller
user_caller name None = callers.Unknown name
user_caller name (Some caller) = callers.Known caller

-- The caller that is asked for, in a context with these users.
abbrev pub caller_in : Option Asked → List User → AskedCaller
caller_in None users = callers.Nobody
caller_in (Some (asked.User name)) users = user_caller name.now (caller_named users name.now)
caller_in (Some (asked.Role role)) users = callers.Known (role_caller role.now)
