-- The meaning of the arguments of the command `audit`.
use Rattle.std.specs.Prelude.{◌≡◌, ℕ, List, [], ◌∷◌, Option, Some, None}
use Rattle.sv_arguments.specs.AuditWords.{IsFormat}
use Rattle.sv_arguments.specs.Options.{AreComplete}
use Rattle.sv_arguments.specs.Settings.{Setting, values, words_of}
use Rattle.sv_arguments.specs.Values.{IsGiven, IsName, Says, SaysOr}
use Rattle.sv_arguments.specs.declared.audit_options.AuditOptions.{AuditOptions}
use Rattle.sv_arguments.specs.declared.key.Key.TheVariants.{Accept, As, Diff, FailOn, Format, Lines, Method, Path, Role, Secure, UnknownFiles}
use Rattle.sv_arguments.specs.declared.option_set.OptionSet.TheVariants.{Audit}
use Rattle.sv_audit_command.specs.declared.access_options.AccessOptions.{AccessOptions}
use Rattle.sv_audit_command.specs.declared.access_options.Asked.{Asked}
use Rattle.sv_audit_command.specs.declared.access_options.Asked.TheVariants as asked
use Rattle.sv_audit_command.specs.declared.access_options.Format.TheVariants as format

-- no caller, a user or a role
abbrev pub IsViewer : List (List ℕ) → List (List ℕ) → Option Asked → Type 0
IsViewer [] [] None = Unit {0}
IsViewer (user ∷ []) [] (Some (asked.User name)) = name.now ≡ user
IsViewer [] (role ∷ []) (Some (asked.Role name)) = name.now ≡ role
IsViewer users roles viewer = ⊥

-- the settings give these options; the form of the report is text if none is named
abbrev pub GiveAccess : List Setting → AccessOptions → Type 0
GiveAccess settings options =
    SaysOr format.Text IsFormat (values Format settings) options.format
    × IsGiven (values Secure settings) options.is_secure
    × IsViewer (values As settings) (values Role settings) options.viewer
    × Says IsName (values FailOn settings) options.fail_on
    × Says IsName (values Accept settings) options.accept
    × Says IsName (values Lines settings) options.lines
    × IsGiven (values UnknownFiles settings) options.has_unknown_files
    × Says IsName (values Path settings) options.path
    × Says IsName (values Method settings) options.method
    × Says IsName (values Diff settings) options.diff

-- the arguments are the name of the server file, then the words of settings in any order, which give these options
abbrev pub IsAudit : List (List ℕ) → AuditOptions → Type 0
IsAudit arguments options =
    (settings : List Setting) × (arguments ≡ options.config.now ∷ words_of settings) × AreComplete Audit settings × GiveAccess settings options.access
