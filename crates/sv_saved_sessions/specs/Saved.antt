-- The contexts that a file can hold: numbers have 64 bits, texts are UTF-8, and types keep their limits.
use Rattle.std.specs.Prelude.{ℕ, ◌<◌, ◌≤◌, ◌^◌, List, IsTrue, length, IfSome}
use Rattle.std.specs.List.{AllByRecursion}
use Rattle.std.specs.Str.{is_utf8}
use Rattle.sv_constraints.specs.declared.constraint.Auth.{Auth}
use Rattle.sv_constraints.specs.declared.constraint.Auth.TheVariants as auth
use Rattle.sv_constraints.specs.declared.constraint.Collection.{Collection}
use Rattle.sv_constraints.specs.declared.constraint.Constraint.{Constraint}
use Rattle.sv_constraints.specs.declared.constraint.Methods.{Methods}
use Rattle.sv_constraints.specs.declared.constraint.Methods.TheVariants as methods
use Rattle.sv_lifecycle.specs.declared.suspended_context.SuspendedContext.{SuspendedContext}
use Rattle.sv_mapping.specs.Pattern.{is_pattern}
use Rattle.sv_realm.specs.declared.account.User.{User}
use Rattle.sv_realm.specs.declared.realm.TheConstants.{MAX_USERS}
use Rattle.sv_session.specs.Restoring.{CanBeRestored}
use Rattle.sv_session.specs.Store.{Session}
use Rattle.sv_session.specs.declared.slot.Attribute.{Attribute}

abbrev pub IsNumber : ℕ → Type 0
IsNumber value = value < 2 ^ 64

abbrev pub IsByteString : List ℕ → Type 0
IsByteString bytes = length bytes < 2 ^ 64

abbrev pub IsText : List ℕ → Type 0
IsText text = IsByteString text × IsTrue (is_utf8 text)

-- All items pass, and there are fewer than 2 ^ 64.
abbrev pub AreAll : {A : Type 0} → (A → Type 0) → List A → Type 0
AreAll Fits items = (length items < 2 ^ 64) × AllByRecursion Fits items

abbrev pub AreTexts : List (List ℕ) → Type 0
AreTexts texts = AreAll IsText texts

abbrev pub IsUser : User → Type 0
IsUser user = IsText user.name × IsByteString user.salt × IsByteString user.digest × AreTexts user.roles

abbrev pub IsPatternText : List ℕ → Type 0
IsPatternText text = IsText text × IsTrue (is_pattern text)

abbrev pub AreMethods : Methods → Type 0
AreMethods methods.All = Unit {0}
AreMethods (methods.Only names) = AreTexts names
AreMethods (methods.Except names) = AreTexts names

abbrev pub IsCollection : Collection → Type 0
IsCollection collection = AreAll IsPatternText collection.patterns × AreMethods collection.methods

abbrev pub IsAuth : Auth → Type 0
IsAuth auth.Absent = Unit {0}
IsAuth (auth.Roles names) = AreTexts names

abbrev pub IsConstraint : Constraint → Type 0
IsConstraint constraint = IsNumber constraint.number × AreAll IsCollection constraint.collections × IsAuth constraint.auth

abbrev pub IsAttribute : Attribute → Type 0
IsAttribute attribute = IsText attribute.name × IsText attribute.value

-- The caller is a number of 32 bits, as those of a realm are.
abbrev pub IsSession : Session → Type 0
IsSession session =
    IsNumber session.number × IsText session.id × IsNumber session.last_access
    × IfSome session.caller (λ caller. caller < 2 ^ 32) × IfSome session.saved IsText
    × AreAll IsAttribute session.attributes

-- A context that was suspended at a time, in seconds.
pub record CanBeSaved (time : ℕ) (context : SuspendedContext) : Type 0 where
  pub moment : IsNumber time
  pub path : IsText context.path
  pub users : AreAll IsUser context.users
  pub known : length context.users ≤ MAX_USERS
  pub declared : AreAll IsConstraint context.declared
  pub constraints : AreAll IsConstraint context.constraints
  pub greatest : IsNumber context.greatest
  pub sessions : AreAll IsSession context.sessions.store.sessions
  pub restorable : CanBeRestored context.sessions.store
