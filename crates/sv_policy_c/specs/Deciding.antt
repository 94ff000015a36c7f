-- The effects of the exported functions on an engine.
use Rattle.std.specs.Prelude.{◌≡◌, ℕ, Bool, true, false, List, [], ◌∷◌, ◌++◌, Option, None, Some, IsSome, Ok, Err, IsUtf8}
use Rattle.std.specs.Option.{option_map}
use Rattle.sv_descriptor.specs.Fault.{Reads, descriptor_fault_text}
use Rattle.sv_descriptor.specs.declared.fault.DescriptorFault.{DescriptorFault}
use Rattle.sv_policy.specs.Explanation.{Answer}
use Rattle.sv_policy.specs.Text.{explanation_text}
use Rattle.sv_policy.specs.declared.explanation.Explanation.{Explanation}
use Rattle.sv_policy.specs.declared.explain_fault.ExplainFault.TheVariants.{BadMethod, NoSuchUser}
use Rattle.sv_policy_c.specs.Answer.{IsShort, IsUntouched, IsWritten}
use Rattle.sv_policy_c.specs.Engine.{engine_of, explained}
use Rattle.sv_policy_c.specs.Status.{number}
use Rattle.sv_policy_c.specs.declared.engine.Engine.{Engine}
use Rattle.sv_policy_c.specs.declared.status.Status.{Status}
use Rattle.sv_policy_c.specs.declared.status.Status.TheVariants as status

-- the answer to a request, in the status and the buffer
abbrev pub WritesAnswer : Answer → List ℕ → List ℕ → ℕ → Status → Type 0
WritesAnswer said old new size status.Written = (e : Explanation) × (said ≡ Ok e) × IsWritten (explanation_text e) old new size
WritesAnswer said old new size status.Short = (e : Explanation) × (said ≡ Ok e) × IsShort (explanation_text e) old new size
WritesAnswer said old new size status.Method = said ≡ Err BadMethod
WritesAnswer said old new size status.Nothing = said ≡ Err NoSuchUser
WritesAnswer said old new size status.Fault = ⊥
WritesAnswer said old new size status.NoMemory = Unit {0}
WritesAnswer said old new size status.NotText = Unit {0}

abbrev pub written : Bool → Status
written true = status.Written
written false = status.Short

-- the fault of a descriptor, in the status and the buffer
abbrev pub RefusesDescriptor : Reads Engine → List ℕ → List ℕ → ℕ → Status → Type 0
RefusesDescriptor read old new size status.Fault = (f : DescriptorFault) × (read ≡ Err f) × IsWritten (descriptor_fault_text f) old new size
RefusesDescriptor read old new size status.Short = (f : DescriptorFault) × (read ≡ Err f) × IsShort (descriptor_fault_text f) old new size
RefusesDescriptor read old new size status.NoMemory = Unit {0}
RefusesDescriptor read old new size status.NotText = Unit {0}
RefusesDescriptor read old new size status.Written = ⊥
RefusesDescriptor read old new size status.Method = ⊥
RefusesDescriptor read old new size status.Nothing = ⊥

abbrev pub refused : Bool → Status
refused true = status.Fault
refused false = status.Short

-- with a caller that has no roles, or without a caller
abbrev pub with_caller : Bool → Engine → Engine
with_caller true engine = record { path = engine.path; policy = engine.policy; caller = Some [] }
with_caller false engine = record { path = engine.path; policy = engine.policy; caller = None }

-- with one more role, if there is a caller
abbrev pub with_role : List ℕ → Engine → Engine
with_role role engine = record { path = engine.path; policy = engine.policy; caller = option_map (λ roles. roles ++ (role ∷ [])) engine.caller }

-- a role is added if it is UTF-8 and there is a caller, unless memory ran out
abbrev pub AddsRole : List ℕ → Engine → Engine → Status → Type 0
AddsRole role before after status.Written = IsSome before.caller × (after ≡ with_role role before)
AddsRole role before after status.Nothing = (before.caller ≡ None) × (after ≡ before)
AddsRole role before after status.NotText = ¬ (IsUtf8 role) × (after ≡ before)
AddsRole role before after status.NoMemory = after ≡ before
AddsRole role before after status.Fault = ⊥
AddsRole role before after status.Method = ⊥
AddsRole role before after status.Short = ⊥

-- the effect of an exported function on the engine; if the handle holds none, the status is `Nothing`
abbrev pub IfHeld : (Engine → Status → Type 0) → Option Engine → Status → Type 0
IfHeld does None told = told ≡ status.Nothing
IfHeld does (Some engine) told = does engine told

-- for a status without an answer, nothing is written
abbrev pub WritesForAnswer : List ℕ → List ℕ → ℕ → ℕ → Status → Type 0
WritesForAnswer old new before size status.Written = Unit {0}
WritesForAnswer old new before size status.Fault = Unit {0}
WritesForAnswer old new before size status.Short = Unit {0}
WritesForAnswer old new before size other = IsUntouched old new before size

-- for a descriptor that is read, nothing is written either
abbrev pub WritesForFault : List ℕ → List ℕ → ℕ → ℕ → Status → Type 0
WritesForFault old new before size status.Fault = Unit {0}
WritesForFault old new before size status.Short = Unit {0}
WritesForFault old new before size other = IsUntouched old new before size

-- only texts that are not UTF-8 are reported as `NotText`
abbrev pub CallsNoText : List ℕ → Status → Type 0
CallsNoText text told = told ≡ status.NotText → ¬ (IsUtf8 text)

abbrev pub CallsNoTexts : List ℕ → List ℕ → Status → Type 0
CallsNoTexts first second told = told ≡ status.NotText → ¬ (IsUtf8 first × IsUtf8 second)

-- the result is the number of a status for which the fact holds
abbrev pub Returns : ℕ → (Status → Type 0) → Type 0
Returns result fact = (told : Status) × (result ≡ number told) × fact told

-- the engine for the text, or the engine held before
abbrev pub Opens : Reads Engine → Option Engine → Option Engine → List ℕ → List ℕ → ℕ → Status → Type 0
Opens read before after old new size status.Written = (engine : Engine) × (read ≡ Ok engine) × (after ≡ Some engine)
Opens read before after old new size other = (after ≡ before) × RefusesDescriptor read old new size other

-- the engine with one more role
abbrev pub Gives : List ℕ → Option Engine → Option Engine → Status → Type 0
Gives role before None told = (before ≡ None) × (told ≡ status.Nothing)
Gives role before (Some after) told = (engine : Engine) × (before ≡ Some engine) × AddsRole role engine after told
