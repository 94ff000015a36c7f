-- The check of a context, from its steps.
use Rattle.std.proofs.Common.{◌≡◌, ◌∙◌, ℕ, Bool, true, false, nat_eq, List, [], ◌∷◌, ◌++◌, length, map, Option, Some, None, MatchOption, MatchResult, Ok, Err, refl, sym, ap, append-nil, append_assoc}
use Rattle.sv_text.specs.Gives.{Gives}
use Rattle.sv_text.specs.Steps.{◌>>=◌}
use Rattle.sv_descriptor.specs.declared.web_app.WebApp.{WebApp}
use Rattle.sv_files.specs.declared.files.File.{File}
use Rattle.sv_realm.specs.declared.account.User.{User}
use Rattle.sv_program.specs.CommandFault.{command_fault, status_of}
use Rattle.sv_program.specs.Configuration.{Step, descriptor_in, each, users_in}
use Rattle.sv_program.specs.declared.command_fault.CommandFault.{CommandFault}
use Rattle.sv_program.specs.declared.command_fault.CommandFault.TheVariants.{Input, Output, File as FileFault, Folder, Server, Descriptor, Users, Class, Files, Start, Socket, Script, User as UserFault, Role, Method, Refused, NoMemory, Findings, Faults}
use Rattle.sv_program.specs.declared.configuration.ContextTexts.{ContextTexts}
use Rattle.sv_deployments.specs.Check.{FindsFirstFault, checked_server, class_fault_of, context_faults, counts_in, counts_of, fault_of, total_bytes}
use Rattle.sv_deployments.specs.Counted.{AreTaken, AreTakenBy, IsAdded, IsNoMemory, IsTaken, app_counts, checked_app, classes_in, counts_for, faults_for, file_counts, joined, user_count}
use Rattle.sv_deployments.specs.Deployments.{Deployed, components_in, deployment_of}
use Rattle.sv_deployments.specs.Files.{files_in}
use Rattle.sv_deployments.specs.Folders.{FolderFiles}
use Rattle.sv_deployments.specs.Parts.{Components}
use Rattle.sv_deployments.specs.declared.check.AppCounts.{AppCounts}
use Rattle.sv_deployments.specs.declared.check.CheckedApp.{CheckedApp}
use Rattle.sv_deployments.specs.declared.check.FileCounts.{FileCounts}
use Rattle.sv_deployments.specs.declared.folders.FoundContext.{FoundContext}

-- ---- one step

-- only running out of memory has the exit status 3
pub is_no_memory : (fault : CommandFault) → IsNoMemory fault (nat_eq (status_of fault) 3)
is_no_memory Input = refl
is_no_memory Output = refl
is_no_memory (FileFault name why) = refl
is_no_memory (Folder name entry) = refl
is_no_memory (Server faulty) = refl
is_no_memory (Descriptor context faulty) = refl
is_no_memory (Users context faulty) = refl
is_no_memory (Class name place known) = refl
is_no_memory (Files context found path) = refl
is_no_memory (Start code context) = refl
is_no_memory (Socket found) = refl
is_no_memory (Script line) = refl
is_no_memory (UserFault shown) = refl
is_no_memory (Role shown) = refl
is_no_memory (Method shown) = refl
is_no_memory (Refused refusal) = refl
is_no_memory NoMemory = refl
is_no_memory (Findings count) = refl
is_no_memory (Faults count) = refl

pub added : (seen : Option CommandFault) (fault : CommandFault) (before after : List CommandFault) → seen ≡ Some fault → after ≡ before ++ fault ∷ [] → IsAdded seen before after
added (Some found) fault before after same pushed = let is : found ≡ fault = cc in rw is pushed
added None fault before after same pushed = cc

-- a fault that was added is the step's
pub taken : {A : Type 0} (seen : Option CommandFault) (meant : Step A) (before after : List CommandFault)
    → IsAdded seen before after → MatchOption seen (Unit {0}) (λ f. meant ≡ Err f) → IsTaken meant None before after
taken None meant before after is given = absurd is
taken (Some f) meant before after is given = rw given (refl, is)

self : (A : Type 0) (ran_out : Bool) (fault : CommandFault) (step : Step A) → step ≡ Err fault → IsNoMemory fault ran_out → MatchOption (command_fault fault) (Unit {0}) (λ f. step ≡ Err f)
self A true fault step same is = rw is tt
self A false fault step same is = rw is same

gives_self : {A : Type 0} (step : Step A) → Gives command_fault step step
gives_self (Ok a) = refl
gives_self {A} (Err fault) = self A (nat_eq (status_of fault) 3) fault (Err fault) refl (is_no_memory fault)

taken_by : (classes : Step (Unit {0})) (own : AppCounts) (value : Option (Unit {0})) (before after : List CommandFault) → IsTaken classes value before after
    → MatchOption value (AreTakenBy classes own None before after) (λ _. AreTakenBy classes own (Some own) before after)
taken_by (Ok done) own value before after is = rw is.0 (refl, is.1)
taken_by (Err fault) own value before after is = rw is.0 (refl, is.1)

module _ (app : Option CheckedApp) (own : CheckedApp) (before after : List CommandFault) where
  -- the classes are known
  pub known_classes : (value : Option (Unit {0})) (done : Unit {0}) → app ≡ Some own → ((meant : Step (Unit {0})) → Gives command_fault own.classes meant → IsTaken meant value before after)
      → value ≡ Some done → AreTaken app (Some own.counts) before after
  known_classes value done is taken same = rw is (rw same at (taken_by own.classes own.counts value before after (taken own.classes (gives_self own.classes))))

  -- a class is not known
  pub unknown_class : (value : Option (Unit {0})) → app ≡ Some own → ((meant : Step (Unit {0})) → Gives command_fault own.classes meant → IsTaken meant value before after)
      → value ≡ None → AreTaken app None before after
  unknown_class value is taken same = rw is (rw same at (taken_by own.classes own.counts value before after (taken own.classes (gives_self own.classes))))

-- ---- all steps of a context

abbrev value_of : {A : Type 0} → Step A → Option A
value_of (Ok a) = Some a
value_of (Err fault) = None

abbrev class_value : Step (Unit {0}) → AppCounts → Option AppCounts
class_value (Ok done) own = Some own
class_value (Err fault) own = None

abbrev app_value : Option CheckedApp → Option AppCounts
app_value None = None
app_value (Some app) = class_value app.classes app.counts

abbrev app_faults : Option CheckedApp → List CommandFault
app_faults None = []
app_faults (Some app) = fault_of app.classes

taken_value : {A : Type 0} (step : Step A) (value : Option A) (before after : List CommandFault) → IsTaken step value before after → value ≡ value_of step
taken_value (Ok a) value before after is = is.0
taken_value (Err fault) value before after is = is.0

taken_fault : {A : Type 0} (step : Step A) (value : Option A) (before after : List CommandFault) → IsTaken step value before after → after ≡ before ++ fault_of step
taken_fault (Ok a) value before after is = is.1 ∙ sym (append-nil before)
taken_fault (Err fault) value before after is = is.1

classes_value : (classes : Step (Unit {0})) (own : AppCounts) (counts : Option AppCounts) (before after : List CommandFault) → AreTakenBy classes own counts before after
    → (counts ≡ class_value classes own) × (after ≡ before ++ fault_of classes)
classes_value (Ok done) own counts before after is = (is.0, is.1 ∙ sym (append-nil before))
classes_value (Err fault) own counts before after is = is

app_taken : (app : Option CheckedApp) (counts : Option AppCounts) (before after : List CommandFault) → AreTaken app counts before after
    → (counts ≡ app_value app) × (after ≡ before ++ app_faults app)
app_taken None counts before after is = (is.0, is.1 ∙ sym (append-nil before))
app_taken (Some app) counts before after is = classes_value app.classes app.counts counts before after is

kept_fault : {A B : Type 0} (step : Step A) (next : A → B) → fault_of (step >>= λ a. Ok (next a)) ≡ fault_of step
kept_fault (Ok a) next = refl
kept_fault (Err fault) next = refl

class_faults : (texts : ContextTexts) (app : Step WebApp)
    → app_faults (value_of (app >>= λ read. Ok (record { counts = app_counts read; classes = classes_in texts read }))) ≡ class_fault_of texts app
class_faults texts (Ok read) = kept_fault (components_in texts read) (λ made. tt)
class_faults texts (Err fault) = refl

in_order : {A : Type 0} (before a b c d : List A) → (((before ++ a) ++ b) ++ c) ++ d ≡ before ++ (((a ++ b) ++ c) ++ d)
in_order before a b c d =
    ap (λ x. (x ++ c) ++ d) (append_assoc before a b) ∙ ap (λ x. x ++ d) (append_assoc before (a ++ b) c) ∙ append_assoc before ((a ++ b) ++ c) d

module _ (texts : ContextTexts) (files : FolderFiles) where
  parts_value : (read : WebApp) (users : Step (List User)) (listed : Step (List File)) (made : Step Components)
      → joined (class_value (made >>= λ parts. Ok tt) (app_counts read)) (value_of (users >>= λ all. Ok (length all)))
      (value_of (listed >>= λ all. Ok (record { files = length all; bytes = total_bytes all })))
      ≡ counts_in (users >>= λ its_users. listed >>= λ its_files. made >>= λ its_parts.
      Ok (record { path = texts.context.path; descriptor = read; files = its_files; users = its_users; parts = its_parts }))
  parts_value read (Ok users) (Ok listed) (Ok made) = refl
  parts_value read (Ok users) (Ok listed) (Err fault) = refl
  parts_value read (Ok users) (Err fault) (Ok made) = refl
  parts_value read (Ok users) (Err fault) (Err other) = refl
  parts_value read (Err fault) (Ok listed) (Ok made) = refl
  parts_value read (Err fault) (Ok listed) (Err other) = refl
  parts_value read (Err fault) (Err other) (Ok made) = refl
  parts_value read (Err fault) (Err other) (Err third) = refl

  all_value : (app : Step WebApp) (users : Step (List User)) (listed : Step (List File))
      → joined (app_value (value_of (app >>= λ read. Ok (record { counts = app_counts read; classes = classes_in texts read }))))
      (value_of (users >>= λ all. Ok (length all))) (value_of (listed >>= λ all. Ok (record { files = length all; bytes = total_bytes all })))
      ≡ counts_in (app >>= λ its_descriptor. users >>= λ its_users. listed >>= λ its_files. components_in texts its_descriptor >>= λ its_parts.
      Ok (record { path = texts.context.path; descriptor = its_descriptor; files = its_files; users = its_users; parts = its_parts }))
  all_value (Ok read) users listed = parts_value read users listed (components_in texts read)
  all_value (Err fault) users listed = refl

  pub checked : (app : Option CheckedApp) (users : Option ℕ) (listed : Option FileCounts) (counts : Option AppCounts) (a b c d e : List CommandFault)
      → IsTaken (checked_app texts) app a b → IsTaken (user_count texts) users b c → IsTaken (file_counts texts.context files) listed c d → AreTaken app counts d e
      → (e ≡ a ++ faults_for texts files) × (joined counts users listed ≡ counts_for texts files)
  checked app users listed counts a b c d e first second third last =
      let its_app = taken_value (checked_app texts) app a b first in
      let its_users = taken_value (user_count texts) users b c second in
      let its_files = taken_value (file_counts texts.context files) listed c d third in
      let classes = app_taken app counts d e last in
      let one = taken_fault (checked_app texts) app a b first ∙ ap (λ x. a ++ x) (kept_fault (descriptor_in texts) (λ read. record { counts = app_counts read; classes = classes_in texts read })) in
      let two = taken_fault (user_count texts) users b c second ∙ ap (λ x. b ++ x) (kept_fault (users_in texts) length) in
      let three = taken_fault (file_counts texts.context files) listed c d third ∙ ap (λ x. c ++ x) (kept_fault (files_in texts.context files) (λ all. record { files = length all; bytes = total_bytes all })) in
      let four = classes.1 ∙ ap (λ x. d ++ x) (ap app_faults its_app ∙ class_faults texts (descriptor_in texts)) in
      let faults = four ∙ ap (λ x. x ++ class_fault_of texts (descriptor_in texts)) (three ∙ ap (λ x. x ++ fault_of (files_in texts.context files)) (two ∙ ap (λ x. x ++ fault_of (users_in texts)) one)) in (
        faults ∙ in_order a (fault_of (descriptor_in texts)) (fault_of (users_in texts)) (fault_of (files_in texts.context files)) (class_fault_of texts (descriptor_in texts)),
        rw (classes.0, its_app, its_users, its_files) (all_value (descriptor_in texts) (users_in texts) (files_in texts.context files)),
      )

-- ---- the law

abbrev Ends : (A : Type 0) → Step A → List CommandFault → Type 0
Ends A step faults = MatchResult step (λ made. faults ≡ []) (λ fault. (rest : List CommandFault) × (faults ≡ fault ∷ rest))

module _ (texts : ContextTexts) where
  parts_end : (read : WebApp) (users : Step (List User)) (listed : Step (List File)) (made : Step Components)
      → Ends Deployed (users >>= λ its_users. listed >>= λ its_files. made >>= λ its_parts.
      Ok (record { path = texts.context.path; descriptor = read; files = its_files; users = its_users; parts = its_parts }))
      (([] ++ fault_of users) ++ fault_of listed ++ fault_of made)
  parts_end read (Ok users) (Ok listed) (Ok made) = refl
  parts_end read (Ok users) (Ok listed) (Err fault) = ([], refl)
  parts_end read (Ok users) (Err fault) made = (fault_of made, refl)
  parts_end read (Err fault) listed made = (fault_of listed ++ fault_of made, refl)

  all_end : (app : Step WebApp) (users : Step (List User)) (listed : Step (List File))
      → Ends Deployed (app >>= λ its_descriptor. users >>= λ its_users. listed >>= λ its_files. components_in texts its_descriptor >>= λ its_parts.
      Ok (record { path = texts.context.path; descriptor = its_descriptor; files = its_files; users = its_users; parts = its_parts }))
      (fault_of app ++ fault_of users ++ fault_of listed ++ class_fault_of texts app)
  all_end (Ok read) users listed = parts_end read users listed (components_in texts read)
  all_end (Err fault) users listed = (fault_of users ++ fault_of listed ++ [], refl)

context_ends : (found : FoundContext) → Ends Deployed (deployment_of found) (context_faults found)
context_ends found = all_end found.texts (descriptor_in found.texts) (users_in found.texts) (files_in found.texts.context found.files)

abbrev Counted : List FoundContext → List Deployed → Type 0
Counted found made = map (λ context. context.counts) (checked_server found).contexts ≡ map (λ one. Some (counts_of one)) made

abbrev FirstFault : List FoundContext → Step (List Deployed) → Type 0
FirstFault found step = MatchResult step (λ made. ((checked_server found).faults ≡ []) × Counted found made) (λ fault. (rest : List CommandFault) × ((checked_server found).faults ≡ fault ∷ rest))

one_more : (context : FoundContext) (rest : List FoundContext) (first : Step Deployed) (others : Step (List Deployed))
    → deployment_of context ≡ first → Ends Deployed first (context_faults context) → FirstFault rest others
    → FirstFault (context ∷ rest) (first >>= λ b. others >>= λ bs. Ok (b ∷ bs))
one_more context rest (Ok made) (Ok more) is ended known = (rw (ended, known.0) refl, rw (is, known.1) refl)
one_more context rest (Ok made) (Err fault) is ended known = (known.0, rw ended known.1)
one_more context rest (Err fault) others is ended known = (ended.0 ++ (checked_server rest).faults, rw ended.1 refl)

pub first_fault : FindsFirstFault
first_fault [] = (refl, refl)
first_fault (context ∷ rest) = one_more context rest (deployment_of context) (each deployment_of rest) refl (context_ends context) (first_fault rest)
