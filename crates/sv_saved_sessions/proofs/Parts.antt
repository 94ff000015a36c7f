-- The content: a head and sessions.
use Rattle.std.proofs.Common.{◌≡◌, ℕ, ◌≤◌, eqb, true, List, [], ◌∷◌, ◌++◌, length, Some, Result, Ok, Err, refl, sym, ap, subst, ◌∙◌, arith}
use Rattle.std.specs.Prelude.{IfOk, IsErrOf}
use Rattle.std.specs.List.{concat}
use Rattle.std.proofs.lemmas.Bool.{eqb-true}
use Rattle.std.proofs.lemmas.List.{nil_from_length}
use Rattle.std.proofs.lemmas.List.Folds.{concat-append}
use Rattle.sv_lifecycle.specs.declared.suspended_context.SuspendedContext.{SuspendedContext}
use Rattle.sv_realm.specs.declared.realm.TheConstants.{MAX_USERS}
use Rattle.sv_session.specs.Restoring.{CanBeRestored, CanFollow}
use Rattle.sv_session.specs.Store.{Session, SessionsState, Store}
use Rattle.sv_saved_sessions.specs.declared.head.Head.{Head}
use Rattle.sv_saved_sessions.specs.declared.reading_fault.ReadingFault.{ReadingFault}
use Rattle.sv_saved_sessions.specs.declared.reading_fault.ReadingFault.TheVariants as faults
use Rattle.sv_saved_sessions.specs.declared.saved_context.SavedContext.{SavedContext}
use Rattle.sv_saved_sessions.specs.Content.{constraint_bytes, content, magic_line, session_bytes, user_bytes}
use Rattle.sv_saved_sessions.specs.Encoding.{list_bytes, number_bytes, text_bytes}
use Rattle.sv_saved_sessions.specs.File.{GivesContext, IsContent}
use Rattle.sv_saved_sessions.specs.Reading.{AreParts, ReadsParts, Restores, context_of, constraint_at, head_at, head_of, list_at, magic_at, number_at, sessions_at, store_of, text_at, users_at}
use Rattle.sv_saved_sessions.specs.Saved.{AreAll, CanBeSaved, IsConstraint, IsNumber, IsText, IsUser}
use Rattle.sv_saved_sessions.proofs.ContentReaders.{magic_bytes, reads_constraints, reads_magic, reads_sessions, reads_text, reads_users}
use Rattle.sv_saved_sessions.proofs.Readers.{IsBytes, Reads, reads_as, reads_form, reads_nothing, reads_number, reads_pair, some_is}

-- ---- the head

abbrev pub head_pieces : Head → List (List ℕ)
head_pieces head =
    magic_line
    ∷ text_bytes head.path
    ∷ number_bytes head.moment
    ∷ list_bytes user_bytes head.users
    ∷ list_bytes constraint_bytes head.declared
    ∷ list_bytes constraint_bytes head.constraints
    ∷ number_bytes head.greatest
    ∷ number_bytes head.serial
    ∷ []

abbrev pub head_bytes : Head → List ℕ
head_bytes head = concat (head_pieces head)

pub record IsHead (head : Head) : Type 0 where
  pub path : IsText head.path
  pub moment : IsNumber head.moment
  pub users : AreAll IsUser head.users × (length head.users ≤ MAX_USERS)
  pub declared : AreAll IsConstraint head.declared
  pub constraints : AreAll IsConstraint head.constraints
  pub greatest : IsNumber head.greatest
  pub serial : IsNumber head.serial

pub reads_head : Reads head_bytes IsHead head_at
unfolding head_at
reads_head =
    reads_as head_bytes _ head_at
    (reads_form _ _ _
    (reads_pair magic_bytes (λ x. Unit {0}) magic_at reads_magic _ _ _
    (reads_pair text_bytes IsText text_at reads_text _ _ _
    (reads_pair number_bytes IsNumber number_at reads_number _ _ _
    (reads_pair (list_bytes user_bytes) (λ users. AreAll IsUser users × (length users ≤ MAX_USERS)) users_at reads_users _ _ _
    (reads_pair (list_bytes constraint_bytes) (AreAll IsConstraint) (list_at constraint_at) reads_constraints _ _ _
    (reads_pair (list_bytes constraint_bytes) (AreAll IsConstraint) (list_at constraint_at) reads_constraints _ _ _
    (reads_pair number_bytes IsNumber number_at reads_number _ _ _
    (reads_pair number_bytes IsNumber number_at reads_number _ _ _ reads_nothing))))))))
    head_of (λ head. (tt, (head.path, (head.moment, (head.users, (head.declared, (head.constraints, (head.greatest, (head.serial, tt))))))))) (λ head. refl) (λ parts. refl))
    IsHead
    (λ head facts. record {
      path = facts.1.0;
      moment = facts.1.1.0;
      users = facts.1.1.1.0;
      declared = facts.1.1.1.1.0;
      constraints = facts.1.1.1.1.1.0;
      greatest = facts.1.1.1.1.1.1.0;
      serial = facts.1.1.1.1.1.1.1.0;
    })
    (λ head facts. (tt, (facts.path, (facts.moment, (facts.users, (facts.declared, (facts.constraints, (facts.greatest, (facts.serial, tt)))))))))

-- ---- the content

abbrev pub head_from : ℕ → SuspendedContext → Head
head_from moment context = record {
  path = context.path;
  moment = moment;
  users = context.users;
  declared = context.declared;
  constraints = context.constraints;
  greatest = context.greatest;
  serial = context.sessions.store.serial;
}

abbrev pub sessions_bytes : List Session → List ℕ
sessions_bytes sessions = list_bytes session_bytes sessions

pub content_is : (moment : ℕ) (context : SuspendedContext)
    → content moment context ≡ head_bytes (head_from moment context) ++ (sessions_bytes context.sessions.store.sessions ++ [])
unfolding content
content_is moment context = concat-append (head_pieces (head_from moment context)) (sessions_bytes context.sessions.store.sessions ∷ [])

-- Whether sessions can be restored depends on the serial and the sessions.
follows_whatever : (limit interval other_limit other_interval serial : ℕ) (sessions : List Session) (session : Session)
    → CanFollow (record { limit = limit; interval = interval; serial = serial; sessions = sessions }) session
    → CanFollow (record { limit = other_limit; interval = other_interval; serial = serial; sessions = sessions }) session
follows_whatever limit interval other_limit other_interval serial sessions session follows = record {
  above = follows.above;
  positive = follows.positive;
  used = follows.used;
  given = follows.given;
  differs = follows.differs;
}

pub kept_restorable : (store : Store) → CanBeRestored store → CanBeRestored (store_of store.serial store.sessions)
kept_restorable store can = (can.0, λ front session rest is. follows_whatever store.limit store.interval 0 0 store.serial front session (can.1 front session rest is))

-- ---- what is read is what was written

pub all_parts : (bytes between rest : List ℕ) (head : Head) (sessions : SessionsState) (saved : SavedContext)
    → head_at bytes ≡ Some (head, between) → Restores head.serial (Ok sessions) rest (sessions_at between) → true ≡ eqb (length rest) 0
    → saved ≡ record {
      moment = head.moment;
      context = record { path = head.path; users = head.users; declared = head.declared; constraints = head.constraints; greatest = head.greatest; sessions = sessions };
    }
    → ReadsParts (Ok saved) bytes
all_parts bytes between rest head sessions saved is_head restores at_end is = (
  head,
  sessions.store.sessions,
  (between, is_head, restores.0 ∙ ap (λ (r : List ℕ). Some (sessions.store.sessions, r)) (nil_from_length rest (eqb-true _ _ (sym at_end)))),
  subst (λ (state : SessionsState). CanBeRestored state.store) restores.2 restores.1,
  is ∙ ap (λ (state : SessionsState). with_state state) restores.2,
)
  where
    with_state : SessionsState → SavedContext
    with_state state = record {
      moment = head.moment;
      context = record { path = head.path; users = head.users; declared = head.declared; constraints = head.constraints; greatest = head.greatest; sessions = state };
    }

content_of_parts : (bytes : List ℕ) (head : Head) (sessions : List Session) → IsBytes bytes → AreParts bytes head sessions → CanBeRestored (store_of head.serial sessions)
    → IsContent bytes (record { moment = head.moment; context = context_of head sessions })
unfolding sessions_at
content_of_parts bytes head sessions are (between, is_head, are_sessions) restorable =
    let one = reads_head.takes bytes head between are is_head in
    let two = reads_sessions.takes between sessions [] one.rest_fits are_sessions in
    record {
      fits = record {
        moment = one.fits.moment;
        path = one.fits.path;
        users = one.fits.users.0;
        known = one.fits.users.1;
        declared = one.fits.declared;
        constraints = one.fits.constraints;
        greatest = one.fits.greatest;
        sessions = two.fits;
        restorable = restorable;
      };
      written = one.parts ∙ ap (λ (back : List ℕ). head_bytes head ++ back) two.parts ∙ sym (content_is head.moment (context_of head sessions));
      kept_alone = refl;
    }

pub is_content : (bytes : List ℕ) (saved : SavedContext) → IsBytes bytes → ReadsParts (Ok saved) bytes → IsContent bytes saved
is_content bytes saved are (head, sessions, parts, restorable, is) =
    subst (λ (s : SavedContext). IsContent bytes s) (sym is) (content_of_parts bytes head sessions are parts restorable)

-- ---- what was written is read again

pub parts_of_content : (moment : ℕ) (context : SuspendedContext) → CanBeSaved moment context
    → AreParts (content moment context) (head_from moment context) context.sessions.store.sessions
unfolding sessions_at
parts_of_content moment context can =
    let fits : IsHead (head_from moment context) = record {
      path = can.path;
      moment = can.moment;
      users = (can.users, can.known);
      declared = can.declared;
      constraints = can.constraints;
      greatest = can.greatest;
      serial = omega (arith, can.restorable.0);
    } in
    let back : List ℕ = sessions_bytes context.sessions.store.sessions ++ [] in (
      back,
      ap head_at (content_is moment context) ∙ reads_head.again (head_from moment context) back fits,
      reads_sessions.again context.sessions.store.sessions [] can.sessions,
    )

pub same_parts : (bytes : List ℕ) (head other : Head) (sessions others : List Session) → AreParts bytes head sessions → AreParts bytes other others
    → (head ≡ other) × (sessions ≡ others)
same_parts bytes head other sessions others (between, is_head, are_sessions) (other_between, is_other, are_others) =
    let same = some_is (head, between) (other, other_between) (sym is_head ∙ is_other) in
    let behind : between ≡ other_between = ap (λ (p : Head × List ℕ). p.1) same in
    let both = some_is (sessions, []) (others, []) (sym are_sessions ∙ ap sessions_at behind ∙ are_others) in
    (ap (λ (p : Head × List ℕ). p.0) same, ap (λ (p : List Session × List ℕ). p.0) both)

pub read_again : (bytes : List ℕ) (result : Result SavedContext ReadingFault) (moment : ℕ) (context : SuspendedContext) → ReadsParts result bytes
    → CanBeSaved moment context → bytes ≡ content moment context
    → GivesContext result moment context
read_again bytes (Ok saved) moment context (head, sessions, parts, restorable, is) can written =
    let mine = subst (λ (text : List ℕ). AreParts text (head_from moment context) context.sessions.store.sessions) (sym written) (parts_of_content moment context can) in
    let same = same_parts bytes head (head_from moment context) sessions context.sessions.store.sessions parts mine in
    is ∙ ap (λ (h : Head). saved_of h sessions) same.0 ∙ ap (saved_of (head_from moment context)) same.1
  where
    saved_of : Head → List Session → SavedContext
    saved_of h s = record { moment = h.moment; context = context_of h s }
read_again bytes (Err faults.NoMemory) moment context reads can written = refl
read_again bytes (Err faults.Damaged) moment context reads can written =
    let mine = subst (λ (text : List ℕ). AreParts text (head_from moment context) context.sessions.store.sessions) (sym written) (parts_of_content moment context can) in
    absurd (reads (head_from moment context) context.sessions.store.sessions mine (kept_restorable context.sessions.store can.restorable))
read_again bytes (Err faults.Foreign) moment context reads can written = absurd reads

pub found : (bytes : List ℕ) (result : Result SavedContext ReadingFault) → IsBytes bytes → ReadsParts result bytes → IfOk result (λ saved. IsContent bytes saved)
found bytes (Ok saved) are reads = is_content bytes saved are reads
found bytes (Err fault) are reads = tt

pub never_foreign : (bytes : List ℕ) (result : Result SavedContext ReadingFault) → ReadsParts result bytes → IsErrOf result faults.Foreign → ⊥
never_foreign bytes (Ok saved) reads is = absurd cc
never_foreign bytes (Err faults.NoMemory) reads is = absurd cc
never_foreign bytes (Err faults.Damaged) reads is = absurd cc
never_foreign bytes (Err faults.Foreign) reads is = reads
